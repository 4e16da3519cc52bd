use Rattle.std.proofs.Common.{rules, tests}
use Rattle.std.proofs.lemmas.Iterator.{YieldsList-from_slice}
use Rattle.std.proofs.lemmas.Iterator.Search.{all_from_yields_List}
use Rattle.moka_script.specs.Lex.{is_printable}
use Rattle.moka_script.proofs.lex.is_printable.Goals as goal

pub returns : goal.returns
returns c = all_from_yields_List is_printable _ _ _ c.all.ensures.ran (YieldsList-from_slice c.args.line.now (cc)) (λ x b q k. search (rules, tests))
