use Rattle.std.proofs.Common.{◌==◌, not, length, rules, tests, lit<}
use Rattle.std.proofs.lemmas.Iterator.Adapters.{YieldsList-from_skip}
use Rattle.std.proofs.lemmas.Iterator.Consumers.{YieldsList-from_filter}
use Rattle.std.proofs.lemmas.Iterator.Search.{all_from_yields_List}
use Rattle.std.proofs.lemmas.Iterator.Splits.{YieldsList-from_str_split}
use Rattle.moka_script.specs.Lex.{is_number}
use Rattle.moka_script.proofs.script.clock.are_numbers.Goals as goal

pub returns : goal.returns
returns c = all_from_yields_List is_number _ _ c.all.result c.all.ensures.ran (YieldsList-from_skip 1 (YieldsList-from_filter _ (λ word. not (length word == 0)) (YieldsList-from_str_split 32 c.args.line.now (lit< tt) (cc) (cc) (cc)) (cc) (λ x b q k. search (rules, tests))) (cc)) (λ x b q k. search (rules, tests))
