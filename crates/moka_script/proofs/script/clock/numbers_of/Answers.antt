use Rattle.std.proofs.Common.{◌==◌, not, length, rules, tests, lit<}
use Rattle.std.proofs.lemmas.Iterator.{items_from_collect}
use Rattle.std.proofs.lemmas.Iterator.Adapters.{YieldsList-from_skip}
use Rattle.std.proofs.lemmas.Iterator.Consumers.{YieldsList-from_filter, YieldsList-from_filter_map}
use Rattle.std.proofs.lemmas.Iterator.Splits.{YieldsList-from_str_split}
use Rattle.moka_script.specs.Lex.{number_of}
use Rattle.moka_script.proofs.script.clock.numbers_of.Goals as goal

pub returns : goal.returns
returns c = items_from_collect _ c.collect.ensures.ran (YieldsList-from_filter_map _ (number_of 64) (YieldsList-from_skip 1 (YieldsList-from_filter _ (λ word. not (length word == 0)) (YieldsList-from_str_split 32 c.args.line.now (lit< tt) (cc) (cc) (cc)) (cc) (λ x b q k. search (rules, tests))) (cc)) c.filter_map.ensures.closure (λ x r q k. search (rules, tests)))
