use Rattle.std.proofs.Common.{◌≡◌, ◌==◌, ◌∙◌, ◌++◌, ◌∷◌, [], ℕ, ◌<◌, List, not, length, take, ap, rules, tests, arith, lit<}
use Rattle.std.proofs.lemmas.Iterator.{YieldsList-from_take}
use Rattle.std.proofs.lemmas.Iterator.Splits.{YieldsList-from_str_split}
use Rattle.std.proofs.lemmas.Iterator.Consumers.{YieldsList-from_filter, YieldsList-turn, YieldsList-end}
use Rattle.std.proofs.lemmas.List.{take_more_set, length_push, length-set, length-take}
use Rattle.moka_script.specs.Lex.{texts}
use Rattle.moka_script.proofs.lex.first_words.Goals as goal

-- one word more has its place
has_place : {A B : Type 0} (words : List A) (all : List B) (count yielded : ℕ) → length words ≡ 6 → count ≡ yielded → yielded < length (take 6 all) → count < length words
has_place words all count yielded sized counted more = omega (arith, length-take 6 all)

pub loop-word-preserved : goal.loop-word-preserved
loop-word-preserved c = record {
  can_next = search rules;
  is_finite = search rules;
  sized = length-set c.loop-word.words c.loop-word.count c.in-Some.word ∙ c.loop-word.invariant.sized;
  counted = omega (arith, length_push c.loop-word.yielded c.in-Some.word);
  kept = take_more_set c.loop-word.words c.loop-word.count c.in-Some.word (has_place c.loop-word.words _ c.loop-word.count _ c.loop-word.invariant.sized c.loop-word.invariant.counted (YieldsList-turn (YieldsList-from_take 6 (YieldsList-from_filter _ (λ word. not (length word == 0)) (YieldsList-from_str_split 32 c.args.text.now (lit< tt) (cc) (cc) (cc)) (cc) (λ x b q k. search (rules, tests))) (cc)) c.loop-word.yielded _ c.loop-word.yielded_by _ _ c.in-Some.word c.in-Some.is c.next.ensures.steps).0) ∙ ap (λ words. words ++ c.in-Some.word ∷ []) c.loop-word.invariant.kept;
}

pub returns-clause-words : goal.returns-clause-words
returns-clause-words c =
    let words = YieldsList-from_take 6 (YieldsList-from_filter _ (λ word. not (length word == 0)) (YieldsList-from_str_split 32 c.args.text.now (lit< tt) (cc) (cc) (cc)) (cc) (λ x b q k. search (rules, tests))) (cc) in
    ap texts c.loop-word.invariant.kept ∙ (YieldsList-end words c.loop-word.yielded _ c.loop-word.yielded_by _ _ c.in-None.is c.next.ensures.steps).0
