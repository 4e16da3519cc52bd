use Rattle.std.proofs.Common.{arith, rules}
use Rattle.moka_sketch.proofs.Counters.{counter-at_place, raised-greatest, raised-word}
use Rattle.moka_sketch.proofs.words.raise.Goals as goal

pub returns-then-counter-ge-GREATEST-clause-counters : goal.returns-then-counter-ge-GREATEST-clause-counters
returns-then-counter-ge-GREATEST-clause-counters c =
    let now = counter-at_place c.args.words.now c.args.hash c.args.i c.args.factor _ _ c.word_index-at.ensures.value c.position_of-position.ensures.value c.word_index-at.ensures.within c.position_of-position.ensures.within in
    raised-greatest _ _ _ now (omega (arith, c.counter.ensures)) (omega arith)

pub returns-then-counter-ge-GREATEST-clause-rose : goal.returns-then-counter-ge-GREATEST-clause-rose
returns-then-counter-ge-GREATEST-clause-rose c =
    let now = counter-at_place c.args.words.now c.args.hash c.args.i c.args.factor _ _ c.word_index-at.ensures.value c.position_of-position.ensures.value c.word_index-at.ensures.within c.position_of-position.ensures.within in
    (λ no. search rules, λ small. absurd (omega (arith, now, c.counter.ensures)))

pub returns-clause-counters : goal.returns-clause-counters
returns-clause-counters c =
    raised-word c.args.words.now c.args.hash c.args.i c.args.factor _ _ c.word_index-at.ensures.value c.position_of-position.ensures.value c.word_index-at.ensures.within c.position_of-position.ensures.within _ (omega (arith, c.counter.ensures)) c.raised_word.ensures.here c.raised_word.ensures.others

pub returns-clause-rose : goal.returns-clause-rose
returns-clause-rose c =
    let now = counter-at_place c.args.words.now c.args.hash c.args.i c.args.factor _ _ c.word_index-at.ensures.value c.position_of-position.ensures.value c.word_index-at.ensures.within c.position_of-position.ensures.within in
    (λ _. omega (arith, now, c.counter.ensures), λ _. search rules)
