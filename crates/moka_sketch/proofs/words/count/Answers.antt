use Rattle.std.proofs.Common.{sym, ◌∙◌}
use Rattle.moka_sketch.proofs.Counters.{counter-at_place}
use Rattle.moka_sketch.proofs.words.count.Goals as goal

pub returns : goal.returns
returns c = record {
  value = c.counter.ensures
      ∙ sym (counter-at_place c.args.words.now c.args.hash c.args.i c.args.factor _ _ c.word_index.ensures.value c.position_of.ensures.value c.word_index.ensures.within c.position_of.ensures.within);
}
