use Rattle.std.proofs.Common.{◌≡◌, length, take}
use Rattle.moka_script.proofs.lex.first_words.Given as goal

abbrev pub invariant-loop-word : goal.invariant-loop-word
invariant-loop-word l = record {
  can_next : (goal.iterator-loop-word).can_next l.word-iterator;
  is_finite : (goal.iterator-loop-word).is_finite l.word-iterator;
  sized : length l.words ≡ 6;
  counted : l.count ≡ length l.yielded;
  kept : take l.count l.words ≡ l.yielded;
}
