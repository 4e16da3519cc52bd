use Rattle.std.proofs.Common.{◌≡◌, ℕ, ◌/◌, ◌<◌, ◌≤◌, length, get_or}
use Rattle.moka_sketch.specs.Words.{counter_at}
use Rattle.moka_sketch.proofs.words.halve_all.Given as goal

abbrev pub invariant-loop-word : goal.invariant-loop-word
invariant-loop-word l = record {
  same_length : length l.words ≡ length l.fn.words;
  done : (i q : ℕ) → i < l.word-index → q < 16 → counter_at (get_or l.words i 0) q ≡ counter_at (get_or l.fn.words i 0) q / 2;
  rest : (i : ℕ) → l.word-index ≤ i → get_or l.words i 0 ≡ get_or l.fn.words i 0;
}
