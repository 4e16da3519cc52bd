use Rattle.std.proofs.Common.{◌≡◌, ℕ, ◌<◌, ◌≤◌, get_or}
use Rattle.moka_script.specs.Text.{IsInOrder}
use Rattle.moka_script.proofs.print.in_order.Given as goal

abbrev pub invariant-loop-reply : goal.invariant-loop-reply
invariant-loop-reply l = record {
  sorted : (k : ℕ) (d : _) → k < l.reply-index → IsInOrder (get_or l.initial.reply-items k d) (get_or l.reply-items k d);
  left : (k : ℕ) (d : _) → l.reply-index ≤ k → get_or l.reply-items k d ≡ get_or l.initial.reply-items k d;
}
