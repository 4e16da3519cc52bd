use Rattle.std.proofs.Common.{◌≡◌, ◌<◌, ◌≤◌, ℕ, vec_len, vec_capacity}
use Rattle.moka_wheel.specs.Nodes.{at}
use Rattle.moka_wheel.proofs.Heads.{head}
use Rattle.moka_wheel.proofs.buckets.Buckets.new.Given as goal

abbrev pub invariant-loop-head : goal.invariant-loop-head
invariant-loop-head l = record {
  made : vec_len l.nodes ≡ l.head;
  heads : (i : ℕ) → i < l.head → at l.nodes.items i ≡ head i;
  room : 2049 ≤ vec_capacity l.nodes;
}
