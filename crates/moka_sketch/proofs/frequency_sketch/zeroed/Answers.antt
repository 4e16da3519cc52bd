use Rattle.std.proofs.Common.{◌≡◌, ◌≤◌, ℕ, replicate, vec_capacity, refl, rules, lit≤}
use Rattle.moka_sketch.proofs.Counters.{IsSound-zeros}
use Rattle.moka_sketch.proofs.frequency_sketch.zeroed.Goals as goal

pub returns-then-is_err-clause-sound : goal.returns-then-is_err-clause-sound
returns-then-is_err-clause-sound c =
    let zeros : c.resize.new.self.items ≡ replicate {A = ℕ} 128 0 = search rules in
    let room : 128 ≤ vec_capacity c.resize.new.self = search rules in
    rw zeros (IsSound-zeros 128 _ (7, refl) (lit≤ tt) room)
