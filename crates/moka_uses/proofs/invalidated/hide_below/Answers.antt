use Rattle.std.proofs.Common.{◌≡◌, ◌==◌, ◌<◌, ℕ, Bool, true, List, Ok, Err, Result, nat_lt, arith}
use Rattle.std.specs.Prelude.{IfOk}
use Rattle.moka_engine.specs.parts.Uuid.{Uuid}
use Rattle.moka_engine.specs.parts.PredicateRefused.{PredicateRefused}
use Rattle.moka_engine.specs.parts.Instant.{Instant}
use Rattle.moka_engine.specs.Calls.{InvalidateStep}
use Rattle.moka_engine.specs.State.{State}
use Rattle.moka_uses.specs.declared.invalidated.Below.{Below}
use Rattle.moka_uses.specs.Hidden.{IsBelow, IsHiddenAt, IsNeverShown}
use Rattle.moka_uses.proofs.Covered.{back, hidden, never_shown, unchanged}
use Rattle.moka_uses.proofs.invalidated.hide_below.Goals as goal

abbrev says : Below → ℕ → ℕ → Bool → Type 0
says below key value answer = answer ≡ nat_lt value below.0

says_yes : (value bound : ℕ) → value < bound → true ≡ nat_lt value bound
says_yes value bound less = grind arith

module _ {X W : Type 0} (s t : State ℕ ℕ X Below W) (bound : ℕ) (now : Instant) (ids : List Uuid) where
  never : (a : Result Uuid (PredicateRefused Below)) → InvalidateStep s (record { 0 = bound }) now a ids t → IfOk a (λ _. (key : ℕ) → IsBelow s key bound now.0 → IsNeverShown t key)
  never (Ok id) step = λ key below. never_shown says (λ a b. a == b) s t (record { 0 = bound }) now ids id step key below.0 below.1 (below.3, says_yes below.0.value bound below.2)
  never (Err refused) step = tt

  at_once : (a : Result Uuid (PredicateRefused Below)) → InvalidateStep s (record { 0 = bound }) now a ids t → IfOk a (λ _. (key : ℕ) → IsBelow s key bound now.0 → IsHiddenAt t key now.0)
  at_once (Ok id) step = λ key below. hidden says (λ a b. a == b) s t (record { 0 = bound }) now ids id step key below.0 below.1 (below.3, says_yes below.0.value bound below.2) now.0
  at_once (Err refused) step = tt

pub returns : goal.returns
returns g c =
    let called = c.invalidate_entries_if.ensures in
    let s = c.args.numbers.now.state in
    let t = c.invalidate_entries_if.new.self.state in
    record {
      hidden = never s t c.args.bound c.args.now called.0.ids c.invalidate_entries_if.result called.1.0;
      at_once = at_once s t c.args.bound c.args.now called.0.ids c.invalidate_entries_if.result called.1.0;
      registered = (called.0, called.1.0, called.1.1, called.2, called.3);
      back = back s t (record { 0 = c.args.bound }) c.args.now called.0.ids c.invalidate_entries_if.result called.1.0;
      unchanged = unchanged s t (record { 0 = c.args.bound }) c.args.now called.0.ids c.invalidate_entries_if.result called.1.0;
    }
