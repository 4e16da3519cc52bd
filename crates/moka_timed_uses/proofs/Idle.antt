-- A record that only its idle time hides is shown until that is over.
use Rattle.std.proofs.Common.{◌≡◌, ℕ, Bool, true, false, ◌||◌, ◌==◌, not, Some, sym, subst, inl, inr, nat_le, nat_lt, arith}
use Rattle.moka_engine.specs.parts.Record.{Record}
use Rattle.moka_engine.specs.Calls.{ContainsStep}
use Rattle.moka_engine.specs.State.{State}
use Rattle.moka_engine.specs.Time.{plus}
use Rattle.moka_engine.specs.Visibility.{IsShown}
use Rattle.moka_timed_uses.specs.Sessions.{OnlyIdles, IsFoundWithin}

-- before a moment, or not
before_or_not : (t end : ℕ) (b : Bool) → (false || false || nat_le end t || false || false) ≡ b → nat_lt t end ≡ not b
before_or_not t end b e = grind (arith, e)

module _ {V X P W : Type 0} (says : P → ℕ → V → Bool → Type 0) (s : State ℕ V X P W) (now : ℕ) where
  shown_within : (r : Record ℕ V) (idle : ℕ) → OnlyIdles s r idle → (shown : Bool) → IsShown says s (Some r) now shown → shown ≡ nat_lt now (plus r.read.0 idle)
  shown_within r idle only true h = sym (before_or_not now (plus r.read.0 idle) false (rw (only.unexpiring, only.valid, only.live, only.idles) at h.0))
  shown_within r idle only false h = elim h [
    | inl lapsed ↦ sym (before_or_not now (plus r.read.0 idle) true (rw (only.unexpiring, only.valid, only.live, only.idles) at lapsed))
    | inr covered ↦ absurd (rw only.unhidden at covered)
  ]

  -- what a look-up tells
  pub found_within : (user : ℕ) (found : Bool) → ContainsStep says (λ a b. a == b) s user now found → IsFoundWithin s user now found
  found_within user found look r idle there only = shown_within r idle only found (subst (λ o. IsShown says s o now found) there look)
