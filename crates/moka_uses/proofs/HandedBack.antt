-- What a refused insert hands back.
use Rattle.std.proofs.Common.{◌≡◌, ℕ, Bool, Option, Result, Ok, Err}
use Rattle.std.specs.Prelude.{IfErr, OnErr}
use Rattle.moka_engine.specs.parts.InsertRefused.{InsertRefused}
use Rattle.moka_engine.specs.parts.Instant.{Instant}
use Rattle.moka_engine.specs.parts.Ticket.{Ticket}
use Rattle.moka_engine.specs.Calls.{InsertStep}
use Rattle.moka_engine.specs.State.{State, Events}
use Rattle.moka_cache.proofs.Waiting.{insert_hands_back}

module _ {K V X P W : Type 0} (created : X → K → V → ℕ → Option ℕ) (updated : X → K → V → ℕ → Option ℕ → Option ℕ) (weighs : W → K → V → ℕ → Type 0) (eq : K → K → Bool) (s : State K V X P W) (key : K) (hash : ℕ) (value : V) (now : Instant) (e : Events K V) (t : State K V X P W) where
  -- key and value come back, and nothing has changed
  pub handed_back : (a : Result (Ticket × Instant) (InsertRefused K V)) → InsertStep created updated weighs eq s key hash value now a e t → IfErr a (λ refused. (refused.key ≡ key) × (refused.value ≡ value)) × OnErr a (t ≡ s)
  handed_back (Ok a) step = (tt, tt)
  handed_back (Err refused) step = let back = insert_hands_back created updated weighs eq s key hash value now refused e t step in ((back.key_back, back.value_back), back.unchanged.0)
