use Rattle.std.proofs.Common.{ℕ, Option, Some, None, Result, Ok, Err}
use Rattle.std.specs.Prelude.{IfErr, IfOk}
use Rattle.moka_engine.specs.parts.InsertRefused.{InsertRefused}
use Rattle.moka_engine.specs.parts.Instant.{Instant}
use Rattle.moka_engine.specs.Runs.{Engine}
use Rattle.moka_engine.specs.State.{Meaning}
use Rattle.moka_cache.specs.parts.GetWithRefused.{GetWithRefused}
use Rattle.moka_cache.specs.Synchronous.{GetsOrInsertsIfNoError, HandsOutIfNoError, Makes}
use Rattle.moka_uses.specs.Made.{LooksUp}
use Rattle.moka_uses.proofs.read_through.look_up.Goals as goal

module _ {K V E S X L P W C : Type 0} (m : Meaning K V X L P W C (Unit {0})) (is_clone : V → V → Type 0) (key : K) (hash : ℕ) (now : Instant) (old new : Engine K V S X L P W) (clock clock_after : C) (Given : V → Type 0) (Fails : E → Type 0) where
  -- where an error is handed out only the look-up was made
  failed : (made : Option (Result V E)) (own : Result (Result V E) (Option (InsertRefused K V))) (result : Result (Result V E) (GetWithRefused K V)) → HandsOutIfNoError is_clone key own result → Makes m (GetsOrInsertsIfNoError key hash now made own) old clock new clock_after
      → IfOk result (λ answer. IfOk answer Given × IfErr answer Fails) → IfOk result (λ answer. IfErr answer (λ error. Fails error × LooksUp m key now old clock new clock_after (Ok None)))
  failed made own (Err refused) handed makes answered = tt
  failed made own (Ok (Ok value)) handed makes answered = tt
  failed (Some (Err f)) (Ok (Err e)) (Ok (Err error)) handed (calls, replies, (same, fits), by) answered = (answered.1, (hash, (calls, replies, fits, by)))
  failed made (Ok (Err e)) (Ok (Err error)) handed (calls, replies, fits, by) answered = absurd fits
  failed made own (Ok (Err error)) handed makes answered = absurd handed

given : {V E R : Type 0} (Given : V → Type 0) (Fails : E → Type 0) (result : Result (Result V E) R) → IfOk result (λ answer. IfOk answer Given × IfErr answer Fails) → IfOk result (λ answer. IfOk answer Given)
given Given Fails (Ok answer) answered = answered.0
given Given Fails (Err refused) answered = tt

pub returns : goal.returns
returns g c =
    let got = c.try_get_with.ensures.step in
    record {
      made = (_, got);
      given = given _ _ c.try_get_with.result got.2.4;
      failed = failed _ g.V.Clone.is_clone c.args.key _ c.args.now c.args.cache.now.engine c.try_get_with.new.self.engine c.args.clock.now c.try_get_with.new.clock _ _ got.0 got.1 c.try_get_with.result got.2.1 got.2.2 got.2.4;
      back = got.2.5;
      looks_up = c.try_get_with.ensures.looks_up;
    }
