-- What was made by one clock and source of identifiers was made by others that may tell the same; so calls on a clock
-- that moves between them are one run.
use Rattle.std.proofs.Common.{refl, List, [], ◌∷◌}
use Rattle.std.specs.Cmp.{IsEquivalence}
use Rattle.uuid.specs.declared.Uuid.{Uuid}
use Rattle.moka_types.specs.declared.calls.Call.{Call}
use Rattle.moka_types.specs.declared.calls.Reply.{Reply}
use Rattle.moka_records.specs.declared.instant.Instant.{Instant}
use Rattle.moka_parts.specs.Runs.{Engine, readings_of, ids_of}
use Rattle.moka_parts.specs.State.{Meaning}
use Rattle.moka_parts.specs.Surroundings.{Leads}
use Rattle.moka_calls.specs.Laws.{MadeAnytime, anytime}
use Rattle.moka_calls.specs.Synchronous.{Made}
use Rattle.moka_calls.proofs.Lists.{ages_out, ages_out_in_time, goes_on, keeps_promises}
use Rattle.moka_calls.proofs.Made.{made_otherwise, otherwise}

-- a clock or a source that may tell anything may tell these
pub tells_any : {A : Type 0} (told : List A) → Leads (λ (a : Unit {0}) (t : A) (b : Unit {0}). Unit {0}) (tt {0}) told (tt {0})
tells_any [] = refl
tells_any (t ∷ ts) = (tt {0}, tt {0}, tells_any ts)

module _ {K V X L P W C D : Type 0} (m : Meaning K V X L P W C (Unit {0})) (observes : D → Instant → D → Type 0) (gives : Unit {0} → Uuid → Unit {0} → Type 0) where
  -- what was made
  pub made_by : {S : Type 0} (calls : List (Call K V P)) (replies : List (Reply K V P)) (old new : Engine K V S X L P W) (clock clock_after : C) (own own_after : D) → ((moments : List Instant) → Leads m.observes clock moments clock_after → Leads observes own moments own_after)
      → ((ids : List Uuid) → Leads m.gives tt ids tt → Leads gives tt ids tt) → Made m calls replies old clock new clock_after → Made (otherwise m m.tells observes gives) calls replies old own new own_after
  made_by calls replies old new clock clock_after own own_after reads given h =
      made_otherwise m m.tells observes gives calls replies old new clock clock_after tt tt own own_after tt tt h h.is_run.heard (reads (readings_of h.steps) h.is_run.read) (given (ids_of h.steps) h.is_run.given)

module _ {K V S X L P W C : Type 0} (m : Meaning K V X L P W C (Unit {0})) (calls : List (Call K V P)) (replies : List (Reply K V P)) (old new : Engine K V S X L P W) (clock clock_after : C) where
  -- at some moments
  pub made_anytime : Made m calls replies old clock new clock_after → Made (anytime m) calls replies old tt new tt
  made_anytime made = made_by {D = Unit {0}} m (λ _ _ _. Unit {0}) m.gives calls replies old new clock clock_after tt tt (λ moments _. tells_any moments) (λ ids given. given) made

module _ {K V X L P W C : Type 0} (S : Type 0) (m : Meaning K V X L P W C (Unit {0})) (laws : IsEquivalence m.eq) where
  -- and so was what was made after it
  pub made_at_any_time : MadeAnytime S m
  made_at_any_time = record {
    made = made_anytime m;
    goes_on = goes_on S (anytime m);
    keeps_promises = keeps_promises S (anytime m) laws;
    ages_out = ages_out S (anytime m) laws;
    ages_out_in_time = ages_out_in_time S (anytime m) laws;
  }
