-- The registration of a predicate as a step of the reference cache, and what always holds after it.
use Rattle.std.proofs.Common.{◌≡◌, refl, Bool, true, false, true≢false, List, [], Option, Result, Err, sym, subst, ◌∙◌}
use Rattle.uuid.specs.declared.Uuid.{Uuid}
use Rattle.moka_types.specs.declared.error.PredicateError.TheVariants.{InvalidationClosuresDisabled}
use Rattle.moka_types.specs.declared.error.PredicateRefused.{PredicateRefused}
use Rattle.moka_parts.specs.declared.notification.RemovalCause.{RemovalCause}
use Rattle.moka_records.specs.declared.instant.Instant.{Instant}
use Rattle.moka_parts.specs.declared.records.Registered.{Registered}
use Rattle.moka_parts.specs.Calls.{only_ids, InvalidateStep}
use Rattle.moka_parts.specs.Registry.{Registers}
use Rattle.moka_parts.specs.Runs.{Engine, Befalls}
use Rattle.moka_parts.specs.State.{State, Events}
use Rattle.moka_parts.specs.Surroundings.{Leads}
use Rattle.moka_parts.proofs.Registry.{invalidate_step}
use Rattle.moka_laws.proofs.StepsKeep.{valid_with}
use Rattle.moka_engine.specs.BaseCache.{IsCache}
use Rattle.moka_laws.proofs.Quiet.{nothing_heard}

module _ {K V S X L P W I : Type 0} (tells : L → K → V → RemovalCause → L → Type 0) (gives : I → Uuid → I → Type 0) {old now : Engine K V S X L P W} (is : old ≡ now) (predicate : P) (moment : Instant) (source after : I) where
  -- a registration that answers so, and leaves these predicates
  abbrev Registering : Result Uuid (PredicateRefused P) → List (Registered P) → Engine K V S X L P W → Type 0
  Registering a qs before = (e : Events K V) × (InvalidateStep before.state predicate moment a e.ids (record old.state { predicates = qs }) × (e ≡ only_ids e.ids)) × Befalls tells e before (record old { state = record old.state { predicates = qs } }) × Leads gives source e.ids after

  -- one that is refused without a question
  abbrev Refused : Engine K V S X L P W → Type 0
  Refused c = (e : Events K V) × (InvalidateStep c.state predicate moment (Err (record { error = InvalidationClosuresDisabled; predicate = predicate })) e.ids c.state × (e ≡ only_ids e.ids)) × Befalls tells e c c × Leads gives source e.ids after

  quietly : (ids : List Uuid) (t : State K V X P W) → Befalls tells (only_ids ids) old (record old { state = t })
  quietly ids t = record { kept = refl; heard = nothing_heard tells old.listener; passes = refl; listed = λ none. refl }

  -- where predicates are supported
  pub registers : old.state.settings.invalidator ≡ true → (a : Result Uuid (PredicateRefused P)) (qs : List (Registered P)) → Registers gives old.state.predicates predicate moment source a qs after → Registering a qs now
  registers on a qs (ids, led, step) = subst (Registering a qs) is (only_ids ids, (invalidate_step old.state predicate moment a ids qs on step, refl), quietly ids (record old.state { predicates = qs }), led)

  -- where they are not
  pub unsupported : old.state.settings.invalidator ≡ false → after ≡ source → Refused now
  unsupported off same = subst Refused is (only_ids [], ((refl, (off, refl), refl), refl), quietly [] old.state, same)

-- other predicates, where they are supported
pub cache-registered : {K V X L P W : Type 0} {eq : K → K → Bool} {l : Option L} {s : State K V X P W} → IsCache eq l s → s.settings.invalidator ≡ true → (qs : List (Registered P)) → IsCache eq l (record s { predicates = qs })
cache-registered {eq = eq} {s = s} h on qs = record {
  valid = valid_with eq s s.reads s.invalid_before qs s.housekeeping h.valid;
  served = record {
    unsupported = λ off. absurd (true≢false (sym on ∙ off));
    unexpiring = h.served.unexpiring;
  };
  listens = h.listens;
}
