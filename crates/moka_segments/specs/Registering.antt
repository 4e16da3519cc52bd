-- A predicate for each segment, registered in one after the other.
use Rattle.std.specs.Prelude.{◌≡◌, List, [], ◌∷◌, Result, Ok, Err, ◌⊎◌, Vec}
use Rattle.std.specs.Global.{Global}
use Rattle.uuid.specs.declared.Uuid.{Uuid}
use Rattle.moka_types.specs.declared.error.PredicateError.TheVariants as predicate_error
use Rattle.moka_types.specs.declared.error.PredicateRefused.{PredicateRefused}
use Rattle.moka_parts.specs.declared.notification.RemovalCause.{RemovalCause}
use Rattle.moka_records.specs.declared.instant.Instant.{Instant}
use Rattle.moka_parts.specs.Calls.{InvalidateStep, only_ids}
use Rattle.moka_parts.specs.Runs.{Befalls}
use Rattle.moka_parts.specs.State.{Events}
use Rattle.moka_parts.specs.Surroundings.{Leads}
use Rattle.moka_calls.specs.Synchronous.{Synchronous}
use Rattle.moka_segments.specs.declared.predicates.RegisterRefused.{RegisterRefused}

module _ {P : Type 0} where
  -- the identifiers that were given, in the order of the segments
  abbrev pub ids_given : Result (Vec Uuid Global) (RegisterRefused P) → List Uuid
  ids_given (Ok ids) = ids.items
  ids_given (Err refused) = refused.done.items

  -- the refusal, if there was one
  abbrev pub outcome : Result (Vec Uuid Global) (RegisterRefused P) → Result (Unit {0}) (PredicateRefused P)
  outcome (Ok ids) = Ok tt
  outcome (Err refused) = Err refused.refused

module _ {K V S X L P W I : Type 0} (tells : L → K → V → RemovalCause → L → Type 0) (gives : I → Uuid → I → Type 0)
    (Made : P → Type 0) (now : Instant) where
  -- a segment registers a predicate that was made for it, or refuses it: the synchronous cache's own step
  pub record Registers (result : Result Uuid (PredicateRefused P)) (ids ids_after : I)
      (old new : Synchronous K V S X L P W) : Type 0 where
    pub predicate : P
    pub made : Made predicate
    pub step : (e : Events K V) × InvalidateStep old.engine.state predicate now result e.ids new.engine.state
        × (e ≡ only_ids e.ids) × Befalls tells e old.engine new.engine × Leads gives ids e.ids ids_after
    pub counted : new.stats ≡ old.stats

  -- memory for one more identifier was refused, before the segment was asked
  pub record HasNoRoom (refused : PredicateRefused P) (ids ids_after : I)
      (old new : Synchronous K V S X L P W) : Type 0 where
    pub made : Made refused.predicate
    pub error : refused.error ≡ predicate_error.OutOfMemory
    pub not_asked : ids_after ≡ ids
    pub unchanged : new ≡ old

  -- each segment registers one, up to the first that refuses; those after it are as they were
  abbrev pub AllRegister : List Uuid → Result (Unit {0}) (PredicateRefused P) → I → I →
      List (Synchronous K V S X L P W) → List (Synchronous K V S X L P W) → Type 0
  AllRegister given result ids ids_after [] [] = (given ≡ []) × (result ≡ Ok tt) × (ids_after ≡ ids)
  AllRegister given result ids ids_after (x ∷ xs) (y ∷ ys) =
      ((id : Uuid) × (others : List Uuid) × (between : I) × (given ≡ id ∷ others) × Registers (Ok id) ids between x y
      × AllRegister others result between ids_after xs ys)
      ⊎ ((refused : PredicateRefused P) × (given ≡ []) × (result ≡ Err refused) × (ys ≡ xs)
      × (Registers (Err refused) ids ids_after x y ⊎ HasNoRoom refused ids ids_after x y))
  AllRegister given result ids ids_after xs ys = ⊥
