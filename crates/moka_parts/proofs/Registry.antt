-- What the registry's loops and searches find.
use Rattle.std.proofs.Common.{◌≡◌, refl, ℕ, ◌<◌, ◌≤◌, Bool, true, false, List, [], ◌∷◌, ◌++◌, length, Result, Ok, Err, ap, sym, inl, inr, suc, zero, MatchBool, arith, true≢false, get_or, subst, Option, Some, None, MatchOption, is_some, IsTrue, ◌↔◌}
use Rattle.std.specs.List.{AllByRecursion, AllWithin, HoldsAt, All}
use Rattle.std.proofs.lemmas.List.Elements.{All-from_all_within, AllWithin-upto, All-head, All-tail, All-contains, Contains-get_or}
use Rattle.uuid.specs.declared.Uuid.{Uuid}
use Rattle.moka_parts.proofs.Types.{Instant, Record, Registered, PredicateError, PredicateRefused, State}
use Rattle.moka_types.specs.declared.error.PredicateError.TheVariants as predicate_error
use Rattle.moka_parts.specs.Visibility.{Covers, SomeCovers, NoneCovers, FirstCovers}
use Rattle.moka_parts.specs.Calls as calls
use Rattle.moka_parts.specs.Registry.{IsTaken, FirstFree, RegistrationRefusal, RegistrationStep}

-- ---- which records are covered

module _ {K V P : Type 0} (says : P → K → V → Bool → Type 0) (r : Record K V) where
  pub some_covers : (ps : List (Registered P)) (k : ℕ) → k < length ps → HoldsAt (λ p. Covers says p r) ps k → SomeCovers says ps r
  some_covers [] k below covers = absurd (omega arith)
  some_covers (p ∷ ps) zero below covers = inl (covers p)
  some_covers (p ∷ ps) (suc k) below covers = inr (some_covers ps k (omega arith) covers)

  none_covers : (ps : List (Registered P)) → All (λ p. Covers says p r → ⊥) ps → NoneCovers says ps r
  none_covers [] all = tt
  none_covers (p ∷ ps) all = (All-head (λ p. Covers says p r → ⊥) p ps all, none_covers ps (All-tail (λ p. Covers says p r → ⊥) p ps all))

  -- a loop over the registry that none of the first predicates stopped
  pub none_by_loop : (ps : List (Registered P)) (k : ℕ) → length ps ≤ k → AllWithin (λ p. Covers says p r → ⊥) ps 0 k → NoneCovers says ps r
  none_by_loop ps k all none = none_covers ps (All-from_all_within (λ p. Covers says p r → ⊥) ps (AllWithin-upto (λ p. Covers says p r → ⊥) ps 0 k (length ps) all none))

  -- and one that stopped at a predicate
  pub first_by_loop : (ps : List (Registered P)) (p : Registered P) (k : ℕ) → k < length ps → p ≡ get_or ps k p → Covers says p r → AllWithin (λ y. Covers says y r → ⊥) ps 0 k → FirstCovers says ps r p.id
  first_by_loop [] p k below same covers none = absurd (omega arith)
  first_by_loop (q ∷ ps) p zero below same covers none = inl (subst (λ y. Covers says y r) same covers, ap (λ y. y.id) same)
  first_by_loop (q ∷ ps) p (suc k) below same covers none = inr (none 0 q (omega arith) (omega arith), first_by_loop ps p k (omega arith) same covers (λ i d from to. none (suc i) d (omega arith) (omega arith)))

  some_by_first : (ps : List (Registered P)) (id : Uuid) → FirstCovers says ps r id → SomeCovers says ps r
  some_by_first [] id first = first
  some_by_first (p ∷ ps) id (inl covers) = inl covers.0
  some_by_first (p ∷ ps) id (inr later) = inr (some_by_first ps id later.1)

  -- whether a predicate covers the record, by the first one that does
  pub covers_by_first : (ps : List (Registered P)) (found : Option Uuid) → MatchOption found (NoneCovers says ps r) (FirstCovers says ps r) → MatchBool (is_some found) (SomeCovers says ps r) (NoneCovers says ps r)
  covers_by_first ps None none = none
  covers_by_first ps (Some id) first = some_by_first ps id first

-- ---- identifiers

module _ {P : Type 0} (ps : List (Registered P)) where
  one_taken : (id : Uuid) (k : ℕ) → k < length ps → HoldsAt (λ p. p.id ≡ id) ps k → IsTaken ps id
  one_taken id k below has = elim ps as (λ qs. k < length qs → HoldsAt (λ p. p.id ≡ id) qs k → IsTaken qs id) [
    | [] ↦ λ below has. absurd (omega arith)
    | p ∷ qs ↦ λ below has. (get_or (p ∷ qs) k p, Contains-get_or (p ∷ qs) k p below, has p)
  ] below has

  -- a search of the registry by identifier
  pub taken_by_search : (id : Uuid) (found : Bool) → MatchBool found ((k : ℕ) × (k < length ps) × HoldsAt (λ p. p.id ≡ id) ps k) (AllWithin (λ p. p.id ≡ id → ⊥) ps 0 (length ps)) → IsTrue found ↔ IsTaken ps id
  taken_by_search id true h = (λ t. one_taken id h.0 h.1 h.2, λ t. refl)
  taken_by_search id false h = (λ t. absurd (true≢false (sym t)), λ t. absurd (All-contains (λ p. p.id ≡ id → ⊥) ps t.0 (All-from_all_within (λ p. p.id ≡ id → ⊥) ps h) t.1 t.2))

  -- one more identifier that is taken
  pub taken_push : (ids : List Uuid) (id : Uuid) → AllByRecursion (IsTaken ps) ids → IsTaken ps id → AllByRecursion (IsTaken ps) (ids ++ id ∷ [])
  taken_push [] id all taken = (taken, tt)
  taken_push (x ∷ ids) id all taken = (all.0, taken_push ids id all.1 taken)

  -- taken ones, and then one that is free
  pub first_free : (ids : List Uuid) (id : Uuid) → AllByRecursion (IsTaken ps) ids → (IsTaken ps id → ⊥) → FirstFree ps (ids ++ id ∷ []) id
  first_free [] id all free = (refl, free)
  first_free (x ∷ []) id all free = (all.0, (refl, free))
  first_free (x ∷ y ∷ ids) id all free = (all.0, first_free (y ∷ ids) id all.1 free)

-- ---- as the call of a cache

module _ {K V X P W : Type 0} (s : State K V X P W) where
  refusal : (error : PredicateError) (ids : List Uuid) → s.settings.invalidator ≡ true → RegistrationRefusal s.predicates error ids → calls.PredicateRefusal s error ids
  refusal predicate_error.InvalidationClosuresDisabled ids on h = absurd h
  refusal predicate_error.OutOfMemory ids on h = (on, h)
  refusal predicate_error.NoFreeId ids on h = (on, h)

  -- where predicates are supported, a registration is a call's step
  pub invalidate_step : (predicate : P) (now : Instant) (a : Result Uuid (PredicateRefused P)) (ids : List Uuid) (qs : List (Registered P)) → s.settings.invalidator ≡ true → RegistrationStep s.predicates predicate now a ids qs → calls.InvalidateStep s predicate now a ids (record s { predicates = qs })
  invalidate_step predicate now (Ok id) ids qs on h = (on, h.0.0, h.0.1, ap (λ ps. record s { predicates = ps }) h.1)
  invalidate_step predicate now (Err refused) ids qs on h = (h.0, refusal refused.error ids on h.1, ap (λ ps. record s { predicates = ps }) h.2)
