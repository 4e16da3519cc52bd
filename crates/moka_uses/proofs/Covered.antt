-- What a predicate covers is hidden once it is registered, and what it does not cover is shown as before.
use Rattle.std.proofs.Common.{◌≡◌, refl, ℕ, Bool, true, false, List, [], ◌∷◌, ◌++◌, Some, Result, Ok, Err, ap, sym, subst, ◌∙◌, inl, inr}
use Rattle.std.specs.Prelude.{IfErr, OnErr}
use Rattle.moka_engine.specs.parts.Instant.{Instant}
use Rattle.moka_engine.specs.parts.PredicateRefused.{PredicateRefused}
use Rattle.moka_engine.specs.parts.Record.{Record}
use Rattle.moka_engine.specs.parts.Registered.{Registered}
use Rattle.moka_engine.specs.parts.Uuid.{Uuid}
use Rattle.moka_engine.specs.Calls.{ContainsStep, InvalidateStep}
use Rattle.moka_engine.specs.Records.{record_of_key}
use Rattle.moka_engine.specs.State.{State}
use Rattle.moka_engine.specs.Visibility.{Covers, NoneCovers, SomeCovers, IsShown}

module _ {K V X P W : Type 0} (s t : State K V X P W) (predicate : P) (now : Instant) (ids : List Uuid) where
  -- a predicate that is refused comes back, and nothing has changed
  pub back : (a : Result Uuid (PredicateRefused P)) → InvalidateStep s predicate now a ids t → IfErr a (λ refused. refused.predicate ≡ predicate)
  back (Ok id) step = tt
  back (Err refused) step = step.0

  pub unchanged : (a : Result Uuid (PredicateRefused P)) → InvalidateStep s predicate now a ids t → OnErr a (t ≡ s)
  unchanged (Ok id) step = tt
  unchanged (Err refused) step = step.2

-- ---- one more predicate

module _ {K V P : Type 0} (says : P → K → V → Bool → Type 0) (p : Registered P) (r : Record K V) where
  not_none : (ps : List (Registered P)) → Covers says p r → NoneCovers says (ps ++ p ∷ []) r → ⊥
  not_none [] covers none = none.0 covers
  not_none (q ∷ ps) covers none = not_none ps covers none.1

  last_covers : (ps : List (Registered P)) → Covers says p r → SomeCovers says (ps ++ p ∷ []) r
  last_covers [] covers = inl covers
  last_covers (q ∷ ps) covers = inr (last_covers ps covers)

  none_more : (ps : List (Registered P)) → NoneCovers says ps r → (Covers says p r → ⊥) → NoneCovers says (ps ++ p ∷ []) r
  none_more [] none not = (not, tt)
  none_more (q ∷ ps) none not = (none.0, none_more ps none.1 not)

  some_more : (ps : List (Registered P)) → SomeCovers says ps r → SomeCovers says (ps ++ p ∷ []) r
  some_more [] some = absurd some
  some_more (q ∷ ps) (inl covers) = inl covers
  some_more (q ∷ ps) (inr some) = inr (some_more ps some)

-- ---- a key with a record, where a predicate was registered

module _ {K V X P W : Type 0} (says : P → K → V → Bool → Type 0) (eq : K → K → Bool) (s t : State K V X P W) (predicate : P) (now : Instant) (ids : List Uuid) (id : Uuid) (step : InvalidateStep s predicate now (Ok id) ids t)
    (key : K) (r : Record K V) (found : record_of_key eq s.records key ≡ Some r) where
  abbrev p : Registered P
  p = record { id = id; predicate = predicate; registered = now }

  there : record_of_key eq t.records key ≡ Some r
  there = ap (λ x. record_of_key eq x.records key) step.3 ∙ found

  predicates : t.predicates ≡ s.predicates ++ p ∷ []
  predicates = ap (λ x. x.predicates) step.3

  -- if the predicate covers the record, the key is shown at no moment
  pub never_shown : Covers says p r → (later : ℕ) (shown : Bool) → ContainsStep says eq t key later shown → shown ≡ false
  never_shown covers later shown look = go shown (subst (λ o. IsShown says t o later shown) there look)
    where
      go : (shown : Bool) → IsShown says t (Some r) later shown → shown ≡ false
      go true visible = absurd (not_none says p r s.predicates covers (subst (λ ps. NoneCovers says ps r) predicates visible.1))
      go false hidden = refl

  -- it is hidden at each
  pub hidden : Covers says p r → (later : ℕ) → ContainsStep says eq t key later false
  hidden covers later = subst (λ o. IsShown says t o later false) (sym there) (inr (subst (λ ps. SomeCovers says ps r) (sym predicates) (last_covers says p r s.predicates covers)))

  -- if not, it is shown as before
  pub shown_as_before : (Covers says p r → ⊥) → (later : ℕ) (shown : Bool) → ContainsStep says eq s key later shown → ContainsStep says eq t key later shown
  shown_as_before not later shown look =
      subst (λ o. IsShown says t o later shown) (sym there) (subst (λ u. IsShown says u (Some r) later shown) (sym step.3) (go shown (subst (λ o. IsShown says s o later shown) found look)))
    where
      go : (shown : Bool) → IsShown says s (Some r) later shown → IsShown says (record s { predicates = s.predicates ++ p ∷ [] }) (Some r) later shown
      go true visible = (visible.0, none_more says p r s.predicates visible.1 not)
      go false (inl lapsed) = inl lapsed
      go false (inr some) = inr (some_more says p r s.predicates some)
