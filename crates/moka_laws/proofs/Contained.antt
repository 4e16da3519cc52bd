-- Laws that follow from the definitions alone.
use Rattle.std.proofs.Common.{◌≡◌, refl, ℕ, Bool, true, false, List, [], ◌∷◌, Option, Some, None, Result, Ok, Err, ap, sym, ◌∙◌, inl, inr, true≢false, MatchBool}
use Rattle.moka_laws.proofs.Types.{Record, Registered, OutOfMemory, Entry, Notice, State, Events, Terms, Course}
use Rattle.std.specs.FinMap.{empty}
use Rattle.moka_records.specs.Records.{record_of_key}
use Rattle.moka_parts.specs.State.{is_disabled}
use Rattle.moka_parts.specs.Visibility.{IsVisible, IsHidden, IsShown, SomeCovers, NoneCovers}
use Rattle.moka_parts.specs.Calls.{GetsAt, Unchanged, PeeksAt, hit_record}
use Rattle.moka_records.proofs.Lookup.{record_of_key_empty}
use Rattle.moka_parts.specs.Laws.{GetsWhatIsContained, is_found, is_answered, LeavesNoTrace, PeeksQuietly}

not_both_cover : {K V P : Type 0} (says : P → K → V → Bool → Type 0) (ps : List (Registered P)) (r : Record K V) → SomeCovers says ps r → NoneCovers says ps r → ⊥
not_both_cover says [] r a b = a
not_both_cover says (p ∷ ps) r (inl a) b = b.0 a
not_both_cover says (p ∷ ps) r (inr a) b = not_both_cover says ps r a b.1

module _ {K V X P W : Type 0} (says : P → K → V → Bool → Type 0) where
  -- a record is not both hidden and visible
  pub not_both : (s : State K V X P W) (r : Record K V) (now : ℕ) → IsHidden says s r now → IsVisible says s r now → ⊥
  not_both s r now (inl a) b = true≢false (sym a ∙ b.0)
  not_both s r now (inr a) b = not_both_cover says s.predicates r a b.1

  shown_of_visible : (s : State K V X P W) (r : Record K V) (now : ℕ) (shown : Bool) → IsVisible says s r now → MatchBool shown (IsVisible says s r now) (IsHidden says s r now) → true ≡ shown
  shown_of_visible s r now true v h = refl
  shown_of_visible s r now false v h = absurd (not_both s r now h v)

  shown_of_hidden : (s : State K V X P W) (r : Record K V) (now : ℕ) (shown : Bool) → IsHidden says s r now → MatchBool shown (IsVisible says s r now) (IsHidden says s r now) → false ≡ shown
  shown_of_hidden s r now true v h = absurd (not_both s r now v h)
  shown_of_hidden s r now false v h = refl

  nothing_shown : (eq : K → K → Bool) (s : State K V X P W) (key : K) (now : ℕ) (shown : Bool) → s.records ≡ empty → IsShown says s (record_of_key eq s.records key) now shown → shown ≡ false
  nothing_shown eq s key now shown none c =
      let missing : record_of_key eq s.records key ≡ None = ap (λ records. record_of_key eq records key) none ∙ record_of_key_empty eq key in
      rw missing at c

  module _ (read : X → K → V → ℕ → Option ℕ → ℕ → Option ℕ) (Runs : State K V X P W → Terms → Course → List (Notice K V) → State K V X P W → Type 0) where
    found_at : (s : State K V X P W) (o : Option (Record K V)) (hash : ℕ) (need_key : Bool) (now : ℕ) (a : Result (Option (Entry K V)) OutOfMemory) (e : Events K V) (t : State K V X P W) (shown : Bool) → GetsAt says read Runs s o hash need_key false now a e t → IsShown says s o now shown → is_answered a ≡ true → is_found a ≡ shown
    found_at s None hash need_key now a e t shown g c ok = rw (g.0, c) refl
    found_at s (Some r) hash need_key now (Ok None) e t shown g c ok =
        elim (g.0) [ inl b ↦ absurd (true≢false (sym b)) | inr b ↦ shown_of_hidden s r now shown b c ]
    found_at s (Some r) hash need_key now (Ok (Some entry)) e t shown g c ok = shown_of_visible s r now shown (g.0.1) c
    found_at s (Some r) hash need_key now (Err x) e t shown g c ok = absurd (true≢false (sym ok))

    -- a get finds what is contained
    pub gets_what_is_contained : (eq : K → K → Bool) → GetsWhatIsContained eq says read Runs
    gets_what_is_contained eq s key hash need_key now a e t shown well g c ok =
        elim (is_disabled s.capacity) as (λ b. is_disabled s.capacity ≡ b → MatchBool b ((a ≡ Ok None) × Unchanged s e t) (GetsAt says read Runs s (record_of_key eq s.records key) hash need_key false now a e t) → is_found a ≡ shown) [
          | true ↦ λ off g. ap is_found (g.0) ∙ sym (nothing_shown eq s key now shown (well.disabled off).no_records c)
          | false ↦ λ on g. found_at s (record_of_key eq s.records key) hash need_key now a e t shown g c ok
        ] refl g

module _ {K V X P : Type 0} (W : Type 0) (eq : K → K → Bool) (says : P → K → V → Bool → Type 0) (read : X → K → V → ℕ → Option ℕ → ℕ → Option ℕ) where
  -- a get that records nothing leaves no trace
  pub peeks_quietly : PeeksQuietly W eq says read
  peeks_quietly s key ignored now a t step = go (is_disabled s.capacity) step
    where
      at : (o : Option (Record K V)) (a : Result (Option V) OutOfMemory) → record_of_key eq s.records key ≡ o → PeeksAt says read s o ignored now a t → LeavesNoTrace eq s key t
      at None a found (none, same) = inl same
      at (Some r) (Ok None) found (missed, same) = inl same
      at (Some r) (Ok (Some value)) found (hit, is, same) = inr (r, (hit_record read s r now).read, (hit_record read s r now).expires, found, same)
      at (Some r) (Err x) found (hit, same) = inl same

      go : (b : Bool) → MatchBool b ((a ≡ Ok None) × (t ≡ s)) (PeeksAt says read s (record_of_key eq s.records key) ignored now a t) → LeavesNoTrace eq s key t
      go true (none, same) = inl same
      go false step = at (record_of_key eq s.records key) a refl step
