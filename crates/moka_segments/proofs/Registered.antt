-- Predicates that were registered in one segment after the other.
use Rattle.std.proofs.Common.{◌≡◌, ℕ, List, [], ◌∷◌, ◌++◌, length, take, drop, Result, Ok, Err, ◌⊎◌, inl, inr, refl, ap, sym, subst, ◌∙◌, append_assoc, append-nil, arith}
use Rattle.std.specs.List.{IsFirstAndRest}
use Rattle.uuid.specs.declared.Uuid.{Uuid}
use Rattle.moka_types.specs.declared.error.PredicateRefused.{PredicateRefused}
use Rattle.moka_parts.specs.declared.notification.RemovalCause.{RemovalCause}
use Rattle.moka_records.specs.declared.instant.Instant.{Instant}
use Rattle.moka_calls.specs.Synchronous.{Synchronous}
use Rattle.moka_segments.specs.Registering.{AllRegister, Registers, HasNoRoom}
use Rattle.moka_router.specs.Routing.{Routing}
use Rattle.moka_segments.specs.Segmented.{Segmented}
use Rattle.moka_segments.proofs.Each.{written_back}
use Rattle.moka_segments.proofs.Listed.{all_of}

module _ {K V S X L P W I : Type 0} (tells : L → K → V → RemovalCause → L → Type 0) (gives : I → Uuid → I → Type 0) (Made : P → Type 0) (now : Instant) where
  -- no segment was asked
  pub registered_nothing : (xs : List (Synchronous K V S X L P W)) (before : List Uuid) (ids : I) → length xs ≡ 0
      → (given : List Uuid) × (before ≡ before ++ given) × AllRegister tells gives Made now given (Ok tt) ids ids xs xs
  registered_nothing [] before ids none = ([], sym (append-nil before), (refl, refl, refl))
  registered_nothing (x ∷ xs) before ids none = absurd (omega (arith, none))

  module _ (result : Result (Unit {0}) (PredicateRefused P)) (ids ids_after : I) (before after : List Uuid) where
    -- a slice of a whole vector, written back
    pub registered_back : (xs was ys : List (Synchronous K V S X L P W)) (len : ℕ) → was ≡ xs → len ≡ length ys
        → (given : List Uuid) × (after ≡ before ++ given) × AllRegister tells gives Made now given result ids ids_after was ys
        → (given : List Uuid) × (after ≡ before ++ given) × AllRegister tells gives Made now given result ids ids_after xs (take len (ys ++ drop (length ys) xs))
    registered_back xs was ys len is as_long (given, appended, all) =
        (given, appended, written_back (λ zs us. AllRegister tells gives Made now given result ids ids_after zs us) xs was ys len is as_long all)

    -- of a whole cache, to an empty list of identifiers
    pub registered_all : (routing : Routing S) (xs ys : List (Synchronous K V S X L P W)) (c : Segmented K V S X L P W) → record { routing = routing; segments = xs } ≡ c → before ≡ []
        → (given : List Uuid) × (after ≡ before ++ given) × AllRegister tells gives Made now given result ids ids_after xs ys
        → AllRegister tells gives Made now after result ids ids_after c.segments ys
    registered_all routing xs ys c view_is none all =
        subst (λ (d : Segmented K V S X L P W). AllRegister tells gives Made now after result ids ids_after d.segments ys) view_is
        (all_of (λ given. AllRegister tells gives Made now given result ids ids_after xs ys) before after none all)

  module _ (xs later : List (Synchronous K V S X L P W)) (x y : Synchronous K V S X L P W) (ids : I) (split : IsFirstAndRest xs x later) where
    -- the first segment refused
    pub registered_none : (before after : List Uuid) (refused : PredicateRefused P) (ids_after : I) → after ≡ before
        → (Registers tells gives Made now (Err refused) ids ids_after x y ⊎ HasNoRoom tells gives Made now refused ids ids_after x y)
        → (given : List Uuid) × (after ≡ before ++ given) × AllRegister tells gives Made now given (Err refused) ids ids_after xs (y ∷ later)
    registered_none before after refused ids_after same why = (
      [],
      same ∙ sym (append-nil before),
      subst (λ zs. AllRegister tells gives Made now [] (Err refused) ids ids_after zs (y ∷ later)) (sym split.0) (inr (refused, refl, refl, refl, why)),
    )

    -- the first registered its own, and then the others
    pub registered_first : (before between after : List Uuid) (id : Uuid) (mid ids_after : I) (result : Result (Unit {0}) (PredicateRefused P)) (ys : List (Synchronous K V S X L P W))
        → between ≡ before ++ id ∷ [] → Registers tells gives Made now (Ok id) ids mid x y
        → (others : List Uuid) × (after ≡ between ++ others) × AllRegister tells gives Made now others result mid ids_after later ys
        → (given : List Uuid) × (after ≡ before ++ given) × AllRegister tells gives Made now given result ids ids_after xs (y ∷ ys)
    registered_first before between after id mid ids_after result ys appended here (others, is, there) = (
      id ∷ others,
      is ∙ (ap (λ zs. zs ++ others) appended ∙ append_assoc before (id ∷ []) others),
      subst (λ zs. AllRegister tells gives Made now (id ∷ others) result ids ids_after zs (y ∷ ys)) (sym split.0) (inl (id, others, mid, refl, here, there)),
    )
