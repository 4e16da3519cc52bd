-- Records that a run leaves in the map, and its steps: what was visible at its moment leaves by them to make room alone.
use Rattle.std.proofs.Common.{◌≡◌, refl, ℕ, zero, suc, Bool, true, false, ◌||◌, ◌&&◌, true≢false, List, [], ◌∷◌, Option, Some, option_map, option_to_list, ap, sym, ◌∙◌, subst, ◌⊎◌, inl, inr, unwrap_or, remove, Contains}
use Rattle.std.specs.FinMap.{get}
use Rattle.std.specs.FinMap as finite
use Rattle.std.proofs.lemmas.List.Elements.{Contains-append_left, Contains-append_right, Contains-append_cases, Contains-push}
use Rattle.moka_parts.specs.declared.notification.RemovalCause.{RemovalCause}
use Rattle.moka_parts.specs.declared.notification.RemovalCause.TheVariants.{Size, Expired, Explicit, Replaced}
use Rattle.moka_records.specs.declared.records.Member.{Member}
use Rattle.moka_records.specs.declared.records.Record.{Record}
use Rattle.moka_parts.specs.declared.records.Registered.{Registered}
use Rattle.moka_parts.specs.Maintenance.{Choice, Removes, MovesToBack, Drops, AreJustified, HasCause, after_choice, after_choices, left_by_choice, left_by_choices, tests_of}
use Rattle.moka_records.specs.Records.{Records}
use Rattle.moka_parts.specs.Notices.{Notice}
use Rattle.moka_parts.specs.State.{State, Contents}
use Rattle.moka_parts.specs.Visibility.{Covers, SomeCovers, has_lapsed, is_expired, is_past_live, is_past_idle, is_written_before, is_read_before}
use Rattle.moka_parts.specs.Writes.{without_records, leaves_for_size, left_with}
use Rattle.moka_records.proofs.Maps.{same_or_apart, get_past_remove}

-- ---- records that stay, but for the applied generation, or leave to make room

module _ {K V : Type 0} where
  -- it stays
  abbrev pub Stays : Records K V → ℕ → Record K V → Type 0
  Stays records n r = (g : ℕ) × (get records n ≡ Some (record r { applied = g }))

  -- it stays, or its notice says that it leaves to make room
  abbrev pub Settled : Records K V → List (Notice K V) → ℕ → Record K V → Type 0
  Settled after left n r = Stays after n r ⊎ Contains left (leaves_for_size r)

  -- of two records at one number
  pub same_at : (records : Records K V) (n k : ℕ) (r q : Record K V) → get records n ≡ Some r → get records k ≡ Some q → n ≡ k → r ≡ q
  same_at records n k r q there here same = ap (λ (o : Option (Record K V)). unwrap_or o r) (sym there ∙ ap (get records) same ∙ here)

  -- what makes room for another
  pub victims : (gone : List Member) (records : Records K V) (n : ℕ) (r : Record K V) → get records n ≡ Some r → (get (without_records gone records) n ≡ Some r) ⊎ Contains (left_with gone records) (leaves_for_size r)
  victims [] records n r there = inl there
  victims (a ∷ gone) records n r there = elim (same_or_apart n a.number) [
    | inl same ↦ inr (Contains-append_left (option_to_list (option_map leaves_for_size (get records a.number))) (left_with gone (finite.remove records a.number)) (leaves_for_size r)
        (subst (λ (o : Option (Record K V)). Contains (option_to_list (option_map leaves_for_size o)) (leaves_for_size r)) (sym (ap (get records) (sym same) ∙ there)) (Contains-push [] (leaves_for_size r))))
    | inr apart ↦ elim (victims gone (finite.remove records a.number) n r (get_past_remove records a.number n apart ∙ there)) [
      | inl still ↦ inl still
      | inr left ↦ inr (Contains-append_right (option_to_list (option_map leaves_for_size (get records a.number))) (left_with gone (finite.remove records a.number)) (leaves_for_size r) left)
    ]
  ]

-- ---- steps: only the surplus is a ground against what is visible

none_of_three : (a b c : Bool) → a ≡ false → b ≡ false → c ≡ false → (a || b || c) ≡ true → ⊥
none_of_three true b c p q t h = true≢false p
none_of_three false true c p q t h = true≢false q
none_of_three false false true p q t h = true≢false t
none_of_three false false false p q t h = true≢false (sym h)

neither : (a x b y : Bool) → a ≡ false → b ≡ false → ((a && x) || (b && y)) ≡ true → ⊥
neither true x b y p q h = true≢false p
neither false x true y p q h = true≢false q
neither false x false y p q h = true≢false (sym h)

none_of_five : (a b c d e : Bool) → (a || b || c || d || e) ≡ false → (a ≡ false) × (b ≡ false) × (c ≡ false) × (d ≡ false) × (e ≡ false)
none_of_five true b c d e h = absurd (true≢false h)
none_of_five false true c d e h = absurd (true≢false h)
none_of_five false false true d e h = absurd (true≢false h)
none_of_five false false false true e h = absurd (true≢false h)
none_of_five false false false false true h = absurd (true≢false h)
none_of_five false false false false false h = (refl, refl, refl, refl, refl)

-- what a list has without one of its elements, it has with it
from_remove : {A : Type 0} (xs : List A) (i : ℕ) (x : A) → Contains (remove xs i) x → Contains xs x
from_remove [] zero x there = there
from_remove [] (suc i) x there = there
from_remove (y ∷ xs) zero x there = Contains-append_right (y ∷ []) xs x there
from_remove (y ∷ xs) (suc i) x there = elim (Contains-append_cases (y ∷ []) (remove xs i) x there) [
  | inl first ↦ Contains-append_left (y ∷ []) xs x first
  | inr rest ↦ Contains-append_right (y ∷ []) xs x (from_remove xs i x rest)
]

module _ {K V X P W : Type 0} (says : P → K → V → Bool → Type 0) (s : State K V X P W) (now : ℕ) where
  -- none of the predicates covers it
  abbrev pub Spares : List (Registered P) → Record K V → Type 0
  Spares ps r = (p : Registered P) → Contains ps p → Covers says p r → ⊥

  one_covers : (ps : List (Registered P)) (r : Record K V) → SomeCovers says ps r → Spares ps r → ⊥
  one_covers [] r some spared = absurd some
  one_covers (p ∷ ps) r (inl covers) spared = spared p (Contains-append_left (p ∷ []) ps p (Contains-push [] p)) covers
  one_covers (p ∷ ps) r (inr some) spared = one_covers ps r some (λ q there. spared q (Contains-append_right (p ∷ []) ps q there))

  is_for_size : (c : Contents K V) (ps : List (Registered P)) (n : ℕ) (r : Record K V) (cause : RemovalCause) → has_lapsed s.settings s.invalid_before r now ≡ false → Spares ps r → HasCause says (tests_of s now) c ps n r cause → cause ≡ Size
  is_for_size c ps n r cause shown spared has =
      let a = none_of_five (is_expired r now) (is_past_live s.settings r now) (is_past_idle s.settings r now) (is_written_before s.invalid_before r) (is_read_before s.invalid_before r) shown in
      go cause a.0 a.1 a.2 a.3 a.4 has
    where
      go : (cause : RemovalCause) → is_expired r now ≡ false → is_past_live s.settings r now ≡ false → is_past_idle s.settings r now ≡ false → is_written_before s.invalid_before r ≡ false → is_read_before s.invalid_before r ≡ false → HasCause says (tests_of s now) c ps n r cause → cause ≡ Size
      go Expired own live idle written read has = absurd (none_of_three (is_expired r now) (is_past_live s.settings r now) (is_past_idle s.settings r now) own live idle has)
      go Explicit own live idle written read (inl has) = absurd (neither (is_written_before s.invalid_before r) _ (is_read_before s.invalid_before r) _ written read has)
      go Explicit own live idle written read (inr covers) = absurd (one_covers ps r covers spared)
      go Size own live idle written read has = refl
      go Replaced own live idle written read has = absurd has

  pub by_steps : (c : Contents K V) (ps : List (Registered P)) (xs : List Choice) (n : ℕ) (r : Record K V) → has_lapsed s.settings s.invalid_before r now ≡ false → Spares ps r → AreJustified says (tests_of s now) c ps xs → get c.records n ≡ Some r → Settled (after_choices c xs).records (left_by_choices c xs) n r
  by_steps c ps [] n r shown spared are there = inl (r.applied, there)
  by_steps c ps (Removes k cause ∷ xs) n r shown spared are there = elim (same_or_apart n k) [
    | inl same ↦
        let at : get c.records k ≡ Some r = ap (get c.records) (sym same) ∙ there in
        let q : are.0.0 ≡ r = same_at c.records k k are.0.0 r are.0.1 at refl in
        let for_size : cause ≡ Size = is_for_size c ps k r cause shown spared (subst (λ (x : Record K V). HasCause says (tests_of s now) c ps k x cause) q are.0.3) in
        inr (Contains-append_left (left_by_choice c (Removes k cause)) (left_by_choices (after_choice c (Removes k cause)) xs) (leaves_for_size r)
        (subst (λ (o : Option (Record K V)). Contains (option_to_list (option_map (λ (x : Record K V). (x.key, x.value, cause)) o)) (leaves_for_size r)) (sym at)
        (subst (λ (x : RemovalCause). Contains ((r.key, r.value, x) ∷ []) (leaves_for_size r)) (sym for_size) (Contains-push [] (leaves_for_size r)))))
    | inr apart ↦ elim (by_steps (after_choice c (Removes k cause)) ps xs n r shown spared are.1 (get_past_remove c.records k n apart ∙ there)) [
      | inl still ↦ inl still
      | inr left ↦ inr (Contains-append_right (left_by_choice c (Removes k cause)) (left_by_choices (after_choice c (Removes k cause)) xs) (leaves_for_size r) left)
    ]
  ]
  by_steps c ps (MovesToBack k ∷ xs) n r shown spared are there = by_steps (after_choice c (MovesToBack k)) ps xs n r shown spared are.1 there
  by_steps c ps (Drops i ∷ xs) n r shown spared are there = by_steps c (remove ps i) xs n r shown (λ p here. spared p (from_remove ps i p here)) are.1 there
