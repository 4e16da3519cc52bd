-- The items that an `Older` keeps beside its table.
use Rattle.std.proofs.Common.{◌≡◌, ◌≢◌, ℕ, ◌+◌, ◌≤◌, not, List, [], ◌∷◌, ◌++◌, length, find, filter, fold, min, Option, Some, None, IsSome, is_some, IsNone, IfSome, option_map, nat_eq, inl, inr, refl, sym, ap, subst, ◌∙◌, arith}
use Rattle.std.proofs.lemmas.Bool.{cases_eq, false≢true}
use Rattle.std.proofs.lemmas.Bool.Decides.{nat_tests}
use Rattle.std.specs.FinMap.{FinMap, empty, insert, remove, len}
use Rattle.std.specs.FinMap as map
use Rattle.std.specs.Ordering.{nat_cmp}
use Rattle.moka_links.proofs.FinMaps.{option-cases, get-put, get-taken, get-inserted, len-inserted}
use Rattle.moka_structures.specs.Older.{with_kept, AreApart, lesser}
use Rattle.moka_structures.specs.declared.older.Kept.{Kept}
use Rattle.moka_structures.proofs.Newest.{get-put_other, lowest-alone, swapped, taken-none, taken-put, taken-under}
use Rattle.moka_structures.proofs.Tickets.{IsLowest, some-lowest}

module _ {T : Type 0} where
  -- the kept item under a ticket
  abbrev pub kept_at : List (Kept T) → ℕ → Option (Kept T)
  kept_at ks t = find (λ k. nat_eq k.ticket t) ks

  -- the kept items of other tickets
  abbrev pub kept_beside : List (Kept T) → ℕ → List (Kept T)
  kept_beside ks t = filter (λ k. not (nat_eq k.ticket t)) ks

  -- an item that was put is under its ticket
  put-at : (m : FinMap nat_cmp T) (k : Kept T) (t : ℕ) → k.ticket ≡ t → map.get (insert m k.ticket k.item) t ≡ Some k.item
  put-at m k t e = ap (map.get (insert m k.ticket k.item)) (sym e) ∙ get-inserted m k.ticket k.item

  -- an item of the table has another ticket than the first of those kept
  not-first : (k : Kept T) (m : FinMap nat_cmp T) (t : ℕ) (x : T) → map.get m k.ticket ≡ None → map.get m t ≡ Some x → k.ticket ≢ t
  not-first k m t x none some e = let no : None ≡ Some x = sym none ∙ ap (map.get m) e ∙ some in cc

  -- what is in the table is among all
  pub get-table : (ks : List (Kept T)) (m : FinMap nat_cmp T) → AreApart ks m → (t : ℕ) (x : T) → map.get m t ≡ Some x → map.get (with_kept ks m) t ≡ Some x
  get-table [] m h t x e = e
  get-table (k ∷ ks) m h t x e = get-table ks (insert m k.ticket k.item) h.1 t x (get-put_other m k.ticket k.item t (not-first k m t x h.0 e) ∙ e)

  -- a ticket of the table is one of all
  pub among : (ks : List (Kept T)) (m : FinMap nat_cmp T) → AreApart ks m → (t : ℕ) → IsSome (map.get m t) → IsSome (map.get (with_kept ks m) t)
  among ks m h t some = elim (option-cases (map.get m t)) as (λ _. IsSome (map.get (with_kept ks m) t)) [
    | inl none ↦ absurd (false≢true (sym (ap is_some none) ∙ some))
    | inr w ↦ ap is_some (get-table ks m h t w.0 w.1)
  ]

  -- what is not in the table is among those kept, or nowhere
  pub get-kept : (ks : List (Kept T)) (m : FinMap nat_cmp T) → AreApart ks m → (t : ℕ) → map.get m t ≡ None → map.get (with_kept ks m) t ≡ option_map (λ k. k.item) (kept_at ks t)
  get-kept [] m h t none = none
  get-kept (k ∷ ks) m h t none =
      let put = insert m k.ticket k.item in
      grind (arith, nat_tests, get-put m k.ticket k.item t, get-kept ks put h.1 t, get-table ks put h.1 t k.item)

  -- none of those kept has the ticket of an item in the table
  pub none-kept : (ks : List (Kept T)) (m : FinMap nat_cmp T) → AreApart ks m → (t : ℕ) (x : T) → map.get m t ≡ Some x → kept_at ks t ≡ None
  none-kept [] m h t x e = refl
  none-kept (k ∷ ks) m h t x e =
      grind (arith, nat_tests, h.0, get-put m k.ticket k.item t, none-kept ks (insert m k.ticket k.item) h.1 t x)

  -- they are apart from a table with fewer items
  pub apart-fewer : (ks : List (Kept T)) (m n : FinMap nat_cmp T) → ((q : ℕ) → map.get m q ≡ None → map.get n q ≡ None) → AreApart ks m → AreApart ks n
  apart-fewer [] m n f h = tt
  apart-fewer (k ∷ ks) m n f h = (
    f k.ticket h.0,
    apart-fewer ks (insert m k.ticket k.item) (insert n k.ticket k.item) (λ q none. grind (arith, nat_tests, f q, get-put m k.ticket k.item q, get-put n k.ticket k.item q)) h.1,
  )

  -- the same where an item was taken
  pub apart-taken : (ks : List (Kept T)) (m : FinMap nat_cmp T) → AreApart ks m → (t : ℕ) → AreApart ks (remove m t)
  apart-taken ks m h t = apart-fewer ks m (remove m t) (λ q none. grind (arith, nat_tests, get-taken m t q)) h

  -- a new item in the table
  pub put-table : (ks : List (Kept T)) (m : FinMap nat_cmp T) → AreApart ks m → (t : ℕ) (x : T) → map.get (with_kept ks m) t ≡ None
      → AreApart ks (insert m t x) × (with_kept ks (insert m t x) ≡ insert (with_kept ks m) t x)
  put-table [] m h t x fresh = (tt, refl)
  put-table (k ∷ ks) m h t x fresh =
      let put = insert m k.ticket k.item in
      let ne : k.ticket ≢ t = λ e. (let no : None ≡ Some k.item = sym fresh ∙ get-table ks put h.1 t k.item (put-at m k t e) in cc) in
      let same = swapped m k.ticket k.item t x ne in
      let rest = put-table ks put h.1 t x fresh in (
        (get-put_other m t x k.ticket (λ e. ne (sym e)) ∙ h.0, subst (AreApart ks) (sym same) rest.0),
        ap (with_kept ks) same ∙ rest.1,
      )

  -- a new item among those kept
  pub put-kept : (ks : List (Kept T)) (m : FinMap nat_cmp T) → AreApart ks m → (k : Kept T) → map.get (with_kept ks m) k.ticket ≡ None
      → AreApart (ks ++ k ∷ []) m × (with_kept (ks ++ k ∷ []) m ≡ insert (with_kept ks m) k.ticket k.item)
  put-kept [] m h k fresh = ((fresh, tt), refl)
  put-kept (j ∷ ks) m h k fresh = let rest = put-kept ks (insert m j.ticket j.item) h.1 k fresh in ((h.0, rest.0), rest.1)

  -- an item is taken from the table
  pub take-table : (ks : List (Kept T)) (m : FinMap nat_cmp T) (t : ℕ) → kept_at ks t ≡ None → with_kept ks (remove m t) ≡ remove (with_kept ks m) t
  take-table [] m t none = refl
  take-table (k ∷ ks) m t none =
      grind (arith, nat_tests, taken-under m k.ticket k.item t, take-table ks (insert m k.ticket k.item) t)

  -- a ticket that none has takes nothing away
  beside-all : (ks : List (Kept T)) (t : ℕ) → kept_at ks t ≡ None → kept_beside ks t ≡ ks
  beside-all [] t none = refl
  beside-all (k ∷ ks) t none = grind (arith, nat_tests, beside-all ks t)

  -- an item is taken from those kept
  pub take-kept : (ks : List (Kept T)) (m : FinMap nat_cmp T) → AreApart ks m → (t : ℕ) → map.get m t ≡ None
      → AreApart (kept_beside ks t) m × (with_kept (kept_beside ks t) m ≡ remove (with_kept ks m) t)
  take-kept [] m h t none = (tt, sym (taken-none m t none))
  take-kept (k ∷ ks) m h t none =
      let put = insert m k.ticket k.item in
      elim (cases_eq k.ticket t) as (λ _. AreApart (kept_beside (k ∷ ks) t) m × (with_kept (kept_beside (k ∷ ks) t) m ≡ remove (with_kept (k ∷ ks) m) t)) [
        | inl e ↦
            let gone = none-kept ks put h.1 t k.item (put-at m k t e) in
            let left : kept_beside (k ∷ ks) t ≡ ks = grind (arith, nat_tests, beside-all ks t gone) in
            let less : remove put t ≡ m = ap (remove put) (sym e) ∙ taken-put m k.ticket k.item h.0 in (
              subst (λ js. AreApart js m) (sym left) (subst (AreApart ks) less (apart-taken ks put h.1 t)),
              ap (λ js. with_kept js m) left ∙ ap (with_kept ks) (sym less) ∙ take-table ks put t gone,
            )
        | inr ne ↦
            let left : kept_beside (k ∷ ks) t ≡ k ∷ kept_beside ks t = grind (arith, nat_tests) in
            let rest = take-kept ks put h.1 t (get-put_other m k.ticket k.item t ne ∙ none) in (
              subst (λ js. AreApart js m) (sym left) (h.0, rest.0),
              ap (λ js. with_kept js m) left ∙ rest.1,
            )
      ]

  -- as many as are in the table and kept
  pub len-kept : (ks : List (Kept T)) (m : FinMap nat_cmp T) → AreApart ks m → len m + length ks ≡ len (with_kept ks m)
  len-kept [] m h = omega arith
  len-kept (k ∷ ks) m h =
      let one = len-inserted m k.ticket k.item h.0 in
      let rest = len-kept ks (insert m k.ticket k.item) h.1 in
      omega arith

  -- the ticket is the lowest, and there is none if there are no items
  pub record IsLeast (o : Option ℕ) (m : FinMap nat_cmp T) : Type 0 where
    pub least : IfSome o (λ t. IsLowest t m)
    pub none : (IsNone o → m ≡ empty) × (m ≡ empty → IsNone o)

  lowest-least : (t : ℕ) (m : FinMap nat_cmp T) → IsLowest t m → IsLeast (Some t) m
  lowest-least t m lowest = record { least = lowest; none = some-lowest m t lowest.0 }

  -- with one more item
  least-put : (o : Option ℕ) (m : FinMap nat_cmp T) (k : Kept T) → IsLeast o m → IsLeast (lesser o k.ticket) (insert m k.ticket k.item)
  least-put None m k h =
      let gone : m ≡ empty = h.none.0 refl in
      lowest-least k.ticket (insert m k.ticket k.item) (rw gone (lowest-alone k.ticket k.item))
  least-put (Some a) m k h =
      let put = insert m k.ticket k.item in
      let here : IsSome (map.get put k.ticket) = subst (λ o. IsSome o) (sym (get-inserted m k.ticket k.item)) refl in
      let below : (q : ℕ) → IsSome (map.get put q) → min a k.ticket ≤ q = λ q some. grind (arith, nat_tests, h.least.1 q, get-put m k.ticket k.item q) in
      let there : IsSome (map.get put (min a k.ticket)) = grind (arith, nat_tests, h.least.0, get-put m k.ticket k.item (min a k.ticket)) in
      lowest-least (min a k.ticket) put (there, below)

  -- with all that are kept
  pub least-kept : (ks : List (Kept T)) (o : Option ℕ) (m : FinMap nat_cmp T) → IsLeast o m → IsLeast (fold (λ o k. lesser o k.ticket) o ks) (with_kept ks m)
  least-kept [] o m h = h
  least-kept (k ∷ ks) o m h = least-kept ks (lesser o k.ticket) (insert m k.ticket k.item) (least-put o m k h)
