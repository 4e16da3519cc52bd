-- What the maps of a table are after each change of one row.
use Rattle.std.proofs.Common.{◌≡◌, ◌≢◌, ℕ, cond, length, count_by, arith, Option, Some, None, IsSome, is_some, List, [], inl, inr, refl, sym, ap, subst, ◌∙◌, ◌==◌}
use Rattle.std.proofs.lemmas.Bool.{cases_lt, eq-eqb, ne_eqb, cond-true, cond-false}
use Rattle.std.proofs.lemmas.Bool.Decides.{nat_tests}
use Rattle.std.proofs.lemmas.List.{get_or-set_same, get_or-set_other, set_past, set-get_or}
use Rattle.std.proofs.lemmas.List.Sums.{sum_by-set}
use Rattle.std.specs.Prelude.{slice_index_or, slice_set}
use Rattle.std.specs.FinMap.{FinMap, empty, get, insert, remove}
use Rattle.std.specs.Option.{option_map, option_and_then}
use Rattle.std.specs.Ordering.{nat_cmp}
use Rattle.moka_table.specs.declared.table.membership.Membership.{Membership}
use Rattle.moka_table.specs.RecordTable.{Row, altered, row_at, stored_at, membership_at, stored_if, find_at, with_stored, counted_in, records_of, counts_of, places_of, IsNumbered, ChangesAt}
use Rattle.moka_links.proofs.FinMaps.{option-cases}
use Rattle.moka_table.proofs.TableMaps.{row_at-within, some_is, read-of, altered-same, get-map, map-found, alters-row, alters-set, alters-added, numbered-after, map-after, map-same}

-- no number stands in two rows, and these are the maps
pub record Shows {R : Type 0} (rows : List (Option (Row R))) (records : FinMap nat_cmp R) (counted places : FinMap nat_cmp ℕ) : Type 0 where
  pub numbered : IsNumbered (row_at rows)
  pub records_is : records_of rows ≡ records
  pub counted_is : counts_of rows ≡ counted
  pub places_is : places_of rows ≡ places

module _ {R : Type 0} where
  -- the maps of no rows
  pub shows-empty : (rows : List (Option (Row R))) → rows ≡ [] → Shows rows empty empty empty
  unfolding records_of counts_of places_of
  shows-empty rows e = record {
    numbered = record { same = λ p q a b pe qe s. let bad : None ≡ Some a = sym (ap (λ r. row_at r p) e) ∙ pe in cc };
    records_is = ap records_of e;
    counted_is = ap counts_of e;
    places_is = ap places_of e;
  }

module _ {R : Type 0} (rows new : List (Option (Row R))) (place : ℕ) (d : IsNumbered (row_at rows)) where
  -- a new row with a record
  pub shows-inserted : (number : ℕ) (stored : R) → row_at rows place ≡ None → get (places_of rows) number ≡ None
      → ChangesAt (row_at rows) (row_at new) place (Some (record { number = number; stored = Some stored; membership = None; timer = None }))
      → Shows new (insert (records_of rows) number stored) (counts_of rows) (insert (places_of rows) number place)
  unfolding records_of counts_of places_of
  shows-inserted number stored vacant fresh c =
      let a = alters-added d (record { number = number; stored = Some stored; membership = None; timer = None }) vacant fresh c in
      record {
        numbered = numbered-after a;
        records_is = map-after a (λ _ row. row.stored);
        counted_is = map-same a (λ _ row. counted_in row) (ap (option_and_then counted_in) vacant);
        places_is = map-after a (λ p _. Some p);
      }

  module _ (was : Row R) (at_is : row_at rows place ≡ Some was) where
    -- another row of the same number
    shows-changed : (row : Row R) → row.number ≡ was.number → ChangesAt (row_at rows) (row_at new) place (Some row) → (records : FinMap nat_cmp R) (counted : FinMap nat_cmp ℕ)
        → altered (records_of rows) was.number row.stored ≡ records → altered (counts_of rows) was.number (counted_in row) ≡ counted → Shows new records counted (places_of rows)
    unfolding records_of counts_of places_of
    shows-changed row number c records counted records_is counted_is =
        let a = alters-set d was row at_is number c in
        record {
          numbered = numbered-after a;
          records_is = map-after a (λ _ row. row.stored) ∙ records_is;
          counted_is = map-after a (λ _ row. counted_in row) ∙ counted_is;
          places_is = map-same a (λ p _. Some p) (ap (option_and_then (λ _. Some place)) at_is);
        }

    records-stay : altered (records_of rows) was.number was.stored ≡ records_of rows
    unfolding records_of
    records-stay = altered-same (records_of rows) was.number was.stored (get-map (λ _ row. row.stored) rows d place was at_is)

    counted-stay : altered (counts_of rows) was.number (counted_in was) ≡ counts_of rows
    unfolding counts_of
    counted-stay = altered-same (counts_of rows) was.number (counted_in was) (get-map (λ _ row. counted_in row) rows d place was at_is)

    -- another record in a row
    pub shows-stored : (stored : R) → ChangesAt (row_at rows) (row_at new) place (Some (record was { stored = Some stored }))
        → Shows new (insert (records_of rows) was.number stored) (counts_of rows) (places_of rows)
    shows-stored stored c = shows-changed (record was { stored = Some stored }) refl c _ _ refl counted-stay

    -- the record leaves
    pub shows-taken : ChangesAt (row_at rows) (row_at new) place (Some (record was { stored = None }))
        → Shows new (remove (records_of rows) was.number) (counts_of rows) (places_of rows)
    shows-taken c = shows-changed (record was { stored = None }) refl c _ _ refl counted-stay

    -- a membership with this weight
    pub shows-counted : (m : Membership) → ChangesAt (row_at rows) (row_at new) place (Some (record was { membership = Some m }))
        → Shows new (records_of rows) (insert (counts_of rows) was.number m.counted) (places_of rows)
    shows-counted m c = shows-changed (record was { membership = Some m }) refl c _ _ records-stay refl

    -- no membership
    pub shows-uncounted : ChangesAt (row_at rows) (row_at new) place (Some (record was { membership = None }))
        → Shows new (records_of rows) (remove (counts_of rows) was.number) (places_of rows)
    shows-uncounted c = shows-changed (record was { membership = None }) refl c _ _ records-stay refl

    -- another timer
    pub shows-timed : (timer : Option ℕ) → ChangesAt (row_at rows) (row_at new) place (Some (record was { timer = timer }))
        → Shows new (records_of rows) (counts_of rows) (places_of rows)
    shows-timed timer c = shows-changed (record was { timer = timer }) refl c _ _ records-stay counted-stay

    -- a row with no record and no membership goes
    pub shows-forgotten : was.stored ≡ None → was.membership ≡ None → ChangesAt (row_at rows) (row_at new) place None
        → Shows new (records_of rows) (counts_of rows) (remove (places_of rows) was.number)
    unfolding records_of counts_of places_of
    shows-forgotten bare alone c =
        let a = alters-row d was None at_is (λ row e. cc) c in
        record {
          numbered = numbered-after a;
          records_is = map-same a (λ _ row. row.stored) (ap (option_and_then (λ (row : Row R). row.stored)) at_is ∙ bare);
          counted_is = map-same a (λ _ row. counted_in row) (ap (option_and_then counted_in) at_is ∙ ap (λ m. option_map (λ (m : Membership). m.counted) m) alone);
          places_is = map-after a (λ p _. Some p);
        }

module _ {R : Type 0} (rows : List (Option (Row R))) (place : ℕ) where
  -- the row that has a record
  pub stored_row : IsSome (stored_at rows place) → (row : Row R) × (stored : R) × (row_at rows place ≡ Some row) × (row.stored ≡ Some stored)
  stored_row h =
      let s = some_is (stored_at rows place) h in
      let w = read-of (λ (row : Row R). row.stored) (row_at rows place) s.0 s.1 in
      (w.0, s.0, w.1, w.2)

  -- the row that is a member
  pub member_row : IsSome (membership_at rows place) → (row : Row R) × (m : Membership) × (row_at rows place ≡ Some row) × (row.membership ≡ Some m)
  member_row h =
      let s = some_is (membership_at rows place) h in
      let w = read-of (λ (row : Row R). row.membership) (row_at rows place) s.0 s.1 in
      (w.0, s.0, w.1, w.2)

module _ {R : Type 0} (rows : List (Option (Row R))) (d : IsNumbered (row_at rows)) where
  -- what the records have under a row's number
  pub get-records : (p : ℕ) (row : Row R) → row_at rows p ≡ Some row → get (records_of rows) row.number ≡ row.stored
  unfolding records_of
  get-records p row e = get-map (λ _ row. row.stored) rows d p row e

  -- a row's place is under its number
  pub get-places : (p : ℕ) (row : Row R) → row_at rows p ≡ Some row → get (places_of rows) row.number ≡ Some p
  unfolding places_of
  get-places p row e = get-map (λ p _. Some p) rows d p row e

  -- the row of a record
  pub record_row : (n : ℕ) (r : R) → get (records_of rows) n ≡ Some r → (p : ℕ) × (row : Row R) × (row_at rows p ≡ Some row) × (row.number ≡ n) × (row.stored ≡ Some r)
  unfolding records_of
  record_row n r h = let w = map-found (λ _ row. row.stored) rows n r h in (w.place, w.row, w.at_is, w.number_is, w.value_is)

  -- the row at a number's place
  pub placed_row : (place number : ℕ) → get (places_of rows) number ≡ Some place → (row : Row R) × (row_at rows place ≡ Some row) × (row.number ≡ number)
  unfolding places_of
  placed_row place number h =
      let w = map-found (λ p _. Some p) rows number place h in
      let e : w.place ≡ place = (let x = w.value_is in cc) in
      (w.row, ap (row_at rows) (sym e) ∙ w.at_is, w.number_is)

  pub find_at-found : (place number : ℕ) → get (places_of rows) number ≡ Some place → find_at rows place number ≡ get (records_of rows) number
  find_at-found place number h =
      let w = placed_row place number h in
      let own : stored_if number w.0 ≡ w.0.stored = cond-true (w.0.number == number) w.0.stored None (eq-eqb w.0.number number w.2) in
      ap (option_and_then (stored_if number)) w.1 ∙ own ∙ sym (get-records place w.0 w.1) ∙ ap (get (records_of rows)) w.2

  pub find_at-elsewhere : (place number : ℕ) → get (places_of rows) number ≢ Some place → find_at rows place number ≡ None
  find_at-elsewhere place number h = elim (option-cases (row_at rows place)) as (λ _. find_at rows place number ≡ None) [
    | inl none ↦ ap (option_and_then (stored_if number)) none
    | inr w ↦ ap (option_and_then (stored_if number)) w.1 ∙ cond-false (w.0.number == number) w.0.stored None (ne_eqb w.0.number number (λ e. h (sym (ap (get (places_of rows)) e) ∙ get-places place w.0 w.1)))
  ]

  -- where a record is found, the number is placed
  pub find_at-placed : (place number : ℕ) → IsSome (find_at rows place number) → get (places_of rows) number ≡ Some place
  find_at-placed place number h =
      let s = some_is (find_at rows place number) h in
      let w = read-of (stored_if number) (row_at rows place) s.0 s.1 in
      let own : w.0.number ≡ number = grind (arith, nat_tests) in
      sym (ap (get (places_of rows)) own) ∙ get-places place w.0 w.1

-- ---- a record written through a reference

count-some-set : {X : Type 0} (rows : List (Option X)) (place : ℕ) (was new : Option X) → slice_index_or rows place None ≡ was → is_some was ≡ is_some new → count_by is_some (slice_set rows place new) ≡ count_by is_some rows
count-some-set rows place was new e s = elim (cases_lt place (length rows)) as (λ _. count_by is_some (slice_set rows place new) ≡ count_by is_some rows) [
  | inl lt ↦
      let whole = sum_by-set (λ o. cond (is_some o) 1 0) rows place new None lt in
      let same : ◌≡◌ {A = ℕ} (cond (is_some (slice_index_or rows place None)) 1 0) (cond (is_some new) 1 0) = ap (λ o. cond (is_some o) 1 0) e ∙ ap (λ b. cond b 1 0) s in
      omega (arith, whole, same)
  | inr le ↦ ap (count_by is_some) (set_past rows place new le)
]

module _ {R : Type 0} (rows : List (Option (Row R))) (place : ℕ) (stored : R) where
  pub count-with_stored : count_by is_some (with_stored rows place stored) ≡ count_by is_some rows
  count-with_stored = count-some-set rows place (row_at rows place) _ refl (elim (row_at rows place) as (λ o. is_some o ≡ is_some (option_map {T = Row R} (λ row. record row { stored = Some stored }) o)) [ None ↦ refl | Some row ↦ refl ])

  pub with_stored-changes : (row : Row R) → row_at rows place ≡ Some row → ChangesAt (row_at rows) (row_at (with_stored rows place stored)) place (Some (record row { stored = Some stored }))
  with_stored-changes row e = record {
    changed = get_or-set_same rows place _ None (row_at-within rows place row e) ∙ ap (option_map {T = Row R} (λ row. record row { stored = Some stored })) e;
    others = λ p ne. get_or-set_other rows place p _ None ne;
  }

  with_stored-none : row_at rows place ≡ None → with_stored rows place stored ≡ rows
  with_stored-none e = ap (λ o. slice_set rows place (option_map {T = Row R} (λ row. record row { stored = Some stored }) o)) e ∙ ap (slice_set rows place) (sym e) ∙ set-get_or rows place None

  pub numbered-with_stored : IsNumbered (row_at rows) → IsNumbered (row_at (with_stored rows place stored))
  numbered-with_stored d = elim (option-cases (row_at rows place)) as (λ _. IsNumbered (row_at (with_stored rows place stored))) [
    | inl none ↦ subst (λ l. IsNumbered (row_at l)) (sym (with_stored-none none)) d
    | inr w ↦ numbered-after (alters-set d w.0 (record w.0 { stored = Some stored }) w.1 refl (with_stored-changes w.0 w.1))
  ]
