-- What a contract sees of a `RecordTable`: its rows by place, and the finite maps by number that they make.
use Rattle.std.specs.Prelude.{◌≡◌, ◌≢◌, ℕ, Option, Some, None, List, length, slice_index_or, slice_set, cond, ◌==◌, refl}
use Rattle.std.specs.Coded.{Coded, code_by, coded×, coded_ℕ, coded_list, coded_option}
use Rattle.std.specs.FinMap.{FinMap, insert, remove}
use Rattle.std.specs.Option.{option_map, option_map_or, option_and_then}
use Rattle.std.specs.Ordering.{nat_cmp}
use Rattle.moka_links.specs.EntryMap.{upto}
use Rattle.moka_table.specs.declared.table.membership.Membership.{Membership}

-- what stands under a number: what is stored, until it leaves the map; its membership, while it is a member; its slot
-- among the timers, while it has one
pub record Row (R : Type 0) : Type 0 where
  pub number : ℕ
  pub stored : Option R
  pub membership : Option Membership
  pub timer : Option ℕ

-- the row or nothing at each place from 0 on, and how many more rows fit with no memory
pub record Table (R : Type 0) : Type 0 where
  pub rows : List (Option (Row R))
  pub room : ℕ

-- a membership is stored as the tuple of its fields
abbrev pub membership_code : Coded Membership
membership_code =
    code_by
    (ℕ × (ℕ × Option ℕ))
    (coded× coded_ℕ (coded× coded_ℕ (coded_option coded_ℕ)))
    (λ m. (m.counted, (m.access, m.written)))
    (λ p. record { counted = p.0; access = p.1.0; written = p.1.1 })
    (λ _. refl)

-- a row is stored as the tuple of its fields
abbrev pub row_code : {R : Type 0} → Coded R → Coded (Row R)
row_code {R} code =
    code_by
    (ℕ × (Option R × (Option Membership × Option ℕ)))
    (coded× coded_ℕ (coded× (coded_option code) (coded× (coded_option membership_code) (coded_option coded_ℕ))))
    (λ row. (row.number, (row.stored, (row.membership, row.timer))))
    (λ p. record { number = p.0; stored = p.1.0; membership = p.1.1.0; timer = p.1.1.1 })
    (λ _. refl)

-- a table is stored as the pair of its fields
abbrev pub table_code : {R : Type 0} → Coded R → Coded (Table R)
table_code {R} code =
    code_by
    (List (Option (Row R)) × ℕ)
    (coded× (coded_list (coded_option (row_code code))) coded_ℕ)
    (λ t. (t.rows, t.room))
    (λ p. record { rows = p.0; room = p.1 })
    (λ _. refl)

-- ---- the rows, by place

module _ {R : Type 0} where
  -- the row at a place
  abbrev pub row_at : List (Option (Row R)) → ℕ → Option (Row R)
  row_at rows place = slice_index_or rows place None

  -- the number of the row at a place, and 0 where there is none
  abbrev pub number_at : List (Option (Row R)) → ℕ → ℕ
  number_at rows place = option_map_or (λ row. row.number) (row_at rows place) 0

  -- what is stored at a place
  abbrev pub stored_at : List (Option (Row R)) → ℕ → Option R
  stored_at rows place = option_and_then (λ row. row.stored) (row_at rows place)

  -- the membership of the row at a place
  abbrev pub membership_at : List (Option (Row R)) → ℕ → Option Membership
  membership_at rows place = option_and_then (λ row. row.membership) (row_at rows place)

  -- what is stored in a row, if the row has this number
  abbrev pub stored_if : ℕ → Row R → Option R
  stored_if number row = cond (row.number == number) row.stored None

  -- what is stored at a place, if the row there has this number
  abbrev pub find_at : List (Option (Row R)) → ℕ → ℕ → Option R
  find_at rows place number = option_and_then (stored_if number) (row_at rows place)

  -- the rows with this record at a place that has a row
  abbrev pub with_stored : List (Option (Row R)) → ℕ → R → List (Option (Row R))
  with_stored rows place stored =
      slice_set rows place (option_map {T = Row R} (λ row. record row { stored = Some stored }) (row_at rows place))

-- the place has this row or nothing, and every other place keeps what it had
pub record ChangesAt {R : Type 0} (old new : ℕ → Option (Row R)) (place : ℕ) (row : Option (Row R)) : Type 0 where
  pub changed : new place ≡ row
  pub others : (other : ℕ) → other ≢ place → new other ≡ old other

module _ {R : Type 0} where
  -- the row at the place becomes what the function makes of it, and every other place keeps what it had
  abbrev pub ChangesRow : (old new : List (Option (Row R))) → ℕ → (Row R → Row R) → Type 0
  ChangesRow old new place change = (row : Row R) → row_at old place ≡ Some row
      → ChangesAt (row_at old) (row_at new) place (Some (change row))

  -- the member at the place gets another weight, and every other place keeps what it had
  abbrev pub RecountsRow : (old new : List (Option (Row R))) → ℕ → ℕ → Type 0
  RecountsRow old new place weight = (row : Row R) (m : Membership) → row_at old place ≡ Some row
      → row.membership ≡ Some m
      → ChangesAt (row_at old)
      (row_at new) place (Some (record row { membership = Some (record m { counted = weight }) }))

-- no two rows have the same number
pub record IsNumbered {R : Type 0} (at : ℕ → Option (Row R)) : Type 0 where
  pub same : (p q : ℕ) (a b : Row R) → at p ≡ Some a → at q ≡ Some b → a.number ≡ b.number → p ≡ q

-- ---- the maps, by number

-- the map with this value under the number, or with none
abbrev pub altered : {X : Type 0} → FinMap nat_cmp X → ℕ → Option X → FinMap nat_cmp X
altered m number None = remove m number
altered m number (Some x) = insert m number x

module _ {R X : Type 0} (f : ℕ → Row R → Option X) where
  -- what f answers at a place and its row, with the row's number
  abbrev pub answer_at : List (Option (Row R)) → ℕ → Option (ℕ × X)
  answer_at rows place = option_and_then (λ row. option_map (λ x. (row.number, x)) (f place row)) (row_at rows place)

  -- the map by number that the answers of all rows make
  abbrev pub map_of : List (Option (Row R)) → FinMap nat_cmp X
  map_of rows = upto (answer_at rows) (length rows)

-- the counted weight of a row that is a member
abbrev pub counted_in : {R : Type 0} → Row R → Option ℕ
counted_in row = option_map (λ m. m.counted) row.membership

module _ {R : Type 0} where
  -- what is stored, by number
  unfoldable pub records_of : List (Option (Row R)) → FinMap nat_cmp R
  records_of rows = map_of (λ _ row. row.stored) rows

  -- the counted weight of each member, by number
  unfoldable pub counts_of : List (Option (Row R)) → FinMap nat_cmp ℕ
  counts_of rows = map_of (λ _ row. counted_in row) rows

  -- the place of each number that has a row
  unfoldable pub places_of : List (Option (Row R)) → FinMap nat_cmp ℕ
  places_of rows = map_of (λ place _. Some place) rows
