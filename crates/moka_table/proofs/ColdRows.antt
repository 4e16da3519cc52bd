-- The rows of a table, read through those of its fronts and their cold parts.
use Rattle.std.proofs.Common.{◌≡◌, ◌≢◌, ℕ, zero, suc, ◌+◌, ◌-◌, ◌<◌, Bool, true, false, ◌≤◌, List, [], ◌∷◌, ◌++◌, length, set, get_or, cond, count_by, IsSome, is_some, Option, Some, None, inl, inr, refl, sym, ap, subst, ◌∙◌, ◌==◌, arith}
use Rattle.std.specs.Option.{option_map, option_map_or, option_and_then}
use Rattle.std.proofs.lemmas.List.Sums.{count_by-le-length, sum_by-cons}
use Rattle.std.proofs.lemmas.List.{get_or-set_same, get_or-set_other, get_or_push, length-set, set-get_or}
use Rattle.std.proofs.lemmas.Option.{get_or_from_slice_get, slice_get_read}
use Rattle.std.proofs.lemmas.Bool.{cond-true, cond-false, eq-eqb, ne_eqb}
use Rattle.moka_records.specs.declared.record_ref.Cold.{Cold}
use Rattle.moka_records.specs.declared.record_ref.Front.{Front}
use Rattle.moka_records.specs.declared.records.Record.{Record}
use Rattle.moka_records.specs.RecordParts.{joined, expiry_of}
use Rattle.moka_records.specs.declared.instant.Instant.{Instant}
use Rattle.moka_table.specs.declared.table.membership.Membership.{Membership}
use Rattle.moka_table.specs.RecordTable.{Row, Table, IsNumbered, row_at, number_at, stored_at, membership_at, stored_if, find_at, with_stored, ChangesAt, ChangesRow, RecountsRow}
use Rattle.moka_table.specs.Rows.{cold_at, nothing, whole, whole_rows, table_of, IsBeside}
use Rattle.moka_table.specs.Slots.{counted_as}
use Rattle.moka_table.specs.States.{touched, rewritten}
use Rattle.moka_table.specs.Updates.{updated}
use Rattle.moka_table.specs.declared.table.Update.{Update}
use Rattle.moka_links.proofs.FinMaps.{option-cases}
use Rattle.moka_records.proofs.Options.{mapped_is_some}
use Rattle.moka_table.proofs.TableMaps.{get_or_past_push, some_is, made-of, row_at-within}
use Rattle.moka_table.proofs.TableCalls.{shows-empty, stored_row, member_row, count-with_stored, numbered-with_stored}

cond-same : {X : Type 0} (b : Bool) → ◌≡◌ {A = Option X} (cond b None None) None
cond-same true = refl
cond-same false = refl

count-alike : {X Y : Type 0} (a : Option X) (b : Option Y) (xs : List (Option X)) (ys : List (Option Y)) → is_some a ≡ is_some b → count_by is_some xs ≡ count_by is_some ys → count_by is_some (a ∷ xs) ≡ count_by is_some (b ∷ ys)
count-alike a b xs ys e h =
    sum_by-cons (λ o. cond (is_some o) 1 0) a xs
    ∙ ap (λ t. cond t 1 0 + count_by is_some xs) e
    ∙ ap (λ n. cond (is_some b) 1 0 + n) h
    ∙ sym (sum_by-cons (λ o. cond (is_some o) 1 0) b ys)

-- the last weight of a membership is the one that counts
counted-again : (was now : ℕ) (o : Option Membership) → option_map (counted_as now) (option_map (counted_as was) o) ≡ option_map (counted_as now) o
counted-again was now None = refl
counted-again was now (Some m) = refl

module _ {K V : Type 0} where
  -- a row is that of the front there, with the cold part there
  pub whole-at : (rows : List (Option (Row (Front K V)))) (colds : List Cold) (place : ℕ) → row_at (whole_rows rows colds) place ≡ option_map (whole (cold_at colds place)) (row_at rows place)
  unfolding whole_rows
  whole-at [] colds place = refl
  whole-at (row ∷ rows) [] zero = refl
  whole-at (row ∷ rows) [] (suc place) = whole-at rows [] place
  whole-at (row ∷ rows) (cold ∷ colds) zero = refl
  whole-at (row ∷ rows) (cold ∷ colds) (suc place) = whole-at rows colds place

  pub length-whole : (rows : List (Option (Row (Front K V)))) (colds : List Cold) → length (whole_rows rows colds) ≡ length rows
  unfolding whole_rows
  length-whole [] colds = refl
  length-whole (row ∷ rows) [] = ap suc (length-whole rows [])
  length-whole (row ∷ rows) (cold ∷ colds) = ap suc (length-whole rows colds)

  pub count-whole : (rows : List (Option (Row (Front K V)))) (colds : List Cold) → count_by is_some (whole_rows rows colds) ≡ count_by is_some rows
  unfolding whole_rows
  count-whole [] colds = refl
  count-whole (row ∷ rows) [] = count-alike (option_map (whole nothing) row) row (whole_rows rows []) rows (mapped_is_some (whole nothing) row) (count-whole rows [])
  count-whole (row ∷ rows) (cold ∷ colds) = count-alike (option_map (whole cold) row) row (whole_rows rows colds) rows (mapped_is_some (whole cold) row) (count-whole rows colds)

  -- a write of both parts
  pub set-whole : (rows : List (Option (Row (Front K V)))) (colds : List Cold) (place : ℕ) (row : Option (Row (Front K V))) (cold : Cold) → place < length colds
      → whole_rows (set rows place row) (set colds place cold) ≡ set (whole_rows rows colds) place (option_map (whole cold) row)
  unfolding whole_rows
  set-whole [] colds place row cold within = refl
  set-whole (r ∷ rows) [] place row cold within = absurd (omega arith)
  set-whole (r ∷ rows) (c ∷ colds) zero row cold within = refl
  set-whole (r ∷ rows) (c ∷ colds) (suc place) row cold within = ap (λ l. option_map (whole c) r ∷ l) (set-whole rows colds place row cold (omega arith))

  module _ (rows : List (Option (Row (Front K V)))) (colds : List Cold) (place : ℕ) where
    -- what is read of a row is read of its front
    reads-whole : {X : Type 0} (f : Option (Row (Record K V)) → X) (g : Option (Row (Front K V)) → X) → f None ≡ g None → ((row : Row (Front K V)) → f (Some (whole (cold_at colds place) row)) ≡ g (Some row)) → f (row_at (whole_rows rows colds) place) ≡ g (row_at rows place)
    reads-whole f g none some = ap f (whole-at rows colds place) ∙ elim (row_at rows place) as (λ o. f (option_map (whole (cold_at colds place)) o) ≡ g o) [ None ↦ none | Some row ↦ some row ]

    -- the front of a row
    pub whole_row : (w : Row (Record K V)) → row_at (whole_rows rows colds) place ≡ Some w → (row : Row (Front K V)) × (row_at rows place ≡ Some row) × (w ≡ whole (cold_at colds place) row)
    whole_row w at =
        let r = made-of (whole (cold_at colds place)) (row_at rows place) w (sym (whole-at rows colds place) ∙ at) in
        (r.0, r.1, sym r.2)

    -- the row of a front
    pub row_whole : (row : Row (Front K V)) → row_at rows place ≡ Some row → row_at (whole_rows rows colds) place ≡ Some (whole (cold_at colds place) row)
    row_whole row at = whole-at rows colds place ∙ ap (option_map (whole (cold_at colds place))) at

    -- a place with no front has no row
    pub none_whole : row_at rows place ≡ None → row_at (whole_rows rows colds) place ≡ None
    none_whole at = whole-at rows colds place ∙ ap (option_map (whole (cold_at colds place))) at

    -- a change of one front, and of the cold part there
    pub whole-changes : (new : List (Option (Row (Front K V)))) (after : List Cold) (row : Option (Row (Front K V))) → ChangesAt (row_at rows) (row_at new) place row
        → ((q : ℕ) → q ≢ place → cold_at after q ≡ cold_at colds q)
        → ChangesAt (row_at (whole_rows rows colds)) (row_at (whole_rows new after)) place (option_map (whole (cold_at after place)) row)
    whole-changes new after row c same = record {
      changed = whole-at new after place ∙ ap (option_map (whole (cold_at after place))) c.changed;
      others = λ q ne. whole-at new after q ∙ ap (λ cold. option_map (whole cold) (row_at new q)) (same q ne) ∙ ap (option_map (whole (cold_at colds q))) (c.others q ne) ∙ sym (whole-at rows colds q);
    }

    -- a change of one front alone
    pub front-changes : (new : List (Option (Row (Front K V)))) (row : Option (Row (Front K V))) → ChangesAt (row_at rows) (row_at new) place row
        → ChangesAt (row_at (whole_rows rows colds)) (row_at (whole_rows new colds)) place (option_map (whole (cold_at colds place)) row)
    front-changes new row c = whole-changes new colds row c (λ q ne. refl)

    -- a change of one row, by both parts
    pub both-change : (new : List (Option (Row (Front K V)))) (row : Row (Front K V)) (cold : Cold) → place < length colds → ChangesAt (row_at rows) (row_at new) place (Some row)
        → ChangesAt (row_at (whole_rows rows colds)) (row_at (whole_rows new (set colds place cold))) place (Some (whole cold row))
    both-change new row cold within c =
        subst (λ x. ChangesAt (row_at (whole_rows rows colds)) (row_at (whole_rows new (set colds place cold))) place (Some (whole x row))) (get_or-set_same colds place cold nothing within)
        (whole-changes new (set colds place cold) (Some row) c (λ q ne. get_or-set_other colds place q cold nothing ne))

    -- what a row and its front have alike
    pub keeps : {X : Type 0} (f : Row (Record K V) → Option X) (g : Row (Front K V) → Option X) → ((cold : Cold) (row : Row (Front K V)) → f (whole cold row) ≡ g row)
        → option_and_then f (row_at (whole_rows rows colds) place) ≡ option_and_then g (row_at rows place)
    keeps f g same = reads-whole (option_and_then f) (option_and_then g) refl (same (cold_at colds place))

    pub number-whole : option_map (λ (row : Row (Record K V)). row.number) (row_at (whole_rows rows colds) place) ≡ option_map (λ (row : Row (Front K V)). row.number) (row_at rows place)
    number-whole = reads-whole (option_map (λ (row : Row (Record K V)). row.number)) (option_map (λ (row : Row (Front K V)). row.number)) refl (λ row. refl)

    pub number_at-whole : number_at (whole_rows rows colds) place ≡ number_at rows place
    number_at-whole = reads-whole (λ o. option_map_or (λ (row : Row (Record K V)). row.number) o 0) (λ o. option_map_or (λ (row : Row (Front K V)). row.number) o 0) refl (λ row. refl)

    -- the record of a front
    pub stored-whole : stored_at (whole_rows rows colds) place ≡ option_map (λ f. joined (number_at rows place) f (cold_at colds place)) (stored_at rows place)
    stored-whole = reads-whole (option_and_then (λ row. row.stored)) (λ o. option_map (λ f. joined (option_map_or (λ row. row.number) o 0) f (cold_at colds place)) (option_and_then (λ row. row.stored) o)) refl (λ row. refl)

    pub key-whole : option_map (λ r. r.key) (stored_at (whole_rows rows colds) place) ≡ option_map (λ f. f.hot.key) (stored_at rows place)
    key-whole = reads-whole (λ o. option_map (λ r. r.key) (option_and_then (λ row. row.stored) o)) (λ o. option_map (λ f. f.hot.key) (option_and_then (λ row. row.stored) o)) refl (λ row. elim row.stored as (λ o. option_map (λ r. r.key) (option_map (λ f. joined row.number f (cold_at colds place)) o) ≡ option_map (λ f. f.hot.key) o) [ None ↦ refl | Some f ↦ refl ])

    -- the membership of a front, with the weight beside it
    pub membership-whole : membership_at (whole_rows rows colds) place ≡ option_map (counted_as (cold_at colds place).counted) (membership_at rows place)
    membership-whole = reads-whole (option_and_then (λ row. row.membership)) (λ o. option_map (counted_as (cold_at colds place).counted) (option_and_then (λ row. row.membership) o)) refl (λ row. refl)

    -- a change of a row that its front makes
    pub whole-step : (new : List (Option (Row (Front K V)))) (change : Row (Front K V) → Row (Front K V)) (same : Row (Record K V) → Row (Record K V))
        → ((cold : Cold) (row : Row (Front K V)) → whole cold (change row) ≡ same (whole cold row)) → ChangesRow rows new place change
        → ChangesRow (whole_rows rows colds) (whole_rows new colds) place same
    whole-step new change same commutes c = λ w at.
        let front = whole_row w at in
        subst (λ o. ChangesAt (row_at (whole_rows rows colds)) (row_at (whole_rows new colds)) place (Some o)) (commutes (cold_at colds place) front.0 ∙ ap same (sym front.2)) (front-changes new (Some (change front.0)) (c front.0 front.1))

    module _ (cold : Cold) (own : cold ≡ cold_at colds place) (within : place < length colds) where
      -- a membership, with its weight beside it
      pub whole-member : (new : List (Option (Row (Front K V)))) (m : Membership) → ChangesRow rows new place (λ row. record row { membership = Some (counted_as 0 m) })
          → ChangesRow (whole_rows rows colds) (whole_rows new (set colds place (record cold { counted = m.counted }))) place (λ row. record row { membership = Some m })
      whole-member new m c = λ w at.
          let front = whole_row w at in
          subst (λ o. ChangesAt (row_at (whole_rows rows colds)) (row_at (whole_rows new (set colds place (record cold { counted = m.counted })))) place (Some o))
          (ap (λ (x : Cold). record (whole x front.0) { membership = Some m }) own ∙ ap (λ (r : Row (Record K V)). record r { membership = Some m }) (sym front.2))
          (both-change new (record front.0 { membership = Some (counted_as 0 m) }) (record cold { counted = m.counted }) within (c front.0 front.1))

      -- another weight
      pub whole-recounts : (weight : ℕ) → RecountsRow (whole_rows rows colds) (whole_rows rows (set colds place (record cold { counted = weight }))) place weight
      whole-recounts weight = λ w m at is.
          let front = whole_row w at in
          let there : option_map (counted_as (cold_at colds place).counted) front.0.membership ≡ Some m = sym (ap (λ (r : Row (Record K V)). r.membership) front.2) ∙ is in
          subst (λ o. ChangesAt (row_at (whole_rows rows colds)) (row_at (whole_rows rows (set colds place (record cold { counted = weight })))) place (Some o))
          (ap (λ (x : Cold). record (whole x front.0) { membership = option_map (counted_as weight) front.0.membership }) own
          ∙ ap (λ (r : Row (Record K V)). record r { membership = option_map (counted_as weight) front.0.membership }) (sym front.2)
          ∙ ap (λ o. record w { membership = o }) (sym (counted-again (cold_at colds place).counted weight front.0.membership) ∙ ap (option_map (counted_as weight)) there))
          (both-change rows front.0 (record cold { counted = weight }) within (record { changed = front.1; others = λ q ne. refl }))

module _ {K V : Type 0} (table : Table (Front K V)) (colds : List Cold) (fit most : ℕ) (b : IsBeside table colds fit most) where
  -- the rows fit
  pub few : count_by is_some table.rows ≤ fit
  few = omega (arith, count_by-le-length is_some table.rows, b.beside, b.places)

  -- a row's place has a cold part
  pub place_within : (place : ℕ) (row : Row (Front K V)) → row_at table.rows place ≡ Some row → place < length colds
  place_within place row at = omega (arith, row_at-within table.rows place row at, b.beside)

  pub row_within : (place : ℕ) → IsSome (row_at (whole_rows table.rows colds) place) → place < length colds
  row_within place h =
      let w = some_is (row_at (whole_rows table.rows colds) place) h in
      let front = whole_row table.rows colds place w.0 w.1 in
      place_within place front.0 front.1

  pub member_within : (place : ℕ) → IsSome (membership_at (whole_rows table.rows colds) place) → place < length colds
  member_within place h =
      let w = member_row (whole_rows table.rows colds) place h in
      row_within place (ap is_some w.2)

-- a row has a front
pub keeps-row : {K V : Type 0} (rows : List (Option (Row (Front K V)))) (colds : List Cold) (place : ℕ) → IsSome (row_at (whole_rows rows colds) place) → IsSome (row_at rows place)
keeps-row rows colds place h = sym (mapped_is_some (whole (cold_at colds place)) (row_at rows place)) ∙ ap is_some (sym (whole-at rows colds place)) ∙ h

-- after a call that leaves as many rows and as much room
pub beside_after : {K V : Type 0} (table new : Table (Front K V)) (colds after : List Cold) (fit most : ℕ) → IsBeside table colds fit most → length new.rows ≡ length table.rows → length after ≡ length colds
    → count_by is_some new.rows + new.room ≡ count_by is_some table.rows + table.room → IsNumbered (row_at (whole_rows new.rows after)) → IsBeside new after fit most
beside_after table new colds after fit most b rows_many colds_many room numbered = record {
  beside = rows_many ∙ b.beside ∙ sym colds_many;
  places = omega (arith, colds_many, b.places);
  rows_fit = omega (arith, room, b.rows_fit);
  colds_fit = b.colds_fit;
  numbered = numbered;
}

-- a record has a front
pub keeps-stored : {K V : Type 0} (rows : List (Option (Row (Front K V)))) (colds : List Cold) (place : ℕ) → IsSome (stored_at (whole_rows rows colds) place) → IsSome (stored_at rows place)
keeps-stored rows colds place h = sym (mapped_is_some (λ f. joined (number_at rows place) f (cold_at colds place)) (stored_at rows place)) ∙ ap is_some (sym (stored-whole rows colds place)) ∙ h

-- what is read there is the cold part there
pub cold-read : (colds : List Cold) (place : ℕ) (cold : Cold) → place < length colds → cold ≡ get_or colds place cold → cold ≡ cold_at colds place
cold-read colds place cold within read = sym (get_or_from_slice_get colds place cold nothing (slice_get_read colds (length colds) place cold refl within read))

pub counted-read : (colds : List Cold) (place : ℕ) (cold : Cold) → place < length colds → cold ≡ get_or colds place cold → cold.counted ≡ (cold_at colds place).counted
counted-read colds place cold within read = ap (λ (c : Cold). c.counted) (cold-read colds place cold within read)

pub whole-empty : {K V : Type 0} (rows : List (Option (Row (Front K V)))) (colds : List Cold) → rows ≡ [] → whole_rows rows colds ≡ []
unfolding whole_rows
whole-empty rows colds e = ap (λ l. whole_rows l colds) e

pub expiring-is : (expiring : Bool) (moment : Instant) → is_some (expiry_of expiring moment) ≡ expiring
expiring-is true moment = refl
expiring-is false moment = refl

-- a record, by its front and its cold part
pub record_parts : {K V : Type 0} (rows : List (Option (Row (Front K V)))) (colds : List Cold) (place : ℕ) (r : Record K V) → stored_at (whole_rows rows colds) place ≡ Some r
    → (row : Row (Front K V)) × (f : Front K V) × (row_at rows place ≡ Some row) × (row.stored ≡ Some f) × (r ≡ joined row.number f (cold_at colds place))
record_parts {K} {V} rows colds place r at =
    let there = stored_row rows place (keeps-stored rows colds place (ap is_some at)) in
    let whole : stored_at (whole_rows rows colds) place ≡ Some (joined there.0.number there.1 (cold_at colds place)) = ap (option_and_then (λ row. row.stored)) (row_whole rows colds place there.0 there.2) ∙ ap (option_map (λ f. joined there.0.number f (cold_at colds place))) there.3 in
    let same : Some r ≡ Some (joined there.0.number there.1 (cold_at colds place)) = sym at ∙ whole in
    (there.0, there.1, there.2, there.3, cc)

module _ {K V : Type 0} (table : Table (Front K V)) (colds : List Cold) (fit most place : ℕ) (b : IsBeside table colds fit most) where
  pub stored_within : IsSome (stored_at table.rows place) → place < length colds
  stored_within h = let there = stored_row table.rows place h in place_within table colds fit most b place there.0 there.2

  -- the record whose parts are read
  pub stored-lent : (front : Front K V) (cold : Cold) → stored_at table.rows place ≡ Some front → cold ≡ get_or colds place cold
      → stored_at (whole_rows table.rows colds) place ≡ Some (joined (number_at table.rows place) front cold)
  stored-lent front cold at read =
      let own = cold-read colds place cold (stored_within (ap is_some at)) read in
      stored-whole table.rows colds place ∙ ap (option_map (λ f. joined (number_at table.rows place) f (cold_at colds place))) at ∙ ap (λ c. Some (joined (number_at table.rows place) front c)) (sym own)

  module _ (new : Table (Front K V)) (row : Row (Front K V)) (at : row_at table.rows place ≡ Some row) (f : Front K V) (rows_is : new.rows ≡ with_stored table.rows place f) (room_is : new.room ≡ table.room) where
    -- another record in a row, by both parts
    pub stored-rows : (cold : Cold) → cold.counted ≡ (cold_at colds place).counted → whole_rows new.rows (set colds place cold) ≡ with_stored (whole_rows table.rows colds) place (joined row.number f cold)
    stored-rows cold kept =
        ap (λ l. whole_rows l (set colds place cold)) (rows_is ∙ ap (λ o. set table.rows place (option_map {T = Row (Front K V)} (λ r. record r { stored = Some f }) o)) at)
        ∙ set-whole table.rows colds place (Some (record row { stored = Some f })) cold (place_within table colds fit most b place row at)
        ∙ ap (λ n. set (whole_rows table.rows colds) place (Some (record (whole cold (record row { stored = Some f })) { membership = option_map (counted_as n) row.membership }))) kept
        ∙ ap (λ o. set (whole_rows table.rows colds) place (option_map {T = Row (Record K V)} (λ r. record r { stored = Some (joined row.number f cold) }) o)) (sym (row_whole table.rows colds place row at))

    count-new : count_by is_some new.rows ≡ count_by is_some table.rows
    count-new = ap (count_by is_some) rows_is ∙ count-with_stored table.rows place f

    pub stored-beside : (cold : Cold) → cold.counted ≡ (cold_at colds place).counted → IsBeside new (set colds place cold) fit most
    stored-beside cold kept =
        beside_after table new colds (set colds place cold) fit most b (ap length rows_is ∙ length-set table.rows place _) (length-set colds place cold) (omega (arith, count-new, room_is))
        (subst (λ l. IsNumbered (row_at l)) (sym (stored-rows cold kept)) (numbered-with_stored (whole_rows table.rows colds) place (joined row.number f cold) b.numbered))

    pub stored-table : (cold : Cold) → cold.counted ≡ (cold_at colds place).counted → table_of new (set colds place cold) fit ≡ record { rows = with_stored (whole_rows table.rows colds) place (joined row.number f cold); room = fit - count_by is_some table.rows }
    stored-table cold kept = rw (stored-rows cold kept, count-new) refl

    -- the same where the cold part stays
    colds-kept : set colds place (cold_at colds place) ≡ colds
    colds-kept = set-get_or colds place nothing

    pub front-beside : IsBeside new colds fit most
    front-beside = subst (λ l. IsBeside new l fit most) colds-kept (stored-beside (cold_at colds place) refl)

    pub front-table : table_of new colds fit ≡ record { rows = with_stored (whole_rows table.rows colds) place (joined row.number f (cold_at colds place)); room = fit - count_by is_some table.rows }
    front-table = subst (λ l. table_of new l fit ≡ record { rows = with_stored (whole_rows table.rows colds) place (joined row.number f (cold_at colds place)); room = fit - count_by is_some table.rows }) colds-kept (stored-table (cold_at colds place) refl)

module _ {K V : Type 0} (rows new : List (Option (Row (Front K V)))) (colds : List Cold) (place : ℕ) (stored : Record K V) (front : Front K V) (cold : Cold) (joined_is : joined stored.number front cold ≡ stored)
    (changes : ChangesAt (row_at rows) (row_at new) place (Some (record { number = stored.number; stored = Some front; membership = None; timer = None }))) where
  abbrev pub bare : Record K V → Row (Record K V)
  bare r = record { number = stored.number; stored = Some r; membership = None; timer = None }

  inserted-at : (after : List Cold) → cold_at after place ≡ cold → ((q : ℕ) → q ≢ place → cold_at after q ≡ cold_at colds q)
      → ChangesAt (row_at (whole_rows rows colds)) (row_at (whole_rows new after)) place (Some (bare stored))
  inserted-at after own others = subst (λ r. ChangesAt (row_at (whole_rows rows colds)) (row_at (whole_rows new after)) place (Some (bare r))) (ap (joined stored.number front) own ∙ joined_is) (whole-changes rows colds place new after _ changes others)

  -- a new record behind all
  pub inserted-last : place ≡ length colds → ChangesAt (row_at (whole_rows rows colds)) (row_at (whole_rows new (colds ++ cold ∷ []))) place (Some (bare stored))
  inserted-last last = inserted-at (colds ++ cold ∷ []) (get_or_push colds cold nothing place (sym last)) (λ q ne. get_or_past_push colds cold nothing q (λ e. ne (e ∙ sym last)))

  -- a new record at a place that there is
  pub inserted-within : place < length colds → ChangesAt (row_at (whole_rows rows colds)) (row_at (whole_rows new (set colds place cold))) place (Some (bare stored))
  inserted-within within = inserted-at (set colds place cold) (get_or-set_same colds place cold nothing within) (λ q ne. get_or-set_other colds place q cold nothing ne)

pub beside-empty : {K V : Type 0} (table : Table (Front K V)) (colds : List Cold) (most : ℕ) → table ≡ record { rows = []; room = 0 } → length colds ≡ 0 → IsBeside table colds 0 most
beside-empty table colds most table_is colds_is = rw table_is (record {
  beside = sym colds_is;
  places = omega arith;
  rows_fit = omega arith;
  colds_fit = omega arith;
  numbered = (shows-empty _ (whole-empty [] colds refl)).numbered;
})

-- ---- what each change of a record makes of its parts

module _ {K V : Type 0} (number : ℕ) (f : Front K V) where
  pub joined-updated : (update : Update V) (moment : Instant) (cold own : Cold) → expiry_of (is_some update.expires) moment ≡ update.expires → cold ≡ own
      → joined number (rewritten update f) (record { expires = moment; generation = cold.generation + 1; applied = cold.applied; weight = update.weight; counted = cold.counted }) ≡ updated update (joined number f own)
  joined-updated update moment cold own expires_is same =
      ap (λ x. record (updated update (joined number f cold)) { expires = x }) expires_is ∙ ap (λ c. updated update (joined number f c)) same

  pub joined-applied : (generation : ℕ) (cold own : Cold) → cold ≡ own → joined number f (record cold { applied = generation }) ≡ record (joined number f own) { applied = generation }
  joined-applied generation cold own same = ap (λ c. record (joined number f c) { applied = generation }) same

  module _ (read : Instant) (expires : Option Instant) (expiring : Bool) (expiring_is : expiring ≡ is_some expires) where
    pub joined-renewed : (moment : Instant) (cold own : Cold) → expiry_of (is_some expires) moment ≡ expires → cold ≡ own
        → joined number (touched read expiring f) (record cold { expires = moment }) ≡ record (joined number f own) { read = read; expires = expires }
    joined-renewed moment cold own expires_is same =
        ap (λ x. record (joined number f cold) { read = read; expires = x }) (ap (λ b. expiry_of b moment) expiring_is ∙ expires_is)
        ∙ ap (λ c. record (joined number f c) { read = read; expires = expires }) same

    pub joined-read : (own : Cold) → expires ≡ expiry_of f.expiring own.expires → joined number (touched read expiring f) own ≡ record (joined number f own) { read = read; expires = expires }
    joined-read own kept =
        ap (λ x. record (joined number f own) { read = read; expires = x }) (ap (λ b. expiry_of b own.expires) (expiring_is ∙ ap is_some kept ∙ expiring-is f.expiring own.expires) ∙ sym kept)

-- a row has the record that it has
pub with_own : {R : Type 0} (rows : List (Option (Row R))) (place : ℕ) (row : Row R) (stored : R) → row_at rows place ≡ Some row → row.stored ≡ Some stored → rows ≡ with_stored rows place stored
with_own {R} rows place row stored at is =
    sym (set-get_or rows place None)
    ∙ ap (set rows place) (at ∙ ap (λ s. Some (record row { stored = s })) is ∙ ap (option_map {T = Row R} (λ r. record r { stored = Some stored })) (sym at))

module _ {R : Type 0} (rows : List (Option (Row R))) (place number : ℕ) where
  -- what a look-up under a number finds
  pub found-at : (own : ℕ) (stored : R) → own ≡ number_at rows place → Some stored ≡ stored_at rows place → own ≡ number → find_at rows place number ≡ Some stored
  found-at own stored number_is stored_is same =
      let there = stored_row rows place (sym (ap is_some stored_is)) in
      let numbered : there.0.number ≡ number = sym (ap (λ o. option_map_or (λ (row : Row R). row.number) o 0) there.2) ∙ sym number_is ∙ same in
      ap (option_and_then (stored_if number)) there.2 ∙ cond-true (there.0.number == number) there.0.stored None (eq-eqb there.0.number number numbered) ∙ sym (ap (option_and_then (λ row. row.stored)) there.2) ∙ sym stored_is

  -- it finds nothing in a row of another number
  pub found-other : (own : ℕ) (stored : R) → own ≡ number_at rows place → Some stored ≡ stored_at rows place → own ≢ number → find_at rows place number ≡ None
  found-other own stored number_is stored_is other =
      let there = stored_row rows place (sym (ap is_some stored_is)) in
      let numbered : there.0.number ≡ own = sym (ap (λ o. option_map_or (λ (row : Row R). row.number) o 0) there.2) ∙ sym number_is in
      ap (option_and_then (stored_if number)) there.2 ∙ cond-false (there.0.number == number) there.0.stored None (ne_eqb there.0.number number (λ e. other (sym numbered ∙ e)))

  -- nor where no record is
  pub found-none : stored_at rows place ≡ None → find_at rows place number ≡ None
  found-none none = elim (option-cases (row_at rows place)) as (λ _. find_at rows place number ≡ None) [
    | inl vacant ↦ ap (option_and_then (stored_if number)) vacant
    | inr found ↦ (let bare : found.0.stored ≡ None = sym (ap (option_and_then (λ row. row.stored)) found.1) ∙ none in ap (option_and_then (stored_if number)) found.1 ∙ ap (λ s. cond (found.0.number == number) s None) bare ∙ cond-same (found.0.number == number))
  ]

-- a table with the same record
pub same-table : {K V : Type 0} (rows : List (Option (Row (Record K V)))) (place room : ℕ) (a b : Record K V) → a ≡ b
    → ◌≡◌ {A = Table (Record K V)} (record { rows = with_stored rows place a; room = room }) (record { rows = with_stored rows place b; room = room })
same-table {K} {V} rows place room a b e = subst (λ x. ◌≡◌ {A = Table (Record K V)} (record { rows = with_stored rows place a; room = room }) (record { rows = with_stored rows place x; room = room })) e refl
