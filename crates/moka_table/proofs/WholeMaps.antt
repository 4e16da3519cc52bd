-- What the maps of a table are after a change of one row by its parts.
use Rattle.std.proofs.Common.{◌≡◌, ℕ, ◌<◌, List, [], ◌∷◌, ◌++◌, length, get_or, set, Option, Some, None, IsSome, refl}
use Rattle.std.specs.FinMap.{get, insert, remove}
use Rattle.moka_records.specs.RecordParts.{joined}
use Rattle.moka_records.specs.declared.record_ref.Cold.{Cold}
use Rattle.moka_records.specs.declared.record_ref.Front.{Front}
use Rattle.moka_records.specs.declared.records.Record.{Record}
use Rattle.moka_table.specs.declared.table.membership.Membership.{Membership}
use Rattle.moka_table.specs.RecordTable.{Row, Table, IsNumbered, ChangesAt, row_at, number_at, stored_at, membership_at, records_of, counts_of, places_of, ChangesRow}
use Rattle.moka_table.specs.Rows.{IsBeside, whole_rows}
use Rattle.moka_table.specs.Slots.{counted_as}
use Rattle.moka_table.proofs.TableMaps.{some_is}
use Rattle.moka_table.proofs.TableCalls.{Shows, shows-inserted, shows-taken, shows-counted, shows-uncounted, shows-timed, stored_row, member_row}
use Rattle.moka_table.proofs.ColdRows.{whole-step, whole-member, whole-recounts, none_whole, row_within, member_within, cold-read, inserted-last, inserted-within}

module _ {K V : Type 0} (rows new : List (Option (Row (Front K V)))) (colds : List Cold) (place : ℕ) (d : IsNumbered (row_at (whole_rows rows colds))) where
  -- the record leaves
  pub whole-taken : IsSome (stored_at (whole_rows rows colds) place) → ChangesRow rows new place (λ row. record row { stored = None })
      → Shows (whole_rows new colds) (remove (records_of (whole_rows rows colds)) (number_at (whole_rows rows colds) place)) (counts_of (whole_rows rows colds)) (places_of (whole_rows rows colds))
  whole-taken there c =
      let w = stored_row (whole_rows rows colds) place there in
      let step = whole-step rows colds place new (λ row. record row { stored = None }) (λ row. record row { stored = None }) (λ cold row. refl) c in
      rw w.2 (shows-taken (whole_rows rows colds) (whole_rows new colds) place d w.0 w.2 (step w.0 w.2))

  -- no membership
  pub whole-uncounted : IsSome (row_at (whole_rows rows colds) place) → ChangesRow rows new place (λ row. record row { membership = None })
      → Shows (whole_rows new colds) (records_of (whole_rows rows colds)) (remove (counts_of (whole_rows rows colds)) (number_at (whole_rows rows colds) place)) (places_of (whole_rows rows colds))
  whole-uncounted there c =
      let w = some_is (row_at (whole_rows rows colds) place) there in
      let step = whole-step rows colds place new (λ row. record row { membership = None }) (λ row. record row { membership = None }) (λ cold row. refl) c in
      rw w.1 (shows-uncounted (whole_rows rows colds) (whole_rows new colds) place d w.0 w.1 (step w.0 w.1))

  -- another timer
  pub whole-timed : (timer : Option ℕ) → IsSome (row_at (whole_rows rows colds) place) → ChangesRow rows new place (λ row. record row { timer = timer })
      → Shows (whole_rows new colds) (records_of (whole_rows rows colds)) (counts_of (whole_rows rows colds)) (places_of (whole_rows rows colds))
  whole-timed timer there c =
      let w = some_is (row_at (whole_rows rows colds) place) there in
      let step = whole-step rows colds place new (λ row. record row { timer = timer }) (λ row. record row { timer = timer }) (λ cold row. refl) c in
      shows-timed (whole_rows rows colds) (whole_rows new colds) place d w.0 w.1 timer (step w.0 w.1)

module _ {K V : Type 0} (table : Table (Front K V)) (colds : List Cold) (fit most place : ℕ) (b : IsBeside table colds fit most) (cold : Cold) (read : cold ≡ get_or colds place cold) where
  -- a membership, with its weight
  pub whole-counted : (new : List (Option (Row (Front K V)))) (m : Membership) → IsSome (row_at (whole_rows table.rows colds) place) → ChangesRow table.rows new place (λ row. record row { membership = Some (counted_as 0 m) })
      → Shows (whole_rows new (set colds place (record cold { counted = m.counted }))) (records_of (whole_rows table.rows colds)) (insert (counts_of (whole_rows table.rows colds)) (number_at (whole_rows table.rows colds) place) m.counted) (places_of (whole_rows table.rows colds))
  whole-counted new m there c =
      let w = some_is (row_at (whole_rows table.rows colds) place) there in
      let within = row_within table colds fit most b place there in
      let step = whole-member table.rows colds place cold (cold-read colds place cold within read) within new m c in
      rw w.1 (shows-counted (whole_rows table.rows colds) (whole_rows new (set colds place (record cold { counted = m.counted }))) place b.numbered w.0 w.1 m (step w.0 w.1))

  -- another weight of a member
  pub whole-recounted : (weight : ℕ) → IsSome (membership_at (whole_rows table.rows colds) place)
      → Shows (whole_rows table.rows (set colds place (record cold { counted = weight }))) (records_of (whole_rows table.rows colds)) (insert (counts_of (whole_rows table.rows colds)) (number_at (whole_rows table.rows colds) place) weight) (places_of (whole_rows table.rows colds))
  whole-recounted weight there =
      let w = member_row (whole_rows table.rows colds) place there in
      let within = member_within table colds fit most b place there in
      let step = whole-recounts table.rows colds place cold (cold-read colds place cold within read) within weight in
      rw w.2 (shows-counted (whole_rows table.rows colds) (whole_rows table.rows (set colds place (record cold { counted = weight }))) place b.numbered w.0 w.2 (record w.1 { counted = weight }) (step w.0 w.1 w.2 w.3))

module _ {K V : Type 0} (table : Table (Front K V)) (colds : List Cold) (fit most : ℕ) (b : IsBeside table colds fit most) (new : List (Option (Row (Front K V)))) (place : ℕ) (stored : Record K V) (front : Front K V) (cold : Cold) (joined_is : joined stored.number front cold ≡ stored)
    (changes : ChangesAt (row_at table.rows) (row_at new) place (Some (record { number = stored.number; stored = Some front; membership = None; timer = None }))) (vacant : row_at table.rows place ≡ None) (fresh : get (places_of (whole_rows table.rows colds)) stored.number ≡ None) where
  -- a new record behind all
  pub whole-inserted_last : place ≡ length colds
      → Shows (whole_rows new (colds ++ cold ∷ [])) (insert (records_of (whole_rows table.rows colds)) stored.number stored) (counts_of (whole_rows table.rows colds)) (insert (places_of (whole_rows table.rows colds)) stored.number place)
  whole-inserted_last last = shows-inserted _ _ place b.numbered _ stored (none_whole table.rows colds place vacant) fresh (inserted-last table.rows new colds place stored front cold joined_is changes last)

  -- a new record at a place that there is
  pub whole-inserted_within : place < length colds
      → Shows (whole_rows new (set colds place cold)) (insert (records_of (whole_rows table.rows colds)) stored.number stored) (counts_of (whole_rows table.rows colds)) (insert (places_of (whole_rows table.rows colds)) stored.number place)
  whole-inserted_within within = shows-inserted _ _ place b.numbered _ stored (none_whole table.rows colds place vacant) fresh (inserted-within table.rows new colds place stored front cold joined_is changes within)
