-- What a change of one entry makes of the rows.
use Rattle.std.proofs.Common.{◌≡◌, ◌≢◌, ℕ, ◌<◌, List, [], ◌∷◌, ◌++◌, map, length, get_or, set, Option, Bor, option_copied, Some, None, is_some, count_by, slice_get, sym, ap, ◌∙◌, arith}
use Rattle.std.proofs.lemmas.List.{map-set, map_push, length-map, length-set, get_or-map, get_or-set_same, get_or-set_other, get_or_past, get_or_push}
use Rattle.std.proofs.lemmas.Option.{slice_get_within, get_or_from_slice_get}
use Rattle.std.specs.Option.{option_and_then}
use Rattle.std.specs.Slice.{IsItemAt}
use Rattle.slab.specs.declared.Entry.{Entry}
use Rattle.slab.specs.declared.Entry.TheVariants.{Vacant, Occupied}
use Rattle.slab.specs.Entry.{value_of, IsSound}
use Rattle.slab.proofs.EntryLemmas.{occupied_at, count-set, vacant_before_end, IsSound-rewrite}
use Rattle.moka_table.specs.RecordTable.{Row, row_at, ChangesAt}
use Rattle.moka_table.proofs.TableMaps.{get_or_past_push}

module _ {R : Type 0} (es : List (Entry (Row R))) (place : ℕ) where
  -- a row is an occupied entry
  pub row_there : (row : Row R) → row_at (map value_of es) place ≡ Some row → slice_get es place ≡ Some (Occupied row)
  row_there row at =
      let found = occupied_at es place (ap is_some at) in
      let within = slice_get_within es place _ found.1 in
      let read : row_at (map value_of es) place ≡ Some found.0 = get_or-map value_of es place (Occupied found.0) None within ∙ ap value_of (get_or_from_slice_get es place _ _ found.1) in
      let same : row ≡ found.0 = cc in
      found.1 ∙ ap (λ r. Some (Occupied r)) (sym same)

  -- so the place is one of the list's
  pub row_within : (row : Row R) → row_at (map value_of es) place ≡ Some row → place < length es
  row_within row at = slice_get_within es place _ (row_there row at)

  -- which a read of that place gives
  pub read_there : (row : Row R) (e : Entry (Row R)) → row_at (map value_of es) place ≡ Some row → e ≡ get_or es place e → e ≡ Occupied row
  read_there row e at read = read ∙ get_or_from_slice_get es place _ e (row_there row at)

  -- what a look at the place lends is the row there
  pub row_lent : (found : Option (Bor (Entry (Row R)))) → IsItemAt es place found → option_and_then value_of (option_copied found) ≡ row_at (map value_of es) place
  row_lent None found = sym (get_or_past (map value_of es) place None (omega (arith, length-map es value_of, found.3)))
  row_lent (Some e) found = sym (get_or-map value_of es place e.now None found.3.0 ∙ ap value_of (sym found.1))

  -- a write of one entry changes the row there
  pub set-changes : (e : Entry (Row R)) → place < length es → ChangesAt (row_at (map value_of es)) (row_at (map value_of (set es place e))) place (value_of e)
  set-changes e within = record {
    changed = rw (map-set value_of es place e) (get_or-set_same (map value_of es) place (value_of e) None (omega (arith, length-map es value_of)));
    others = λ other differs. rw (map-set value_of es place e) (get_or-set_other (map value_of es) place other (value_of e) None differs);
  }

  -- one more entry is one more row
  pub push-changes : (e : Entry (Row R)) → place ≡ length es → ChangesAt (row_at (map value_of es)) (row_at (map value_of (es ++ e ∷ []))) place (value_of e)
  push-changes e last = record {
    changed = rw (map_push value_of es e) (get_or_push (map value_of es) (value_of e) None place (omega (arith, length-map es value_of)));
    others = λ other differs. rw (map_push value_of es e) (get_or_past_push (map value_of es) (value_of e) None other (λ same. differs (omega (arith, length-map es value_of))));
  }

-- a write of one entry leaves as many rows
pub length-rows : {R : Type 0} (es : List (Entry (Row R))) (place : ℕ) (e : Entry (Row R)) → length (map value_of (set es place e)) ≡ length (map value_of es)
length-rows es place e = length-map (set es place e) value_of ∙ length-set es place e ∙ sym (length-map es value_of)

-- the first vacant place names the next
pub read_next : {R : Type 0} (es : List (Entry (Row R))) (len next : ℕ) (e : Entry (Row R)) → IsSound es len next → next ≢ length es → e ≡ get_or es next e → (after : ℕ) × (e ≡ Vacant after) × (slice_get es next ≡ Some (Vacant after))
read_next es len next e sound before read =
    let found = vacant_before_end es len next sound before in
    (found.0, read ∙ get_or_from_slice_get es next _ e found.1, found.1)

-- the entry at a place, which has a row, gets another row
pub record Rewritten {R : Type 0} (es : List (Entry (Row R))) (len next place : ℕ) (new : Entry (Row R)) (row : Row R) : Type 0 where
  pub sound : IsSound (set es place new) len next
  pub length : length (map value_of (set es place new)) ≡ length (map value_of es)
  pub rows : map value_of (set es place new) ≡ set (map value_of es) place (Some row)
  pub changes : ChangesAt (row_at (map value_of es)) (row_at (map value_of (set es place new))) place (Some row)
  pub count : count_by is_some (map value_of (set es place new)) ≡ count_by is_some (map value_of es)

pub rewritten : {R : Type 0} (es : List (Entry (Row R))) (len next place : ℕ) (e new : Entry (Row R)) (was row : Row R) → IsSound es len next → row_at (map value_of es) place ≡ Some was → e ≡ get_or es place e → (e ≡ Occupied was → new ≡ Occupied row) → Rewritten es len next place new row
rewritten es len next place e new was row sound at read write =
    let found = row_there es place was at in
    rw (write (read_there es place was e at read)) (record {
      sound = IsSound-rewrite es len next place was row sound found;
      length = length-rows es place (Occupied row);
      rows = map-set value_of es place (Occupied row);
      changes = set-changes es place (Occupied row) (row_within es place was at);
      count = omega (arith, count-set es place (Occupied was) (Occupied row) found);
    })
