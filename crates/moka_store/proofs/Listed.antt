-- The keys of the records in the rows before a place, in some order.
use Rattle.std.proofs.Common.{◌≡◌, ℕ, suc, ◌+◌, ◌≤◌, List, [], ◌∷◌, ◌++◌, map, length, Option, Some, None, refl, sym, ap, subst, ◌∙◌, arith}
use Rattle.std.proofs.lemmas.List.{get_or_past}
use Rattle.std.proofs.lemmas.List.Sorted.{IsPermutation-sym, IsPermutation-cons, IsPermutation-trans, IsPermutation-map, IsPermutation-to_front}
use Rattle.std.specs.Prelude.{IsPermutation}
use Rattle.std.specs.FinMap.{values, insert}
use Rattle.std.specs.Option.{option_map, option_and_then}
use Rattle.moka_table.specs.RecordTable.{Row, row_at, stored_at, answer_at, records_of, IsNumbered}
use Rattle.moka_links.specs.EntryMap.{put_entry, upto}
use Rattle.moka_links.proofs.EntryMaps.{upto-fresh, upto-past}
use Rattle.moka_table.proofs.TableMaps.{answer-of, answers-apart}
use Rattle.moka_table.proofs.TableCalls.{stored_row}
use Rattle.moka_records.proofs.Values.{values_inserted, values-empty}
use Rattle.moka_records.specs.declared.records.Record.{Record}

-- the record in a row, at whatever place
abbrev record_in : {R : Type 0} → ℕ → Row R → Option R
record_in _ row = row.stored

no-answer : {R : Type 0} (o : Option (Row R)) → option_and_then (λ row. row.stored) o ≡ None → option_and_then {U = ℕ × R} (λ (row : Row R). option_map (λ (r : R). (row.number, r)) row.stored) o ≡ None
no-answer None none = refl
no-answer {R} (Some row) none = ap (option_map (λ (r : R). (row.number, r))) none

module _ {K V : Type 0} (rows : List (Option (Row (Record K V)))) where
  -- the keys of the records before this place
  abbrev pub keys_before : ℕ → List K
  keys_before place = map (λ r. r.key) (values (upto (answer_at record_in rows) place))

  -- no place is before the first
  pub listed-first : keys_before 0 ≡ []
  listed-first = ap (map (λ (r : Record K V). r.key)) values-empty

  -- a place without a record
  pub listed-none : (place : ℕ) → stored_at rows place ≡ None → keys_before (place + 1) ≡ keys_before place
  listed-none place none =
      let next : place + 1 ≡ suc place = omega arith in
      ap keys_before next ∙ ap (λ o. map (λ (r : Record K V). r.key) (values (put_entry o (upto (answer_at record_in rows) place)))) (no-answer (row_at rows place) none)

  -- the key of the record at a place comes last
  pub listed-some : IsNumbered (row_at rows) → (place : ℕ) (r : Record K V) (keys : List K) → stored_at rows place ≡ Some r → IsPermutation (keys_before place) keys → IsPermutation (keys_before (place + 1)) (keys ++ r.key ∷ [])
  listed-some d place r keys there listed =
      let before = upto (answer_at record_in rows) place in
      let w = stored_row rows place (rw there refl) in
      let one : Some w.1 ≡ Some r = sym (ap (option_and_then (λ (row : Row (Record K V)). row.stored)) w.2 ∙ w.3) ∙ there in
      let answer = answer-of record_in rows place w.0 r w.2 (w.3 ∙ one) in
      let fresh = upto-fresh (answer_at record_in rows) (answers-apart record_in rows d) place place (w.0.number, r) (omega arith) answer in
      let step : upto (answer_at record_in rows) (suc place) ≡ insert before w.0.number r = ap (λ o. put_entry o before) answer in
      let next : place + 1 ≡ suc place = omega arith in
      let more : IsPermutation (r.key ∷ keys_before place) (keys_before (place + 1)) =
      subst (λ m. IsPermutation (r.key ∷ keys_before place) (map (λ (r : Record K V). r.key) (values m))) (sym (ap (upto (answer_at record_in rows)) next ∙ step))
      (IsPermutation-map (λ (r : Record K V). r.key) (r ∷ values before) (values (insert before w.0.number r)) (values_inserted before w.0.number r fresh)) in
      IsPermutation-trans (keys_before (place + 1)) (r.key ∷ keys_before place) (keys ++ r.key ∷ []) (IsPermutation-sym (r.key ∷ keys_before place) (keys_before (place + 1)) more)
      (IsPermutation-trans (r.key ∷ keys_before place) (r.key ∷ keys) (keys ++ r.key ∷ []) (IsPermutation-cons r.key (keys_before place) keys listed)
      (IsPermutation-sym (keys ++ r.key ∷ []) (r.key ∷ keys) (IsPermutation-to_front keys r.key)))

  -- no row is past the last
  pub listed-all : (place : ℕ) → length rows ≤ place → keys_before place ≡ map (λ r. r.key) (values (records_of rows))
  unfolding records_of
  listed-all place past = ap (λ m. map (λ (r : Record K V). r.key) (values m)) (upto-past (answer_at record_in rows) place (length rows) past (λ p beyond _. ap (option_and_then (λ (row : Row (Record K V)). option_map (λ (r : Record K V). (row.number, r)) row.stored)) (get_or_past rows p None beyond)))
