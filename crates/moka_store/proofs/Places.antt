-- Each record and each member has a row, and rows have narrow places.
use Rattle.std.proofs.Common.{◌≡◌, ◌+◌, ◌-◌, min, ◌<◌, ◌≤◌, ◌^◌, ℕ, ◌==◌, count_by, nat_le, Bool, true, false, cond, List, [], ◌∷◌, map, Option, Some, None, IfSome, IsSome, is_some, inl, inr, refl, sym, ap, ◌∙◌, Contains, arith}
use Rattle.std.proofs.lemmas.Bool.{cases_Bool, cond-true, cond-false, leb-true, le-leb}
use Rattle.std.proofs.lemmas.List.Elements.{Contains-append_right}
use Rattle.std.specs.FinMap.{get}
use Rattle.moka_table.specs.RecordTable.{Row, row_at, stored_at, records_of, places_of}
use Rattle.moka_table.proofs.TableCalls.{record_row, placed_row, get-places, get-records}
use Rattle.moka_records.specs.declared.records.Record.{Record}
use Rattle.moka_records.specs.declared.records.Member.{Member}
use Rattle.moka_records.specs.Records.{counted_of}
use Rattle.moka_records.proofs.Maps.{same_by_test}
use Rattle.moka_store.specs.Rows.{member_at, row_room}
use Rattle.moka_store.specs.StoreTies.{KeyIndex, IsTied}
use Rattle.moka_table.proofs.TableMaps.{some_is, read-of}
use Rattle.moka_store.proofs.Nodes.{in-nodes}
use Rattle.moka_store.proofs.Steps.{node-member}

-- what is counted is counted for a node
counted-node : {M : Type 0} (g : M → Member) (n w : ℕ) (nodes : List M) → counted_of n (map g nodes) ≡ Some w → (m : M) × Contains nodes m × ((g m).number ≡ n)
counted-node g n w [] h = cc
counted-node {M} g n w (m ∷ nodes) h =
    elim ((g m).number == n) as (λ b. (g m).number == n ≡ b → cond b (Some (g m).counted) (counted_of n (map g nodes)) ≡ Some w → (x : M) × Contains (m ∷ nodes) x × ((g x).number ≡ n)) [
      | true ↦ λ same _. (m, (0, omega arith, refl), same_by_test (g m).number n same)
      | false ↦ λ _ there. (let r = counted-node g n w nodes there in (r.0, Contains-append_right (m ∷ []) nodes r.0 r.1, r.2))
    ] refl h

module _ {K V : Type 0} (eq : K → K → Bool) (rows : List (Option (Row (Record K V)))) (index : KeyIndex K) (nodes : List (ℕ × ℕ)) (t : IsTied eq rows index nodes) where
  pub record-placed : (n : ℕ) → IsSome (get (records_of rows) n) → IsSome (get (places_of rows) n)
  record-placed n h =
      let r = some_is (get (records_of rows) n) h in
      let w = record_row rows t.numbered n r.0 r.1 in
      ap is_some (ap (get (places_of rows)) (sym w.3) ∙ get-places rows t.numbered w.0 w.1 w.2)

  pub member-placed : (n : ℕ) → IsSome (counted_of n (map (member_at rows) nodes)) → IsSome (get (places_of rows) n)
  member-placed n h =
      let c = some_is (counted_of n (map (member_at rows) nodes)) h in
      let m = counted-node (member_at rows) n c.0 nodes c.1 in
      let w = node-member eq rows index nodes t m.0.0 m.0.1 (in-nodes nodes m.0 t.listed.distinct m.1) in
      let number : w.row.number ≡ n = sym (ap (λ (x : Member). x.number) w.member_is) ∙ m.2 in
      ap is_some (ap (get (places_of rows)) (sym number) ∙ w.place_is)

  -- the row of another number is not at the place
  pub other-row : (place number : ℕ) (row : Row (Record K V)) → row_at rows place ≡ Some row → get (places_of rows) number ≡ Some place → row.number ≡ number
  other-row place number row at_is there =
      let w = placed_row rows t.numbered place number there in
      let same : w.0 ≡ row = (let e = sym w.1 ∙ at_is in cc) in
      sym (ap (λ (r : Row (Record K V)). r.number) same) ∙ w.2

  -- the record at a place is the one of its own number
  pub stored-own : (place : ℕ) (o : Option (Record K V)) → o ≡ stored_at rows place → IfSome o (λ r. get (records_of rows) r.number ≡ Some r)
  stored-own place None e = tt
  stored-own place (Some b) e =
      let w = read-of (λ (row : Row (Record K V)). row.stored) (row_at rows place) b (sym e) in
      ap (get (records_of rows)) (t.named.same place w.0 b w.1 w.2) ∙ get-records rows t.numbered place w.0 w.1 ∙ w.2

-- where there is room for a row, all places that fit with no memory have 32 bits
pub room-narrow : {R : Type 0} (rows : List (Option (Row R))) (room : ℕ) → 0 < row_room rows room → count_by is_some rows + room ≤ 2 ^ 32
room-narrow rows room some = elim (cases_Bool (nat_le (count_by is_some rows + room) (2 ^ 32))) as (λ _. count_by is_some rows + room ≤ 2 ^ 32) [
  | inl fits ↦ leb-true _ _ fits
  | inr past ↦ (let none : row_room rows room ≡ 0 = cond-false (nat_le (count_by is_some rows + room) (2 ^ 32)) room 0 past in absurd (omega arith))
]

less-each : (a b most n : ℕ) → 0 < min (a + 1) (min (b + 1) (most - n)) → min (a + 1) (min (b + 1) (most - n)) ≡ min a (min b (most - (n + 1))) + 1
less-each a b most n some = omega arith

-- a new row takes one place of each part
pub room-less : {R : Type 0} (rows rows' : List (Option (Row R))) (spare spare' room room' most : ℕ) → 0 < min spare (min (row_room rows room) (most - count_by is_some rows)) → spare ≡ spare' + 1 → room ≡ room' + 1 → count_by is_some rows' ≡ count_by is_some rows + 1 → min spare (min (row_room rows room) (most - count_by is_some rows)) ≡ min spare' (min (row_room rows' room') (most - count_by is_some rows')) + 1
room-less rows rows' spare spare' room room' most some spared roomed longer =
    let fits = le-leb (count_by is_some rows + room) (2 ^ 32) (room-narrow rows room (omega (arith, some))) in
    let all : count_by is_some rows' + room' ≡ count_by is_some rows + room = omega (arith, roomed, longer) in
    let before : row_room rows room ≡ room' + 1 = cond-true (nat_le (count_by is_some rows + room) (2 ^ 32)) room 0 fits ∙ roomed in
    let after : row_room rows' room' ≡ room' = cond-true (nat_le (count_by is_some rows' + room') (2 ^ 32)) room' 0 (ap (λ n. nat_le n (2 ^ 32)) all ∙ fits) in
    rw (spared, before, after, longer) (less-each spare' room' most (count_by is_some rows) (rw (spared, before) at some))
