-- What the calls of a `Store` use of its invariant.
use Rattle.std.proofs.Common.{◌≡◌, ◌≢◌, ℕ, ◌==◌, Bool, false, List, map, Option, Some, None, is_some, inl, inr, refl, sym, ap, ◌∙◌, nat_eq, Contains}
use Rattle.std.proofs.lemmas.Bool.{cases_eq, ne_eqb}
use Rattle.std.specs.FinMap.{get}
use Rattle.std.specs.Map.{lookup, remove_entry}
use Rattle.std.specs.Option.{option_map, option_and_then, option_map_or}
use Rattle.moka_records.proofs.Options.{none_by_test, mapped_is_some}
use Rattle.moka_table.proofs.TableCalls.{get-places}
use Rattle.moka_links.proofs.FinMaps.{option-cases}
use Rattle.moka_table.specs.declared.table.membership.Membership.{Membership}
use Rattle.moka_table.specs.RecordTable.{Row, row_at, number_at, ChangesAt, places_of}
use Rattle.moka_structures.specs.OrderList.{next_after}
use Rattle.moka_store.proofs.Nodes.{map-agree, counted-none, counted-found, behind-found, rest-found}
use Rattle.moka_store.proofs.Slots.{slot-row, node-of, no-node, one-node}
use Rattle.moka_store.specs.Store.{member_after}
use Rattle.moka_store.specs.Rows.{access_in, member_in, member_at}
use Rattle.moka_store.specs.StoreTies.{KeyIndex, IsNamed, IsTied}
use Rattle.moka_records.specs.declared.records.Record.{Record}
use Rattle.moka_records.specs.Records.{counted_of, without_member}

-- ---- what is read of a row, before and after a change

module _ {R : Type 0} (old new : ℕ → Option (Row R)) (place : ℕ) (o : Option (Row R)) (c : ChangesAt old new place o) where
  -- where it stays at the place, it stays everywhere
  pub reads-same : {X : Type 0} (f : Option (Row R) → X) → f o ≡ f (old place) → (p : ℕ) → f (new p) ≡ f (old p)
  reads-same f e p = elim (cases_eq p place) as (λ _. f (new p) ≡ f (old p)) [
    | inl q ↦ ap (λ p. f (new p)) q ∙ ap f c.changed ∙ e ∙ ap (λ p. f (old p)) (sym q)
    | inr ne ↦ ap f (c.others p ne)
  ]

module _ {R X : Type 0} (g : Row R → Option X) (old new : ℕ → Option (Row R)) (place : ℕ) where
  -- at every other place it stays
  pub read-other : (o : Option (Row R)) → ChangesAt old new place o → (p : ℕ) → p ≢ place → option_and_then g (new p) ≡ option_and_then g (old p)
  read-other o c p ne = ap (option_and_then g) (c.others p ne)

  pub read-same : (o : Option (Row R)) → ChangesAt old new place o → option_and_then g o ≡ option_and_then g (old place) → (p : ℕ) → option_and_then g (new p) ≡ option_and_then g (old p)
  read-same o c = reads-same old new place o c (option_and_then g)

module _ {K V : Type 0} (old new : ℕ → Option (Row (Record K V))) (place : ℕ) (n : IsNamed old) where
  -- the record there, if there is one, has the row's number
  pub named-changed : (o : Option (Row (Record K V))) → ChangesAt old new place o → ((r : Record K V) → option_and_then (λ (row : Row (Record K V)). row.stored) o ≡ Some r → r.number ≡ option_map_or (λ (row : Row (Record K V)). row.number) o 0) → IsNamed new
  named-changed o c own = record {
    same = λ p row r e s. elim (cases_eq p place) as (λ _. r.number ≡ row.number) [
      | inl q ↦ (let is : o ≡ Some row = sym c.changed ∙ ap new (sym q) ∙ e in own r (ap (option_and_then (λ (row : Row (Record K V)). row.stored)) is ∙ s) ∙ ap (λ o. option_map_or (λ (row : Row (Record K V)). row.number) o 0) is)
      | inr ne ↦ n.same p row r (sym (c.others p ne) ∙ e) s
    ];
  }

-- ---- members

module _ {K V : Type 0} (rows new : List (Option (Row (Record K V)))) (place : ℕ) (o : Option (Row (Record K V))) (c : ChangesAt (row_at rows) (row_at new) place o) (nodes : List (ℕ × ℕ)) where
  -- a row that stands for the same member
  pub access-kept : option_map_or member_in o (record { number = 0; counted = 0 }) ≡ option_map_or member_in (row_at rows place) (record { number = 0; counted = 0 }) → map (member_at new) nodes ≡ map (member_at rows) nodes
  access-kept e = map-agree (member_at new) (member_at rows) nodes (λ m _. reads-same (row_at rows) (row_at new) place o c (λ o. option_map_or member_in o (record { number = 0; counted = 0 })) e m.1)

  -- no node leads to the row
  pub access-off : ((m : ℕ × ℕ) → Contains nodes m → m.1 ≢ place) → map (member_at new) nodes ≡ map (member_at rows) nodes
  access-off off = map-agree (member_at new) (member_at rows) nodes (λ m h. ap (λ o. option_map_or member_in o (record { number = 0; counted = 0 })) (c.others m.1 (off m h)))

-- a node's member has the number of its row
pub member-number : {K V : Type 0} (rows : List (Option (Row (Record K V)))) (m : ℕ × ℕ) → (member_at rows m).number ≡ number_at rows m.1
member-number rows m = elim (row_at rows m.1) as (λ o. (option_map_or member_in o (record { number = 0; counted = 0 })).number ≡ option_map_or (λ (row : Row (Record _ _)). row.number) o 0) [ None ↦ refl | Some row ↦ refl ]

module _ {K V : Type 0} (eq : K → K → Bool) (rows : List (Option (Row (Record K V)))) (index : KeyIndex K) (nodes : List (ℕ × ℕ)) (t : IsTied eq rows index nodes) where
  -- a number without a row is not counted
  pub counted-unplaced : (number : ℕ) → get (places_of rows) number ≡ None → counted_of number (map (member_at rows) nodes) ≡ None
  counted-unplaced number h = counted-none (member_at rows) number nodes (λ m c.
      let w = slot-row access_in rows nodes t.listed m c in
      let its : (member_at rows m).number ≡ w.row.number = ap (λ o. (option_map_or member_in o (record { number = 0; counted = 0 })).number) w.at_is in
      ne_eqb (member_at rows m).number number (λ e. (let there = get-places rows t.numbered m.1 w.row w.at_is in cc)))

  module _ (place : ℕ) (row : Row (Record K V)) (at_is : row_at rows place ≡ Some row) where
    test-none : row.membership ≡ None → (m : ℕ × ℕ) → Contains nodes m → ((member_at rows m).number == row.number) ≡ false
    test-none none m h = ap (λ n. n == row.number) (member-number rows m) ∙ no-node access_in rows nodes t.listed place row at_is t.numbered (ap (option_map (λ (m : Membership). m.access)) none) m h

    test-same : (m : Membership) → row.membership ≡ Some m → (k : ℕ × ℕ) → Contains nodes k → ((member_at rows k).number == row.number) ≡ nat_eq m.access k.0
    test-same m is k h = ap (λ n. n == row.number) (member-number rows k) ∙ one-node access_in rows nodes t.listed place row at_is t.numbered m.access (ap (option_map (λ (m : Membership). m.access)) is) k h

    -- the node of a member is in its slot
    pub access-of : (m : Membership) → row.membership ≡ Some m → lookup (nat_eq m.access) nodes ≡ Some place
    access-of m is = node-of access_in rows nodes t.listed place row at_is m.access (ap (option_map (λ (m : Membership). m.access)) is)

    member-is : (slot : ℕ) → member_at rows (slot, place) ≡ member_in row
    member-is slot = ap (λ o. option_map_or member_in o (record { number = 0; counted = 0 })) at_is

    -- what is counted for the row's number is what the row says
    pub counted-row : counted_of row.number (map (member_at rows) nodes) ≡ option_map (λ (m : Membership). m.counted) row.membership
    counted-row = elim (option-cases row.membership) as (λ _. counted_of row.number (map (member_at rows) nodes) ≡ option_map (λ (m : Membership). m.counted) row.membership) [
      | inl none ↦ counted-none (member_at rows) row.number nodes (test-none none) ∙ sym (ap (option_map (λ (m : Membership). m.counted)) none)
      | inr m ↦
          counted-found (member_at rows) row.number m.0.access nodes place (test-same m.0 m.1) (access-of m.0 m.1)
          ∙ ap (λ a. Some a.counted) (member-is m.0.access)
          ∙ ap (λ o. Some (option_map_or (λ (m : Membership). m.counted) o 0)) m.1
          ∙ sym (ap (option_map (λ (m : Membership). m.counted)) m.1)
    ]

    -- the list without the row's number
    pub without-row : (m : Membership) → row.membership ≡ Some m → without_member row.number (map (member_at rows) nodes) ≡ map (member_at rows) (remove_entry (nat_eq m.access) nodes)
    without-row m is = rest-found (member_at rows) (λ a. a.number == row.number) m.access nodes t.listed.distinct (test-same m is)

    -- the member behind the row's
    pub after-row : (m : Membership) → row.membership ≡ Some m → member_after row.number (map (member_at rows) nodes) ≡ option_map (member_at rows) (next_after m.access nodes)
    after-row m is = behind-found (member_at rows) (λ a. a.number == row.number) m.access nodes (test-same m is)

    -- a row whose number is not counted is no member
    pub unlisted-from : counted_of row.number (map (member_at rows) nodes) ≡ None → row.membership ≡ None
    unlisted-from h = none_by_test row.membership (sym (mapped_is_some (λ (m : Membership). m.counted) row.membership) ∙ ap is_some (sym counted-row ∙ h))
