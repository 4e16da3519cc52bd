-- The order of writing, and the cursor in it, after each change.
use Rattle.std.proofs.Common.{◌≡◌, ℕ, Bool, true, false, cond, ◌==◌, List, [], ◌∷◌, ◌++◌, map, Option, Some, None, IsSome, is_some, inl, inr, refl, sym, ap, ◌∙◌, nat_eq, Contains}
use Rattle.std.proofs.lemmas.Bool.{cond-true, cond-false, false≢true}
use Rattle.std.proofs.lemmas.List.{map-append}
use Rattle.std.specs.Map.{lookup, remove_entry}
use Rattle.std.specs.Option.{option_map, option_and_then}
use Rattle.std.specs.Prelude.{IfSome, IfNone, slice_get}
use Rattle.moka_links.proofs.FinMaps.{option-cases}
use Rattle.moka_table.specs.RecordTable.{Row, row_at, number_at, IsNumbered}
use Rattle.moka_structures.specs.OrderList.{next_after}
use Rattle.moka_store.proofs.Nodes.{in-nodes, node-in, map-agree, any-none, any-found, behind-none, rest-none, rest-found, behind-found, get-map}
use Rattle.moka_store.proofs.Slots.{number-of, node-of, no-node, one-node}
use Rattle.moka_store.specs.WriteList.{IsCursor, node_past}
use Rattle.moka_store.specs.Store.{number_after, cursor_past}
use Rattle.moka_store.specs.Rows.{written_in, written_slot_at, written_of, cursor_of}
use Rattle.moka_store.specs.StoreTies.{HasSlots}
use Rattle.moka_records.specs.declared.records.Record.{Record}
use Rattle.moka_records.specs.Records.{is_listed, without_number, number_to_back, entered_by}

-- a row with a slot keeps its number
abbrev pub KeepsNumbers : {K V : Type 0} → List (Option (Row (Record K V))) → List (Option (Row (Record K V))) → Type 0
KeepsNumbers rows new = (p : ℕ) → IsSome (written_slot_at rows p) → number_at new p ≡ number_at rows p

module _ {K V : Type 0} (rows new : List (Option (Row (Record K V)))) (nodes : List (ℕ × ℕ)) (l : HasSlots written_in rows nodes) (keeps : KeepsNumbers rows new) where
  node-number : (m : ℕ × ℕ) → lookup (nat_eq m.0) nodes ≡ Some m.1 → number_at new m.1 ≡ number_at rows m.1
  node-number m h = keeps m.1 (ap is_some (l.linked.to_slot m.0 m.1 h))

  pub written-same : written_of new nodes ≡ written_of rows nodes
  unfolding written_of
  written-same = map-agree (λ m. number_at new m.1) (λ m. number_at rows m.1) nodes (λ m h. node-number m (in-nodes nodes m l.distinct h))

  pub cursor-same : (cursor : Option (ℕ × ℕ)) → IsCursor nodes cursor → cursor_of new cursor ≡ cursor_of rows cursor
  unfolding cursor_of
  cursor-same None at = refl
  cursor-same (Some m) at = ap Some (node-number m (at m refl))

module _ {K V : Type 0} (rows : List (Option (Row (Record K V)))) (nodes : List (ℕ × ℕ)) where
  -- a new node at the back
  pub written-pushed : (kept : Bool) (slot : Option ℕ) (place number : ℕ) (after : List (ℕ × ℕ)) → is_some slot ≡ kept → IfSome slot (λ s. after ≡ nodes ++ (s, place) ∷ []) → IfNone slot (after ≡ nodes) → number_at rows place ≡ number
      → written_of rows after ≡ entered_by kept number (written_of rows nodes)
  unfolding written_of
  written-pushed true None place number after k some none n = absurd (false≢true k)
  written-pushed false None place number after k some none n = ap (map (λ m. number_at rows m.1)) none
  written-pushed false (Some slot) place number after k some none n = absurd (false≢true (sym k))
  written-pushed true (Some slot) place number after k some none n =
      ap (map (λ m. number_at rows m.1)) some ∙ map-append (λ m. number_at rows m.1) nodes ((slot, place) ∷ []) ∙ ap (λ x. map (λ m. number_at rows m.1) nodes ++ x ∷ []) n

  module _ (l : HasSlots written_in rows nodes) (d : IsNumbered (row_at rows)) (place : ℕ) (row : Row (Record K V)) (at_is : row_at rows place ≡ Some row) where
    abbrev numbers : List ℕ
    numbers = map (λ m. number_at rows m.1) nodes

    at-slot : (slot : ℕ) → written_in row ≡ Some slot → (k : ℕ × ℕ) → Contains nodes k → (number_at rows k.1 == row.number) ≡ nat_eq slot k.0
    at-slot = one-node written_in rows nodes l place row at_is d

    in-no-node : written_in row ≡ None → (k : ℕ × ℕ) → Contains nodes k → (number_at rows k.1 == row.number) ≡ false
    in-no-node = no-node written_in rows nodes l place row at_is d

    -- the number is listed just where the row has a slot
    pub listed-row : is_listed row.number (written_of rows nodes) ≡ is_some (written_in row)
    unfolding written_of
    listed-row = elim (option-cases (written_in row)) as (λ _. is_listed row.number (map (λ m. number_at rows m.1) nodes) ≡ is_some (written_in row)) [
      | inl none ↦ any-none (λ m. number_at rows m.1) (λ m. m == row.number) nodes (in-no-node none) ∙ sym (ap is_some none)
      | inr s ↦ any-found (λ m. number_at rows m.1) (λ m. m == row.number) s.0 nodes place (at-slot s.0 s.1) (node-of written_in rows nodes l place row at_is s.0 s.1) ∙ sym (ap is_some s.1)
    ]

    -- the number leaves
    pub written-removed : (slot : Option ℕ) (after : List (ℕ × ℕ)) → written_in row ≡ slot → IfSome slot (λ s. after ≡ remove_entry (nat_eq s) nodes) → IfNone slot (after ≡ nodes) → written_of rows after ≡ without_number row.number (written_of rows nodes)
    unfolding written_of
    written-removed None after is some none = ap (map (λ m. number_at rows m.1)) none ∙ sym (rest-none (λ m. number_at rows m.1) (λ m. m == row.number) nodes (in-no-node is))
    written-removed (Some slot) after is some none = ap (map (λ m. number_at rows m.1)) some ∙ sym (rest-found (λ m. number_at rows m.1) (λ m. m == row.number) slot nodes l.distinct (at-slot slot is))

    -- the number goes to the back
    pub written-moved : (slot : Option ℕ) (after : List (ℕ × ℕ)) → written_in row ≡ slot → IfSome slot (λ s. (p : ℕ) → lookup (nat_eq s) nodes ≡ Some p → after ≡ remove_entry (nat_eq s) nodes ++ (s, p) ∷ []) → IfNone slot (after ≡ nodes)
        → written_of rows after ≡ number_to_back row.number (written_of rows nodes)
    unfolding written_of
    written-moved None after is some none =
        ap (map (λ m. number_at rows m.1)) none
        ∙ sym (cond-false (is_listed row.number numbers) (without_number row.number numbers ++ row.number ∷ []) numbers (any-none (λ m. number_at rows m.1) (λ m. m == row.number) nodes (in-no-node is)))
    written-moved (Some slot) after is some none =
        let there = node-of written_in rows nodes l place row at_is slot is in
        ap (map (λ m. number_at rows m.1)) (some place there)
        ∙ map-append (λ m. number_at rows m.1) (remove_entry (nat_eq slot) nodes) ((slot, place) ∷ [])
        ∙ ap (λ n. map (λ m. number_at rows m.1) (remove_entry (nat_eq slot) nodes) ++ n ∷ []) (number-of rows place row at_is)
        ∙ ap (λ ns. ns ++ row.number ∷ []) (sym (rest-found (λ m. number_at rows m.1) (λ m. m == row.number) slot nodes l.distinct (at-slot slot is)))
        ∙ sym (cond-true (is_listed row.number numbers) (without_number row.number numbers ++ row.number ∷ []) numbers (any-found (λ m. number_at rows m.1) (λ m. m == row.number) slot nodes place (at-slot slot is) there))

    -- a cursor at the number goes on
    pub cursor-past : (slot : Option ℕ) (cursor : Option (ℕ × ℕ)) → written_in row ≡ slot → IsCursor nodes cursor → cursor_of rows (node_past slot nodes cursor) ≡ cursor_past row.number (written_of rows nodes) (cursor_of rows cursor)
    unfolding written_of cursor_of
    cursor-past None None is at = refl
    cursor-past (Some slot) None is at = refl
    cursor-past None (Some m) is at = rw (in-no-node is m (node-in nodes m.0 m.1 (at m refl))) refl
    cursor-past (Some slot) (Some m) is at =
        rw (at-slot slot is m (node-in nodes m.0 m.1 (at m refl))) (elim (nat_eq slot m.0) as (λ b. option_map (λ (node : ℕ × ℕ). number_at rows node.1) (cond b (next_after slot nodes) (Some m)) ≡ cond b (number_after row.number numbers) (Some (number_at rows m.1))) [
          | true ↦ sym (behind-found (λ m. number_at rows m.1) (λ m. m == row.number) slot nodes (at-slot slot is))
          | false ↦ refl
        ])

    -- the number behind
    pub number-behind : (slot : Option ℕ) → written_in row ≡ slot → number_after row.number (written_of rows nodes) ≡ option_and_then (λ slot. option_map (λ m. number_at rows m.1) (next_after slot nodes)) slot
    unfolding written_of
    number-behind None is = behind-none (λ m. number_at rows m.1) (λ m. m == row.number) nodes (in-no-node is)
    number-behind (Some slot) is = behind-found (λ m. number_at rows m.1) (λ m. m == row.number) slot nodes (at-slot slot is)

    -- what stands behind the row's node
    pub number-next : (slot : Option ℕ) → written_in row ≡ slot → (next : Option (ℕ × ℕ)) → IfSome slot (λ s. next ≡ next_after s nodes) → IfNone slot (next ≡ None) → option_map (λ m. number_at rows m.1) next ≡ number_after row.number (written_of rows nodes)
    number-next None is next some none = ap (option_map (λ m. number_at rows m.1)) none ∙ sym (number-behind None is)
    number-next (Some slot) is next some none = ap (option_map (λ m. number_at rows m.1)) some ∙ sym (number-behind (Some slot) is)

    -- a cursor at the row's node
    pub cursor-at : (node : Option (ℕ × ℕ)) → node ≡ option_map (λ slot. (slot, place)) (written_in row) → is_listed row.number (written_of rows nodes) ≡ true → cursor_of rows node ≡ Some row.number
    unfolding cursor_of
    cursor-at node is there = elim (option-cases (written_in row)) as (λ _. option_map (λ (m : ℕ × ℕ). number_at rows m.1) node ≡ Some row.number) [
      | inl none ↦ absurd (false≢true (sym (ap is_some none) ∙ sym listed-row ∙ there))
      | inr s ↦ ap (option_map (λ (m : ℕ × ℕ). number_at rows m.1)) (is ∙ ap (option_map (λ (slot : ℕ). (slot, place))) s.1) ∙ ap Some (number-of rows place row at_is)
    ]

  -- the cursor's number
  pub cursor-none : cursor_of rows None ≡ None
  unfolding cursor_of
  cursor-none = refl

  pub cursor-some : (m : ℕ × ℕ) → cursor_of rows (Some m) ≡ Some (number_at rows m.1)
  unfolding cursor_of
  cursor-some m = refl

  -- the first number
  pub number-front : slice_get (written_of rows nodes) 0 ≡ option_map (λ m. number_at rows m.1) (slice_get nodes 0)
  unfolding written_of
  number-front = get-map (λ m. number_at rows m.1) nodes
