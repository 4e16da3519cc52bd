-- The rows that a list's nodes lead to, by whichever slot of theirs.
use Rattle.std.proofs.Common.{◌≡◌, ◌≢◌, ℕ, ◌<◌, ◌≤◌, ◌==◌, false, length, count_by, is_some, cond, List, [], ◌∷◌, ◌++◌, Option, Some, None, inl, inr, refl, sym, ap, subst, ◌∙◌, nat_eq, Contains}
use Rattle.std.proofs.lemmas.Bool.{cases_eq, eq-eqb, ne_eqb}
use Rattle.std.specs.List.{IsDistinct}
use Rattle.std.specs.Map.{lookup, remove_entry, keys_of}
use Rattle.std.specs.Option.{option_and_then, option_map_or}
use Rattle.moka_structures.proofs.Linked.{linked-same, linked-added, linked-removed}
use Rattle.moka_table.specs.RecordTable.{Row, row_at, number_at, IsNumbered}
use Rattle.moka_table.proofs.TableMaps.{read-of}
use Rattle.moka_store.proofs.Nodes.{in-nodes, length-nodes, length-nodes_below, distinct-none, distinct-push, distinct-remove, lookup-removed}
use Rattle.moka_store.specs.StoreTies.{HasSlots}
use Rattle.moka_records.specs.declared.records.Record.{Record}

-- the row with this slot, to which its node leads
pub record SlotRow {K V : Type 0} (slot_in : Row (Record K V) → Option ℕ) (rows : List (Option (Row (Record K V)))) (node : ℕ × ℕ) : Type 0 where
  pub row : Row (Record K V)
  pub at_is : row_at rows node.1 ≡ Some row
  pub slot_is : slot_in row ≡ Some node.0
  pub number_is : number_at rows node.1 ≡ row.number

pub number-of : {K V : Type 0} (rows : List (Option (Row (Record K V)))) (place : ℕ) (row : Row (Record K V)) → row_at rows place ≡ Some row → number_at rows place ≡ row.number
number-of rows place row e = ap (λ o. option_map_or (λ (row : Row (Record _ _)). row.number) o 0) e

module _ {K V : Type 0} (slot_in : Row (Record K V) → Option ℕ) (rows : List (Option (Row (Record K V)))) (nodes : List (ℕ × ℕ)) (l : HasSlots slot_in rows nodes) where
  pub slot-row : (m : ℕ × ℕ) → Contains nodes m → SlotRow slot_in rows m
  slot-row m h =
      let w = read-of slot_in (row_at rows m.1) m.0 (l.linked.to_slot m.0 m.1 (in-nodes nodes m l.distinct h)) in
      record { row = w.0; at_is = w.1; slot_is = w.2; number_is = number-of rows m.1 w.0 w.1 }

  -- there are no more nodes than rows
  pub slots-within : length nodes ≤ count_by is_some rows
  slots-within = length-nodes slot_in nodes rows l.distinct (λ m h. let w = slot-row m h in (w.row, w.at_is, w.slot_is))

  module _ (place : ℕ) (row : Row (Record K V)) (at_is : row_at rows place ≡ Some row) where
    -- and fewer, where some row has no slot
    pub slots-below : slot_in row ≡ None → length nodes < count_by is_some rows
    slots-below none = length-nodes_below slot_in nodes rows place row l.distinct (λ m h. let w = slot-row m h in (w.row, w.at_is, w.slot_is)) at_is none

    -- no node leads to a row without a slot
    pub off-nodes : slot_in row ≡ None → (m : ℕ × ℕ) → Contains nodes m → m.1 ≢ place
    off-nodes none m h e = let w = slot-row m h in cc

    -- the node in its slot leads to the row
    pub node-of : (slot : ℕ) → slot_in row ≡ Some slot → lookup (nat_eq slot) nodes ≡ Some place
    node-of slot is = l.linked.to_place slot place (ap (option_and_then slot_in) at_is ∙ is)

    module _ (d : IsNumbered (row_at rows)) where
      -- a node of the same number leads to the row
      pub same-place : (m : ℕ × ℕ) → Contains nodes m → number_at rows m.1 ≡ row.number → m.1 ≡ place
      same-place m h e = let w = slot-row m h in d.same m.1 place w.row row w.at_is at_is (sym w.number_is ∙ e)

      pub no-node : slot_in row ≡ None → (m : ℕ × ℕ) → Contains nodes m → (number_at rows m.1 == row.number) ≡ false
      no-node none m h = ne_eqb (number_at rows m.1) row.number (λ e. off-nodes none m h (same-place m h e))

      -- just the node in its slot has the row's number
      pub one-node : (slot : ℕ) → slot_in row ≡ Some slot → (k : ℕ × ℕ) → Contains nodes k → (number_at rows k.1 == row.number) ≡ nat_eq slot k.0
      one-node slot is k h =
          let w = slot-row k h in
          elim (cases_eq slot k.0) as (λ _. (number_at rows k.1 == row.number) ≡ nat_eq slot k.0) [
            | inl s ↦
                let both = sym (node-of slot is) ∙ ap (λ s. lookup (nat_eq s) nodes) s ∙ in-nodes nodes k l.distinct h in
                let same : w.row ≡ row = cc in
                eq-eqb (number_at rows k.1) row.number (w.number_is ∙ ap (λ r. r.number) same) ∙ sym (eq-eqb slot k.0 s)
            | inr ne ↦ ne_eqb (number_at rows k.1) row.number (λ e. let there = same-place k h e in ne (cc)) ∙ sym (ne_eqb slot k.0 ne)
          ]

  -- ---- after a change

  -- no row has another slot than before
  pub listed-kept : (new : List (Option (Row (Record K V)))) → ((p : ℕ) → option_and_then slot_in (row_at new p) ≡ option_and_then slot_in (row_at rows p)) → HasSlots slot_in new nodes
  listed-kept new same = record {
    linked = linked-same (λ p. option_and_then slot_in (row_at rows p)) (λ p. option_and_then slot_in (row_at new p)) (λ s. lookup (nat_eq s) nodes) (λ s. lookup (nat_eq s) nodes) l.linked same (λ s. refl);
    distinct = l.distinct;
  }

  module _ (slot place : ℕ) (after : List (ℕ × ℕ)) where
    -- the node goes to the back
    pub listed-moved : after ≡ remove_entry (nat_eq slot) nodes ++ (slot, place) ∷ [] → ((s : ℕ) → lookup (nat_eq s) after ≡ lookup (nat_eq s) nodes) → HasSlots slot_in rows after
    listed-moved is u = record {
      linked = linked-same (λ p. option_and_then slot_in (row_at rows p)) (λ p. option_and_then slot_in (row_at rows p)) (λ s. lookup (nat_eq s) nodes) (λ s. lookup (nat_eq s) after) l.linked (λ p. refl) u;
      distinct = subst (λ l. IsDistinct nat_eq (keys_of l)) (sym is) (distinct-push (remove_entry (nat_eq slot) nodes) slot place (distinct-remove (nat_eq slot) nodes l.distinct) (lookup-removed slot nodes l.distinct));
    }

    module _ (new : List (Option (Row (Record K V)))) (others : (p : ℕ) → p ≢ place → option_and_then slot_in (row_at new p) ≡ option_and_then slot_in (row_at rows p)) where
      -- the row gets the slot of a new node behind all others
      pub listed-added : option_and_then slot_in (row_at rows place) ≡ None → option_and_then slot_in (row_at new place) ≡ Some slot → lookup (nat_eq slot) nodes ≡ None → after ≡ nodes ++ (slot, place) ∷ []
          → ((s : ℕ) → lookup (nat_eq s) after ≡ cond (nat_eq s slot) (Some place) (lookup (nat_eq s) nodes)) → HasSlots slot_in new after
      listed-added was now free is u = record {
        linked = linked-added (λ p. option_and_then slot_in (row_at rows p)) (λ p. option_and_then slot_in (row_at new p)) (λ s. lookup (nat_eq s) nodes) (λ s. lookup (nat_eq s) after) l.linked slot place others was now free u;
        distinct = subst (λ l. IsDistinct nat_eq (keys_of l)) (sym is) (distinct-push nodes slot place l.distinct free);
      }

      -- the row's node leaves
      pub listed-removed : option_and_then slot_in (row_at rows place) ≡ Some slot → option_and_then slot_in (row_at new place) ≡ None → after ≡ remove_entry (nat_eq slot) nodes
          → ((s : ℕ) → lookup (nat_eq s) after ≡ cond (nat_eq slot s) None (lookup (nat_eq s) nodes)) → HasSlots slot_in new after
      listed-removed was now is u = record {
        linked = linked-removed (λ p. option_and_then slot_in (row_at rows p)) (λ p. option_and_then slot_in (row_at new p)) (λ s. lookup (nat_eq s) nodes) (λ s. lookup (nat_eq s) after) l.linked slot place others was now u;
        distinct = subst (λ l. IsDistinct nat_eq (keys_of l)) (sym is) (distinct-remove (nat_eq slot) nodes l.distinct);
      }

-- no nodes and no rows
pub listed-empty : {K V : Type 0} (slot_in : Row (Record K V) → Option ℕ) (rows : List (Option (Row (Record K V)))) (nodes : List (ℕ × ℕ)) → rows ≡ [] → nodes ≡ [] → HasSlots slot_in rows nodes
listed-empty slot_in rows nodes re ne = record {
  linked = record { to_slot = λ s p h. (let none = ap (lookup (nat_eq s)) ne in cc); to_place = λ s p h. (let none = ap (λ r. option_and_then slot_in (row_at r p)) re in cc) };
  distinct = subst (λ l. IsDistinct nat_eq (keys_of l)) (sym ne) distinct-none;
}
