-- The order of writing and the timers of a store after each of its calls.
use Rattle.std.proofs.Common.{◌≡◌, ◌≢◌, ℕ, ◌<◌, ◌≤◌, Bool, true, false, ◌&&◌, ◌⊎◌, map, count_by, arith, List, [], ◌∷◌, ◌++◌, Option, Some, None, IsSome, is_some, inl, inr, refl, sym, ap, subst, ◌∙◌, nat_eq, cond}
use Rattle.std.proofs.lemmas.Bool.{cases_eq, false≢true, and_parts}
use Rattle.std.specs.FinMap.{FinMap, get, remove, empty, get-empty, len}
use Rattle.std.specs.Map.{lookup, remove_entry}
use Rattle.std.specs.Option.{option_map, option_and_then, option_map_or}
use Rattle.std.specs.Ordering.{nat_cmp}
use Rattle.std.specs.Prelude.{IfSome, IfNone}
use Rattle.moka_links.proofs.FinMaps.{option-cases}
use Rattle.moka_records.proofs.Options.{mapped_is_some}
use Rattle.moka_table.proofs.TableMaps.{some_is, read-of, altered-same}
use Rattle.moka_table.proofs.TableCalls.{get-places}
use Rattle.moka_table.specs.declared.table.membership.Membership.{Membership}
use Rattle.moka_table.specs.RecordTable.{Row, row_at, number_at, membership_at, places_of, IsNumbered, ChangesAt}
use Rattle.moka_wheel.specs.TimerWheel.{Timer}
use Rattle.moka_store.proofs.Nodes.{map-all, node-in}
use Rattle.moka_store.proofs.Slots.{slot-row, number-of, node-of, listed-kept, listed-moved, listed-added, listed-removed, listed-empty}
use Rattle.moka_store.proofs.Timed.{timed-kept, timers-kept, timed-set, timers-set, timers-gone, timed-below, moment-row}
use Rattle.moka_store.proofs.Ties.{reads-same, read-other, read-same, counted-row}
use Rattle.moka_store.proofs.Written.{listed-row, written-same, cursor-same, written-pushed, written-moved, written-removed, cursor-past}
use Rattle.moka_store.specs.declared.store.Handle.{Handle}
use Rattle.moka_store.specs.WriteList.{Listing, IsCursor, node_past}
use Rattle.moka_store.specs.Store.{IsOrdered, cursor_past, with_timer}
use Rattle.moka_store.specs.Rows.{written_in, written_slot_at, timer_at, member_at, written_of, cursor_of, timers_of}
use Rattle.moka_store.specs.StoreTies.{KeyIndex, HasSlots, IsTied, IsWritten, IsTimed, kept_of}
use Rattle.moka_store.specs.Timers.{Timing, timer_after}
use Rattle.moka_records.specs.declared.instant.Instant.{Instant}
use Rattle.moka_records.specs.declared.records.Record.{Record}
use Rattle.moka_records.specs.Records.{counted_of, without_number, number_to_back, entered_by}

-- a row with a slot in the write list is a member's
written-member : {K V : Type 0} (o : Option (Row (Record K V))) → IsSome (option_and_then written_in o) → IsSome (option_and_then (λ (row : Row (Record K V)). row.membership) o)
written-member {K} {V} o h =
    let s = some_is (option_and_then written_in o) h in
    let w = read-of written_in o s.0 s.1 in
    let m = read-of (λ (m : Membership). m.written) w.0.membership s.0 w.2 in
    ap is_some (ap (option_and_then (λ (row : Row (Record K V)). row.membership)) w.1 ∙ m.1)

-- the write list is that of these rows, and shows this
pub record WrittenAfter {K V : Type 0} (rows : List (Option (Row (Record K V)))) (list : Listing) (order : List ℕ) (at : Option ℕ) : Type 0 where
  pub written : IsWritten rows list
  pub written_is : written_of rows list.nodes ≡ order
  pub cursor_is : cursor_of rows list.cursor ≡ at

-- and so are the timers
pub record OrdersAfter {K V : Type 0} (rows : List (Option (Row (Record K V)))) (list : Listing) (timers : FinMap nat_cmp Timer) (order : List ℕ) (at : Option ℕ) (moments : FinMap nat_cmp ℕ) : Type 0 where
  pub written : IsWritten rows list
  pub timed : IsTimed rows timers
  pub written_is : written_of rows list.nodes ≡ order
  pub cursor_is : cursor_of rows list.cursor ≡ at
  pub timers_is : timers_of timers rows ≡ moments

-- a row changes, and is a member's with the same number if it was
module _ {K V : Type 0} (rows new : List (Option (Row (Record K V)))) (place : ℕ) (o : Option (Row (Record K V))) (c : ChangesAt (row_at rows) (row_at new) place o)
    (member : is_some (option_and_then (λ (row : Row (Record K V)). row.membership) o) ≡ is_some (membership_at rows place))
    (number : IsSome (membership_at rows place) → option_map_or (λ (row : Row (Record K V)). row.number) o 0 ≡ number_at rows place) where
  membered : (p : ℕ) → is_some (membership_at new p) ≡ is_some (membership_at rows p)
  membered = reads-same (row_at rows) (row_at new) place o c (λ o. is_some (option_and_then (λ (row : Row (Record K V)). row.membership) o)) member

  kept : (p : ℕ) → IsSome (membership_at rows p) → number_at new p ≡ number_at rows p
  kept p some = elim (cases_eq p place) as (λ _. number_at new p ≡ number_at rows p) [
    | inl q ↦ ap (number_at new) q ∙ ap (λ o. option_map_or (λ (row : Row (Record K V)). row.number) o 0) c.changed ∙ number (ap (λ p. is_some (membership_at rows p)) (sym q) ∙ some) ∙ ap (number_at rows) (sym q)
    | inr ne ↦ ap (λ o. option_map_or (λ (row : Row (Record K V)). row.number) o 0) (c.others p ne)
  ]

  numbers : (p : ℕ) → IsSome (written_slot_at rows p) → number_at new p ≡ number_at rows p
  numbers p some = kept p (written-member (row_at rows p) some)

  module _ (list : Listing) (w : IsWritten rows list) (slot : option_and_then written_in o ≡ written_slot_at rows place) where
    pub stays-written : WrittenAfter new list (written_of rows list.nodes) (cursor_of rows list.cursor)
    stays-written = record {
      written = record {
        listed = listed-kept written_in rows list.nodes w.listed new (read-same written_in (row_at rows) (row_at new) place o c slot);
        cursor = w.cursor;
        all = λ kept p some. ap is_some (read-same written_in (row_at rows) (row_at new) place o c slot p) ∙ w.all kept p (sym (membered p) ∙ some);
      };
      written_is = written-same rows new list.nodes w.listed numbers;
      cursor_is = cursor-same rows new list.nodes w.listed numbers list.cursor w.cursor;
    }

    module _ (timers : FinMap nat_cmp Timer) (t : IsTimed rows timers) (d : IsNumbered (row_at rows)) (e : IsNumbered (row_at new)) (timer : option_and_then (λ (row : Row (Record K V)). row.timer) o ≡ timer_at rows place) where
      pub stays : OrdersAfter new list timers (written_of rows list.nodes) (cursor_of rows list.cursor) (timers_of timers rows)
      stays =
          let s = stays-written in
          record {
            written = s.written;
            timed = timed-kept rows new timers t (read-same (λ (row : Row (Record K V)). row.timer) (row_at rows) (row_at new) place o c timer) (λ p _ some. membered p ∙ some);
            written_is = s.written_is;
            cursor_is = s.cursor_is;
            timers_is = timers-kept rows new timers t (read-same (λ (row : Row (Record K V)). row.timer) (row_at rows) (row_at new) place o c timer) d e (λ p some. kept p (t.members p some));
          }

-- a row gets another timer
pub stays-timed : {K V : Type 0} (rows new : List (Option (Row (Record K V)))) (place : ℕ) (was : Row (Record K V)) → row_at rows place ≡ Some was → (timer : Option ℕ) → ChangesAt (row_at rows) (row_at new) place (Some (record was { timer = timer })) → (list : Listing) → IsWritten rows list → WrittenAfter new list (written_of rows list.nodes) (cursor_of rows list.cursor)
stays-timed {K} {V} rows new place was at_is timer c list w =
    stays-written rows new place (Some (record was { timer = timer })) c (sym (ap (λ o. is_some (option_and_then (λ (row : Row (Record K V)). row.membership) o)) at_is)) (λ _. sym (number-of rows place was at_is)) list w (sym (ap (option_and_then written_in) at_is))

module _ {K V : Type 0} (rows new : List (Option (Row (Record K V)))) (list : Listing) (timers : FinMap nat_cmp Timer) (w : IsWritten rows list) (t : IsTimed rows timers) (d : IsNumbered (row_at rows)) (e : IsNumbered (row_at new)) (place : ℕ) where
  -- a row of the same number, slots and timer
  pub stays-row : (was row : Row (Record K V)) → row_at rows place ≡ Some was → ChangesAt (row_at rows) (row_at new) place (Some row) → row.number ≡ was.number → row.timer ≡ was.timer → written_in row ≡ written_in was → is_some row.membership ≡ is_some was.membership → OrdersAfter new list timers (written_of rows list.nodes) (cursor_of rows list.cursor) (timers_of timers rows)
  stays-row was row at_is c number timer slot member = stays rows new place (Some row) c
      (member ∙ sym (ap (λ o. is_some (option_and_then (λ (row : Row (Record K V)). row.membership) o)) at_is)) (λ _. number ∙ sym (number-of rows place was at_is))
      list w (slot ∙ sym (ap (option_and_then written_in) at_is)) timers t d e (timer ∙ sym (ap (option_and_then (λ (row : Row (Record K V)). row.timer)) at_is))

  -- a row comes or goes that is no member
  pub stays-bare : (o : Option (Row (Record K V))) → ChangesAt (row_at rows) (row_at new) place o → membership_at rows place ≡ None → timer_at rows place ≡ None
      → option_and_then (λ (row : Row (Record K V)). row.membership) o ≡ None → option_and_then (λ (row : Row (Record K V)). row.timer) o ≡ None → OrdersAfter new list timers (written_of rows list.nodes) (cursor_of rows list.cursor) (timers_of timers rows)
  stays-bare o c alone still now_alone now_still = stays rows new place o c
      (ap is_some now_alone ∙ sym (ap is_some alone)) (λ some. absurd (false≢true (sym (ap is_some alone) ∙ some)))
      list w (no-slot o now_alone ∙ sym (no-slot (row_at rows place) alone)) timers t d e (now_still ∙ sym still)
    where
      no-slot : (o : Option (Row (Record K V))) → option_and_then (λ (row : Row (Record K V)). row.membership) o ≡ None → option_and_then written_in o ≡ None
      no-slot None h = refl
      no-slot (Some row) h = ap (option_and_then (λ (m : Membership). m.written)) h

-- ---- a member moves

-- a row's slot is that of a node
pub slot-there : {K V : Type 0} (rows : List (Option (Row (Record K V)))) (list : Listing) → IsWritten rows list → (place : ℕ) (row : Row (Record K V)) → row_at rows place ≡ Some row → (slot : Option ℕ) → written_in row ≡ slot → IfSome slot (λ s. IsSome (lookup (nat_eq s) list.nodes))
slot-there rows list w place row at_is None is = tt
slot-there rows list w place row at_is (Some s) is = ap is_some (node-of written_in rows list.nodes w.listed place row at_is s is)

-- where there is no slot, the nodes stay
nodes-kept : (list after : Listing) (slot : Option ℕ) → IfNone slot (after ≡ list) → IfNone slot (after.nodes ≡ list.nodes)
nodes-kept list after None h = ap (λ (l : Listing). l.nodes) h
nodes-kept list after (Some s) h = h

module _ {K V : Type 0} (rows : List (Option (Row (Record K V)))) (list after : Listing) (w : IsWritten rows list) (d : IsNumbered (row_at rows)) (place : ℕ) (row : Row (Record K V)) (at_is : row_at rows place ≡ Some row) where
  moved-listed : (slot : Option ℕ) → written_in row ≡ slot → IfSome slot (λ s. (p : ℕ) → lookup (nat_eq s) list.nodes ≡ Some p → after.nodes ≡ remove_entry (nat_eq s) list.nodes ++ (s, p) ∷ []) → ((s : ℕ) → lookup (nat_eq s) after.nodes ≡ lookup (nat_eq s) list.nodes)
      → IfNone slot (after ≡ list) → HasSlots written_in rows after.nodes
  moved-listed None is some u none = subst (λ l. HasSlots written_in rows l.nodes) (sym none) w.listed
  moved-listed (Some s) is some u none = listed-moved written_in rows list.nodes w.listed s place after.nodes (some place (node-of written_in rows list.nodes w.listed place row at_is s is)) u

  pub moves : (slot : Option ℕ) → written_in row ≡ slot
      → IfSome slot (λ s. (p : ℕ) → lookup (nat_eq s) list.nodes ≡ Some p → after.nodes ≡ remove_entry (nat_eq s) list.nodes ++ (s, p) ∷ [])
      → ((s : ℕ) → lookup (nat_eq s) after.nodes ≡ lookup (nat_eq s) list.nodes)
      → after ≡ record list { nodes = after.nodes; cursor = node_past slot list.nodes list.cursor }
      → IfNone slot (after ≡ list) → IsCursor after.nodes after.cursor
      → WrittenAfter rows after (number_to_back row.number (written_of rows list.nodes)) (cursor_past row.number (written_of rows list.nodes) (cursor_of rows list.cursor))
  moves slot is some u rest none cursor = record {
    written = record {
      listed = moved-listed slot is some u none;
      cursor = cursor;
      all = λ kept. w.all (sym (ap (λ (l : Listing). l.ordered) rest) ∙ kept);
    };
    written_is = written-moved rows list.nodes w.listed d place row at_is slot after.nodes is some (nodes-kept list after slot none);
    cursor_is = ap (λ (l : Listing). cursor_of rows l.cursor) rest ∙ cursor-past rows list.nodes w.listed d place row at_is slot list.cursor is w.cursor;
  }

-- ---- a member enters or leaves

module _ {K V : Type 0} (rows new : List (Option (Row (Record K V)))) (list after : Listing) (timers : FinMap nat_cmp Timer) (w : IsWritten rows list) (t : IsTimed rows timers) (d : IsNumbered (row_at rows)) (e : IsNumbered (row_at new)) (place : ℕ) (was : Row (Record K V)) (at_is : row_at rows place ≡ Some was) where
  numbers-kept : (row : Row (Record K V)) → ChangesAt (row_at rows) (row_at new) place (Some row) → row.number ≡ was.number → (p : ℕ) → number_at new p ≡ number_at rows p
  numbers-kept row c number = reads-same (row_at rows) (row_at new) place (Some row) c (λ o. option_map_or (λ (row : Row (Record K V)). row.number) o 0) (number ∙ sym (number-of rows place was at_is))

  same-timer : (row : Row (Record K V)) → ChangesAt (row_at rows) (row_at new) place (Some row) → row.timer ≡ was.timer → (p : ℕ) → timer_at new p ≡ timer_at rows p
  same-timer row c timer = read-same (λ (row : Row (Record K V)). row.timer) (row_at rows) (row_at new) place (Some row) c (timer ∙ sym (ap (option_and_then (λ (row : Row (Record K V)). row.timer)) at_is))

  other-member : (row : Row (Record K V)) → ChangesAt (row_at rows) (row_at new) place (Some row) → (p : ℕ) → p ≢ place → membership_at new p ≡ membership_at rows p
  other-member row c p ne = read-other (λ (row : Row (Record K V)). row.membership) (row_at rows) (row_at new) place (Some row) c p ne

  -- the row becomes a member
  module _ (m : Membership) (alone : was.membership ≡ None) (c : ChangesAt (row_at rows) (row_at new) place (Some (record was { membership = Some m })))
      (kept : is_some m.written ≡ list.ordered)
      (fresh : IfSome m.written (λ slot. lookup (nat_eq slot) list.nodes ≡ None))
      (nodes : IfSome m.written (λ slot. after.nodes ≡ list.nodes ++ (slot, place) ∷ []))
      (lookups : IfSome m.written (λ slot. (s : ℕ) → lookup (nat_eq s) after.nodes ≡ cond (nat_eq s slot) (Some place) (lookup (nat_eq s) list.nodes)))
      (rest : after ≡ record list { nodes = after.nodes }) (none : IfNone m.written (after ≡ list)) (cursor : IsCursor after.nodes after.cursor) where
    row : Row (Record K V)
    row = record was { membership = Some m }

    entered-listed : (slot : Option ℕ) → m.written ≡ slot → IfSome slot (λ slot. lookup (nat_eq slot) list.nodes ≡ None) → IfSome slot (λ slot. after.nodes ≡ list.nodes ++ (slot, place) ∷ [])
        → IfSome slot (λ slot. (s : ℕ) → lookup (nat_eq s) after.nodes ≡ cond (nat_eq s slot) (Some place) (lookup (nat_eq s) list.nodes)) → IfNone slot (after ≡ list) → HasSlots written_in new after.nodes
    unfolding row
    entered-listed None is fresh nodes lookups none =
        subst (λ l. HasSlots written_in new l.nodes) (sym none) (listed-kept written_in rows list.nodes w.listed new (read-same written_in (row_at rows) (row_at new) place (Some row) c (is ∙ sym (ap (option_and_then written_in) at_is ∙ ap (option_and_then (λ (m : Membership). m.written)) alone))))
    entered-listed (Some s) is fresh nodes lookups none =
        listed-added written_in rows list.nodes w.listed s place after.nodes new (read-other written_in (row_at rows) (row_at new) place (Some row) c)
        (ap (option_and_then written_in) at_is ∙ ap (option_and_then (λ (m : Membership). m.written)) alone) (ap (option_and_then written_in) c.changed ∙ is) fresh nodes lookups

    pub enters : OrdersAfter new after timers (entered_by list.ordered was.number (written_of rows list.nodes)) (cursor_of rows list.cursor) (timers_of timers rows)
    unfolding row
    enters = record {
      written = record {
        listed = entered-listed m.written refl fresh nodes lookups none;
        cursor = cursor;
        all = λ ordered p some. elim (cases_eq p place) as (λ _. IsSome (written_slot_at new p)) [
          | inl q ↦ ap (λ p. is_some (written_slot_at new p)) q ∙ ap (λ o. is_some (option_and_then written_in o)) c.changed ∙ kept ∙ sym (ap (λ (l : Listing). l.ordered) rest) ∙ ordered
          | inr ne ↦
              ap is_some (read-other written_in (row_at rows) (row_at new) place (Some row) c p ne)
              ∙ w.all (sym (ap (λ (l : Listing). l.ordered) rest) ∙ ordered) p (ap is_some (sym (other-member row c p ne)) ∙ some)
        ];
      };
      timed = timed-kept rows new timers t (same-timer row c refl) (λ p _ some. elim (cases_eq p place) as (λ _. IsSome (membership_at new p)) [
        | inl q ↦ ap (λ p. is_some (membership_at new p)) q ∙ ap (λ o. is_some (option_and_then (λ (row : Row (Record K V)). row.membership) o)) c.changed
        | inr ne ↦ ap is_some (other-member row c p ne) ∙ some
      ]);
      written_is =
          written-pushed new list.nodes list.ordered m.written place was.number after.nodes kept nodes (nodes-kept list after m.written none) (number-of new place row c.changed)
          ∙ ap (entered_by list.ordered was.number) (written-same rows new list.nodes w.listed (λ p _. numbers-kept row c refl p));
      cursor_is = ap (λ (l : Listing). cursor_of new l.cursor) rest ∙ cursor-same rows new list.nodes w.listed (λ p _. numbers-kept row c refl p) list.cursor w.cursor;
      timers_is = timers-kept rows new timers t (same-timer row c refl) d e (λ p _. numbers-kept row c refl p);
    }

  -- the row is a member no longer
  module _ (m : Membership) (there : was.membership ≡ Some m) (still : was.timer ≡ None) (c : ChangesAt (row_at rows) (row_at new) place (Some (record was { membership = None })))
      (nodes : IfSome m.written (λ s. after.nodes ≡ remove_entry (nat_eq s) list.nodes))
      (lookups : IfSome m.written (λ s. (other : ℕ) → lookup (nat_eq other) after.nodes ≡ cond (nat_eq s other) None (lookup (nat_eq other) list.nodes)))
      (rest : after ≡ record list { nodes = after.nodes; cursor = node_past m.written list.nodes list.cursor })
      (none : IfNone m.written (after ≡ list)) (cursor : IsCursor after.nodes after.cursor) where
    bare : Row (Record K V)
    bare = record was { membership = None }

    slot-was : written_in was ≡ m.written
    slot-was = ap (option_and_then (λ (m : Membership). m.written)) there

    left-listed : (slot : Option ℕ) → m.written ≡ slot → IfSome slot (λ s. after.nodes ≡ remove_entry (nat_eq s) list.nodes)
        → IfSome slot (λ s. (other : ℕ) → lookup (nat_eq other) after.nodes ≡ cond (nat_eq s other) None (lookup (nat_eq other) list.nodes)) → IfNone slot (after ≡ list) → HasSlots written_in new after.nodes
    unfolding bare
    left-listed None is nodes lookups none =
        subst (λ l. HasSlots written_in new l.nodes) (sym none) (listed-kept written_in rows list.nodes w.listed new (read-same written_in (row_at rows) (row_at new) place (Some bare) c (sym (ap (option_and_then written_in) at_is ∙ slot-was ∙ is))))
    left-listed (Some s) is nodes lookups none =
        listed-removed written_in rows list.nodes w.listed s place after.nodes new (read-other written_in (row_at rows) (row_at new) place (Some bare) c)
        (ap (option_and_then written_in) at_is ∙ slot-was ∙ is) (ap (option_and_then written_in) c.changed) nodes lookups

    left-numbers : written_of new after.nodes ≡ written_of rows after.nodes
    unfolding written_of bare
    left-numbers = map-all (λ (m : ℕ × ℕ). number_at new m.1) (λ m. number_at rows m.1) after.nodes (λ m. numbers-kept bare c refl m.1)

    left-cursor : cursor_of new after.cursor ≡ cursor_of rows after.cursor
    unfolding cursor_of bare
    left-cursor = elim after.cursor as (λ o. option_map (λ (m : ℕ × ℕ). number_at new m.1) o ≡ option_map (λ (m : ℕ × ℕ). number_at rows m.1) o) [ None ↦ refl | Some m ↦ ap Some (numbers-kept bare c refl m.1) ]

    pub leaves : OrdersAfter new after timers (without_number was.number (written_of rows list.nodes)) (cursor_past was.number (written_of rows list.nodes) (cursor_of rows list.cursor)) (timers_of timers rows)
    unfolding bare
    leaves = record {
      written = record {
        listed = left-listed m.written refl nodes lookups none;
        cursor = cursor;
        all = λ ordered p some. elim (cases_eq p place) as (λ _. IsSome (written_slot_at new p)) [
          | inl q ↦ absurd (false≢true (sym (ap (λ p. is_some (membership_at new p)) q ∙ ap (λ o. is_some (option_and_then (λ (row : Row (Record K V)). row.membership) o)) c.changed) ∙ some))
          | inr ne ↦
              ap is_some (read-other written_in (row_at rows) (row_at new) place (Some bare) c p ne)
              ∙ w.all (sym (ap (λ (l : Listing). l.ordered) rest) ∙ ordered) p (ap is_some (sym (other-member bare c p ne)) ∙ some)
        ];
      };
      timed = timed-kept rows new timers t (same-timer bare c refl) (λ p timer some. elim (cases_eq p place) as (λ _. IsSome (membership_at new p)) [
        | inl q ↦ absurd (false≢true (sym (ap (λ p. is_some (timer_at rows p)) q ∙ ap (λ o. is_some (option_and_then (λ (row : Row (Record K V)). row.timer) o)) at_is ∙ ap is_some still) ∙ timer))
        | inr ne ↦ ap is_some (other-member bare c p ne) ∙ some
      ]);
      written_is =
          left-numbers
          ∙ written-removed rows list.nodes w.listed d place was at_is m.written after.nodes slot-was nodes (nodes-kept list after m.written none);
      cursor_is =
          left-cursor
          ∙ ap (λ (l : Listing). cursor_of rows l.cursor) rest ∙ cursor-past rows list.nodes w.listed d place was at_is m.written list.cursor slot-was w.cursor;
      timers_is = timers-kept rows new timers t (same-timer bare c refl) d e (λ p _. numbers-kept bare c refl p);
    }

-- ---- a timer is taken out

module _ {K V : Type 0} (rows new : List (Option (Row (Record K V)))) (list : Listing) (timers after : FinMap nat_cmp Timer) (w : IsWritten rows list) (t : IsTimed rows timers) (d : IsNumbered (row_at rows)) (place : ℕ) (was : Row (Record K V)) (at_is : row_at rows place ≡ Some was)
    (c : ChangesAt (row_at rows) (row_at new) place (Some (record was { timer = None }))) (before : Option ℕ) (was_is : before ≡ was.timer) where
  pub untimes : (slot : Option ℕ) (timed : Bool) → is_some slot ≡ (timed && false) → ((other : ℕ) → get after other ≡ timer_after timers before slot place None other) → OrdersAfter new list after (written_of rows list.nodes) (cursor_of rows list.cursor) (remove (timers_of timers rows) was.number)
  untimes slot timed kept lookups =
      let none : slot ≡ None = no-slot slot timed kept in
      let u : (other : ℕ) → get after other ≡ timer_after timers was.timer None place None other = λ other. lookups other ∙ ap (λ o. timer_after timers o slot place None other) was_is ∙ ap (λ o. timer_after timers was.timer o place None other) none in
      let s = stays-timed rows new place was at_is None c list w in
      record {
        written = s.written;
        timed = timed-set rows new timers after t place was at_is None None c tt u (λ h. h) (λ h. absurd (false≢true h));
        written_is = s.written_is;
        cursor_is = s.cursor_is;
        timers_is = timers-gone rows new timers after t place was at_is None None c tt u (λ h. h) d refl;
      }
    where
      no-slot : (slot : Option ℕ) (timed : Bool) → is_some slot ≡ (timed && false) → slot ≡ None
      no-slot None timed h = refl
      no-slot (Some s) true h = absurd (false≢true (sym h))
      no-slot (Some s) false h = absurd (false≢true (sym h))

-- ---- a timer is set

module _ {K V : Type 0} (rows new : List (Option (Row (Record K V)))) (list : Listing) (timers after : FinMap nat_cmp Timer) (w : IsWritten rows list) (t : IsTimed rows timers) (d : IsNumbered (row_at rows)) (place : ℕ) (was : Row (Record K V)) (at_is : row_at rows place ≡ Some was) where
  pub times : (slot : Option ℕ) → ChangesAt (row_at rows) (row_at new) place (Some (record was { timer = slot })) → (before : Option ℕ) → before ≡ was.timer → (timed : Bool) (at : Option ℕ) → is_some slot ≡ (timed && is_some at)
      → IfSome slot (λ s. (before ≡ Some s) ⊎ (get timers s ≡ None)) → ((other : ℕ) → get after other ≡ timer_after timers before slot place at other)
      → (timed ≡ false → (s : ℕ) → get timers s ≡ None) → IsSome was.membership → OrdersAfter new list after (written_of rows list.nodes) (cursor_of rows list.cursor) (cond timed (with_timer (timers_of timers rows) was.number at) (timers_of timers rows))
  times slot c before was_is timed at kept fresh lookups none member =
      let s = stays-timed rows new place was at_is slot c list w in
      let own : IfSome slot (λ s. (was.timer ≡ Some s) ⊎ (get timers s ≡ None)) = subst (λ o. IfSome slot (λ s. (o ≡ Some s) ⊎ (get timers s ≡ None))) was_is fresh in
      let u : (other : ℕ) → get after other ≡ timer_after timers was.timer slot place at other = λ other. lookups other ∙ ap (λ o. timer_after timers o slot place at other) was_is in
      let some : IsSome slot → IsSome at = λ h. (and_parts timed (is_some at) (sym kept ∙ h)).1 in
      record {
        written = s.written;
        timed = timed-set rows new timers after t place was at_is slot at c own u some (λ _. member);
        written_is = s.written_is;
        cursor_is = s.cursor_is;
        timers_is = timers-set rows new timers after t place was at_is slot at c own u some d ∙ shown timed at (is_some slot) kept none;
      }
    where
      present : (o : Option ℕ) → cond (is_some o) o None ≡ o
      present None = refl
      present (Some x) = refl

      unmoved : ((s : ℕ) → get timers s ≡ None) → get (timers_of timers rows) was.number ≡ None
      unmoved none = moment-row rows timers t place was at_is d ∙ elim (option-cases was.timer) as (λ _. option_and_then (λ slot. option_map (λ (t : Timer). t.at) (get timers slot)) was.timer ≡ None) [
        | inl e ↦ ap (option_and_then (λ slot. option_map (λ (t : Timer). t.at) (get timers slot))) e
        | inr s ↦ ap (option_and_then (λ slot. option_map (λ (t : Timer). t.at) (get timers slot))) s.1 ∙ ap (option_map (λ (t : Timer). t.at)) (none s.0)
      ]

      shown : (timed : Bool) (at : Option ℕ) (given : Bool) → given ≡ (timed && is_some at) → (timed ≡ false → (s : ℕ) → get timers s ≡ None)
          → with_timer (timers_of timers rows) was.number (cond given at None) ≡ cond timed (with_timer (timers_of timers rows) was.number at) (timers_of timers rows)
      shown true at given kept none = ap (λ b. with_timer (timers_of timers rows) was.number (cond b at None)) kept ∙ ap (with_timer (timers_of timers rows) was.number) (present at)
      shown false at given kept none = ap (λ b. with_timer (timers_of timers rows) was.number (cond b at None)) kept ∙ altered-same (timers_of timers rows) was.number None (unmoved (none refl))

-- where a row has no timer, there is room for one
pub timer-room : {K V : Type 0} (rows : List (Option (Row (Record K V)))) (timers : FinMap nat_cmp Timer) → IsTimed rows timers → (place : ℕ) (was : Row (Record K V)) → row_at rows place ≡ Some was → (at : Option Instant) (most : ℕ) → count_by is_some rows ≤ most → (before : Option ℕ) → before ≡ was.timer → IfNone before (IfSome at (λ _. len timers < most))
timer-room rows timers t place was at_is at most fits (Some slot) is = tt
timer-room rows timers t place was at_is None most fits None is = tt
timer-room rows timers t place was at_is (Some i) most fits None is = (let below = timed-below rows timers t place was at_is (sym is) in omega arith)

-- ---- rows of members

-- the row of a member, by its place
pub record MemberPlace {K V : Type 0} (rows : List (Option (Row (Record K V)))) (nodes : List (ℕ × ℕ)) (place : ℕ) : Type 0 where
  pub row : Row (Record K V)
  pub at_is : row_at rows place ≡ Some row
  pub number_is : number_at rows place ≡ row.number
  pub place_is : get (places_of rows) row.number ≡ Some place
  pub slot_is : IsSome (written_in row)
  pub counted_is : IsSome (counted_of row.number (map (member_at rows) nodes))

module _ {K V : Type 0} (eq : K → K → Bool) (rows : List (Option (Row (Record K V)))) (index : KeyIndex K) (nodes : List (ℕ × ℕ)) (t : IsTied eq rows index nodes) where
  -- a member's number is counted
  pub counted-member : (place : ℕ) (row : Row (Record K V)) → row_at rows place ≡ Some row → IsSome row.membership → IsSome (counted_of row.number (map (member_at rows) nodes))
  counted-member place row at_is member = ap is_some (counted-row eq rows index nodes t place row at_is) ∙ mapped_is_some (λ (m : Membership). m.counted) row.membership ∙ member

  -- a row whose number is counted is a member's
  pub member-of : (place : ℕ) (row : Row (Record K V)) → row_at rows place ≡ Some row → IsSome (counted_of row.number (map (member_at rows) nodes)) → IsSome row.membership
  member-of place row at_is counted = sym (ap is_some (counted-row eq rows index nodes t place row at_is) ∙ mapped_is_some (λ (m : Membership). m.counted) row.membership) ∙ counted

  -- a node of the write list leads to one, and its number stands in the order
  pub written-place : (list : Listing) → IsWritten rows list → (slot place : ℕ) → lookup (nat_eq slot) list.nodes ≡ Some place → MemberPlace rows nodes place
  written-place list w slot place h =
      let r = slot-row written_in rows list.nodes w.listed (slot, place) (node-in list.nodes slot place h) in
      record {
        row = r.row;
        at_is = r.at_is;
        number_is = r.number_is;
        place_is = get-places rows t.numbered place r.row r.at_is;
        slot_is = ap is_some r.slot_is;
        counted_is = counted-member place r.row r.at_is (written-member (Some r.row) (ap is_some r.slot_is));
      }

  -- a handle to it
  pub written-handle : {S : Type 0} (hasher : S) (timing : Timing) (spare room most : ℕ) (list : Listing) → IsWritten rows list → (slot place : ℕ) → lookup (nat_eq slot) list.nodes ≡ Some place → (handle : Handle) → handle.place ≡ place → ((row : Row (Record K V)) → row_at rows place ≡ Some row → handle.number ≡ row.number)
      → IsOrdered (kept_of hasher rows nodes list timing spare room most) handle
  written-handle hasher timing spare room most list w slot place h handle place_is number_is =
      let n = written-place list w slot place h in
      let number = number_is n.row n.at_is in
      record { placed = rw (number, place_is) n.place_is; member = rw number n.counted_is; listed = rw number (listed-row rows list.nodes w.listed t.numbered place n.row n.at_is ∙ n.slot_is) }

-- room for more changes no order
pub written-grown : {K V : Type 0} (rows : List (Option (Row (Record K V)))) (list after : Listing) → IsWritten rows list → after ≡ record list { most = after.most } → IsWritten rows after
written-grown rows list after w e = subst (λ l. IsWritten rows l) (sym e) (record { listed = w.listed; cursor = w.cursor; all = w.all })

-- ---- nothing is there

pub written-empty : {K V : Type 0} (rows : List (Option (Row (Record K V)))) (list : Listing) → rows ≡ [] → list.nodes ≡ [] → list.cursor ≡ None → IsWritten rows list
written-empty {K} {V} rows list re ne ce = record {
  listed = listed-empty written_in rows list.nodes re ne;
  cursor = λ m h. (let bad : None ≡ Some m = sym ce ∙ h in cc);
  all = λ _ p some. absurd (false≢true (sym (ap (λ (r : List (Option (Row (Record K V)))). is_some (membership_at r p)) re) ∙ some));
}

pub timed-empty : {K V : Type 0} (rows : List (Option (Row (Record K V)))) (timers : FinMap nat_cmp Timer) → rows ≡ [] → timers ≡ empty → IsTimed rows timers
timed-empty {K} {V} rows timers re te = record {
  linked = record {
    to_slot = λ s p h. (let none = ap (option_map (λ (t : Timer). t.number)) (ap (λ m. get m s) te ∙ get-empty nat_cmp s) in let bad : None ≡ Some p = sym none ∙ h in cc);
    to_place = λ s p h. (let bad : None ≡ Some s = sym (ap (λ (r : List (Option (Row (Record K V)))). timer_at r p) re) ∙ h in cc);
  };
  members = λ p some. absurd (false≢true (sym (ap (λ (r : List (Option (Row (Record K V)))). is_some (timer_at r p)) re) ∙ some));
}
