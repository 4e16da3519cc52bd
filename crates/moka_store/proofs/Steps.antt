-- What a store is after each of its calls.
use Rattle.std.proofs.Common.{◌≡◌, ◌≢◌, ℕ, arith, ◌≤◌, Bool, true, false, cond, List, [], ◌∷◌, ◌++◌, map, Option, Some, None, IsSome, is_some, inl, inr, refl, sym, ap, subst, ◌∙◌, nat_eq}
use Rattle.std.proofs.lemmas.Bool.{cases_Bool, false≢true}
use Rattle.std.proofs.lemmas.Bool.Decides.{nat_tests}
use Rattle.std.proofs.lemmas.List.{map-append}
use Rattle.std.specs.Cmp.{IsEquivalence}
use Rattle.std.specs.FinMap.{FinMap, get, insert, remove, len, empty, get-empty}
use Rattle.std.specs.Map.{lookup, remove_entry}
use Rattle.std.specs.Option.{option_map, option_and_then, option_map_or}
use Rattle.std.specs.Ordering.{nat_cmp}
use Rattle.std.specs.Prelude.{IfSome, option_to_list}
use Rattle.moka_table.proofs.TableCalls.{get-records, get-places, record_row, placed_row, shows-inserted, shows-stored, shows-forgotten, with_stored-changes, count-with_stored}
use Rattle.moka_table.proofs.TableMaps.{read-of, made-of, alters-set, numbered-after}
use Rattle.moka_store.proofs.Gets.{option-cases, some_is, get-inserted, len-kept}
use Rattle.moka_table.specs.declared.table.membership.Membership.{Membership}
use Rattle.moka_table.specs.RecordTable.{Row, Table, row_at, number_at, stored_at, membership_at, with_stored, ChangesAt, records_of, places_of}
use Rattle.moka_store.proofs.Keys.{index-same, index-added, index-removed}
use Rattle.moka_store.proofs.Nodes.{in-nodes, node-in, lookup-remove, distinct-remove}
use Rattle.moka_store.proofs.Orders.{slot-there, stays-row}
use Rattle.moka_records.proofs.Options.{mapped_is_some}
use Rattle.moka_store.proofs.Slots.{slot-row, off-nodes, listed-kept, listed-added, listed-removed, listed-moved, listed-empty}
use Rattle.moka_store.proofs.Timed.{untimed}
use Rattle.moka_store.proofs.Ties.{read-other, read-same, named-changed, access-kept, access-off, access-of, counted-row, without-row, unlisted-from}
use Rattle.moka_records.proofs.Lookup.{record_of_key_found, absent_key}
use Rattle.moka_wheel.specs.TimerWheel.{Timer}
use Rattle.moka_store.specs.WriteList.{Listing}
use Rattle.moka_store.specs.Timers.{Timing}
use Rattle.moka_store.specs.declared.store.Handle.{Handle}
use Rattle.moka_store.specs.Store.{IsOneEach, IsHandle, ChangesRecord}
use Rattle.moka_store.specs.Rows.{key_in, key_at, passes_at, access_in, access_at, member_in, member_at}
use Rattle.moka_store.specs.StoreTies.{AreNarrow, KeyIndex, HasSlots, IsIndex, IsTied, IsWritten, IsTimed, IsStore, kept_of}
use Rattle.moka_store.specs.Weights.{IsWeighed}
use Rattle.moka_records.specs.declared.records.Member.{Member}
use Rattle.moka_records.specs.declared.records.Record.{Record}
use Rattle.moka_records.specs.KeyTests.{record_by}
use Rattle.moka_records.specs.Records.{member, counted_of, record_of_key, without_member, to_back}

-- the parts belong together, and the list stands for these members
pub record Sees {K V : Type 0} (eq : K → K → Bool) (rows : List (Option (Row (Record K V)))) (index : KeyIndex K) (nodes : List (ℕ × ℕ)) (members : List Member) : Type 0 where
  pub tied : IsTied eq rows index nodes
  pub access : map (member_at rows) nodes ≡ members

-- a number's row
pub record Placed {K V : Type 0} (rows : List (Option (Row (Record K V)))) (place number : ℕ) : Type 0 where
  pub row : Row (Record K V)
  pub at_is : row_at rows place ≡ Some row
  pub number_is : row.number ≡ number
  pub number_at_is : number_at rows place ≡ number

-- the row of a record
pub record Handled {K V : Type 0} (rows : List (Option (Row (Record K V)))) (place number : ℕ) : Type 0 where
  pub row : Row (Record K V)
  pub stored : Record K V
  pub at_is : row_at rows place ≡ Some row
  pub number_is : row.number ≡ number
  pub number_at_is : number_at rows place ≡ number
  pub stored_is : row.stored ≡ Some stored
  pub stored_at_is : stored_at rows place ≡ Some stored
  pub record_is : get (records_of rows) number ≡ Some stored

module _ {K V : Type 0} (eq : K → K → Bool) (rows : List (Option (Row (Record K V)))) (index : KeyIndex K) (nodes : List (ℕ × ℕ)) (t : IsTied eq rows index nodes) where
  pub placed : (place number : ℕ) → get (places_of rows) number ≡ Some place → Placed rows place number
  placed place number h = let w = placed_row rows t.numbered place number h in record { row = w.0; at_is = w.1; number_is = w.2; number_at_is = ap (λ o. option_map_or (λ (row : Row (Record K V)). row.number) o 0) w.1 ∙ w.2 }

  pub handled : (place number : ℕ) → get (places_of rows) number ≡ Some place → IsSome (get (records_of rows) number) → Handled rows place number
  handled place number h s =
      let w = placed place number h in
      let there : get (records_of rows) number ≡ w.row.stored = ap (get (records_of rows)) (sym w.number_is) ∙ get-records rows t.numbered place w.row w.at_is in
      let r = some_is (get (records_of rows) number) s in
      let is : w.row.stored ≡ Some r.0 = sym there ∙ r.1 in
      record { row = w.row; stored = r.0; at_is = w.at_is; number_is = w.number_is; number_at_is = w.number_at_is; stored_is = is; stored_at_is = ap (option_and_then (λ (row : Row (Record K V)). row.stored)) w.at_is ∙ is; record_is = r.1 }

  -- a place of a record
  key-there : (place : ℕ) (row : Row (Record K V)) (r : Record K V) → row_at rows place ≡ Some row → row.stored ≡ Some r → key_at rows place ≡ Some r.key
  key-there place row r at_is is = ap (option_and_then key_in) at_is ∙ ap (option_map (λ (r : Record K V). r.key)) is

  -- each record is under its own number, and a key has one record
  pub one-each : IsEquivalence eq → IsOneEach eq (records_of rows)
  one-each laws = record {
    numbered = λ n r h. let w = record_row rows t.numbered n r h in t.named.same w.0 w.1 r w.2 w.4 ∙ w.3;
    one_each = λ n m p q a b e.
        let v = record_row rows t.numbered n p a in
        let w = record_row rows t.numbered m q b in
        let place = t.indexed.once v.0 w.0 p.key q.key (key-there v.0 v.1 p v.2 v.4) (key-there w.0 w.1 q w.2 w.4) e in
        cc;
  }

  -- a test that no place under its hash passes finds nothing
  pub record-of-absent : (passes : K → Bool) (hash : ℕ) → ((k : K) → passes k ≡ true → hash ≡ index.hash_of k) → ((p : ℕ) → get index.entries p ≡ Some hash → passes_at passes rows p ≡ false) → record_by passes (records_of rows) ≡ None
  record-of-absent passes hash hashed none = elim (option-cases (record_by passes (records_of rows))) as (λ _. record_by passes (records_of rows) ≡ None) [
    | inl e ↦ e
    | inr r ↦
        let w = record_of_key_found (λ (_ : K). passes) (records_of rows) r.0.key r.0 r.1 in
        let v = record_row rows t.numbered w.0 r.0 w.1 in
        let there = key-there v.0 v.1 r.0 v.2 v.4 in
        let never = none v.0 (t.indexed.at v.0 ∙ ap (option_map index.hash_of) there ∙ ap Some (sym (hashed r.0.key w.2))) in
        let test = ap (λ o. option_map_or (λ (r : Record K V). passes r.key) o false) (ap (option_and_then (λ (row : Row (Record K V)). row.stored)) v.2 ∙ v.4) in
        cc
  ]

  -- where a key has no record, no place has it
  pub key-fresh : (key : K) → record_of_key eq (records_of rows) key ≡ None → (p : ℕ) (x : K) → key_at rows p ≡ Some x → eq key x ≡ false
  key-fresh key none p x h = elim (cases_Bool (eq key x)) as (λ _. eq key x ≡ false) [
    | inl y ↦
        let w = read-of key_in (row_at rows p) x h in
        let r = made-of (λ (r : Record K V). r.key) w.0.stored x w.2 in
        let other = absent_key eq (records_of rows) key none w.0.number r.0 (get-records rows t.numbered p w.0 w.1 ∙ r.1) in
        cc
    | inr f ↦ f
  ]

-- the row of a member
pub record MemberRow {K V : Type 0} (rows : List (Option (Row (Record K V)))) (nodes : List (ℕ × ℕ)) (place number : ℕ) (m : Membership) : Type 0 where
  pub row : Row (Record K V)
  pub at_is : row_at rows place ≡ Some row
  pub number_is : row.number ≡ number
  pub number_at_is : number_at rows place ≡ number
  pub membership_is : row.membership ≡ Some m
  pub node_is : lookup (nat_eq m.access) nodes ≡ Some place
  pub counted_is : counted_of number (map (member_at rows) nodes) ≡ Some m.counted

-- the row that a node leads to
pub record NodeMember {K V : Type 0} (rows : List (Option (Row (Record K V)))) (nodes : List (ℕ × ℕ)) (slot place : ℕ) : Type 0 where
  pub row : Row (Record K V)
  pub at_is : row_at rows place ≡ Some row
  pub place_is : get (places_of rows) row.number ≡ Some place
  pub member_is : member_at rows (slot, place) ≡ member_in row
  pub counted_is : IsSome (counted_of row.number (map (member_at rows) nodes))

module _ {K V : Type 0} (eq : K → K → Bool) (rows : List (Option (Row (Record K V)))) (index : KeyIndex K) (nodes : List (ℕ × ℕ)) (t : IsTied eq rows index nodes) where
  pub node-member : (slot place : ℕ) → lookup (nat_eq slot) nodes ≡ Some place → NodeMember rows nodes slot place
  node-member slot place h =
      let w = slot-row access_in rows nodes t.listed (slot, place) (node-in nodes slot place h) in
      record {
        row = w.row;
        at_is = w.at_is;
        place_is = get-places rows t.numbered place w.row w.at_is;
        member_is = ap (λ o. option_map_or member_in o (record { number = 0; counted = 0 })) w.at_is;
        counted_is = ap is_some (counted-row eq rows index nodes t place w.row w.at_is) ∙ mapped_is_some (λ (m : Membership). m.counted) w.row.membership ∙ sym (mapped_is_some (λ (m : Membership). m.access) w.row.membership) ∙ ap is_some w.slot_is;
      }

  module _ (place number : ℕ) (h : get (places_of rows) number ≡ Some place) where
    -- what the table counts is what the list counts
    pub counted-placed : option_map (λ (m : Membership). m.counted) (membership_at rows place) ≡ counted_of number (map (member_at rows) nodes)
    counted-placed =
        let w = placed eq rows index nodes t place number h in
        ap (λ o. option_map (λ (m : Membership). m.counted) (option_and_then (λ (row : Row (Record K V)). row.membership) o)) w.at_is
        ∙ sym (counted-row eq rows index nodes t place w.row w.at_is)
        ∙ ap (λ n. counted_of n (map (member_at rows) nodes)) w.number_is

    -- a number that is counted has a membership
    pub member-there : IsSome (counted_of number (map (member_at rows) nodes)) → membership_at rows place ≡ None → ⊥
    member-there c none = false≢true (sym (ap is_some (sym counted-placed ∙ ap (option_map (λ (m : Membership). m.counted)) none)) ∙ c)

    pub member-row : (m : Membership) → membership_at rows place ≡ Some m → MemberRow rows nodes place number m
    member-row m e =
        let w = placed eq rows index nodes t place number h in
        let is : w.row.membership ≡ Some m = sym (ap (option_and_then (λ (row : Row (Record K V)). row.membership)) w.at_is) ∙ e in
        record {
          row = w.row;
          at_is = w.at_is;
          number_is = w.number_is;
          number_at_is = w.number_at_is;
          membership_is = is;
          node_is = access-of eq rows index nodes t place w.row w.at_is m is;
          counted_is = sym counted-placed ∙ ap (option_map (λ (m : Membership). m.counted)) e;
        }

    -- its nodes in both lists
    pub member-node : (m : Membership) → membership_at rows place ≡ Some m → IsSome (lookup (nat_eq m.access) nodes)
    member-node m e = ap is_some (member-row m e).node_is

    pub member-slot : (list : Listing) → IsWritten rows list → (m : Membership) → membership_at rows place ≡ Some m → IfSome m.written (λ slot. IsSome (lookup (nat_eq slot) list.nodes))
    member-slot list written m e = let w = member-row m e in slot-there rows list written place w.row w.at_is m.written (ap (option_and_then (λ (m : Membership). m.written)) w.membership_is)

    -- a number that is not counted is of a row that is no member
    pub unlisted : (w : Placed rows place number) → counted_of number (map (member_at rows) nodes) ≡ None → w.row.membership ≡ None
    unlisted w none = unlisted-from eq rows index nodes t place w.row w.at_is (ap (λ n. counted_of n (map (member_at rows) nodes)) w.number_is ∙ none)

    -- a row that may go
    pub bare-row : (timers : FinMap nat_cmp Timer) → IsTimed rows timers → get (records_of rows) number ≡ None → counted_of number (map (member_at rows) nodes) ≡ None → row_at rows place ≡ Some (record { number = number_at rows place; stored = None; membership = None; timer = None })
    bare-row timers timed gone apart =
        let w = placed eq rows index nodes t place number h in
        let bare : w.row.stored ≡ None = sym (get-records rows t.numbered place w.row w.at_is) ∙ ap (get (records_of rows)) w.number_is ∙ gone in
        let alone = unlisted w apart in
        let still = untimed rows timers timed place w.row w.at_is alone in
        let number : w.row.number ≡ number_at rows place = w.number_is ∙ sym w.number_at_is in
        w.at_is ∙ (λ i. Some (record { number = number i; stored = bare i; membership = alone i; timer = still i }))

-- ---- one lemma for each call

module _ {K V : Type 0} (eq : K → K → Bool) (laws : IsEquivalence eq) (rows new : List (Option (Row (Record K V)))) (index : KeyIndex K) (nodes : List (ℕ × ℕ)) (place : ℕ) (t : IsTied eq rows index nodes) where
  -- a new record
  pub inserted : (r : Record K V) → row_at rows place ≡ None → get (places_of rows) r.number ≡ None → ((p : ℕ) (x : K) → key_at rows p ≡ Some x → eq r.key x ≡ false)
      → ChangesAt (row_at rows) (row_at new) place (Some (record { number = r.number; stored = Some r; membership = None; timer = None }))
      → Sees eq new (record index { entries = insert index.entries place (index.hash_of r.key) }) nodes (map (member_at rows) nodes)
  inserted r vacant fresh unknown c =
      let row : Row (Record K V) = record { number = r.number; stored = Some r; membership = None; timer = None } in
      record {
        tied = record {
          numbered = (shows-inserted rows new place t.numbered r.number r vacant fresh c).numbered;
          named = named-changed (row_at rows) (row_at new) place t.named (Some row) c (λ s e. let same : r ≡ s = cc in ap (λ (r : Record K V). r.number) (sym same));
          indexed = index-added eq (key_at rows) (key_at new) index t.indexed place (read-other key_in (row_at rows) (row_at new) place (Some row) c) laws r.key (ap (option_and_then key_in) c.changed) unknown;
          listed = listed-kept access_in rows nodes t.listed new (read-same access_in (row_at rows) (row_at new) place (Some row) c (sym (ap (option_and_then access_in) vacant)));
        };
        access = access-off rows new place (Some row) c nodes (λ m h e. (let slot = t.listed.linked.to_slot m.0 m.1 (in-nodes nodes m t.listed.distinct h) in let none = ap (option_and_then access_in) vacant in cc));
      }

  module _ (was : Row (Record K V)) (at_is : row_at rows place ≡ Some was) where
    same-members : (row : Row (Record K V)) → ChangesAt (row_at rows) (row_at new) place (Some row) → access_in row ≡ access_in was → HasSlots access_in new nodes
    same-members row c e = listed-kept access_in rows nodes t.listed new (read-same access_in (row_at rows) (row_at new) place (Some row) c (e ∙ sym (ap (option_and_then access_in) at_is)))

    same-keys : (row : Row (Record K V)) → ChangesAt (row_at rows) (row_at new) place (Some row) → key_in row ≡ key_in was → IsIndex eq (key_at new) index
    same-keys row c e = index-same eq (key_at rows) (key_at new) index t.indexed (read-same key_in (row_at rows) (row_at new) place (Some row) c (e ∙ sym (ap (option_and_then key_in) at_is)))

    same-access : (row : Row (Record K V)) → ChangesAt (row_at rows) (row_at new) place (Some row) → row.number ≡ was.number → row.membership ≡ was.membership → map (member_at new) nodes ≡ map (member_at rows) nodes
    same-access row c n e = access-kept rows new place (Some row) c nodes
        (ap (λ n. member n (option_map_or (λ (m : Membership). m.counted) row.membership 0)) n ∙ ap (λ m. member was.number (option_map_or (λ (m : Membership). m.counted) m 0)) e
        ∙ sym (ap (λ o. option_map_or member_in o (record { number = 0; counted = 0 })) at_is))

    -- a row of the same number and record
    same-record : (row : Row (Record K V)) → ChangesAt (row_at rows) (row_at new) place (Some row) → row.number ≡ was.number → row.stored ≡ was.stored → {after : List (ℕ × ℕ)} → HasSlots access_in new after → IsTied eq new index after
    same-record row c number stored listed = record {
      numbered = numbered-after (alters-set t.numbered was row at_is number c);
      named = named-changed (row_at rows) (row_at new) place t.named (Some row) c (λ r e. t.named.same place was r at_is (sym stored ∙ e) ∙ sym number);
      indexed = same-keys row c (ap (option_map (λ (r : Record K V). r.key)) stored);
      listed = listed;
    }

    -- another record of the same number and key
    pub stored : (old r : Record K V) → was.stored ≡ Some old → r.number ≡ old.number → r.key ≡ old.key → ChangesAt (row_at rows) (row_at new) place (Some (record was { stored = Some r })) → Sees eq new index nodes (map (member_at rows) nodes)
    stored old r is number key c =
        let row : Row (Record K V) = record was { stored = Some r } in
        record {
          tied = record {
            numbered = numbered-after (alters-set t.numbered was row at_is refl c);
            named = named-changed (row_at rows) (row_at new) place t.named (Some row) c (λ s e. let same : r ≡ s = cc in ap (λ (r : Record K V). r.number) (sym same) ∙ number ∙ t.named.same place was old at_is is);
            indexed = same-keys row c (ap Some key ∙ sym (ap (option_map (λ (r : Record K V). r.key)) is));
            listed = same-members row c refl;
          };
          access = same-access row c refl refl;
        }

    -- the record leaves the map
    pub taken : ChangesAt (row_at rows) (row_at new) place (Some (record was { stored = None })) → Sees eq new (record index { entries = remove index.entries place }) nodes (map (member_at rows) nodes)
    taken c =
        let row : Row (Record K V) = record was { stored = None } in
        record {
          tied = record {
            numbered = numbered-after (alters-set t.numbered was row at_is refl c);
            named = named-changed (row_at rows) (row_at new) place t.named (Some row) c (λ s e. cc);
            indexed = index-removed eq (key_at rows) (key_at new) index t.indexed place (read-other key_in (row_at rows) (row_at new) place (Some row) c) (ap (option_and_then key_in) c.changed);
            listed = same-members row c refl;
          };
          access = same-access row c refl refl;
        }

    -- the row gets another timer
    pub retimed : (timer : Option ℕ) → ChangesAt (row_at rows) (row_at new) place (Some (record was { timer = timer })) → Sees eq new index nodes (map (member_at rows) nodes)
    retimed timer c =
        let row : Row (Record K V) = record was { timer = timer } in
        record {
          tied = same-record row c refl refl (same-members row c refl);
          access = same-access row c refl refl;
        }

    -- the row becomes a member, whose node is behind all others
    pub admitted : (m : Membership) (after : List (ℕ × ℕ)) → was.membership ≡ None → lookup (nat_eq m.access) nodes ≡ None → after ≡ nodes ++ (m.access, place) ∷ []
        → ((s : ℕ) → lookup (nat_eq s) after ≡ cond (nat_eq s m.access) (Some place) (lookup (nat_eq s) nodes))
        → ChangesAt (row_at rows) (row_at new) place (Some (record was { membership = Some m })) → Sees eq new index after (map (member_at rows) nodes ++ member was.number m.counted ∷ [])
    admitted m after none free is u c =
        let row : Row (Record K V) = record was { membership = Some m } in
        record {
          tied = same-record row c refl refl (listed-added access_in rows nodes t.listed m.access place after new (read-other access_in (row_at rows) (row_at new) place (Some row) c)
              (ap (option_and_then access_in) at_is ∙ ap (option_map (λ (m : Membership). m.access)) none) (ap (option_and_then access_in) c.changed) free is u);
          access =
              ap (map (member_at new)) is ∙ map-append (member_at new) nodes ((m.access, place) ∷ [])
              ∙ ap (λ l. l ++ member_at new (m.access, place) ∷ []) (access-off rows new place (Some row) c nodes (off-nodes access_in rows nodes t.listed place was at_is (ap (option_map (λ (m : Membership). m.access)) none)))
              ∙ ap (λ o. map (member_at rows) nodes ++ option_map_or member_in o (record { number = 0; counted = 0 }) ∷ []) c.changed;
        }

    -- the member leaves the list
    pub left : (m : Membership) (after : List (ℕ × ℕ)) → was.membership ≡ Some m → after ≡ remove_entry (nat_eq m.access) nodes
        → ((s : ℕ) → lookup (nat_eq s) after ≡ cond (nat_eq m.access s) None (lookup (nat_eq s) nodes))
        → ChangesAt (row_at rows) (row_at new) place (Some (record was { membership = None })) → Sees eq new index after (without_member was.number (map (member_at rows) nodes))
    left m after member_is is u c =
        let row : Row (Record K V) = record was { membership = None } in
        let l = listed-removed access_in rows nodes t.listed m.access place after new (read-other access_in (row_at rows) (row_at new) place (Some row) c)
        (ap (option_and_then access_in) at_is ∙ ap (option_map (λ (m : Membership). m.access)) member_is) (ap (option_and_then access_in) c.changed) is u in
        record {
          tied = same-record row c refl refl l;
          access =
              access-off rows new place (Some row) c after (λ k h e. (let slot = l.linked.to_slot k.0 k.1 (in-nodes after k l.distinct h) in let none = ap (option_and_then access_in) c.changed in cc))
              ∙ ap (map (member_at rows)) is
              ∙ sym (without-row eq rows index nodes t place was at_is m member_is);
        }

    -- the member gets another weight, and its node goes to the back
    pub recounted : (m : Membership) (weight : ℕ) (after : List (ℕ × ℕ)) → was.membership ≡ Some m → after ≡ remove_entry (nat_eq m.access) nodes ++ (m.access, place) ∷ []
        → ((s : ℕ) → lookup (nat_eq s) after ≡ lookup (nat_eq s) nodes)
        → ChangesAt (row_at rows) (row_at new) place (Some (record was { membership = Some (record m { counted = weight }) })) → Sees eq new index after (without_member was.number (map (member_at rows) nodes) ++ member was.number weight ∷ [])
    recounted m weight after member_is is u c =
        let row : Row (Record K V) = record was { membership = Some (record m { counted = weight }) } in
        let there : access_at rows place ≡ Some m.access = ap (option_and_then access_in) at_is ∙ ap (option_map (λ (m : Membership). m.access)) member_is in
        record {
          tied = same-record row c refl refl (listed-kept access_in rows after (listed-moved access_in rows nodes t.listed m.access place after is u) new (read-same access_in (row_at rows) (row_at new) place (Some row) c (sym there)));
          access =
              ap (map (member_at new)) is ∙ map-append (member_at new) (remove_entry (nat_eq m.access) nodes) ((m.access, place) ∷ [])
              ∙ ap (λ l. l ++ member_at new (m.access, place) ∷ []) (access-off rows new place (Some row) c (remove_entry (nat_eq m.access) nodes) (λ k h e.
              let found = in-nodes (remove_entry (nat_eq m.access) nodes) k (distinct-remove (nat_eq m.access) nodes t.listed.distinct) h in
              let other = lookup-remove m.access k.0 nodes t.listed.distinct in
              let was_in : lookup (nat_eq k.0) nodes ≡ Some k.1 = grind (arith, nat_tests) in
              let apart : m.access ≢ k.0 = grind (arith, nat_tests) in
              let slot = t.listed.linked.to_slot k.0 k.1 was_in in
              apart (cc)))
              ∙ ap (λ l. l ++ member_at new (m.access, place) ∷ []) (sym (without-row eq rows index nodes t place was at_is m member_is))
              ∙ ap (λ o. without_member was.number (map (member_at rows) nodes) ++ option_map_or member_in o (record { number = 0; counted = 0 }) ∷ []) c.changed;
        }

    -- the row goes
    pub forgotten : was.stored ≡ None → was.membership ≡ None → ChangesAt (row_at rows) (row_at new) place None → Sees eq new index nodes (map (member_at rows) nodes)
    forgotten bare alone c = record {
      tied = record {
        numbered = (shows-forgotten rows new place t.numbered was at_is bare alone c).numbered;
        named = named-changed (row_at rows) (row_at new) place t.named None c (λ r e. cc);
        indexed = index-same eq (key_at rows) (key_at new) index t.indexed (read-same key_in (row_at rows) (row_at new) place None c (sym (ap (option_and_then key_in) at_is ∙ ap (option_map (λ (r : Record K V). r.key)) bare)));
        listed = listed-kept access_in rows nodes t.listed new (read-same access_in (row_at rows) (row_at new) place None c (sym (ap (option_and_then access_in) at_is ∙ ap (option_map (λ (m : Membership). m.access)) alone)));
      };
      access = access-off rows new place None c nodes (off-nodes access_in rows nodes t.listed place was at_is (ap (option_map (λ (m : Membership). m.access)) alone));
    }

module _ {K V : Type 0} (eq : K → K → Bool) (rows : List (Option (Row (Record K V)))) (index : KeyIndex K) (nodes after : List (ℕ × ℕ)) (place : ℕ) (t : IsTied eq rows index nodes) (was : Row (Record K V)) (at_is : row_at rows place ≡ Some was) where
  -- the member's node goes to the back
  pub moved : (m : Membership) → was.membership ≡ Some m → after ≡ remove_entry (nat_eq m.access) nodes ++ (m.access, place) ∷ [] → ((s : ℕ) → lookup (nat_eq s) after ≡ lookup (nat_eq s) nodes)
      → Sees eq rows index after (to_back was.number (map (member_at rows) nodes))
  moved m member_is is u =
      record {
        tied = record {
          numbered = t.numbered;
          named = t.named;
          indexed = t.indexed;
          listed = listed-moved access_in rows nodes t.listed m.access place after is u;
        };
        access =
            ap (map (member_at rows)) is ∙ map-append (member_at rows) (remove_entry (nat_eq m.access) nodes) ((m.access, place) ∷ [])
            ∙ ap (λ l. l ++ member_at rows (m.access, place) ∷ []) (sym (without-row eq rows index nodes t place was at_is m member_is))
            ∙ ap (λ o. without_member was.number (map (member_at rows) nodes) ++ option_map_or member_in o (record { number = 0; counted = 0 }) ∷ []) at_is
            ∙ ap (λ o. without_member was.number (map (member_at rows) nodes) ++ member was.number (option_map_or (λ (m : Membership). m.counted) o 0) ∷ []) member_is
            ∙ sym (ap (λ o. without_member was.number (map (member_at rows) nodes) ++ option_to_list (option_map (member was.number) o)) (counted-row eq rows index nodes t place was at_is ∙ ap (option_map (λ (m : Membership). m.counted)) member_is));
      }

-- a store after a write into a record
pub record Changed {K V S : Type 0} (hasher : S) (eq : K → K → Bool) (old new : Table (Record K V)) (index : KeyIndex K) (nodes : List (ℕ × ℕ)) (list : Listing) (timing : Timing) (keys spare most weight number : ℕ) (f : Record K V → Record K V) : Type 0 where
  pub store : IsStore eq new.rows index keys nodes list timing most weight
  pub step : ChangesRecord number f (kept_of hasher old.rows nodes list timing spare old.room most) (kept_of hasher new.rows nodes list timing spare new.room most)
  pub stored : IsSome (get (records_of new.rows) number)
  pub places : places_of new.rows ≡ places_of old.rows
  pub access : map (member_at new.rows) nodes ≡ map (member_at old.rows) nodes

module _ {K V S : Type 0} {hasher : S} (eq : K → K → Bool) (laws : IsEquivalence eq) (old new : Table (Record K V)) (index : KeyIndex K) (nodes : List (ℕ × ℕ)) (list : Listing) (timing : Timing) (keys spare most weight : ℕ) (s : IsStore eq old.rows index keys nodes list timing most weight) (handle : Handle) (h : IsHandle (kept_of hasher old.rows nodes list timing spare old.room most) handle) where
  -- the record that a handle leads to
  pub handled_at : Handled old.rows handle.place handle.number
  handled_at = handled eq old.rows index nodes s.tied handle.place handle.number h.placed h.stored

  changed-at : (at : Handled old.rows handle.place handle.number) (f : Record K V → Record K V) → (f at.stored).number ≡ at.stored.number → (f at.stored).key ≡ at.stored.key → new ≡ record old { rows = with_stored old.rows handle.place (f at.stored) }
      → Changed hasher eq old new index nodes list timing keys spare most weight handle.number f
  changed-at at f n k e =
      let r = f at.stored in
      let rows = with_stored old.rows handle.place r in
      let c = with_stored-changes old.rows handle.place r at.row at.at_is in
      let ties = stored eq laws old.rows rows index nodes handle.place s.tied at.row at.at_is at.stored r at.stored_is n k c in
      let m = shows-stored old.rows rows handle.place s.tied.numbered at.row at.at_is r c in
      let records : records_of rows ≡ insert (records_of old.rows) handle.number r = m.records_is ∙ ap (λ n. insert (records_of old.rows) n r) at.number_is in
      let stay = stays-row old.rows rows list timing.timers s.written s.timed s.tied.numbered m.numbered handle.place at.row (record at.row { stored = Some r }) at.at_is c refl refl refl refl in
      let rowed = count-with_stored old.rows handle.place r in
      rw e (record {
        store = record {
          tied = ties.tied;
          written = stay.written;
          timed = stay.timed;
          keyed = s.keyed ∙ sym (ap len records ∙ len-kept (records_of old.rows) handle.number r at.stored at.record_is);
          fits = subst (λ n. n ≤ most) (sym rowed) s.fits;
          few = s.few;
          narrow = subst AreNarrow (sym m.places_is) s.narrow;
          weighed = subst (λ members. IsWeighed members weight) (sym ties.access) s.weighed;
        };
        step = λ x there.
            let same : at.stored ≡ x = (let y = at.record_is in cc) in
            rw (records, ties.access, stay.written_is, stay.timers_is, stay.cursor_is, m.places_is, rowed, same) refl;
        stored = ap is_some (ap (λ m. get m handle.number) records ∙ get-inserted (records_of old.rows) handle.number r);
        places = m.places_is;
        access = ties.access;
      })

  pub changed : (f : Record K V → Record K V) → ((r : Record K V) → (f r).number ≡ r.number) → ((r : Record K V) → (f r).key ≡ r.key) → ((r : Record K V) → stored_at old.rows handle.place ≡ Some r → new ≡ record old { rows = with_stored old.rows handle.place (f r) })
      → Changed hasher eq old new index nodes list timing keys spare most weight handle.number f
  changed f n k step = changed-at handled_at f (n handled_at.stored) (k handled_at.stored) (step handled_at.stored handled_at.stored_at_is)

-- the empty store
pub tied-empty : {K V : Type 0} (eq : K → K → Bool) (rows : List (Option (Row (Record K V)))) (index : KeyIndex K) (nodes : List (ℕ × ℕ)) → rows ≡ [] → index.entries ≡ empty → nodes ≡ [] → IsTied eq rows index nodes
tied-empty eq rows index nodes re ie ne =
    let no_row : (p : ℕ) → row_at rows p ≡ None = λ p. ap (λ r. row_at r p) re in
    record {
      numbered = record { same = λ p q a b pe qe s. let bad : None ≡ Some a = sym (no_row p) ∙ pe in cc };
      named = record { same = λ p row r e s. let bad : None ≡ Some row = sym (no_row p) ∙ e in cc };
      indexed = record {
        at = λ p. ap (λ m. get m p) ie ∙ get-empty nat_cmp p ∙ ap (λ o. option_map index.hash_of (option_and_then key_in o)) (sym (no_row p));
        once = λ p q x y h _ _. (let bad : None ≡ Some x = sym (ap (option_and_then key_in) (no_row p)) ∙ h in cc);
      };
      listed = listed-empty access_in rows nodes re ne;
    }

module _ {K V : Type 0} (eq : K → K → Bool) (laws : IsEquivalence eq) (rows : List (Option (Row (Record K V)))) (index : KeyIndex K) (nodes : List (ℕ × ℕ)) (t : IsTied eq rows index nodes) where
  -- the index has a record's place under the hash of its key
  pub index-of : (place number : ℕ) → (h : Handled rows place number) → get index.entries place ≡ Some (index.hash_of h.stored.key)
  index-of place number h = t.indexed.at place ∙ ap (option_map index.hash_of) (ap (option_and_then key_in) h.at_is ∙ ap (option_map (λ (r : Record K V). r.key)) h.stored_is)

  -- and none for a place without a row
  pub index-vacant : (place : ℕ) → row_at rows place ≡ None → get index.entries place ≡ None
  index-vacant place vacant = t.indexed.at place ∙ ap (λ o. option_map index.hash_of (option_and_then key_in o)) vacant

  -- a number without a row has no record
  pub unrecorded : (number : ℕ) → get (places_of rows) number ≡ None → get (records_of rows) number ≡ None
  unrecorded number h = elim (option-cases (get (records_of rows) number)) as (λ _. get (records_of rows) number ≡ None) [
    | inl none ↦ none
    | inr r ↦
        let w = record_row rows t.numbered number r.0 r.1 in
        let there = get-places rows t.numbered w.0 w.1 w.2 in
        let bad : None ≡ Some w.0 = sym h ∙ ap (get (places_of rows)) (sym w.3) ∙ there in cc
  ]

-- room for more changes nothing else
pub store-grown : {K V : Type 0} {eq : K → K → Bool} {rows : List (Option (Row (Record K V)))} {index : KeyIndex K} {keys : ℕ} {nodes : List (ℕ × ℕ)} {list : Listing} {timing : Timing} {most weight : ℕ} → IsStore eq rows index keys nodes list timing most weight
    → (list' : Listing) (timing' : Timing) (most' : ℕ) → IsWritten rows list' → IsTimed rows timing'.timers → most ≤ most' → IsStore eq rows index keys nodes list' timing' most' weight
store-grown s list' timing' most' written timed more = record { tied = s.tied; written = written; timed = timed; keyed = s.keyed; fits = omega (arith, s.fits); few = s.few; narrow = s.narrow; weighed = s.weighed }
