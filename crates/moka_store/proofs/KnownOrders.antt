-- The write list has just the members' numbers, each once.
use Rattle.std.proofs.Common.{◌≡◌, ◌≢◌, ℕ, Bool, true, false, ◌==◌, List, [], ◌∷◌, map, Option, Some, None, is_some, inl, inr, refl, sym, subst, ap, ◌∙◌, nat_eq, Contains}
use Rattle.std.proofs.lemmas.Bool.{eq-eqb, ne_eqb, cond-false}
use Rattle.std.specs.FinMap.{get, remove}
use Rattle.std.specs.List.{IsDistinct, AllByRecursion}
use Rattle.std.specs.Map.{keys_of}
use Rattle.std.specs.Option.{option_map, option_and_then}
use Rattle.moka_table.proofs.TableCalls.{get-places, placed_row}
use Rattle.moka_links.proofs.FinMaps.{option-cases}
use Rattle.moka_table.proofs.TableMaps.{altered-same}
use Rattle.moka_table.specs.declared.table.membership.Membership.{Membership}
use Rattle.moka_table.specs.RecordTable.{Row, row_at, number_at, places_of}
use Rattle.moka_store.proofs.Nodes.{any-none, here, later, node-in}
use Rattle.moka_store.proofs.Slots.{slot-row, no-node, one-node}
use Rattle.moka_store.proofs.Ties.{counted-row, counted-unplaced}
use Rattle.moka_store.proofs.Written.{listed-row, cursor-none, cursor-some}
use Rattle.moka_store.proofs.Timed.{moment-row, untimed}
use Rattle.moka_wheel.specs.TimerWheel.{Timer}
use Rattle.moka_store.specs.Timers.{Timing}
use Rattle.moka_store.specs.Store.{Kept, IsOff, number_after, cursor_past}
use Rattle.moka_store.specs.WriteList.{Listing, IsCursor}
use Rattle.moka_store.specs.Rows.{written_in, member_at, written_of, cursor_of}
use Rattle.moka_store.specs.StoreTies.{KeyIndex, IsTied, IsWritten, IsTimed, kept_of}
use Rattle.moka_records.specs.declared.records.Record.{Record}
use Rattle.moka_records.proofs.Maps.{apart_turned}
use Rattle.moka_records.proofs.WriteList.{unlisted_taken_out}
use Rattle.moka_records.specs.Records.{IsListOf, is_listed, without_number, is_member}

module _ (g : ℕ × ℕ → ℕ) where
  all-apart : (m : ℕ × ℕ) (nodes : List (ℕ × ℕ)) → ((k : ℕ × ℕ) → Contains nodes k → (g k == g m) ≡ nat_eq m.0 k.0) → AllByRecursion (λ y. nat_eq m.0 y ≡ false) (keys_of nodes) → AllByRecursion (λ y. (g m == y) ≡ false) (map g nodes)
  all-apart m [] h a = tt
  all-apart m (k ∷ nodes) h a = (apart_turned (g k) (g m) (h k (here k nodes) ∙ a.0), all-apart m nodes (λ x c. h x (later k x nodes c)) a.1)

  -- nodes in distinct slots, of which just the same one has the same number
  numbers-distinct : (nodes : List (ℕ × ℕ)) → IsDistinct nat_eq (keys_of nodes) → ((m k : ℕ × ℕ) → Contains nodes m → Contains nodes k → (g k == g m) ≡ nat_eq m.0 k.0) → IsDistinct (◌==◌) (map g nodes)
  unfolding IsDistinct
  numbers-distinct [] d h = tt
  numbers-distinct (m ∷ nodes) d h = (
    all-apart m nodes (λ k c. h m k (here m nodes) (later m k nodes c)) d.0,
    numbers-distinct nodes d.1 (λ x k a b. h x k (later m x nodes a) (later m k nodes b)),
  )

module _ {K V : Type 0} (eq : K → K → Bool) (rows : List (Option (Row (Record K V)))) (index : KeyIndex K) (nodes : List (ℕ × ℕ)) (t : IsTied eq rows index nodes) (list : Listing) (w : IsWritten rows list) where
  pub each-once : IsDistinct (◌==◌) (written_of rows list.nodes)
  unfolding written_of
  each-once = numbers-distinct (λ m. number_at rows m.1) list.nodes w.listed.distinct (λ m k a b.
      let r = slot-row written_in rows list.nodes w.listed m a in
      ap (λ n. number_at rows k.1 == n) r.number_is ∙ one-node written_in rows list.nodes w.listed m.1 r.row r.at_is t.numbered m.0 r.slot_is k b)

  unplaced : (n : ℕ) → get (places_of rows) n ≡ None → is_listed n (written_of rows list.nodes) ≡ false
  unfolding written_of
  unplaced n none = any-none (λ m. number_at rows m.1) (λ m. m == n) list.nodes (λ m c.
      let r = slot-row written_in rows list.nodes w.listed m c in
      ne_eqb (number_at rows m.1) n (λ e. (let there = get-places rows t.numbered m.1 r.row r.at_is in cc)))

  -- a row that is no member
  pub off-row : {S : Type 0} (hasher : S) (timing : Timing) → IsTimed rows timing.timers → (place : ℕ) (row : Row (Record K V)) → row_at rows place ≡ Some row → row.membership ≡ None → (number : ℕ) → row.number ≡ number → (spare room most : ℕ) → IsOff (kept_of hasher rows nodes list timing spare room most) number
  off-row hasher timing timed place row at_is alone number same spare room most = subst (λ n. IsOff (kept_of hasher rows nodes list timing spare room most) n) same (record {
    unlisted = listed-row rows list.nodes w.listed t.numbered place row at_is ∙ ap is_some slotless;
    untimed = moment-row rows timing.timers timed place row at_is t.numbered ∙ ap (option_and_then (λ slot. option_map (λ (x : Timer). x.at) (get timing.timers slot))) (untimed rows timing.timers timed place row at_is alone);
    passed = λ e. elsewhere list.cursor w.cursor e;
  })
    where
      slotless : written_in row ≡ None
      slotless = ap (option_and_then (λ (m : Membership). m.written)) alone

      elsewhere : (cursor : Option (ℕ × ℕ)) → IsCursor list.nodes cursor → cursor_of rows cursor ≡ Some row.number → ⊥
      elsewhere None at e = (let none = cursor-none rows list.nodes in cc)
      elsewhere (Some m) at e =
          let off = no-node written_in rows list.nodes w.listed place row at_is t.numbered slotless m (node-in list.nodes m.0 m.1 (at m refl)) in
          let some = cursor-some rows list.nodes m in
          let own = eq-eqb row.number row.number refl in
          cc

  pub known-order : list.ordered ≡ true → IsListOf (map (member_at rows) nodes) (written_of rows list.nodes)
  known-order ordered = (
    each-once,
    λ n. elim (option-cases (get (places_of rows) n)) as (λ _. is_listed n (written_of rows list.nodes) ≡ is_member n (map (member_at rows) nodes)) [
      | inl none ↦ unplaced n none ∙ sym (ap is_some (counted-unplaced eq rows index nodes t n none))
      | inr p ↦
          let r = placed_row rows t.numbered p.0 n p.1 in
          ap (λ n. is_listed n (written_of rows list.nodes)) (sym r.2)
          ∙ listed-row rows list.nodes w.listed t.numbered p.0 r.0 r.1
          ∙ both p.0 r.0 r.1 r.0.membership refl
          ∙ sym (ap is_some (counted-row eq rows index nodes t p.0 r.0 r.1))
          ∙ ap (λ n. is_member n (map (member_at rows) nodes)) r.2
    ],
  )
    where
      both : (place : ℕ) (row : Row (Record K V)) → row_at rows place ≡ Some row → (o : Option Membership) → row.membership ≡ o → is_some (written_in row) ≡ is_some (option_map (λ (m : Membership). m.counted) row.membership)
      both place row at_is None is = rw is refl
      both place row at_is (Some m) is =
          let there = w.all ordered place (rw (at_is, is) refl) in
          sym (ap (λ o. is_some (option_and_then written_in o)) at_is) ∙ there ∙ sym (ap (λ o. is_some (option_map (λ (m : Membership). m.counted) o)) is)

-- a list of no nodes has no numbers
pub unkept-order : {K V : Type 0} (rows : List (Option (Row (Record K V)))) (nodes : List (ℕ × ℕ)) → nodes ≡ [] → written_of rows nodes ≡ []
unfolding written_of
unkept-order rows nodes none = ap (λ (ns : List (ℕ × ℕ)). map (λ node. number_at rows node.1) ns) none

-- ---- what is no member's stays as a member leaves

pub off-written : {K V S : Type 0} (s : Kept K V S) (n : ℕ) → IsOff s n → without_number n s.written ≡ s.written
off-written s n off = unlisted_taken_out n s.written off.unlisted

pub off-timers : {K V S : Type 0} (s : Kept K V S) (n : ℕ) → IsOff s n → remove s.timers n ≡ s.timers
off-timers s n off = altered-same s.timers n None off.untimed

pub off-cursor : {K V S : Type 0} (s : Kept K V S) (n : ℕ) → IsOff s n → cursor_past n s.written s.cursor ≡ s.cursor
off-cursor s n off = go s.cursor off.passed
  where
    go : (cursor : Option ℕ) → cursor ≢ Some n → cursor_past n s.written cursor ≡ cursor
    go None h = refl
    go (Some m) h = cond-false (m == n) (number_after n s.written) (Some m) (ne_eqb m n (λ e. h (ap Some e)))
