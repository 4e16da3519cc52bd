-- States in order: after a run, a send, an insert, a hit and a removal.
use Rattle.std.proofs.Common.{◌≡◌, refl, ℕ, ◌<◌, ◌≤◌, Bool, true, false, cond, List, [], ◌∷◌, ◌++◌, map, filter, Option, Some, None, option_map, is_some, ap, sym, ◌∙◌, subst, ◌⊎◌, inl, inr, arith, append_assoc, true≢false, if◌then◌else◌, ◌==◌, Contains, filter_map, option_and_then}
use Rattle.std.specs.Option.{option_map_or}
use Rattle.std.specs.List.{AllByRecursion, cons_option}
use Rattle.std.specs.List.Sorted.{IsStrictlyIncreasing, IsNonDecreasing}
use Rattle.std.proofs.lemmas.List.{map-append}
use Rattle.std.proofs.lemmas.List.Elements.{filter_map-append, Contains-push_cases}
use Rattle.std.specs.FinMap.{get, insert, remove, entries, contains_key}
use Rattle.moka_laws.proofs.Types.{Record, Ticketed, Operation, Upsert, Removal, Records, State, Freedom}
use Rattle.moka_records.specs.Records.{is_applied, is_settled}
use Rattle.moka_parts.specs.State.{keeps_write_list}
use Rattle.moka_parts.specs.Maintenance.{AreFree, after_run}
use Rattle.moka_parts.specs.Calls.{handing_out}
use Rattle.moka_parts.specs.Settling.{AreTicketed, AreRising}
use Rattle.moka_parts.specs.Order.{waiting_by_ticket, written_at, written_by, IsNewer, IsInOrder, write_list_at_end}
use Rattle.moka_records.proofs.Maps.{AreApart, same_or_apart, get_past_insert, get_removed, get_past_remove}
use Rattle.moka_parts.proofs.Entries.{entries_pushed, entries_popped}
use Rattle.moka_laws.proofs.Rises.{Climbs, climbs_from, non_decreasing_from, present, present_of, Rises, thins_each, thins_every, IsUpTo, rises_pushed, rises_with_none}
use Rattle.moka_laws.proofs.InOrder.{settled_moment, settled_at, waiting_at, IsLater, AreLater, IsOrdered}
use Rattle.moka_laws.proofs.OrderKept.{run_ordered}
use Rattle.moka_laws.proofs.Tickets.{all_of, all_map, all_append, tickets_joined, tickets_rise, strictly_increasing, handed_out, each_waits, waiting_rise, are_later}

-- ---- the order, as users and as proofs see it

module _ {K V : Type 0} (records : Records K V) where
  settled_filter : (ns : List ℕ) → filter_map (written_at records) (filter (is_settled records) ns) ≡ filter_map (settled_at records) ns
  settled_filter [] = refl
  settled_filter (n ∷ ns) = go (settled_filter ns) (get records n) refl
    where
      go : filter_map (written_at records) (filter (is_settled records) ns) ≡ filter_map (settled_at records) ns → (v : Option (Record K V)) → get records n ≡ v →
          filter_map (written_at records) (cond (option_map_or is_applied v false) (n ∷ filter (is_settled records) ns) (filter (is_settled records) ns)) ≡ cons_option (settled_moment v) (filter_map (settled_at records) ns)
      go rest None e = rest
      go rest (Some r) e = elim (is_applied r) as (λ b. filter_map (written_at records) (cond b (n ∷ filter (is_settled records) ns) (filter (is_settled records) ns)) ≡ cons_option (if b then Some r.written.0 else None) (filter_map (settled_at records) ns)) [
        | true ↦ ap (λ (v : Option (Record K V)). cons_option (option_map (λ q. q.written.0) v) (filter_map (written_at records) (filter (is_settled records) ns))) e ∙ ap (λ xs. r.written.0 ∷ xs) rest
        | false ↦ rest
      ]

  same_moments : (ns : List ℕ) (ws : List Ticketed) → present (map (settled_at records) ns ++ map (waiting_at records) ws) ≡ filter_map (written_at records) (filter (is_settled records) ns) ++ filter_map (λ h. written_by records h.operation) ws
  same_moments ns ws =
      filter_map-append (λ o. o) (map (settled_at records) ns) (map (waiting_at records) ws)
      ∙ ap (λ xs. xs ++ present (map (waiting_at records) ws)) (present_of (settled_at records) ns ∙ sym (settled_filter ns))
      ∙ ap (λ xs. filter_map (written_at records) (filter (is_settled records) ns) ++ xs) (present_of (waiting_at records) ws)

module _ {K V X P W : Type 0} (s : State K V X P W) (ns : List ℕ) where
  -- settled and waiting moments rise
  pub rises_from : IsInOrder s ns → Rises 0 (map (settled_at s.records) ns ++ map (waiting_at s.records) (waiting_by_ticket s))
  rises_from o = subst (Climbs 0) (sym (same_moments s.records ns (waiting_by_ticket s))) (climbs_from _ o.written)

  pub ordered_from : IsInOrder s ns → AreRising s.outstanding s.writes → IsOrdered s.records s.access ns (waiting_by_ticket s)
  ordered_from o rising = record {
    once = o.listed.0;
    members = o.listed.1;
    newer = o.newer;
    rises = rises_from o;
    later = are_later s.outstanding s.writes rising (waiting_by_ticket s) (waiting_rise s.outstanding s.writes o.rising (λ h ticket p there at. o.below h ticket there (ap is_some at))) (each_waits s.outstanding s.writes);
  }

  pub in_order_from : IsOrdered s.records s.access ns (waiting_by_ticket s) → IsStrictlyIncreasing (map (λ h. h.ticket) s.writes) → ((h : Ticketed) (ticket : ℕ) → Contains s.writes h → contains_key s.outstanding ticket ≡ true → h.ticket < ticket) → IsInOrder s ns
  in_order_from o rising below = record {
    listed = (o.once, o.members);
    rising = rising;
    below = below;
    newer = o.newer;
    written = non_decreasing_from 0 _ (subst (Climbs 0) (same_moments s.records ns (waiting_by_ticket s)) o.rises);
  }

-- ---- runs and sends

-- a run
pub run_in_order : {K V X P W : Type 0} (says : P → K → V → Bool → Type 0) (s : State K V X P W) (now : ℕ) (ns : List ℕ) (ch : Freedom) → keeps_write_list s.settings ≡ true → AreFree says s now ch → AreRising s.outstanding s.writes → IsInOrder s ns → IsInOrder (after_run s ch) (write_list_at_end s ns ch)
run_in_order says s now ns ch kept free rising o =
    in_order_from (after_run s ch) (write_list_at_end s ns ch) (run_ordered says s now ns ch (handed_out s.outstanding) kept free (ordered_from s ns o rising)) (λ k lt. absurd (omega arith)) (λ h ticket there at. let below : there.0 < 0 = there.1 in absurd (omega arith))

-- the oldest operation is sent
pub sent_in_order : {K V X P W : Type 0} (s : State K V X P W) (ns : List ℕ) (ticket : ℕ) (p : Operation) → get s.outstanding ticket ≡ Some p → ((n : ℕ) → contains_key s.outstanding n ≡ true → ticket ≤ n) → IsInOrder s ns →
    IsInOrder (record s { outstanding = remove s.outstanding ticket; writes = s.writes ++ record { ticket = ticket; operation = p } ∷ [] }) ns
sent_in_order {K} {V} {X} {P} {W} s ns ticket p there least o = record {
  listed = o.listed;
  rising = strictly_increasing (s.writes ++ record { ticket = ticket; operation = p } ∷ []) (tickets_joined s.writes (record { ticket = ticket; operation = p } ∷ []) (tickets_rise s.writes o.rising) (tt, tt) (all_of (λ (h : Ticketed). AllByRecursion (λ (q : Ticketed). h.ticket < q.ticket) (record { ticket = ticket; operation = p } ∷ [])) s.writes (λ h at. (o.below h ticket at (ap is_some there), tt))));
  below = λ h n at out. below h n (Contains-push_cases s.writes (record { ticket = ticket; operation = p }) h at) out (same_or_apart n ticket);
  newer = λ h at. o.newer h (subst (λ ws. Contains ws h) (sym same) at);
  written = subst (λ ws. IsNonDecreasing (filter_map (written_at s.records) (filter (is_settled s.records) ns) ++ filter_map (λ h. written_by s.records h.operation) ws)) same o.written;
}
  where
    same : waiting_by_ticket s ≡ (s.writes ++ record { ticket = ticket; operation = p } ∷ []) ++ handed_out (remove s.outstanding ticket)
    same = ap (λ es. s.writes ++ map (λ (e : ℕ × Operation). record { ticket = e.0; operation = e.1 }) es) (entries_popped s.outstanding ticket p there (λ n q at. least n (ap is_some at)))
        ∙ sym (append_assoc s.writes (record { ticket = ticket; operation = p } ∷ []) (handed_out (remove s.outstanding ticket)))

    below : (h : Ticketed) (n : ℕ) → Contains s.writes h ⊎ (record { ticket = ticket; operation = p } ≡ h) → contains_key (remove s.outstanding ticket) n ≡ true → (n ≡ ticket) ⊎ AreApart n ticket → h.ticket < n
    below h n at out (inl e) = (let none = get_removed s.outstanding ticket in let f = ap (contains_key (remove s.outstanding ticket)) e in let g = ap is_some none in absurd (true≢false (sym out ∙ f ∙ g)))
    below h n (inl at) out (inr apart) = o.below h n at (sym (ap is_some (get_past_remove s.outstanding ticket n apart)) ∙ out)
    below h n (inr e) out (inr apart) =
        let low = least n (sym (ap is_some (get_past_remove s.outstanding ticket n apart)) ∙ out) in
        let differ = apart.forth in
        subst (λ (q : Ticketed). q.ticket < n) e (grind (arith, low, differ))

-- ---- one more operation handed out

later_pushed : (ws : List Ticketed) (x : Ticketed) → AreLater ws → AllByRecursion (λ (h : Ticketed). IsLater h.operation x.operation) ws → AreLater (ws ++ x ∷ [])
later_pushed [] x later last = (tt, tt)
later_pushed (h ∷ ws) x later last = (all_append (λ (q : Ticketed). IsLater h.operation q.operation) ws (x ∷ []) later.0 (last.0, tt), later_pushed ws x later.1 last.1)

module _ {K V : Type 0} (records : Records K V) (m : ℕ) (up : (k : ℕ) (r : Record K V) → get records k ≡ Some r → r.written.0 ≤ m) where
  -- of a record that passes a test
  tested_upto : (test : Record K V → Bool) (k : ℕ) → IsUpTo m (option_and_then (λ r. if test r then Some r.written.0 else None) (get records k))
  tested_upto test k = go (get records k) refl
    where
      go : (v : Option (Record K V)) → get records k ≡ v → IsUpTo m (option_and_then (λ r. if test r then Some r.written.0 else None) v)
      go None e = tt
      go (Some r) e = elim (test r) as (λ b. IsUpTo m (if b then Some r.written.0 else None)) [ true ↦ up k r e | false ↦ tt ]

  waiting_upto : (o : Operation) → IsUpTo m (written_by records o)
  waiting_upto (Removal n g) = tt
  waiting_upto (Upsert n g w x) = tested_upto (λ r. g == r.generation) n

  -- nothing was written later
  all_upto : (ns : List ℕ) (ws : List Ticketed) → AllByRecursion (IsUpTo m) (map (settled_at records) ns ++ map (waiting_at records) ws)
  all_upto ns ws = all_append (IsUpTo m) (map (settled_at records) ns) (map (waiting_at records) ws)
      (all_map (IsUpTo m) (settled_at records) ns (all_of (λ k. IsUpTo m (settled_at records k)) ns (λ k there. tested_upto is_applied k)))
      (all_map (IsUpTo m) (waiting_at records) ws (all_of (λ h. IsUpTo m (waiting_at records h)) ws (λ h there. waiting_upto h.operation)))

module _ {K V X P W : Type 0} (s : State K V X P W) (ns : List ℕ) (records : Records K V) (p : Operation) (given : AreTicketed s.outstanding s.writes s.next_ticket) (rising : AreRising s.outstanding s.writes) (o : IsInOrder s ns) where
  -- where the records before have the same moments or none, and the operation comes last
  pub handed_in_order : ((k : ℕ) → (settled_at records k ≡ settled_at s.records k) ⊎ (settled_at records k ≡ None)) →
      ((h : Ticketed) → Contains (waiting_by_ticket s) h → (waiting_at records h ≡ waiting_at s.records h) ⊎ (waiting_at records h ≡ None)) →
      ((h : Ticketed) → Contains (waiting_by_ticket s) h → IsNewer records h.operation) → IsNewer records p →
      ((h : Ticketed) → Contains (waiting_by_ticket s) h → IsLater h.operation p) →
      (written_by records p ≡ None) ⊎ ((m : ℕ) × (written_by records p ≡ Some m) × ((k : ℕ) (r : Record K V) → get records k ≡ Some r → r.written.0 ≤ m)) →
      IsInOrder (handing_out (record s { records = records }) p) ns
  handed_in_order settled waiting newer last later moment =
      in_order_from (handing_out (record s { records = records }) p) ns (subst (IsOrdered records s.access ns) (sym same) (record {
        once = o.listed.0;
        members = o.listed.1;
        newer = λ h there. newest h (Contains-push_cases (waiting_by_ticket s) x h there);
        rises = subst (Rises 0) (sym moved) (risen moment);
        later = later_pushed (waiting_by_ticket s) x old.later (all_of (λ (h : Ticketed). IsLater h.operation p) (waiting_by_ticket s) later);
      })) o.rising (λ h ticket there out. below h ticket there out (same_or_apart ticket s.next_ticket))
    where
      x : Ticketed
      x = record { ticket = s.next_ticket; operation = p }

      old : IsOrdered s.records s.access ns (waiting_by_ticket s)
      old = ordered_from s ns o rising

      same : waiting_by_ticket (handing_out (record s { records = records }) p) ≡ waiting_by_ticket s ++ x ∷ []
      same = ap (λ es. s.writes ++ map (λ (e : ℕ × Operation). record { ticket = e.0; operation = e.1 }) es) (entries_pushed s.outstanding s.next_ticket p (λ j q at. given.handed j q at))
          ∙ ap (λ hs. s.writes ++ hs) (map-append (λ (e : ℕ × Operation). record { ticket = e.0; operation = e.1 }) (entries s.outstanding) ((s.next_ticket, p) ∷ []))
          ∙ sym (append_assoc s.writes (handed_out s.outstanding) (x ∷ []))

      newest : (h : Ticketed) → Contains (waiting_by_ticket s) h ⊎ (x ≡ h) → IsNewer records h.operation
      newest h (inl there) = newer h there
      newest h (inr e) = subst (λ (q : Ticketed). IsNewer records q.operation) e last

      moved : map (settled_at records) ns ++ map (waiting_at records) (waiting_by_ticket s ++ x ∷ []) ≡ (map (settled_at records) ns ++ map (waiting_at records) (waiting_by_ticket s)) ++ written_by records p ∷ []
      moved = ap (λ xs. map (settled_at records) ns ++ xs) (map-append (waiting_at records) (waiting_by_ticket s) (x ∷ [])) ∙ sym (append_assoc (map (settled_at records) ns) (map (waiting_at records) (waiting_by_ticket s)) (written_by records p ∷ []))

      before : Rises 0 (map (settled_at records) ns ++ map (waiting_at records) (waiting_by_ticket s))
      before = thins_each (settled_at s.records) (settled_at records) ns (map (waiting_at s.records) (waiting_by_ticket s)) (map (waiting_at records) (waiting_by_ticket s)) settled
          (thins_every (waiting_at s.records) (waiting_at records) (waiting_by_ticket s) (all_of (λ h. (waiting_at records h ≡ waiting_at s.records h) ⊎ (waiting_at records h ≡ None)) (waiting_by_ticket s) waiting)) 0 old.rises

      risen : (written_by records p ≡ None) ⊎ ((m : ℕ) × (written_by records p ≡ Some m) × ((k : ℕ) (r : Record K V) → get records k ≡ Some r → r.written.0 ≤ m)) → Rises 0 ((map (settled_at records) ns ++ map (waiting_at records) (waiting_by_ticket s)) ++ written_by records p ∷ [])
      risen (inl none) = subst (λ m. Rises 0 ((map (settled_at records) ns ++ map (waiting_at records) (waiting_by_ticket s)) ++ m ∷ [])) (sym none) (rises_with_none 0 (map (settled_at records) ns ++ map (waiting_at records) (waiting_by_ticket s)) before)
      risen (inr (m, at, up)) = subst (λ m. Rises 0 ((map (settled_at records) ns ++ map (waiting_at records) (waiting_by_ticket s)) ++ m ∷ [])) (sym at)
          (rises_pushed 0 m (map (settled_at records) ns ++ map (waiting_at records) (waiting_by_ticket s)) before (omega arith) (all_upto records m up ns (waiting_by_ticket s)))

      below : (h : Ticketed) (ticket : ℕ) → Contains s.writes h → contains_key (insert s.outstanding s.next_ticket p) ticket ≡ true → (ticket ≡ s.next_ticket) ⊎ AreApart ticket s.next_ticket → h.ticket < ticket
      below h ticket there out (inl e) = subst (λ n. h.ticket < n) (sym e) (given.sent h there)
      below h ticket there out (inr apart) = o.below h ticket there (sym (ap is_some (get_past_insert s.outstanding s.next_ticket p ticket apart)) ∙ out)
