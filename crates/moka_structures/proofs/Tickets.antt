-- What each call leaves of the tickets and of their items.
use Rattle.std.proofs.Common.{◌≡◌, ◌≢◌, ℕ, suc, ◌<◌, ◌≤◌, Bool, true, false, cond, ◌&&◌, T, List, [], ◌∷◌, ◌++◌, map, length, Option, Some, None, IsSome, IsNone, IfSome, nat_eq, All, inl, inr, refl, sym, ap, subst, ◌∙◌, arith, rules, slice_get}
use Rattle.std.proofs.lemmas.Bool.{cases_lt, eq-eqb, ne_eqb, cond-true, cond-false, false≢true}
use Rattle.std.proofs.lemmas.Bool.Decides.{nat_tests}
use Rattle.moka_links.proofs.FinMaps.{get-put, get-taken, len-inserted}
use Rattle.std.specs.FinMap.{FinMap, empty, entries, entries_sorted, get-entries, from_entries, insert, remove, len, len-empty, get-empty, get-insert, same_map, nat_cmp-IsAntisymmetric}
use Rattle.std.specs.FinMap.Entries.{find, below_all, is_sorted}
use Rattle.std.specs.FinMap as map
use Rattle.std.specs.Cmp.{nat_cmp_total, nat_eq_equiv, unsigned_tied}
use Rattle.std.specs.HashMap.{HashMap, get}
use Rattle.std.specs.List.{IsDistinct, AllByRecursion}
use Rattle.std.proofs.lemmas.Map.Keys.{IsDistinct-tail}
use Rattle.std.proofs.lemmas.Map.Views.{All-values_from_lookup}
use Rattle.std.specs.Map.{lookup, remove_entry, keys_of, values_of}
use Rattle.std.specs.Option.{option_map}
use Rattle.std.specs.Ordering.{nat_cmp, is_lt}
use Rattle.moka_structures.specs.TicketTable.{items_of, slot_under, IsBelowAll, TicketsRise, IsTicketTable}
use Rattle.moka_structures.specs.declared.ticket_table.Waiting.{Waiting}
use Rattle.moka_structures.proofs.Linked.{linked-added, linked-removed}

-- where an item is, a slot is
slot-from : {T : Type 0} (o : Option (Waiting T)) → IsSome (option_map (λ w. w.item) o) → (s : ℕ) × (option_map (λ w. w.slot) o ≡ Some s)
slot-from None h = absurd (false≢true h)
slot-from (Some w) h = (w.slot, refl)

-- where no item is, no slot is
none-from : {T : Type 0} (o : Option (Waiting T)) → option_map (λ w. w.item) o ≡ None → option_map (λ w. w.slot) o ≡ None
none-from None h = refl
none-from (Some w) h = absurd (let no : Some w.item ≡ None = h in cc)

-- a look-up in the map of the entries is one in the entries
get-entry : {T : Type 0} (es : List (ℕ × Waiting T)) (q : ℕ) → map.get (from_entries {R = nat_cmp} (map (λ e. (e.0, e.1.item)) es)) q ≡ option_map (λ w. w.item) (lookup (nat_eq q) es)
get-entry [] q = get-empty nat_cmp q
get-entry (e ∷ es) q =
    let rest = from_entries {R = nat_cmp} (map (λ e. (e.0, e.1.item)) es) in
    grind (arith, nat_tests, get-insert nat_cmp_total rest e.0 e.1.item q, unsigned_tied q e.0, get-entry es q)

-- where a slot is, an item is
item-from : {T : Type 0} (o : Option (Waiting T)) {g : Option T} (s : ℕ) → option_map (λ w. w.slot) o ≡ Some s → g ≡ option_map (λ w. w.item) o → IsSome g
item-from None s h e = absurd (let no : None ≡ Some s = h in cc)
item-from (Some w) s h e = subst (λ o. IsSome o) (sym e) refl

-- a fact of what is there, if something is
if-some : (o : Option ℕ) (P : ℕ → Type 0) → ((t : ℕ) → o ≡ Some t → P t) → IfSome o P
if-some None P h = search rules
if-some (Some t) P h = h t refl

-- nothing is there
pub not-some : {X : Type 0} (o : Option X) → (IsSome o → ⊥) → o ≡ None
not-some None h = refl
not-some (Some x) h = absurd (h refl)

-- an item is out under the ticket, and none under a lower one
abbrev pub IsLowest : {X : Type 0} → ℕ → FinMap nat_cmp X → Type 0
IsLowest t m = IsSome (map.get m t) × ((q : ℕ) → IsSome (map.get m q) → t ≤ q)

-- nothing is out under a ticket above all others
pub newest-fresh : {X : Type 0} (m : FinMap nat_cmp X) (t : ℕ) → ((q : ℕ) → IsSome (map.get m q) → q < t) → map.get m t ≡ None
newest-fresh m t newest = not-some (map.get m t) (λ some. omega (arith, newest t some))

no-lookup : (ms : List (ℕ × ℕ)) (test : ℕ → Bool) (n : ℕ) → length ms ≡ 0 → lookup test ms ≡ Some n → ⊥
no-lookup [] test n h e = let no : None ≡ Some n = e in cc
no-lookup (m ∷ ms) test n h e = omega arith

-- a key that none of the others equals is not found
lookup-gone : {T : Type 0} (k : ℕ) (es : List (ℕ × Waiting T)) → AllByRecursion (λ y. nat_eq k y ≡ false) (keys_of es) → lookup (nat_eq k) es ≡ None
lookup-gone k [] h = refl
lookup-gone k (e ∷ es) h = cond-false (nat_eq k e.0) (Some e.1) (lookup (nat_eq k) es) h.0 ∙ lookup-gone k es h.1

-- the same of the first of distinct keys
lookup-head : {T : Type 0} (k : ℕ) (es : List (ℕ × Waiting T)) → IsDistinct nat_eq (k ∷ keys_of es) → lookup (nat_eq k) es ≡ None
unfolding IsDistinct
lookup-head k es d = lookup-gone k es d.0

-- as many items as entries
pub len-entries : {T : Type 0} (es : List (ℕ × Waiting T)) → IsDistinct nat_eq (keys_of es) → len (from_entries {R = nat_cmp} (map (λ e. (e.0, e.1.item)) es)) ≡ length es
len-entries {T} [] d = len-empty nat_cmp T
len-entries (e ∷ es) d =
    let rest = from_entries {R = nat_cmp} (map (λ e. (e.0, e.1.item)) es) in
    let fresh : map.get rest e.0 ≡ None = get-entry es e.0 ∙ ap (option_map (λ w. w.item)) (lookup-head e.0 es d) in
    omega (arith, len-inserted rest e.0 e.1.item fresh, len-entries es (IsDistinct-tail nat_eq e.0 (keys_of es) d))

module _ {T S : Type 0} (m : HashMap ℕ (Waiting T) S) where
  -- a look-up among the items is one in the table
  pub get-items : (q : ℕ) → map.get (items_of m) q ≡ option_map (λ w. w.item) (get nat_eq m q)
  get-items q = get-entry m.entries q

  -- an item is out exactly where a slot is kept
  pub some-slot : (q : ℕ) → IsSome (map.get (items_of m) q) → (s : ℕ) × (slot_under m q ≡ Some s)
  some-slot q h = slot-from (get nat_eq m q) (subst (λ o. IsSome o) (get-items q) h)

  -- no item, no slot
  pub none-slot : (q : ℕ) → (IsSome (map.get (items_of m) q) → ⊥) → slot_under m q ≡ None
  none-slot q h = none-from (get nat_eq m q) (sym (get-items q) ∙ not-some (map.get (items_of m) q) h)

module _ {T S : Type 0} (m n : HashMap ℕ (Waiting T) S) where
  -- the same look-ups show the same items
  pub items-same : ((q : ℕ) → get nat_eq n q ≡ get nat_eq m q) → items_of n ≡ items_of m
  items-same h = same_map nat_cmp_total nat_cmp-IsAntisymmetric (items_of n) (items_of m) (λ q. get-items n q ∙ ap (option_map (λ w. w.item)) (h q) ∙ sym (get-items m q))

  module _ (ticket : ℕ) (w : Option (Waiting T)) (updates : (q : ℕ) → get nat_eq n q ≡ cond (nat_eq ticket q) w (get nat_eq m q)) where
    -- the kept slots after one entry changed
    pub slot-changed : slot_under n ticket ≡ option_map (λ w. w.slot) w
    slot-changed = ap (option_map (λ w. w.slot)) (updates ticket ∙ cond-true (nat_eq ticket ticket) w (get nat_eq m ticket) (eq-eqb ticket ticket refl))

    -- the kept slots of the other tickets
    pub slot-others : (q : ℕ) → q ≢ ticket → slot_under n q ≡ slot_under m q
    slot-others q ne = ap (option_map (λ w. w.slot)) (updates q ∙ cond-false (nat_eq ticket q) w (get nat_eq m q) (ne_eqb ticket q (λ e. ne (sym e))))

  -- the items with one more
  pub items-put : (ticket : ℕ) (w : Waiting T) → ((q : ℕ) → get nat_eq n q ≡ cond (nat_eq ticket q) (Some w) (get nat_eq m q)) → items_of n ≡ insert (items_of m) ticket w.item
  items-put ticket w updates = same_map nat_cmp_total nat_cmp-IsAntisymmetric (items_of n) (insert (items_of m) ticket w.item) (λ q.
      grind (arith, nat_tests, updates q, get-items m q, get-items n q, get-put (items_of m) ticket w.item q))

  -- the items without one
  pub items-taken : (ticket : ℕ) → ((q : ℕ) → get nat_eq n q ≡ cond (nat_eq ticket q) None (get nat_eq m q)) → items_of n ≡ remove (items_of m) ticket
  items-taken ticket updates = same_map nat_cmp_total nat_cmp-IsAntisymmetric (items_of n) (remove (items_of m) ticket) (λ q.
      grind (arith, nat_tests, updates q, get-items m q, get-items n q, get-taken (items_of m) ticket q))

-- the tickets after a member left
below-without : (t : ℕ) (test : ℕ → Bool) (ms : List (ℕ × ℕ)) → IsBelowAll t ms → IsBelowAll t (remove_entry test ms)
below-without t test [] h = tt
below-without t test (m ∷ ms) h = elim (test m.0) as (λ b. IsBelowAll t (cond b ms (m ∷ remove_entry test ms))) [
  | true ↦ h.1
  | false ↦ (h.0, below-without t test ms h.1)
]

-- they still rise
pub rising-without : (test : ℕ → Bool) (ms : List (ℕ × ℕ)) → TicketsRise ms → TicketsRise (remove_entry test ms)
rising-without test [] h = tt
rising-without test (m ∷ ms) h = elim (test m.0) as (λ b. TicketsRise (cond b ms (m ∷ remove_entry test ms))) [
  | true ↦ h.1
  | false ↦ (below-without m.1 test ms h.0, rising-without test ms h.1)
]

-- the tickets after one came behind them
below-pushed : (t : ℕ) (ms : List (ℕ × ℕ)) (slot ticket : ℕ) → t < ticket → IsBelowAll t ms → IsBelowAll t (ms ++ (slot, ticket) ∷ [])
below-pushed t [] slot ticket l h = (l, tt)
below-pushed t (m ∷ ms) slot ticket l h = (h.0, below-pushed t ms slot ticket l h.1)

-- they rise if it is above them all
rising-pushed : (ms : List (ℕ × ℕ)) (slot ticket : ℕ) → All (λ t. t < ticket) (values_of ms) → TicketsRise ms → TicketsRise (ms ++ (slot, ticket) ∷ [])
rising-pushed [] slot ticket all h = (tt, tt)
rising-pushed (m ∷ ms) slot ticket all h =
    (below-pushed m.1 ms slot ticket (all 0 0 (omega arith)) h.0, rising-pushed ms slot ticket (λ k d l. all (suc k) d (omega arith)) h.1)

-- the first ticket is the least
below-found : (t : ℕ) (test : ℕ → Bool) (ms : List (ℕ × ℕ)) (n : ℕ) → IsBelowAll t ms → lookup test ms ≡ Some n → t < n
below-found t test [] n h e = absurd (let no : None ≡ Some n = e in cc)
below-found t test (m ∷ ms) n h e = grind (arith, h.0, below-found t test ms n h.1)

-- the first stands before all that a look-up finds
pub first-least : (ms : List (ℕ × ℕ)) (slot t : ℕ) → slice_get ms 0 ≡ Some (slot, t) → TicketsRise ms → (test : ℕ → Bool) (n : ℕ) → lookup test ms ≡ Some n → t ≤ n
first-least [] slot t here h test n e = absurd (let no : None ≡ Some (slot, t) = here in cc)
first-least (m ∷ ms) slot t here h test n e =
    let same : Some m ≡ Some (slot, t) = here in
    let is : m ≡ (slot, t) = cc in
    let ticket : m.1 ≡ t = ap (λ (p : ℕ × ℕ). p.1) is in
    grind (arith, below-found m.1 test ms n h.0)

-- no other key than a lower one compares as less
cmp_not_less : (t k : ℕ) → k ≤ t → is_lt (nat_cmp t k) ≡ false
cmp_not_less t k l = grind arith

-- both halves of a test that passed
split-and : (a b : Bool) → T (a && b) → T a × T b
split-and true b h = (tt, h)
split-and false b h = absurd h

-- the keys of a map of items stand in rising order
less-key : (t k : ℕ) (b : Bool) → T (is_lt (nat_cmp t k) && b) → (t < k) × T b
less-key t k b h =
    let both = split-and (is_lt (nat_cmp t k)) b h in (
      elim (cases_lt t k) as (λ _. t < k) [
        | inl l ↦ l
        | inr g ↦ absurd (subst T (cmp_not_less t k g) both.0)
      ],
      both.1,
    )

module _ {X : Type 0} where
  -- a key that is found among keys above k is above k
  found-above : (t k : ℕ) (es : List (ℕ × X)) → T (below_all nat_cmp k es) → IsSome (find nat_cmp t es) → k < t
  found-above t k [] h f = absurd (false≢true f)
  found-above t k (e ∷ es) h f =
      let w = less-key k e.0 (below_all nat_cmp k es) h in
      grind (arith, nat_tests, unsigned_tied t e.0, w.0, found-above t k es w.1)

  -- the least key of a sorted list stands first
  first-of : (t : ℕ) (es : List (ℕ × X)) → T (is_sorted nat_cmp es) → IsSome (find nat_cmp t es) → ((q : ℕ) → IsSome (find nat_cmp q es) → t ≤ q) → slice_get (map (λ e. e.0) es) 0 ≡ Some t
  first-of t [] sorted f least = absurd (false≢true f)
  first-of t (e ∷ es) sorted f least =
      let parts = split-and (below_all nat_cmp e.0 es) (is_sorted nat_cmp es) sorted in
      let here : IsSome (find nat_cmp e.0 (e ∷ es)) = grind (arith, nat_tests, unsigned_tied e.0 e.0) in
      grind (arith, nat_tests, unsigned_tied t e.0, least e.0 here, found-above t e.0 es parts.0)

  -- the least key stands first
  pub first-key : (m : FinMap nat_cmp X) (t : ℕ) → IsLowest t m → slice_get (map.keys m) 0 ≡ Some t
  first-key m t lowest = first-of t (entries m) (entries_sorted m) (subst (λ o. IsSome o) (get-entries m t) lowest.0) (λ q h. lowest.1 q (subst (λ o. IsSome o) (sym (get-entries m q)) h))

  -- a map that answers nothing is empty
  pub empty-map : (m : FinMap nat_cmp X) → ((q : ℕ) → map.get m q ≡ None) → m ≡ empty
  empty-map m h = same_map nat_cmp_total nat_cmp-IsAntisymmetric m empty (λ q. h q ∙ sym (get-empty nat_cmp q))

  -- no key is in the empty map
  pub some-empty : (m : FinMap nat_cmp X) (k : ℕ) → IsSome (map.get m k) → m ≡ empty → ⊥
  some-empty m k h e = false≢true (subst (λ o. IsSome o) (ap (λ n. map.get n k) e ∙ get-empty nat_cmp k) h)

  -- so it has a lowest key where there is one
  pub some-lowest : (m : FinMap nat_cmp X) (k : ℕ) → IsSome (map.get m k) → (IsNone (Some k) → m ≡ empty) × (m ≡ empty → IsNone (Some k))
  some-lowest m k h = (λ no. absurd (let x = no in cc), λ e. absurd (some-empty m k h e))

  -- a list with no entries has no first key
  no-keys : (es : List (ℕ × X)) → length es ≡ 0 → slice_get (map (λ e. e.0) es) 0 ≡ None
  no-keys [] h = refl
  no-keys (e ∷ es) h = absurd (omega arith)

  -- the empty map has no first key
  pub no-first : (m : FinMap nat_cmp X) → m ≡ empty → slice_get (map.keys m) 0 ≡ None
  no-first m h = no-keys (entries m) (sym (map.len-entries m) ∙ ap len h ∙ len-empty nat_cmp X)

-- the ticket that stands first
module _ {T S : Type 0} (ms : List (ℕ × ℕ)) (m : HashMap ℕ (Waiting T) S) (tied : IsTicketTable ms m) where
  -- each member's ticket has an item
  pub member-out : (s t : ℕ) → lookup (nat_eq s) ms ≡ Some t → IsSome (map.get (items_of m) t)
  member-out s t h = item-from (get nat_eq m t) s (tied.linked.to_slot s t h) (get-items m t)

  -- every item's ticket is a member's
  out-member : (q : ℕ) → IsSome (map.get (items_of m) q) → (s : ℕ) × (lookup (nat_eq s) ms ≡ Some q)
  out-member q h = let w = some-slot m q h in (w.0, tied.linked.to_place w.0 q w.1)

  -- no item has a lower ticket than the first member
  pub least-ticket : (slot t : ℕ) → slice_get ms 0 ≡ Some (slot, t) → (q : ℕ) → IsSome (map.get (items_of m) q) → t ≤ q
  least-ticket slot t here q h = let w = out-member q h in first-least ms slot t here tied.rising (nat_eq w.0) q w.1

  -- no members, no items
  pub none-out : length ms ≡ 0 → items_of m ≡ empty
  none-out h = empty-map (items_of m) (λ q. not-some (map.get (items_of m) q) (λ some. let w = out-member q some in no-lookup ms (nat_eq w.0) q h w.1))

-- what the calls leave
module _ {T S : Type 0} (ms ns : List (ℕ × ℕ)) (m n : HashMap ℕ (Waiting T) S) (tied : IsTicketTable ms m) where
  -- after `hand_out`
  pub tied-handed : (slot ticket : ℕ) (w : Waiting T) → w.slot ≡ slot → IsDistinct nat_eq (keys_of ms)
      → ((q : ℕ) → IsSome (map.get (items_of m) q) → q < ticket)
      → lookup (nat_eq slot) ms ≡ None → ns ≡ ms ++ (slot, ticket) ∷ [] → ((s : ℕ) → lookup (nat_eq s) ns ≡ cond (nat_eq s slot) (Some ticket) (lookup (nat_eq s) ms))
      → ((q : ℕ) → get nat_eq n q ≡ cond (nat_eq ticket q) (Some w) (get nat_eq m q)) → IsTicketTable ns n
  tied-handed slot ticket w its d newest free e nodes updates = record {
    linked = linked-added (slot_under m) (slot_under n) (λ s. lookup (nat_eq s) ms) (λ s. lookup (nat_eq s) ns) tied.linked slot ticket
        (slot-others m n ticket (Some w) updates)
        (none-slot m ticket (λ h. omega (arith, newest ticket h)))
        (slot-changed m n ticket (Some w) updates ∙ ap Some its)
        free nodes;
    rising = subst TicketsRise (sym e) (rising-pushed ms slot ticket
        (All-values_from_lookup nat_eq_equiv (λ t. t < ticket) ms d (λ s. if-some (lookup (nat_eq s) ms) (λ t. t < ticket) (λ t h. newest t (member-out ms m tied s t h)))) tied.rising);
  }

  -- after `take`
  pub tied-taken : (slot ticket : ℕ) (w : Waiting T) → w.slot ≡ slot → get nat_eq m ticket ≡ Some w
      → ns ≡ remove_entry (nat_eq slot) ms → ((s : ℕ) → lookup (nat_eq s) ns ≡ cond (nat_eq slot s) None (lookup (nat_eq s) ms))
      → ((q : ℕ) → get nat_eq n q ≡ cond (nat_eq ticket q) None (get nat_eq m q)) → IsTicketTable ns n
  tied-taken slot ticket w its found e nodes updates = record {
    linked = linked-removed (slot_under m) (slot_under n) (λ s. lookup (nat_eq s) ms) (λ s. lookup (nat_eq s) ns) tied.linked slot ticket
        (slot-others m n ticket None updates)
        (ap (option_map (λ w. w.slot)) found ∙ ap Some its)
        (slot-changed m n ticket None updates)
        nodes;
    rising = subst TicketsRise (sym e) (rising-without (nat_eq slot) ms tied.rising);
  }
