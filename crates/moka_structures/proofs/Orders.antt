-- What each call leaves of the order.
use Rattle.std.proofs.Common.{◌≡◌, ◌≢◌, ℕ, zero, suc, ◌+◌, ◌-◌, ◌<◌, ◌≤◌, ◌^◌, List, [], ◌∷◌, ◌++◌, inl, inr, refl, sym, ap, ◌∙◌, arith, length, map, set, get_or, drop, Option, Some, None, IsSome, nat_eq, length-set, slice_get}
use Rattle.std.proofs.lemmas.Bool.{cases_lt, cases_Bool, eqb-true, ne_eqb, cond-true, cond-false, false≢true}
use Rattle.std.proofs.lemmas.List.{drop_more, drop_all, length_push, get_or_append_left, get_or_push, get_or_read, map_push, length-drop, length-map, get_or-map, get_or_default}
use Rattle.std.proofs.lemmas.Option.{slice_get-get_or, slice_get_past}
use Rattle.std.proofs.lemmas.List.Edits.{length-remove}
use Rattle.std.specs.List.{remove, IsDistinct}
use Rattle.std.specs.Map.{lookup, remove_entry, keys_of}
use Rattle.std.proofs.lemmas.Map.Keys.{IsDistinct-from_apart}
use Rattle.std.proofs.lemmas.Map.Entries.{lookup_from_place}
use Rattle.std.specs.Cmp.{nat_eq_equiv}
use Rattle.moka_links.proofs.Chains.{no-frees}
use Rattle.moka_links.proofs.Nodes.{set-keeps, set-other, set-same, values-kept, Detached-detached, Attached-attached}
use Rattle.moka_structures.specs.OrderList.{next_after, moved_to_back}
use Rattle.moka_structures.specs.Rings.{Ring}
use Rattle.moka_links.specs.declared.Node.{Node}
use Rattle.moka_structures.specs.Links.{IsOrder, blank, at, with_behind, with_value, detached, attached, behinds, befores, values, ring_of, walk, member, members_of}
use Rattle.moka_structures.proofs.Parts.{ring-next, Neighbours, neighbours, Parts, Outside, leaving, parts-of, order-of, last-in, parts-attached, parts-released, parts-taken, outside-taken, parts-grown, outside-grown}

-- the links are read alike whatever is read past the last node
befores-any : {T : Type 0} (p q : T) (ns : List (Node T)) (i : ℕ) → befores p ns i ≡ befores q ns i
befores-any p q [] i = refl
befores-any p q (n ∷ ns) zero = refl
befores-any p q (n ∷ ns) (suc i) = befores-any p q ns i

behinds-any : {T : Type 0} (p q : T) (ns : List (Node T)) (i : ℕ) → behinds p ns i ≡ behinds q ns i
behinds-any p q [] i = refl
behinds-any p q (n ∷ ns) zero = refl
behinds-any p q (n ∷ ns) (suc i) = behinds-any p q ns i

module _ {T : Type 0} (past : T) where
  -- the walk from place i + 1 finds the rest of the slots
  walk-rest : (ns : List (Node T)) (g : ℕ → ℕ) (xs : List ℕ) (size : ℕ) → Ring (behinds past ns) g (ring_of xs) (length xs) size
      → (n i : ℕ) → i + n ≡ length xs → walk past ns n (ring_of xs (i + 1)) ≡ drop i xs
  walk-rest ns g xs size ring zero i e = sym (drop_all i xs (omega arith))
  walk-rest ns g xs size ring (suc n) i e =
      let rest = walk-rest ns g xs size ring n (i + 1) (omega arith) in
      let step : walk past ns n (behinds past ns (ring_of xs (i + 1))) ≡ drop (i + 1) xs = ap (walk past ns n) (ring.behind (i + 1) (omega arith)) ∙ rest in
      ap (λ k. ring_of xs (i + 1) ∷ k) step ∙ ap (λ k. k ∷ drop (i + 1) xs) (ring-next xs i) ∙ sym (drop_more xs i 0 (omega arith))

  -- the walk finds all slots
  walk-all : (ns : List (Node T)) (g : ℕ → ℕ) (xs : List ℕ) (size : ℕ) → Ring (behinds past ns) g (ring_of xs) (length xs) size
      → walk past ns (length xs) (behinds past ns 0) ≡ xs
  walk-all ns g xs size ring = ap (walk past ns (length xs)) (ring.behind 0 (omega arith)) ∙ walk-rest ns g xs size ring (length xs) 0 (omega arith)

  -- the members are those of the slots
  pub members-are : (ns : List (Node T)) (len free : ℕ) (o : IsOrder past ns len free) → members_of past ns len ≡ map (member past ns) o.slots
  members-are ns len free o = ap (map (member past ns)) (ap (λ n. walk past ns n (behinds past ns 0)) o.counted ∙ walk-all ns (befores past ns) o.slots (length ns) o.ring)

  -- where a slot stands
  pub record Place (ns : List (Node T)) (xs : List ℕ) (s : ℕ) : Type 0 where
    pub place : ℕ
    pub within : place < length xs
    pub here : get_or xs place 0 ≡ s
    pub found : lookup (nat_eq s) (map (member past ns) xs) ≡ Some (values past ns s)
    pub after : next_after s (map (member past ns) xs) ≡ slice_get (map (member past ns) xs) (suc place)
    pub without : remove_entry (nat_eq s) (map (member past ns) xs) ≡ map (member past ns) (remove xs place)

  -- each slot that a look-up finds has a place
  place-of : (ns : List (Node T)) (xs : List ℕ) (s : ℕ) → IsSome (lookup (nat_eq s) (map (member past ns) xs)) → Place ns xs s
  place-of ns [] s p = absurd (false≢true p)
  place-of ns (x ∷ xs) s p = elim (cases_Bool (nat_eq s x)) as (λ _. Place ns (x ∷ xs) s) [
    | inl t ↦ let e : s ≡ x = eqb-true s x t in record {
      place = 0;
      within = omega (arith);
      here = sym e;
      found = cond-true (nat_eq s x) _ _ t ∙ ap (λ k. Some (values past ns k)) (sym e);
      after = cond-true (nat_eq s x) _ _ t;
      without = cond-true (nat_eq s x) _ _ t;
    }
    | inr t ↦
        let rest = place-of ns xs s (rw t at p) in record {
          place = suc rest.place;
          within = omega (arith, rest.within);
          here = rest.here;
          found = cond-false (nat_eq s x) _ _ t ∙ rest.found;
          after = cond-false (nat_eq s x) _ _ t ∙ rest.after;
          without = cond-false (nat_eq s x) _ _ t ∙ ap (λ k. member past ns x ∷ k) rest.without;
        }
  ]

  -- members whose values are the same at the slots of a list
  members-same : (ns ms : List (Node T)) (xs : List ℕ) → ((k : ℕ) → k < length xs → values past ms (get_or xs k 0) ≡ values past ns (get_or xs k 0)) → map (member past ms) xs ≡ map (member past ns) xs
  members-same ns ms [] e = refl
  members-same ns ms (x ∷ xs) e =
      ap (λ n. (x, n) ∷ map (member past ms) xs) (e 0 (omega arith))
      ∙ ap (λ k. member past ns x ∷ k) (members-same ns ms xs (λ k l. e (suc k) (omega arith)))

  -- a list of slots that the nodes hold gives the members
  members-from : (ms : List (Node T)) (len free : ℕ) (o : IsOrder past ms len free) (ns : List (Node T)) → ((i : ℕ) → values past ms i ≡ values past ns i) → members_of past ms len ≡ map (member past ns) o.slots
  members-from ms len free o ns e = members-are ms len free o ∙ members-same ns ms o.slots (λ k l. e (get_or o.slots k 0))

  -- what a call leaves: an order, and its members
  pub record Leaves (ms : List (Node T)) (len free : ℕ) (members : List (ℕ × T)) : Type 0 where
    pub order : IsOrder past ms len free
    pub members_are : members_of past ms len ≡ members

  -- the slot t stands behind the slot s, and m is the member there, if t is not the sentinel's
  pub record Behind (ns : List (Node T)) (members : List (ℕ × T)) (s t : ℕ) (m : Option (ℕ × T)) : Type 0 where
    pub within : t < length ns
    pub none : t ≡ 0 → m ≡ None
    pub some : t ≢ 0 → (n : Node T) → n ≡ get_or ns t n → m ≡ Some (t, n.value)
    pub found : t ≢ 0 → (n : Node T) → n ≡ get_or ns t n → lookup (nat_eq t) members ≡ Some n.value
    pub other : t ≢ 0 → t ≢ s

  -- no member is in a slot that has no place
  lookup-fresh : (ns : List (Node T)) (xs : List ℕ) (s : ℕ) → ((k : ℕ) → k < length xs → get_or xs k 0 ≢ s) → lookup (nat_eq s) (map (member past ns) xs) ≡ None
  lookup-fresh ns [] s ne = refl
  lookup-fresh ns (x ∷ xs) s ne = cond-false (nat_eq s x) _ _ (ne_eqb s x (λ z. ne 0 (omega arith) (sym z))) ∙ lookup-fresh ns xs s (λ k l. ne (suc k) (omega arith))

  -- a slot outside is attached with its value
  push-leaves : (ns ns1 : List (Node T)) (len free s : ℕ) (n : T) (xs fs : List ℕ) (next : ℕ) → Parts past ns1 xs fs next → Outside past ns1 xs fs s
      → ((k : ℕ) → k < length xs → values past ns1 (get_or xs k 0) ≡ values past ns (get_or xs k 0)) → values past ns1 s ≡ n
      → len ≡ length xs → length xs + length fs + 2 ≡ length ns1 → length ns1 ≤ 2 ^ 32
      → Leaves (attached past ns1 s) (len + 1) next (map (member past ns) xs ++ (s, n) ∷ [])
  push-leaves ns ns1 len free s n xs fs next p u kept here counted total bounded =
      let a = Attached-attached past ns1 s 0 u.within (omega (arith, u.within)) (last-in past ns1 xs fs next p) in
      let ms = attached past ns1 s in
      let longer = length_push xs s in
      let order = order-of past ms (len + 1) next (xs ++ s ∷ []) fs (parts-attached past ns1 xs fs next p s u) (omega arith) (omega (arith, a.size)) (rw a.size bounded) in
      record {
        order = order;
        members_are = members-are ms (len + 1) next order ∙ map_push (member past ms) xs s
            ∙ ap (λ l. l ++ member past ms s ∷ []) (members-same ns ms xs (λ k l. values-kept past ns1 ms s a.value a.value_at (get_or xs k 0) ∙ kept k l))
            ∙ ap (λ i. map (member past ns) xs ++ (s, i) ∷ []) (a.value_at ∙ here);
      }

  -- the sentinel alone is an empty order
  pub sole : (v : Node T) → v.before ≡ 0 → v.behind ≡ 0 → IsOrder past (v ∷ []) 0 0
  sole v e z = record {
    slots = [];
    frees = [];
    counted = refl;
    total = refl;
    bounded = omega arith;
    ring = record {
      start = refl;
      close = refl;
      behind = λ i q. let n : i ≡ 0 = omega arith in rw (n) z;
      before = λ i q. let n : i ≡ 0 = omega arith in rw (n) e;
      apart = λ i j p q. absurd (omega arith);
      within = λ i q. let n : i ≡ 0 = omega arith in rw (n) (omega arith);
    };
    chain = no-frees (behinds past (v ∷ [])) 0 1;
    apart = λ i j p q. absurd (omega arith);
  }

  -- the slots of the members
  keys-member : (ns : List (Node T)) (xs : List ℕ) → keys_of (map (member past ns) xs) ≡ xs
  keys-member ns [] = refl
  keys-member ns (x ∷ xs) = ap (λ k. x ∷ k) (keys-member ns xs)

-- the calls, by what a contract sees
module _ {T : Type 0} {past : T} {ns : List (Node T)} {len free : ℕ} (o : IsOrder past ns len free) where
  -- the members by their slots
  by_slots : members_of past ns len ≡ map (member past ns) o.slots
  by_slots = members-are past ns len free o

  parts : Parts past ns o.slots o.frees free
  parts = parts-of past ns len free o

  -- the count is that of the members
  pub length-members : length (members_of past ns len) ≡ len
  length-members = ap length by_slots ∙ length-map o.slots (member past ns) ∙ sym o.counted

  -- the sentinel is in the table
  pub fits : len < length ns
  fits = omega (arith, o.total, o.counted)

  -- no two members have one slot
  pub distinct-members : IsDistinct nat_eq (keys_of (members_of past ns len))
  distinct-members =
      rw (by_slots, keys-member past ns o.slots)
      (IsDistinct-from_apart nat_eq o.slots (λ i j d l p. ne_eqb _ _ (λ z. o.ring.apart (i + 1) (j + 1) (omega arith) (omega arith)
      (ring-next o.slots i ∙ get_or_default o.slots i 0 d (omega arith) ∙ z ∙ get_or_default o.slots j d 0 p ∙ sym (ring-next o.slots j)))))

  -- ---- a member

  -- its place
  pub placed : (s : ℕ) → IsSome (lookup (nat_eq s) (members_of past ns len)) → Place past ns o.slots s
  placed s p = place-of past ns o.slots s (rw by_slots at p)

  -- its neighbours
  pub near : (s : ℕ) (p : IsSome (lookup (nat_eq s) (members_of past ns len))) → Neighbours past ns o.slots s (placed s p).place
  near s p = let w = placed s p in neighbours past ns o.slots s w.place w.within w.here o.ring

  -- its value
  pub value-of : (s : ℕ) → IsSome (lookup (nat_eq s) (members_of past ns len)) → lookup (nat_eq s) (members_of past ns len) ≡ Some (values past ns s)
  value-of s p = ap (lookup (nat_eq s)) by_slots ∙ (placed s p).found

  -- ---- no link leads out of the table, whatever is read past the last node

  pub before-any : (s : ℕ) → IsSome (lookup (nat_eq s) (members_of past ns len)) → (q : T) → befores q ns s < length ns
  before-any s p q = omega (arith, befores-any q past ns s, (near s p).before_within)

  pub behind-any : (s : ℕ) → IsSome (lookup (nat_eq s) (members_of past ns len)) → (q : T) → behinds q ns s < length ns
  behind-any s p q = omega (arith, behinds-any q past ns s, (near s p).behind_within)

  pub last-any : (q : T) → befores q ns 0 < length ns
  last-any q = omega (arith, befores-any q past ns 0, last-in past ns o.slots o.frees free parts)

  -- also after `detach`
  pub last-detached : (s : ℕ) → IsSome (lookup (nat_eq s) (members_of past ns len)) → (q : T) → befores q (detached q ns s) 0 < length ns
  last-detached s p q =
      let before = before-any s p q in
      let d = Detached-detached q ns s before (behind-any s p q) in
      grind (arith, before, d.before_at, d.before 0, last-any q)

  -- ---- what stands behind a slot

  stands : (i s t : ℕ) → i ≤ length o.slots → t ≡ ring_of o.slots (i + 1) → (t ≢ 0 → t ≢ s) → Behind past ns (members_of past ns len) s t (slice_get (members_of past ns len) i)
  stands i s t q e other = elim (cases_lt i (length o.slots)) as (λ _. Behind past ns (members_of past ns len) s t (slice_get (members_of past ns len) i)) [
    | inl l ↦
        let within : t < length ns = rw e (o.ring.within (i + 1) (omega arith)) in
        let here : slice_get (members_of past ns len) i ≡ Some (member past ns t) =
        ap (λ ms. slice_get ms i) by_slots ∙ slice_get-get_or (map (member past ns) o.slots) i (member past ns 0) (omega (arith, length-map o.slots (member past ns)))
        ∙ ap Some (get_or-map (member past ns) o.slots i 0 (member past ns 0) l ∙ ap (member past ns) (sym (e ∙ ring-next o.slots i))) in
        record {
          within = within;
          none = λ z. absurd (o.ring.apart 0 (i + 1) (omega arith) (omega arith) (o.ring.start ∙ sym z ∙ e));
          some = λ _ n r. here ∙ ap (λ (m : Node T). Some (t, m.value)) (sym (get_or_read ns t n within r (blank past)));
          found = λ _ n r. lookup_from_place nat_eq_equiv (members_of past ns len) i t (values past ns t) distinct-members here
              ∙ ap (λ (m : Node T). Some m.value) (sym (get_or_read ns t n within r (blank past)));
          other = other;
        }
    | inr l ↦
        let same : i ≡ length o.slots = omega arith in
        let zero_is : t ≡ 0 = e ∙ ap (λ k. ring_of o.slots (k + 1)) same ∙ o.ring.close in
        record {
          within = rw zero_is (omega (arith, o.ring.within 0 (omega arith)));
          none = λ _. ap (λ ms. slice_get ms i) by_slots ∙ slice_get_past (map (member past ns) o.slots) i (omega (arith, length-map o.slots (member past ns)));
          some = λ ne. absurd (ne zero_is);
          found = λ ne. absurd (ne zero_is);
          other = other;
        }
  ]

  -- the sentinel leads to the first member
  pub first : (n : Node T) → n ≡ get_or ns 0 n → Behind past ns (members_of past ns len) 0 n.behind (slice_get (members_of past ns len) 0)
  first n r =
      stands 0 0 n.behind (omega arith) (ap (λ (m : Node T). m.behind) (get_or_read ns 0 n (omega (arith, fits)) r (blank past)) ∙ o.ring.behind 0 (omega arith)) (λ ne. ne)

  -- a member leads to another slot
  other-next : (s t : ℕ) (p : IsSome (lookup (nat_eq s) (members_of past ns len))) → t ≡ ring_of o.slots (suc (placed s p).place + 1) → t ≢ 0 → t ≢ s
  other-next s t p link ne same =
      let w = placed s p in
      elim (cases_lt (suc w.place) (length o.slots)) as (λ _. ⊥) [
        | inl l ↦ o.ring.apart (w.place + 1) (suc w.place + 1) (omega arith) (omega arith) ((near s p).at_place ∙ sym same ∙ link)
        | inr l ↦ let last : suc w.place ≡ length o.slots = omega (arith, w.within) in ne (link ∙ ap (λ k. ring_of o.slots (k + 1)) last ∙ o.ring.close)
      ]

  -- that of the next member, or the sentinel's
  pub next : (s : ℕ) → IsSome (lookup (nat_eq s) (members_of past ns len)) → (n : Node T) → n ≡ get_or ns s n → Behind past ns (members_of past ns len) s n.behind (next_after s (members_of past ns len))
  next s p n r =
      let w = placed s p in
      let b = near s p in
      let link : n.behind ≡ ring_of o.slots (suc w.place + 1) = ap (λ (m : Node T). m.behind) (get_or_read ns s n b.within r (blank past)) ∙ b.behind ∙ ap (ring_of o.slots) (omega arith) in
      let after : next_after s (members_of past ns len) ≡ slice_get (members_of past ns len) (suc w.place) = ap (next_after s) by_slots ∙ w.after ∙ ap (λ ms. slice_get ms (suc w.place)) (sym by_slots) in
      rw after (stands (suc w.place) s n.behind (omega (arith, w.within)) link (other-next s n.behind p link))

  -- ---- slots that no member has

  -- a slot that is free, where one is
  pub free-fresh : len + 1 < length ns → lookup (nat_eq free) (members_of past ns len) ≡ None
  free-fresh more =
      let some : 0 < length o.frees = omega (arith, o.total, o.counted) in
      ap (lookup (nat_eq free)) by_slots ∙ lookup-fresh past ns o.slots free (λ k l z. o.apart (k + 1) 0 (omega arith) some (ring-next o.slots k ∙ z ∙ o.chain.first some))

  -- and it is not the sentinel's
  pub free-positive : len + 1 < length ns → 0 < free
  free-positive more =
      let some : 0 < length o.frees = omega (arith, o.total, o.counted) in
      let apart : free ≢ 0 = (λ z. o.apart 0 0 (omega arith) some (o.ring.start ∙ sym z ∙ o.chain.first some)) in
      omega arith

  -- a new slot
  pub new-fresh : lookup (nat_eq (length ns)) (members_of past ns len) ≡ None
  new-fresh = ap (lookup (nat_eq (length ns))) by_slots ∙ lookup-fresh past ns o.slots (length ns) (λ k l z. omega (arith, ring-next o.slots k, o.ring.within (k + 1) (omega arith)))

  -- ---- what each call leaves

  -- a push into the first free slot
  pub reused : (n : T) → len + 1 < length ns
      → Leaves past (attached past (with_value past ns free n) free) (len + 1) (behinds past ns free) (members_of past ns len ++ (free, n) ∷ [])
  reused n more =
      let some : 0 < length o.frees = omega (arith, o.total, o.counted) in
      let v : Node T = record (at past ns free) { value = n } in
      let size : length (set ns free v) ≡ length ns = length-set ns free v in
      let u = outside-taken past ns o.slots o.frees free parts n some in
      rw by_slots (push-leaves past ns (set ns free v) len free free n o.slots (drop 1 o.frees) (behinds past ns free) (parts-taken past ns o.slots o.frees free parts n some) u
      (λ k l. ap (λ m. m.value) (set-other past ns free v (get_or o.slots k 0) (λ z. u.unplaced (k + 1) (omega arith) (ring-next o.slots k ∙ z))))
      (ap (λ m. m.value) (set-same past ns free v (omega (arith, u.within, size))))
      o.counted (omega (arith, o.total, length-drop 1 o.frees)) (rw size o.bounded))

  -- a push into a new node
  pub appended : (v : Node T) → length ns < 2 ^ 32
      → Leaves past (attached past (ns ++ v ∷ []) (length ns)) (len + 1) free (members_of past ns len ++ (length ns, v.value) ∷ [])
  appended v small =
      let size : length (ns ++ v ∷ []) ≡ length ns + 1 = length_push ns v in
      rw by_slots (push-leaves past ns (ns ++ v ∷ []) len free (length ns) v.value o.slots o.frees free (parts-grown past ns o.slots o.frees free parts v) (outside-grown past ns o.slots o.frees free parts v)
      (λ k l. ap (λ m. m.value) (get_or_append_left ns (v ∷ []) (blank past) (get_or o.slots k 0) (omega (arith, ring-next o.slots k, o.ring.within (k + 1) (omega arith)))))
      (ap (λ m. m.value) (get_or_push ns v (blank past) (length ns) refl))
      o.counted (omega (arith, o.total)) (rw size (omega arith)))

  -- `unlink`
  pub unlinked : (s : ℕ) → IsSome (lookup (nat_eq s) (members_of past ns len))
      → Leaves past (with_behind past (detached past ns s) s free) (len - 1) s (remove_entry (nat_eq s) (members_of past ns len))
  unlinked s p =
      let w = placed s p in
      let out = leaving past ns o.slots o.frees free parts s w.place w.within w.here in
      let xs = remove o.slots w.place in
      let ds = detached past ns s in
      let v : Node T = record (at past ds s) { behind = free } in
      let ms = set ds s v in
      let size : length ms ≡ length ns = length-set ds s v ∙ out.nodes.size in
      let left = length-remove o.slots w.place w.within in
      let order = order-of past ms (len - 1) s xs (s ∷ o.frees) (parts-released past ds xs o.frees free out.parts s out.outside) (omega (arith, o.counted)) (omega (arith, o.total)) (rw size o.bounded) in
      rw (by_slots, w.without) (record {
        order = order;
        members_are = members-from past ms (len - 1) s order ns (λ i. set-keeps past (λ n. n.value) ds s v i out.outside.within refl ∙ values-kept past ns ds s out.nodes.value out.nodes.value_at i);
      })

  -- `move_to_back`
  pub moved : (s : ℕ) (value : T) → lookup (nat_eq s) (members_of past ns len) ≡ Some value
      → Leaves past (attached past (detached past ns s) s) len free (moved_to_back s value (members_of past ns len))
  moved s value found =
      let p : IsSome (lookup (nat_eq s) (members_of past ns len)) = rw found refl in
      let w = placed s p in
      let out = leaving past ns o.slots o.frees free parts s w.place w.within w.here in
      let xs = remove o.slots w.place in
      let ds = detached past ns s in
      let a = Attached-attached past ds s 0 out.outside.within (omega (arith, out.outside.within)) (last-in past ds xs o.frees free out.parts) in
      let ms = attached past ds s in
      let size : length ms ≡ length ns = a.size ∙ out.nodes.size in
      let shorter = length-remove o.slots w.place w.within in
      let longer = length_push xs s in
      let order = order-of past ms len free (xs ++ s ∷ []) o.frees (parts-attached past ds xs o.frees free out.parts s out.outside) (omega (arith, o.counted)) (omega (arith, o.total)) (rw size o.bounded) in
      let is : values past ns s ≡ value = cc (found, value-of s p) in
      let kept : (i : ℕ) → values past ms i ≡ values past ns i = λ i. values-kept past ds ms s a.value a.value_at i ∙ values-kept past ns ds s out.nodes.value out.nodes.value_at i in
      let shown : members_of past ms len ≡ map (member past ns) (xs ++ s ∷ []) = members-from past ms len free order ns kept in
      rw (by_slots, w.without, ← is) (record { order = order; members_are = shown ∙ map_push (member past ns) xs s })
