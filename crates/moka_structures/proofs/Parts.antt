-- The slots of the ring and the free ones, after each write.
use Rattle.std.proofs.Common.{◌≡◌, ◌≢◌, ℕ, zero, suc, ◌+◌, ◌<◌, ◌≤◌, ◌^◌, List, [], ◌∷◌, ◌++◌, inl, inr, refl, sym, ap, ◌∙◌, arith, add-one, length, set, get_or, drop, length-set}
use Rattle.std.proofs.lemmas.Bool.{cases_lt}
use Rattle.std.proofs.lemmas.List.{length_push, get_or_append_left, get_or_push, get_or_past}
use Rattle.std.proofs.lemmas.List.Edits.{length-remove, get_or-remove_below, get_or-remove_above}
use Rattle.std.specs.List.{remove}
use Rattle.moka_links.specs.Chains.{Frees, free_of}
use Rattle.moka_links.proofs.Chains.{Frees-same, more-frees, fewer-frees, free_of-rest, length-rest}
use Rattle.moka_links.proofs.Nodes.{set-keeps, set-other, set-same, Detached, Detached-detached, Attached-attached}
use Rattle.moka_structures.specs.Rings.{Ring}
use Rattle.moka_links.specs.declared.Node.{Node}
use Rattle.moka_structures.specs.Links.{IsOrder, blank, at, with_behind, with_value, detached, attached, behinds, befores, values, ring_of}
use Rattle.moka_structures.proofs.Rings.{Ring-detach, Ring-attach, Ring-same, Ring-within}

-- the ring past the sentinel is the list of slots
pub ring-next : (xs : List ℕ) (i : ℕ) → ring_of xs (i + 1) ≡ get_or xs i 0
ring-next xs i = rw add-one refl

-- the places below the one that is taken out, and those above it
ring-below : (xs : List ℕ) (h i : ℕ) → h < length xs → i ≤ h → ring_of (remove xs h) i ≡ ring_of xs i
ring-below xs h zero l q = refl
ring-below xs h (suc i) l q = get_or-remove_below xs h 0 i (omega arith) l

ring-above : (xs : List ℕ) (h i : ℕ) → h < length xs → h < i → ring_of (remove xs h) i ≡ ring_of xs (i + 1)
ring-above xs h zero l q = absurd (omega arith)
ring-above xs h (suc i) l q = get_or-remove_above xs h 0 i (omega arith) l ∙ sym (ring-next xs (i + 1)) ∙ ap (ring_of xs) (omega arith)

-- the ring without the slot at a place
ring-remove : (f g f' g' : ℕ → ℕ) (xs : List ℕ) (size h : ℕ) → h < length xs → Ring f g (ring_of xs) (length xs) size
    → ((i : ℕ) → i ≢ ring_of xs h → i ≢ ring_of xs (h + 1) → f' i ≡ f i) → f' (ring_of xs h) ≡ ring_of xs (h + 2)
    → ((i : ℕ) → i ≢ ring_of xs (h + 2) → g' i ≡ g i) → g' (ring_of xs (h + 2)) ≡ ring_of xs h
    → Ring f' g' (ring_of (remove xs h)) (length (remove xs h)) size
ring-remove f g f' g' xs size h l ring fo fs go gs =
    let e : length (remove xs h) + 1 ≡ length xs = length-remove xs h l in
    Ring-detach f g f' g' (ring_of xs) (ring_of (remove xs h)) (length (remove xs h)) size h (rw e ring) (omega arith) fo fs go gs
    (λ i q. ring-below xs h i l q) (λ i q. ring-above xs h i l q)

-- the old places after a push
push-low : (xs : List ℕ) (s i : ℕ) → i ≤ length xs → ring_of (xs ++ s ∷ []) i ≡ ring_of xs i
push-low xs s zero q = refl
push-low xs s (suc i) q = get_or_append_left xs (s ∷ []) 0 i (omega arith)

-- the new place after a push
push-last : (xs : List ℕ) (s i : ℕ) → i ≡ length xs + 1 → ring_of (xs ++ s ∷ []) i ≡ s
push-last xs s i e = ap (ring_of (xs ++ s ∷ [])) e ∙ ring-next (xs ++ s ∷ []) (length xs) ∙ get_or_push xs s 0 (length xs) refl

-- the ring with one more slot at the back
ring-push : (f g f' g' : ℕ → ℕ) (xs : List ℕ) (size s : ℕ) → Ring f g (ring_of xs) (length xs) size → s < size
    → ((i : ℕ) → i ≤ length xs → ring_of xs i ≢ s)
    → ((i : ℕ) → i ≢ ring_of xs (length xs) → i ≢ s → f' i ≡ f i) → f' (ring_of xs (length xs)) ≡ s → f' s ≡ 0
    → ((i : ℕ) → i ≢ 0 → i ≢ s → g' i ≡ g i) → g' 0 ≡ s → g' s ≡ ring_of xs (length xs)
    → Ring f' g' (ring_of (xs ++ s ∷ [])) (length (xs ++ s ∷ [])) size
ring-push f g f' g' xs size s ring inside fresh fo fn fs go gn gs =
    let here : ring_of (xs ++ s ∷ []) (length xs + 1) ≡ s = push-last xs s (length xs + 1) refl in
    let past : ring_of (xs ++ s ∷ []) (length xs + 2) ≡ 0 =
    ap (ring_of (xs ++ s ∷ [])) (omega arith) ∙ ring-next (xs ++ s ∷ []) (length xs + 1) ∙ get_or_past (xs ++ s ∷ []) (length xs + 1) 0 (omega (arith, length_push xs s)) in
    rw length_push (Ring-attach f g f' g' (ring_of xs) (ring_of (xs ++ s ∷ [])) (length xs) size s ring inside fresh fo fn fs go gn gs (push-low xs s) here past)

module _ {T : Type 0} (past : T) where
  -- where a linked slot's neighbours are
  pub record Neighbours (ns : List (Node T)) (xs : List ℕ) (s h : ℕ) : Type 0 where
    pub within : s < length ns
    pub at_place : ring_of xs (h + 1) ≡ s
    pub before : befores past ns s ≡ ring_of xs h
    pub behind : behinds past ns s ≡ ring_of xs (h + 2)
    pub before_within : befores past ns s < length ns
    pub behind_within : behinds past ns s < length ns

  -- the ring says where they are
  pub neighbours : (ns : List (Node T)) (xs : List ℕ) (s h : ℕ) → h < length xs → get_or xs h 0 ≡ s → Ring (behinds past ns) (befores past ns) (ring_of xs) (length xs) (length ns) → Neighbours ns xs s h
  neighbours ns xs s h l e ring =
      let at_place : ring_of xs (h + 1) ≡ s = ring-next xs h ∙ e in
      let before : befores past ns s ≡ ring_of xs h = ap (befores past ns) (sym at_place) ∙ ring.before h (omega arith) in
      let behind : behinds past ns s ≡ ring_of xs (h + 2) = ap (behinds past ns) (sym at_place) ∙ ring.behind (h + 1) (omega arith) ∙ ap (ring_of xs) (omega arith) in
      record {
        within = rw (← at_place) (ring.within (h + 1) (omega arith));
        at_place = at_place;
        before = before;
        behind = behind;
        before_within = rw before (ring.within h (omega arith));
        behind_within = rw behind (Ring-within (behinds past ns) (befores past ns) (ring_of xs) (length xs) (length ns) ring (h + 2) (omega arith));
      }

  -- two places have two slots
  ring-distinct : (f g r : ℕ → ℕ) (n size i j : ℕ) → Ring f g r n size → i ≤ n → j ≤ n → i ≢ j → r i ≢ r j
  ring-distinct f g r n size i j ring p q ne z = grind (arith, ring.apart i j, ring.apart j i)

  -- a place of what is left is another place of what there was
  record From (xs : List ℕ) (h i : ℕ) : Type 0 where
    pub place : ℕ
    pub within : place ≤ length xs
    pub other : place ≢ h + 1
    pub same : ring_of (remove xs h) i ≡ ring_of xs place

  -- each place left is such a place
  from-of : (xs : List ℕ) (h i : ℕ) → h < length xs → i ≤ length (remove xs h) → From xs h i
  from-of xs h i l q =
      let e : length (remove xs h) + 1 ≡ length xs = length-remove xs h l in
      elim (cases_lt h i) as (λ _. From xs h i) [
        | inl past ↦ record { place = i + 1; within = omega arith; other = λ y. omega arith; same = ring-above xs h i l past }
        | inr below ↦ record { place = i; within = omega arith; other = λ y. omega arith; same = ring-below xs h i l below }
      ]

  -- the ring and the chain of free slots, whatever else is in the table
  pub record Parts (ns : List (Node T)) (xs fs : List ℕ) (free : ℕ) : Type 0 where
    pub ring : Ring (behinds past ns) (befores past ns) (ring_of xs) (length xs) (length ns)
    pub chain : Frees (behinds past ns) (free_of fs) (length fs) free (length ns)
    pub apart : (i j : ℕ) → i ≤ length xs → j < length fs → ring_of xs i ≢ free_of fs j

  -- a slot that is neither in the ring nor free
  pub record Outside (ns : List (Node T)) (xs fs : List ℕ) (s : ℕ) : Type 0 where
    pub within : s < length ns
    pub unplaced : (i : ℕ) → i ≤ length xs → ring_of xs i ≢ s
    pub used : (j : ℕ) → j < length fs → free_of fs j ≢ s

  -- the slot at a place has left the ring, and is outside
  pub record Leaving (ns : List (Node T)) (xs fs : List ℕ) (free s h : ℕ) : Type 0 where
    pub nodes : Detached past ns (detached past ns s) s (values past ns s) (befores past ns s) (behinds past ns s)
    pub parts : Parts (detached past ns s) (remove xs h) fs free
    pub outside : Outside (detached past ns s) (remove xs h) fs s

  -- an order has both
  pub parts-of : (ns : List (Node T)) (len free : ℕ) (o : IsOrder past ns len free) → Parts ns o.slots o.frees free
  parts-of ns len free o = record { ring = o.ring; chain = o.chain; apart = o.apart }

  -- both make an order, where no slot is left out
  abbrev pub order-of : (ns : List (Node T)) (len free : ℕ) (xs fs : List ℕ) → Parts ns xs fs free → len ≡ length xs → length xs + length fs + 1 ≡ length ns → length ns ≤ 2 ^ 32 → IsOrder past ns len free
  order-of ns len free xs fs p counted total bounded = record { slots = xs; frees = fs; counted = counted; total = total; bounded = bounded; ring = p.ring; chain = p.chain; apart = p.apart }

  module _ (ns : List (Node T)) (xs fs : List ℕ) (free : ℕ) (o : Parts ns xs fs free) where
    -- what the sentinel has before it is the last slot
    last-is : befores past ns 0 ≡ ring_of xs (length xs)
    last-is = ap (befores past ns) (sym o.ring.close) ∙ o.ring.before (length xs) (omega arith)

    pub last-in : befores past ns 0 < length ns
    last-in = rw last-is (o.ring.within (length xs) (omega arith))

    -- the slot at a place leaves the ring
    pub leaving : (s h : ℕ) → h < length xs → get_or xs h 0 ≡ s → Leaving ns xs fs free s h
    leaving s h l e =
        let near = neighbours ns xs s h l e o.ring in
        let d = Detached-detached past ns s near.before_within near.behind_within in
        let ms = detached past ns s in
        let left = length-remove xs h l in
        record {
          nodes = d;
          parts = record {
            ring = rw d.size (ring-remove (behinds past ns) (befores past ns) (behinds past ms) (befores past ms) xs (length ns) h l o.ring
                (λ i np nq. d.behind i (λ z. np (z ∙ near.before)))
                (ap (behinds past ms) (sym near.before) ∙ d.behind_at ∙ near.behind)
                (λ i np. d.before i (λ z. np (z ∙ near.behind)))
                (ap (befores past ms) (sym near.behind) ∙ d.before_at ∙ near.before));
            chain = Frees-same (behinds past ns) (behinds past ms) (free_of fs) (length fs) free (length ns) (length ms) o.chain (omega (arith, d.size))
                (λ j p. d.behind (free_of fs j) (λ z. o.apart h j (omega arith) p (sym near.before ∙ sym z)));
            apart = λ i j p q z. let w = from-of xs h i l p in o.apart w.place j w.within q (sym w.same ∙ z);
          };
          outside = record {
            within = omega (arith, near.within, d.size);
            unplaced = λ i p z.
                let w = from-of xs h i l p in
                ring-distinct (behinds past ns) (befores past ns) (ring_of xs) (length xs) (length ns) w.place (h + 1) o.ring w.within (omega arith) w.other (sym w.same ∙ z ∙ sym near.at_place);
            used = λ j p z. o.apart (h + 1) j (omega arith) p (near.at_place ∙ sym z);
          };
        }

    module _ (s : ℕ) (u : Outside ns xs fs s) where
      -- a slot comes behind all others
      pub parts-attached : Parts (attached past ns s) (xs ++ s ∷ []) fs free
      parts-attached =
          let a = Attached-attached past ns s 0 u.within (omega (arith, u.within)) last-in in
          let ms = attached past ns s in
          let longer = length_push xs s in
          let not_last : s ≢ befores past ns 0 = λ z. u.unplaced (length xs) (omega arith) (sym last-is ∙ sym z) in
          let not_start : s ≢ 0 = λ z. u.unplaced 0 (omega arith) (o.ring.start ∙ sym z) in
          record {
            ring = rw a.size (ring-push (behinds past ns) (befores past ns) (behinds past ms) (befores past ms) xs (length ns) s o.ring u.within u.unplaced
                (λ i np nq. a.behind i (λ z. np (z ∙ last-is)) nq)
                (ap (behinds past ms) (sym last-is) ∙ a.behind_last)
                (a.behind_at not_last)
                a.before a.before_head (a.before_at not_start ∙ last-is));
            chain = Frees-same (behinds past ns) (behinds past ms) (free_of fs) (length fs) free (length ns) (length ms) o.chain (omega (arith, a.size))
                (λ j p. a.behind (free_of fs j) (λ z. o.apart (length xs) j (omega arith) p (sym last-is ∙ sym z)) (u.used j p));
            apart = λ i j p q z. grind (arith, u.used j q, push-last xs s i, push-low xs s i, o.apart i j);
          }

      -- a slot comes before the free ones
      pub parts-released : Parts (with_behind past ns s free) xs (s ∷ fs) s
      parts-released =
          let v : Node T = record (at past ns s) { behind = free } in
          let ms = set ns s v in
          let size : length ms ≡ length ns = length-set ns s v in
          let f_is : (i : ℕ) → i ≢ s → behinds past ms i ≡ behinds past ns i = λ i ne. ap (λ n. n.behind) (set-other past ns s v i ne) in
          record {
            ring = Ring-same (behinds past ns) (befores past ns) (behinds past ms) (befores past ms) (ring_of xs) (length xs) (length ns) (length ms) o.ring (omega (arith, size))
                (λ i p. f_is (ring_of xs i) (u.unplaced i p)) (λ i p. set-keeps past (λ n. n.before) ns s v (ring_of xs (i + 1)) u.within refl);
            chain = rw size (more-frees (behinds past ns) (behinds past ms) fs free (length ns) s o.chain u.within u.used
                (λ i p. f_is (free_of fs i) (u.used i p)) (ap (λ n. n.behind) (set-same past ns s v u.within)));
            apart = λ i j p q. elim j as (λ j. j < length (s ∷ fs) → ring_of xs i ≢ free_of (s ∷ fs) j) [
              | zero ↦ λ _. u.unplaced i p
              | suc k ↦ λ l. o.apart i k p (omega arith)
            ] q;
          }

    -- the first free slot gets a value and is no longer free
    module _ (n : T) (some : 0 < length fs) where
      first-in : free < length ns
      first-in = rw (o.chain.first some) (o.chain.within 0 some)

      pub parts-taken : Parts (with_value past ns free n) xs (drop 1 fs) (behinds past ns free)
      parts-taken =
          let v : Node T = record (at past ns free) { value = n } in
          let ms = set ns free v in
          let size : length ms ≡ length ns = length-set ns free v in
          let f_is : (i : ℕ) → behinds past ms i ≡ behinds past ns i = λ i. set-keeps past (λ k. k.behind) ns free v i first-in refl in
          record {
            ring = Ring-same (behinds past ns) (befores past ns) (behinds past ms) (befores past ms) (ring_of xs) (length xs) (length ns) (length ms) o.ring (omega (arith, size))
                (λ i p. f_is (ring_of xs i)) (λ i p. set-keeps past (λ k. k.before) ns free v (ring_of xs (i + 1)) first-in refl);
            chain = rw size (fewer-frees (behinds past ns) (behinds past ms) fs free (behinds past ns free) (length ns) o.chain some (λ i _ _. f_is (free_of fs i)) refl);
            apart = λ i j p q z. o.apart i (j + 1) p (omega (arith, length-rest fs some)) (z ∙ free_of-rest fs j);
          }

      pub outside-taken : Outside (with_value past ns free n) xs (drop 1 fs) free
      outside-taken =
          let first = o.chain.first some in
          record {
            within = omega (arith, first-in, length-set ns free (record (at past ns free) { value = n }));
            unplaced = λ i p z. o.apart i 0 p some (z ∙ first);
            used = λ j q z. o.chain.apart 0 (j + 1) (omega arith) (omega (arith, length-rest fs some)) (sym first ∙ sym z ∙ free_of-rest fs j);
          }

    -- a new node
    module _ (v : Node T) where
      old-node : (i : ℕ) → i < length ns → at past (ns ++ v ∷ []) i ≡ at past ns i
      old-node i l = get_or_append_left ns (v ∷ []) (blank past) i l

      pub parts-grown : Parts (ns ++ v ∷ []) xs fs free
      parts-grown =
          let ms = ns ++ v ∷ [] in
          let size : length ms ≡ length ns + 1 = length_push ns v in
          record {
            ring = Ring-same (behinds past ns) (befores past ns) (behinds past ms) (befores past ms) (ring_of xs) (length xs) (length ns) (length ms) o.ring (omega (arith, size))
                (λ i p. ap (λ k. k.behind) (old-node (ring_of xs i) (o.ring.within i p)))
                (λ i p. ap (λ k. k.before) (old-node (ring_of xs (i + 1)) (Ring-within (behinds past ns) (befores past ns) (ring_of xs) (length xs) (length ns) o.ring (i + 1) (omega arith))));
            chain = Frees-same (behinds past ns) (behinds past ms) (free_of fs) (length fs) free (length ns) (length ms) o.chain (omega (arith, size)) (λ j p. ap (λ k. k.behind) (old-node (free_of fs j) (o.chain.within j p)));
            apart = o.apart;
          }

      pub outside-grown : Outside (ns ++ v ∷ []) xs fs (length ns)
      outside-grown = record {
        within = omega (arith, length_push ns v);
        unplaced = λ i p z. omega (arith, o.ring.within i p);
        used = λ j q z. omega (arith, o.chain.within j q);
      }
