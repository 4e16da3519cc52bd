-- An `Outstanding`'s newest item beside the older ones.
use Rattle.std.proofs.Common.{◌≡◌, ◌≢◌, ℕ, ◌+◌, ◌-◌, ◌<◌, ◌≤◌, cond, Option, Some, None, IsSome, is_some, nat_eq, refl, sym, ap, subst, ◌∙◌, arith}
use Rattle.std.proofs.lemmas.Bool.{cond-false}
use Rattle.std.specs.Bool.{⊤}
use Rattle.std.specs.Cmp.{nat_cmp_total}
use Rattle.std.specs.FinMap.{FinMap, empty, insert, remove, len, get-empty, len-remove, same_map, nat_cmp-IsAntisymmetric}
use Rattle.std.specs.FinMap as map
use Rattle.std.specs.Ordering.{nat_cmp}
use Rattle.std.proofs.lemmas.Bool.Decides.{nat_tests}
use Rattle.moka_links.proofs.FinMaps.{get-put, get-taken, get-inserted, get-past_insert, len-inserted, len-removed, len-some}
use Rattle.moka_structures.specs.Newest.{with_newest, AreOlder}
use Rattle.moka_structures.specs.declared.outstanding.Newest.{Newest}
use Rattle.moka_structures.proofs.Tickets.{IsLowest, newest-fresh}

module _ {X : Type 0} (m : FinMap nat_cmp X) (k : ℕ) where
  -- nothing else changed
  pub get-put_other : (x : X) (q : ℕ) → k ≢ q → map.get (insert m k x) q ≡ map.get m q
  get-put_other x q ne = get-past_insert m k x q (λ e. ne (sym e))

-- two changes of a map
module _ {X : Type 0} (m : FinMap nat_cmp X) (k : ℕ) where
  -- what was put is taken again
  pub taken-put : (x : X) → map.get m k ≡ None → remove (insert m k x) k ≡ m
  taken-put x none = same_map nat_cmp_total nat_cmp-IsAntisymmetric (remove (insert m k x) k) m (λ q.
      grind (arith, nat_tests, get-taken (insert m k x) k q, get-put m k x q))

  -- another is taken from under it
  pub taken-under : (x : X) (j : ℕ) → k ≢ j → insert (remove m j) k x ≡ remove (insert m k x) j
  taken-under x j ne = same_map nat_cmp_total nat_cmp-IsAntisymmetric (insert (remove m j) k x) (remove (insert m k x) j) (λ q.
      grind (arith, nat_tests, get-put (remove m j) k x q, get-taken m j q, get-taken (insert m k x) j q, get-put m k x q))

  -- two items are put in either order
  pub swapped : (y : X) (t : ℕ) (x : X) → k ≢ t → insert (insert m t x) k y ≡ insert (insert m k y) t x
  swapped y t x ne = same_map nat_cmp_total nat_cmp-IsAntisymmetric (insert (insert m t x) k y) (insert (insert m k y) t x) (λ q.
      grind (arith, nat_tests, get-put (insert m t x) k y q, get-put m t x q, get-put (insert m k y) t x q, get-put m k y q))

  -- what is not there is not taken
  pub taken-none : map.get m k ≡ None → remove m k ≡ m
  taken-none none = same_map nat_cmp_total nat_cmp-IsAntisymmetric (remove m k) m (λ q. grind (arith, nat_tests, get-taken m k q))

-- an item alone has the lowest ticket
pub lowest-alone : {X : Type 0} (t : ℕ) (x : X) → IsLowest t (insert (empty {X = X} {R = nat_cmp}) t x)
lowest-alone {X} t x =
    let none : FinMap nat_cmp X = empty in
    (grind (arith, nat_tests, get-put none t x t), λ q some. grind (arith, nat_tests, get-put none t x q, get-empty {X = X} nat_cmp q))

-- what follows of the items, where one more was handed out under a ticket above all others
module _ {X : Type 0} (old new : FinMap nat_cmp X) (t : ℕ) (x : X) (put : new ≡ insert old t x) where
  pub gets-put : (q : ℕ) → map.get new q ≡ cond (nat_eq t q) (Some x) (map.get old q)
  gets-put q = rw put (grind (arith, nat_tests, get-put old t x q))

  module _ (newest : (q : ℕ) → IsSome (map.get old q) → q < t) where
    pub newest-put : (q : ℕ) → IsSome (map.get new q) → q ≤ t
    newest-put q h = grind (arith, nat_tests, newest q, gets-put q)

    pub len-put : len new ≡ len old + 1
    len-put = ap len put ∙ len-inserted old t x (newest-fresh old t newest)

-- what follows of the items, where the one under a ticket was taken, if it was there
module _ {X : Type 0} (old new : FinMap nat_cmp X) (t : ℕ) (taken : new ≡ remove old t) where
  pub gets-taken : (q : ℕ) → map.get new q ≡ cond (nat_eq t q) None (map.get old q)
  gets-taken q = rw taken (grind (arith, nat_tests, get-taken old t q))

  pub left-taken : (q : ℕ) → IsSome (map.get new q) → IsSome (map.get old q)
  left-taken q h = grind (arith, nat_tests, gets-taken q)

  pub len-taken : (o : Option X) → o ≡ map.get old t → len new + cond (is_some o) 1 0 ≡ len old
  len-taken None e =
      let same : len (remove old t) ≡ len old = len-remove nat_cmp_total old t ∙ cond-false (map.contains_key old t) (len old - 1) (len old) (ap is_some (sym e)) in
      omega (arith, ap len taken)
  len-taken (Some x) e = omega (arith, ap len taken, len-removed old t x (sym e), len-some old t x (sym e))

module _ {T : Type 0} where
  -- the newest has another ticket, or there is none
  abbrev pub IsOther : Option (Newest T) → ℕ → Type 0
  IsOther None t = ⊤
  IsOther (Some x) t = x.ticket ≢ t

  pub other-some : (o : Option (Newest T)) (x : Newest T) (t : ℕ) → o ≡ Some x → x.ticket ≢ t → IsOther o t
  other-some o x t e ne = subst (λ o. IsOther o t) (sym e) ne

  pub other-none : (o : Option (Newest T)) (t : ℕ) → o ≡ None → IsOther o t
  other-none o t e = subst (λ o. IsOther o t) (sym e) tt

  -- ---- another ticket

  -- its item is among the older ones
  pub get-other : (o : Option (Newest T)) (m : FinMap nat_cmp T) (t : ℕ) → IsOther o t → map.get (with_newest o m) t ≡ map.get m t
  get-other None m t h = refl
  get-other (Some x) m t h = get-put_other m x.ticket x.item t h

  -- it is taken from among them
  pub remove-other : (o : Option (Newest T)) (m n : FinMap nat_cmp T) (t : ℕ) → IsOther o t → n ≡ remove m t → with_newest o n ≡ remove (with_newest o m) t
  remove-other None m n t h e = e
  remove-other (Some x) m n t h e = ap (λ i. insert i x.ticket x.item) e ∙ taken-under m x.ticket x.item t h

  -- what is left is older still
  pub older-without : (o : Option (Newest T)) (m n : FinMap nat_cmp T) (t : ℕ) → n ≡ remove m t → AreOlder o m → AreOlder o n
  older-without None m n t e h = tt
  older-without (Some x) m n t e h = λ q some. h q (left-taken m n t e q some)

  -- ---- the newest

  module _ (o : Option (Newest T)) (m : FinMap nat_cmp T) (x : Newest T) (is : o ≡ Some x) where
    -- it stands among all
    with-some : with_newest o m ≡ insert m x.ticket x.item
    with-some = ap (λ o. with_newest o m) is

    pub get-newest : (t : ℕ) → x.ticket ≡ t → map.get (with_newest o m) t ≡ Some x.item
    get-newest t e = ap (map.get (with_newest o m)) (sym e) ∙ ap (λ i. map.get i x.ticket) with-some ∙ get-inserted m x.ticket x.item

    -- where it joins the older ones, all are as they were
    pub joined : (n : FinMap nat_cmp T) → n ≡ insert m x.ticket x.item → n ≡ with_newest o m
    joined n e = e ∙ sym with-some

    module _ (older : AreOlder o m) where
      -- no older one has its ticket
      not-older : map.get m x.ticket ≡ None
      not-older = newest-fresh m x.ticket (subst (λ o. AreOlder o m) is older)

      -- without it the older ones are left
      pub remove-newest : (t : ℕ) → x.ticket ≡ t → m ≡ remove (with_newest o m) t
      remove-newest t e = sym (ap (remove (with_newest o m)) (sym e) ∙ ap (λ i. remove i x.ticket) with-some ∙ taken-put m x.ticket x.item not-older)

      pub len-with : len (with_newest o m) ≡ len m + 1
      len-with = ap len with-some ∙ len-inserted m x.ticket x.item not-older

  -- where there is none, all are older
  pub joined-none : (o : Option (Newest T)) (m : FinMap nat_cmp T) → o ≡ None → m ≡ with_newest o m
  joined-none o m e = sym (ap (λ o. with_newest o m) e)

  -- a newer one
  module _ (o : Option (Newest T)) (m w : FinMap nat_cmp T) (x : Newest T) (is : o ≡ Some x) (all : m ≡ w) where
    pub put-newest : with_newest o m ≡ insert w x.ticket x.item
    put-newest = with-some o m x is ∙ ap (λ i. insert i x.ticket x.item) all

    pub older-put : ((q : ℕ) → IsSome (map.get w q) → q < x.ticket) → AreOlder o m
    older-put h = subst (λ o. AreOlder o m) (sym is) (λ q some. h q (subst (λ i. IsSome (map.get i q)) all some))

  -- ---- the least ticket

  -- the least of the older ones is the least of all
  pub least-older : (o : Option (Newest T)) (m : FinMap nat_cmp T) (t : ℕ) → AreOlder o m → IsLowest t m → IsLowest t (with_newest o m)
  least-older None m t older h = h
  least-older (Some x) m t older h =
      let l : t < x.ticket = older t h.0 in
      (grind (arith, nat_tests, h.0, get-put m x.ticket x.item t), λ q some. grind (arith, nat_tests, h.1 q, get-put m x.ticket x.item q))

  -- where nothing is older, the newest is the least
  pub least-newest : (o : Option (Newest T)) (m : FinMap nat_cmp T) (x : Newest T) → o ≡ Some x → m ≡ empty → IsLowest x.ticket (with_newest o m)
  least-newest o m x is none = rw (with-some o m x is, none) (lowest-alone x.ticket x.item)
