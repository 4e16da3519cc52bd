-- The map that entries at places make.
use Rattle.std.proofs.Common.{◌≡◌, ◌≢◌, ℕ, zero, suc, ◌+◌, ◌<◌, ◌≤◌, Option, Some, None, ◌⊎◌, inl, inr, refl, sym, ap, subst, ◌∙◌, arith}
use Rattle.std.proofs.lemmas.Bool.{cases_eq}
use Rattle.std.specs.FinMap.{FinMap, get, insert, empty, len, get-empty, same_map, nat_cmp-IsAntisymmetric, len-empty}
use Rattle.std.specs.Ordering.{nat_cmp}
use Rattle.std.specs.Cmp.{nat_cmp_total}
use Rattle.moka_links.proofs.FinMaps.{option-cases, get-inserted, get-past_insert, len-inserted}
use Rattle.moka_links.specs.EntryMap.{put_entry, upto, IsApart}

pub option-same : {X : Type 0} (a b : Option X) → ((x : X) → a ≡ Some x → b ≡ Some x) → ((x : X) → b ≡ Some x → a ≡ Some x) → a ≡ b
option-same None None p q = refl
option-same None (Some y) p q = q y refl
option-same (Some x) b p q = sym (p x refl)

-- maps with the same values are one
pub same-map : {X : Type 0} (m n : FinMap nat_cmp X) → ((k : ℕ) (x : X) → get m k ≡ Some x → get n k ≡ Some x) → ((k : ℕ) (x : X) → get n k ≡ Some x → get m k ≡ Some x) → m ≡ n
same-map m n there back = same_map nat_cmp_total nat_cmp-IsAntisymmetric m n (λ k. option-same (get m k) (get n k) (there k) (back k))

-- what stands at each place has a key of its own still, where one place changes and no other place had its key
module _ {A : Type 0} (key : A → ℕ) (old new : ℕ → Option A) (place n : ℕ) (others : (p : ℕ) → p ≢ place → new p ≡ old p)
    (same : (p q : ℕ) (a b : A) → old p ≡ Some a → old q ≡ Some b → key a ≡ key b → p ≡ q)
    (is : (a : A) → new place ≡ Some a → key a ≡ n) (away : (p : ℕ) (a : A) → p ≢ place → old p ≡ Some a → key a ≢ n) where
  pub still-apart : (p q : ℕ) (a b : A) → new p ≡ Some a → new q ≡ Some b → key a ≡ key b → p ≡ q
  still-apart p q a b pe qe s = elim (cases_eq p place) as (λ _. p ≡ q) [
    | inl pi ↦ elim (cases_eq q place) as (λ _. p ≡ q) [
      | inl qi ↦ pi ∙ sym qi
      | inr qn ↦ absurd (away q b qn (sym (others q qn) ∙ qe) (sym s ∙ is a (ap new (sym pi) ∙ pe)))
    ]
    | inr pn ↦ elim (cases_eq q place) as (λ _. p ≡ q) [
      | inl qi ↦ absurd (away p a pn (sym (others p pn) ∙ pe) (s ∙ is b (ap new (sym qi) ∙ qe)))
      | inr qn ↦ same p q a b (sym (others p pn) ∙ pe) (sym (others q qn) ∙ qe) s
    ]
  ]

-- a key has its value at one of the first places
pub record Holds {X : Type 0} (at : ℕ → Option (ℕ × X)) (k key : ℕ) (x : X) : Type 0 where
  pub place : ℕ
  pub within : place < k
  pub at_is : at place ≡ Some (key, x)

module _ {X : Type 0} (at : ℕ → Option (ℕ × X)) where
  found-put : (k : ℕ) (o : Option (ℕ × X)) (m : FinMap nat_cmp X) (n : ℕ) (x : X) → at k ≡ o → ((n : ℕ) (x : X) → get m n ≡ Some x → Holds at k n x) → get (put_entry o m) n ≡ Some x → Holds at (suc k) n x
  found-put k None m n x e ih g = let w = ih n x g in record { place = w.place; within = omega (arith, w.within); at_is = w.at_is }
  found-put k (Some y) m n x e ih g = elim (cases_eq n y.0) as (λ _. Holds at (suc k) n x) [
    | inl s ↦
        let t : Some y.1 ≡ Some x = sym (get-inserted m y.0 y.1) ∙ ap (get (insert m y.0 y.1)) (sym s) ∙ g in
        let u : y.1 ≡ x = cc in
        record { place = k; within = omega arith; at_is = e ∙ (λ i. Some (sym s i, u i)) }
    | inr ne ↦ let w = ih n x (sym (get-past_insert m y.0 y.1 n ne) ∙ g) in record { place = w.place; within = omega (arith, w.within); at_is = w.at_is }
  ]

  pub found-upto : (k n : ℕ) (x : X) → get (upto at k) n ≡ Some x → Holds at k n x
  found-upto zero n x g = let none = get-empty {X = X} nat_cmp n in cc
  found-upto (suc k) n x g = found-put k (at k) (upto at k) n x refl (found-upto k) g

  has-past : (o : Option (ℕ × X)) (m : FinMap nat_cmp X) (n : ℕ) → ((e : ℕ × X) → o ≡ Some e → e.0 ≢ n) → get (put_entry o m) n ≡ get m n
  has-past None m n h = refl
  has-past (Some e) m n h = get-past_insert m e.0 e.1 n (λ q. h e refl (sym q))

  has-here : (o : Option (ℕ × X)) (m : FinMap nat_cmp X) (n : ℕ) (x : X) → o ≡ Some (n, x) → get (put_entry o m) n ≡ Some x
  has-here o m n x e = subst (λ o. get (put_entry o m) n ≡ Some x) (sym e) (get-inserted m n x)

  pub has-upto : IsApart at → (k n : ℕ) (x : X) (q : ℕ) → q < k → at q ≡ Some (n, x) → get (upto at k) n ≡ Some x
  has-upto d zero n x q l e = absurd (omega arith)
  has-upto d (suc k) n x q l e = elim (cases_eq q k) as (λ _. get (put_entry (at k) (upto at k)) n ≡ Some x) [
    | inl s ↦ has-here (at k) (upto at k) n x (ap at (sym s) ∙ e)
    | inr ne ↦ has-past (at k) (upto at k) n (λ y ye s. ne (sym (d.same k q y (n, x) ye e s))) ∙ has-upto d k n x q (omega arith) e
  ]

  -- the places before its own do not have a key
  pub upto-fresh : IsApart at → (k q : ℕ) (e : ℕ × X) → k ≤ q → at q ≡ Some e → get (upto at k) e.0 ≡ None
  upto-fresh d k q e le ae = elim (option-cases (get (upto at k) e.0)) as (λ _. get (upto at k) e.0 ≡ None) [
    | inl none ↦ none
    | inr x ↦
        let w = found-upto k e.0 x.0 x.1 in
        let same : w.place ≡ q = d.same w.place q (e.0, x.0) e w.at_is ae refl in
        absurd (omega (arith, w.within))
  ]

  -- the map that has just these entries
  pub upto-is : IsApart at → (k : ℕ) (m : FinMap nat_cmp X) → ((q n : ℕ) (x : X) → q < k → at q ≡ Some (n, x) → get m n ≡ Some x) → ((n : ℕ) (x : X) → get m n ≡ Some x → Holds at k n x) → upto at k ≡ m
  upto-is d k m has holds = same-map (upto at k) m
      (λ n x g. let w = found-upto k n x g in has w.place n x w.within w.at_is)
      (λ n x g. let w = holds n x g in has-upto d k n x w.place w.within w.at_is)

  len-put : (o : Option (ℕ × X)) (m : FinMap nat_cmp X) → ((e : ℕ × X) → o ≡ Some e → get m e.0 ≡ None) → ((o ≡ None) × (len (put_entry o m) ≡ len m)) ⊎ (len (put_entry o m) ≡ len m + 1)
  len-put None m fresh = inl (refl, refl)
  len-put (Some e) m fresh = inr (len-inserted m e.0 e.1 (fresh e refl))

  len-next : IsApart at → (k : ℕ) → ((at k ≡ None) × (len (upto at (suc k)) ≡ len (upto at k))) ⊎ (len (upto at (suc k)) ≡ len (upto at k) + 1)
  len-next d k = len-put (at k) (upto at k) (λ e ae. upto-fresh d k k e (omega arith) ae)

  pub len-mono : IsApart at → (j k : ℕ) → j ≤ k → len (upto at j) ≤ len (upto at k)
  len-mono d j zero le = let same : j ≡ zero = omega arith in subst (λ x. len (upto at x) ≤ len (upto at zero)) (sym same) (omega arith)
  len-mono d j (suc k) le = elim (cases_eq j (suc k)) as (λ _. len (upto at j) ≤ len (upto at (suc k))) [
    | inl same ↦ subst (λ x. len (upto at x) ≤ len (upto at (suc k))) (sym same) (omega arith)
    | inr ne ↦ omega (arith, len-mono d j k (omega arith), len-next d k)
  ]

  -- where no place is free, there are as many keys as places
  pub len-full : IsApart at → (k : ℕ) → ((q : ℕ) → q < k → at q ≡ None → ⊥) → len (upto at k) ≡ k
  len-full d zero full = len-empty nat_cmp X
  len-full d (suc k) full = elim (len-next d k) as (λ _. len (upto at (suc k)) ≡ suc k) [
    | inl none ↦ absurd (full k (omega arith) none.0)
    | inr more ↦ omega (arith, len-full d k (λ q l. full q (omega arith)))
  ]

  -- free places add nothing
  pub upto-past : (j k : ℕ) → k ≤ j → ((q : ℕ) → k ≤ q → q < j → at q ≡ None) → upto at j ≡ upto at k
  upto-past zero k le none = let same : zero ≡ k = omega arith in ap (upto at) same
  upto-past (suc j) k le none = elim (cases_eq (suc j) k) as (λ _. upto at (suc j) ≡ upto at k) [
    | inl same ↦ ap (upto at) same
    | inr apart ↦ ap (λ o. put_entry o (upto at j)) (none j (omega arith) (omega arith)) ∙ upto-past j k (omega arith) (λ q l m. none q l (omega arith))
  ]

  pub upto-free : (k : ℕ) → ((q : ℕ) → at q ≡ None) → upto at k ≡ empty
  upto-free k none = upto-past k zero (omega arith) (λ q _ _. none q)
