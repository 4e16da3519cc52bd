-- The ring, over plain functions.
use Rattle.std.proofs.Common.{◌≡◌, ◌≢◌, ℕ, ◌+◌, ◌<◌, ◌≤◌, inl, inr, sym, ap, ◌∙◌, arith}
use Rattle.std.proofs.lemmas.Bool.{cases_order}
use Rattle.moka_structures.specs.Rings.{Ring}

-- the slot at place h + 1 leaves
pub Ring-detach : (f g f' g' r r' : ℕ → ℕ) (n size h : ℕ) → Ring f g r (n + 1) size → h ≤ n
    → ((i : ℕ) → i ≢ r h → i ≢ r (h + 1) → f' i ≡ f i) → f' (r h) ≡ r (h + 2)
    → ((i : ℕ) → i ≢ r (h + 2) → g' i ≡ g i) → g' (r (h + 2)) ≡ r h
    → ((i : ℕ) → i ≤ h → r' i ≡ r i) → ((i : ℕ) → h < i → r' i ≡ r (i + 1))
    → Ring f' g' r' n size
Ring-detach f g f' g' r r' n size h ring le fo fs go gs low high =
    let behind_is : (i : ℕ) → i ≤ n → f' (r' i) ≡ r' (i + 1) = λ i q. elim (cases_order i h) as (λ _. f' (r' i) ≡ r' (i + 1)) [
      | inl e ↦ ap f' (low i (omega arith)) ∙ ap (λ k. f' (r k)) e ∙ fs ∙ ap r (omega arith) ∙ sym (high (i + 1) (omega arith))
      | inr (inl l) ↦ ap f' (low i (omega arith)) ∙ fo (r i) (ring.apart i h l (omega arith)) (ring.apart i (h + 1) (omega arith) (omega arith)) ∙ ring.behind i (omega arith) ∙ sym (low (i + 1) (omega arith))
      | inr (inr l) ↦ ap f' (high i l) ∙ fo (r (i + 1)) (λ e. ring.apart h (i + 1) (omega arith) (omega arith) (sym e)) (λ e. ring.apart (h + 1) (i + 1) (omega arith) (omega arith) (sym e)) ∙ ring.behind (i + 1) (omega arith) ∙ sym (high (i + 1) (omega arith))
    ] in
    let past : (i : ℕ) → 0 < i → i ≤ n + 2 → i ≢ h + 2 → r i ≢ r (h + 2) = λ i p q ne e.
    grind (arith, ring.start, ring.close, ring.apart i (h + 2), ring.apart (h + 2) i, ring.apart 0 i, ring.apart 0 (h + 2)) in
    let before_is : (i : ℕ) → i ≤ n → g' (r' (i + 1)) ≡ r' i = λ i q. elim (cases_order i h) as (λ _. g' (r' (i + 1)) ≡ r' i) [
      | inl e ↦ ap g' (high (i + 1) (omega arith)) ∙ ap (λ k. g' (r k)) (omega arith) ∙ gs ∙ sym (ap r e) ∙ sym (low i (omega arith))
      | inr (inl l) ↦ ap g' (low (i + 1) (omega arith)) ∙ go (r (i + 1)) (past (i + 1) (omega arith) (omega arith) (λ e. omega arith)) ∙ ring.before i (omega arith) ∙ sym (low i (omega arith))
      | inr (inr l) ↦ ap g' (high (i + 1) (omega arith)) ∙ go (r (i + 1 + 1)) (past (i + 1 + 1) (omega arith) (omega arith) (λ e. omega arith)) ∙ ring.before (i + 1) (omega arith) ∙ sym (high i l)
    ] in
    let apart_is : (i j : ℕ) → i < j → j ≤ n → r' i ≢ r' j = λ i j l q z.
    grind (arith, low i, low j, high i, high j, ring.apart i j, ring.apart i (j + 1), ring.apart (i + 1) (j + 1)) in
    let within_is : (i : ℕ) → i ≤ n → r' i < size = λ i q. grind (arith, low i, high i, ring.within i, ring.within (i + 1)) in
    record {
      start = low 0 (omega arith) ∙ ring.start;
      close = high (n + 1) (omega arith) ∙ ring.close;
      behind = behind_is;
      before = before_is;
      apart = apart_is;
      within = within_is;
    }

-- the slot s, which is in no place, comes behind all others
pub Ring-attach : (f g f' g' r r' : ℕ → ℕ) (n size s : ℕ) → Ring f g r n size → s < size
    → ((i : ℕ) → i ≤ n → r i ≢ s)
    → ((i : ℕ) → i ≢ r n → i ≢ s → f' i ≡ f i) → f' (r n) ≡ s → f' s ≡ 0
    → ((i : ℕ) → i ≢ 0 → i ≢ s → g' i ≡ g i) → g' 0 ≡ s → g' s ≡ r n
    → ((i : ℕ) → i ≤ n → r' i ≡ r i) → r' (n + 1) ≡ s → r' (n + 2) ≡ 0
    → Ring f' g' r' (n + 1) size
Ring-attach f g f' g' r r' n size s ring inside fresh fo fn fs go gn gs low here past =
    let start_is : r' 0 ≡ 0 = low 0 (omega arith) ∙ ring.start in
    let close_is : r' (n + 1 + 1) ≡ 0 = ap r' (omega arith) ∙ past in
    let behind_is : (i : ℕ) → i ≤ n + 1 → f' (r' i) ≡ r' (i + 1) = λ i q.
    grind (arith, low i, low (i + 1), here, past, fo (r i), fn, fs, fresh i, ring.apart i n, ring.behind i) in
    let before_is : (i : ℕ) → i ≤ n + 1 → g' (r' (i + 1)) ≡ r' i = λ i q.
    grind (arith, low i, low (i + 1), here, past, go (r (i + 1)), gn, gs, fresh (i + 1), ring.start, ring.apart 0 (i + 1), ring.before i) in
    let apart_is : (i j : ℕ) → i < j → j ≤ n + 1 → r' i ≢ r' j = λ i j l q z. grind (arith, low i, low j, fresh i, here, ring.apart i j) in
    let within_is : (i : ℕ) → i ≤ n + 1 → r' i < size = λ i q. grind (arith, low i, here, ring.within i) in
    record {
      start = start_is;
      close = close_is;
      behind = behind_is;
      before = before_is;
      apart = apart_is;
      within = within_is;
    }

-- every place is in the table, also the last, which is the first again
pub Ring-within : (f g r : ℕ → ℕ) (n size : ℕ) → Ring f g r n size → (i : ℕ) → i ≤ n + 1 → r i < size
Ring-within f g r n size ring i q = grind (arith, ring.close, ring.within 0, ring.within i)

-- links that agree at each place keep the ring
pub Ring-same : (f g f' g' r : ℕ → ℕ) (n size size' : ℕ) → Ring f g r n size → size ≤ size'
    → ((i : ℕ) → i ≤ n → f' (r i) ≡ f (r i)) → ((i : ℕ) → i ≤ n → g' (r (i + 1)) ≡ g (r (i + 1))) → Ring f' g' r n size'
Ring-same f g f' g' r n size size' ring grown fs gs =
    record {
      start = ring.start;
      close = ring.close;
      behind = λ i q. fs i q ∙ ring.behind i q;
      before = λ i q. gs i q ∙ ring.before i q;
      apart = ring.apart;
      within = λ i q. omega (arith, ring.within i q);
    }
