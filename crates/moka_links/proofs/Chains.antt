-- Chains of free slots after each change.
use Rattle.std.proofs.Common.{◌≡◌, ◌≢◌, ℕ, zero, suc, ◌+◌, ◌<◌, ◌≤◌, List, [], ◌∷◌, length, drop, refl, sym, ap, ◌∙◌, arith}
use Rattle.std.proofs.lemmas.List.{length-drop, get_or-drop}
use Rattle.moka_links.specs.Chains.{Frees, free_of}

-- links that agree at each free slot keep the chain
pub Frees-same : (f f' q : ℕ → ℕ) (m free size size' : ℕ) → Frees f q m free size → size ≤ size'
    → ((i : ℕ) → i < m → f' (q i) ≡ f (q i)) → Frees f' q m free size'
Frees-same f f' q m free size size' frees grown fs =
    record {
      first = frees.first;
      next = λ i l. fs i (omega arith) ∙ frees.next i l;
      apart = frees.apart;
      within = λ i l. omega (arith, frees.within i l);
    }

-- there are no free slots
pub no-frees : (f : ℕ → ℕ) (free size : ℕ) → Frees f (free_of []) 0 free size
no-frees f free size = record {
  first = λ p. absurd (omega arith);
  next = λ i p. absurd (omega arith);
  apart = λ i j p q. absurd (omega arith);
  within = λ i p. absurd (omega arith);
}

-- a slot becomes the first free one
pub more-frees : (f f' : ℕ → ℕ) (fs : List ℕ) (free size s : ℕ) → Frees f (free_of fs) (length fs) free size → s < size
    → ((i : ℕ) → i < length fs → free_of fs i ≢ s) → ((i : ℕ) → i < length fs → f' (free_of fs i) ≡ f (free_of fs i)) → f' s ≡ free
    → Frees f' (free_of (s ∷ fs)) (length (s ∷ fs)) s size
more-frees f f' fs free size s frees inside fresh same here = record { first = λ _. refl; next = next; apart = apart; within = within }
  where
    next : (i : ℕ) → i + 1 < length (s ∷ fs) → f' (free_of (s ∷ fs) i) ≡ free_of (s ∷ fs) (i + 1)
    next zero l = here ∙ frees.first (omega arith)
    next (suc i) l = same i (omega arith) ∙ frees.next i (omega arith) ∙ (let e : suc (i + 1) ≡ suc i + 1 = omega arith in ap (free_of (s ∷ fs)) e)

    apart : (i j : ℕ) → i < j → j < length (s ∷ fs) → free_of (s ∷ fs) i ≢ free_of (s ∷ fs) j
    apart i zero l k = absurd (omega arith)
    apart zero (suc j) l k = λ e. fresh j (omega arith) (sym e)
    apart (suc i) (suc j) l k = frees.apart i j (omega arith) (omega arith)

    within : (i : ℕ) → i < length (s ∷ fs) → free_of (s ∷ fs) i < size
    within zero l = inside
    within (suc i) l = frees.within i (omega arith)

-- what is left without the first
pub free_of-rest : (fs : List ℕ) (i : ℕ) → free_of (drop 1 fs) i ≡ free_of fs (i + 1)
free_of-rest fs i = get_or-drop 1 fs i 0 ∙ ap (free_of fs) (omega arith)

pub length-rest : (fs : List ℕ) → 0 < length fs → length (drop 1 fs) + 1 ≡ length fs
length-rest fs some = omega (arith, length-drop 1 fs)

-- the first is taken
pub fewer-frees : (f f' : ℕ → ℕ) (fs : List ℕ) (free next size : ℕ) → Frees f (free_of fs) (length fs) free size → 0 < length fs
    → ((i : ℕ) → 0 < i → i < length fs → f' (free_of fs i) ≡ f (free_of fs i)) → next ≡ f free
    → Frees f' (free_of (drop 1 fs)) (length (drop 1 fs)) next size
fewer-frees f f' fs free next size frees some same leads =
    let rest = free_of-rest fs in
    let one = length-rest fs some in
    record {
      first = λ p. leads ∙ ap f (frees.first some) ∙ frees.next 0 (omega arith) ∙ sym (rest 0);
      next = λ i l. ap f' (rest i) ∙ same (i + 1) (omega arith) (omega arith) ∙ frees.next (i + 1) (omega arith) ∙ sym (rest (i + 1));
      apart = λ i j l k. rw (rest i, rest j) (frees.apart (i + 1) (j + 1) (omega arith) (omega arith));
      within = λ i l. rw (rest i) (frees.within (i + 1) (omega arith));
    }
