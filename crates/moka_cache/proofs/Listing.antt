-- The entries that are visible: key after key, and from keys to records.
use Rattle.std.proofs.Common.{◌≡◌, refl, ℕ, ◌<◌, Bool, T, true, cond, List, [], ◌∷◌, ◌++◌, map, length, set, get_or, swap, Option, Some, None, Ok, Err, ap, sym, subst, ◌∙◌, inl, inr, IsPermutation}
use Rattle.std.specs.List.{AllZip, AllByRecursion}
use Rattle.std.specs.Cmp.{IsEquivalence, nat_cmp_total, eq_by_cmp_equiv}
use Rattle.std.specs.Ordering.{nat_cmp, eq_by_cmp}
use Rattle.std.specs.FinMap.{values, entries, entries_sorted, get-entries, is_sorted}
use Rattle.std.specs.FinMap as finite
use Rattle.std.proofs.lemmas.List.{length-map, map-set, get_or-map}
use Rattle.std.proofs.lemmas.List.Sorted.{IsPermutation-keeps, IsPermutation-refl, IsPermutation-trans, IsPermutation-sym, Contains-permutation}
use Rattle.moka_records.specs.declared.records.Record.{Record}
use Rattle.moka_parts.specs.Calls.{KeysStep, ScanStep, ScansAt}
use Rattle.moka_parts.specs.Copies.{HandsOut, IsCopy}
use Rattle.moka_records.specs.Records.{record_of_key}
use Rattle.moka_parts.specs.Settling.{IsValid}
use Rattle.moka_parts.specs.State.{State}
use Rattle.moka_records.proofs.Lookup.{found_behind, left_part, right_part, present_key}
use Rattle.moka_laws.proofs.OrderKept.{of_each}
use Rattle.moka_laws.proofs.Tickets.{all_of}
use Rattle.moka_cache.specs.Visible.{AreShown, ClonesAreSameKeys, ListsVisible, LooksUp, LooksUpClones}

-- ---- key after key

module _ {K V X P W : Type 0} (says : P → K → V → Bool → Type 0) (is_value_clone : V → V → Type 0) (s : State K V X P W) (now : ℕ) (eq : K → K → Bool) where
  -- one more key, which is hidden or not there
  pub looked_up_nothing : (keys : List K) (found : List (K × V)) (key : K) → LooksUp says is_value_clone s now eq keys found → HandsOut is_value_clone (ScanStep says eq s key now) (Ok None) → LooksUp says is_value_clone s now eq (keys ++ key ∷ []) found
  looked_up_nothing [] found key none h = inl (misses h, none)
    where
      misses : HandsOut is_value_clone (ScanStep says eq s key now) (Ok None) → ScanStep says eq s key now (Ok None)
      misses (Ok None, step, copied) = step
      misses (Ok (Some own), step, copied) = absurd copied
      misses (Err e, step, copied) = absurd (cc)
  looked_up_nothing (k ∷ keys) found key (inl (step, rest)) h = inl (step, looked_up_nothing keys found key rest h)
  looked_up_nothing (k ∷ keys) found key (inr (own, copy, rest, step, cloned, is, more)) h = inr (own, copy, rest, step, cloned, is, looked_up_nothing keys rest key more h)

  -- one more key, whose value is visible
  pub looked_up_one : (keys : List K) (found : List (K × V)) (key : K) (value : V) → LooksUp says is_value_clone s now eq keys found → HandsOut is_value_clone (ScanStep says eq s key now) (Ok (Some value)) → LooksUp says is_value_clone s now eq (keys ++ key ∷ []) (found ++ (key, value) ∷ [])
  looked_up_one [] found key value none h = finds h
    where
      finds : HandsOut is_value_clone (ScanStep says eq s key now) (Ok (Some value)) → LooksUp says is_value_clone s now eq (key ∷ []) (found ++ (key, value) ∷ [])
      finds (Ok (Some own), step, copied) = inr (own, value, [], step, copied, ap (λ xs. xs ++ (key, value) ∷ []) none, refl)
      finds (Ok None, step, copied) = absurd (cc)
      finds (Err e, step, copied) = absurd (cc)
  looked_up_one (k ∷ keys) found key value (inl (step, rest)) h = inl (step, looked_up_one keys found key value rest h)
  looked_up_one (k ∷ keys) found key value (inr (own, copy, rest, step, cloned, is, more)) h =
      inr (own, copy, rest ++ (key, value) ∷ [], step, cloned, ap (λ xs. xs ++ (key, value) ∷ []) is, looked_up_one keys rest key value more h)

-- ---- from keys to records

mapped_swap : {A B : Type 0} (f : A → B) (xs : List A) (i j : ℕ) → i < length xs → j < length xs → map f (swap xs i j) ≡ swap (map f xs) i j
mapped_swap f [] i j p q = refl
mapped_swap f (d ∷ ys) i j p q =
    let xs = d ∷ ys in
    map-set f (set xs i (get_or xs j d)) j (get_or xs i d) ∙ ap (λ l. set l j (f (get_or xs i d))) (map-set f xs i (get_or xs j d))
    ∙ ap (λ y. set (set (map f xs) i y) j (f (get_or xs i d))) (sym (get_or-map f xs j d (f d) q)) ∙ ap (λ y. set (set (map f xs) i (get_or (map f xs) j (f d))) j y) (sym (get_or-map f xs i d (f d) p))

-- what is another order of what f makes of a list, f makes of another order of the list
permuted_below : {A B : Type 0} (f : A → B) (xs : List A) (ys : List B) → IsPermutation (map f xs) ys → (zs : List A) × IsPermutation xs zs × (map f zs ≡ ys)
permuted_below {A} {B} f xs ys h = IsPermutation-keeps (map f xs) Below (xs, IsPermutation-refl xs, refl) moved ys h
  where
    Below : List B → Type 0
    Below l = (zs : List A) × IsPermutation xs zs × (map f zs ≡ l)

    moved : (l : List B) (i j : ℕ) → i < length l → j < length l → Below l → Below (swap l i j)
    moved l i j p q (zs, same, is) =
        let long : length zs ≡ length l = sym (length-map zs f) ∙ ap length is in
        let i_in : i < length zs = subst (λ n. i < n) (sym long) p in
        let j_in : j < length zs = subst (λ n. j < n) (sym long) q in
        (swap zs i j, IsPermutation-trans xs zs (swap zs i j) same (record { moves = (i, j) ∷ []; below = (i_in, j_in, tt); is = refl }), mapped_swap f zs i j i_in j_in ∙ ap (λ l. swap l i j) is)

-- what holds of what each number finds holds of all values
all_values : {A : Type 0} (P : A → Type 0) (es : List (ℕ × A)) → T (is_sorted nat_cmp es) → ((n : ℕ) (x : A) → finite.find nat_cmp n es ≡ Some x → P x) → AllByRecursion P (map (λ e. e.1) es)
all_values P [] sorted given = tt
all_values {A} P (e ∷ es) sorted given = (
  given e.0 e.1 (ap (λ b. finite_case b) ((eq_by_cmp_equiv nat_cmp_total).refl e.0)),
  all_values P es (right_part _ _ sorted) (λ n x there. given n x (found_behind n e.0 e.1 x es (left_part _ _ sorted) there (eq_by_cmp nat_cmp n e.0) refl)),
)
  where
    finite_case : Bool → Option A
    finite_case b = cond b (Some e.1) (finite.find nat_cmp e.0 es)

module _ {K V X P W : Type 0} (says : P → K → V → Bool → Type 0) (is_value_clone : V → V → Type 0) (s : State K V X P W) (now : ℕ) (eq : K → K → Bool) where
  -- the record is the one that a look-up of any key that is equal to its own finds
  abbrev IsFoundByEach : Record K V → Type 0
  IsFoundByEach r = (key : K) → eq r.key key ≡ true → record_of_key eq s.records key ≡ Some r

  all_found : IsEquivalence eq → IsValid eq s → AllByRecursion IsFoundByEach (values s.records)
  all_found laws valid = all_values IsFoundByEach (entries s.records) (entries_sorted s.records) (λ n r there key same.
      present_key eq s.records key laws valid.numbered.numbered.one_each n r (get-entries s.records n ∙ there) (laws.symm key r.key ∙ same))

  module _ (is_key_clone : K → K → Type 0) (same : ClonesAreSameKeys eq is_key_clone) where
    shown_by_keys : (rs : List (Record K V)) (keys : List K) (found : List (K × V)) → AllByRecursion IsFoundByEach rs → AllZip is_key_clone (map (λ (r : Record K V). r.key) rs) keys → LooksUp says is_value_clone s now eq keys found → AreShown says is_value_clone s now is_key_clone rs found
    shown_by_keys [] [] found all cloned h = h
    shown_by_keys [] (key ∷ keys) found all cloned h = absurd cloned
    shown_by_keys (r ∷ rs) [] found all cloned h = absurd cloned
    shown_by_keys (r ∷ rs) (key ∷ keys) found all cloned (inl (step, rest)) = inl (subst (λ o. ScansAt says s o now (Ok None)) (all.0 key (same r.key key cloned.0)) step, shown_by_keys rs keys found all.1 cloned.1 rest)
    shown_by_keys (r ∷ rs) (key ∷ keys) found all cloned (inr (own, copy, rest, step, copied, is, more)) =
        let seen = subst (λ o. ScansAt says s o now (Ok (Some own))) (all.0 key (same r.key key cloned.0)) step in
        inr (key, copy, rest, seen.0, cloned.0, subst (λ v. is_value_clone v copy) seen.1 copied, is, shown_by_keys rs keys rest all.1 cloned.1 more)

  -- where clones of keys are equal to them, look-ups of clones of all keys find just the visible entries
  pub lists_visible : (is_key_clone : K → K → Type 0) → IsEquivalence eq → IsValid eq s → ClonesAreSameKeys eq is_key_clone → (found : List (K × V)) → LooksUpClones says is_value_clone s now eq is_key_clone found → ListsVisible says is_value_clone s now is_key_clone found
  lists_visible is_key_clone laws valid same found (own, copies, order, cloned, looks) =
      let below = permuted_below (λ (r : Record K V). r.key) (values s.records) own order in
      let all : AllByRecursion IsFoundByEach below.0 = all_of IsFoundByEach below.0 (λ r inside. of_each IsFoundByEach (values s.records) (all_found laws valid) r (Contains-permutation below.0 (values s.records) r (IsPermutation-sym _ _ below.1) inside)) in
      (below.0, below.1, shown_by_keys is_key_clone same below.0 copies found all (subst (λ ks. AllZip is_key_clone ks copies) (sym below.2) cloned) looks)

  -- the keys that the engine tells are clones of all keys
  pub looks_up_clones : (is_key_clone : K → K → Type 0) (keys : List K) (found : List (K × V)) → ((own : Option (List K)) × KeysStep s 0 (Ok own) × IsCopy (AllZip is_key_clone) own (Some keys)) → LooksUp says is_value_clone s now eq keys found → LooksUpClones says is_value_clone s now eq is_key_clone found
  looks_up_clones is_key_clone keys found (Some own, order, cloned) looks = (own, keys, order.1, cloned, looks)
  looks_up_clones is_key_clone keys found (None, order, none) looks = absurd (cc)
