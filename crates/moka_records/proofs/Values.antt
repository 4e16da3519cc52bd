-- The values of a finite map after a change, in some order, and how many there are.
use Rattle.std.proofs.Common.{◌≡◌, refl, ℕ, ◌+◌, cond, List, [], ◌∷◌, map, Some, None, is_some, ap, sym, ◌∙◌, subst, inl, inr, Ordering, Less, Equal, Greater, is_eq, IsPermutation, nat_cmp}
use Rattle.std.proofs.lemmas.List.Sorted.{IsPermutation-refl, IsPermutation-sym, IsPermutation-cons, IsPermutation-trans, IsPermutation-middle}
use Rattle.std.specs.Cmp.{nat_cmp_total}
use Rattle.std.specs.FinMap.{FinMap, get, insert, remove, empty, entries, values, len, put, get-empty, get-entries, entries-insert, len-insert, same_map, nat_cmp-IsAntisymmetric}
use Rattle.std.specs.FinMap as finite
use Rattle.moka_records.proofs.Maps.{same_or_apart, get_inserted, get_past_insert, get_removed, get_past_remove, entries-empty}

module _ {X : Type 0} where
  put_permutes : (k : ℕ) (v : X) (es : List (ℕ × X)) → finite.find nat_cmp k es ≡ None → IsPermutation (v ∷ map (λ e. e.1) es) (map (λ e. e.1) (put nat_cmp k v es))
  put_permutes k v [] absent = IsPermutation-refl (v ∷ [])
  put_permutes k v (e ∷ es) absent = go (put_permutes k v es) (nat_cmp k e.0) refl absent
    where
      go : (finite.find nat_cmp k es ≡ None → IsPermutation (v ∷ map (λ e. e.1) es) (map (λ e. e.1) (put nat_cmp k v es))) → (o : Ordering) → nat_cmp k e.0 ≡ o → cond (is_eq o) (Some e.1) (finite.find nat_cmp k es) ≡ None →
          IsPermutation (v ∷ e.1 ∷ map (λ e. e.1) es) (map (λ e. e.1) (finite.Entries.by_order o ((k, v) ∷ e ∷ es) ((e.0, v) ∷ es) (e ∷ put nat_cmp k v es)))
      go rest Less p none = IsPermutation-refl (v ∷ e.1 ∷ map (λ e. e.1) es)
      go rest Equal p none = cc
      go rest Greater p none =
          IsPermutation-trans (v ∷ e.1 ∷ map (λ e. e.1) es) (e.1 ∷ v ∷ map (λ e. e.1) es) (e.1 ∷ map (λ e. e.1) (put nat_cmp k v es))
          (IsPermutation-sym (e.1 ∷ v ∷ map (λ e. e.1) es) (v ∷ e.1 ∷ map (λ e. e.1) es) (IsPermutation-middle (e.1 ∷ []) v (map (λ e. e.1) es)))
          (IsPermutation-cons e.1 (v ∷ map (λ e. e.1) es) (map (λ e. e.1) (put nat_cmp k v es)) (rest none))

  -- one value more
  pub values_inserted : (m : FinMap nat_cmp X) (n : ℕ) (x : X) → get m n ≡ None → IsPermutation (x ∷ values m) (values (insert m n x))
  values_inserted m n x absent = rw (entries-insert nat_cmp_total m n x) (put_permutes n x (entries m) (sym (get-entries m n) ∙ absent))

  -- what is taken out and put in again
  pub put_again : (m : FinMap nat_cmp X) (n : ℕ) (x : X) → get m n ≡ Some x → insert (remove m n) n x ≡ m
  put_again m n x there = same_map nat_cmp_total nat_cmp-IsAntisymmetric (insert (remove m n) n x) m (λ k. elim (same_or_apart k n) [
    | inl same ↦ ap (get (insert (remove m n) n x)) same ∙ get_inserted (remove m n) n x ∙ sym there ∙ sym (ap (get m) same)
    | inr apart ↦ get_past_insert (remove m n) n x k apart ∙ get_past_remove m n k apart
  ])

  -- one value less
  pub values_removed : (m : FinMap nat_cmp X) (n : ℕ) (x : X) → get m n ≡ Some x → IsPermutation (x ∷ values (remove m n)) (values m)
  values_removed m n x there = subst (λ m'. IsPermutation (x ∷ values (remove m n)) (values m')) (put_again m n x there) (values_inserted (remove m n) n x (get_removed m n))

  -- a value put in place of one that was taken out is put in place of it
  pub put_over : (m : FinMap nat_cmp X) (n : ℕ) (x : X) → insert (remove m n) n x ≡ insert m n x
  put_over m n x = same_map nat_cmp_total nat_cmp-IsAntisymmetric (insert (remove m n) n x) (insert m n x) (λ k. elim (same_or_apart k n) [
    | inl same ↦ ap (get (insert (remove m n) n x)) same ∙ get_inserted (remove m n) n x ∙ sym (get_inserted m n x) ∙ sym (ap (get (insert m n x)) same)
    | inr apart ↦ get_past_insert (remove m n) n x k apart ∙ get_past_remove m n k apart ∙ sym (get_past_insert m n x k apart)
  ])

  -- one value in place of another
  pub values_replaced : (m : FinMap nat_cmp X) (n : ℕ) (x y : X) → get m n ≡ Some x → IsPermutation (y ∷ values m) (x ∷ values (insert m n y))
  values_replaced m n x y there =
      let out = IsPermutation-sym (x ∷ values (remove m n)) (values m) (values_removed m n x there) in
      let again : insert (remove m n) n y ≡ insert m n y = put_over m n y in
      let in_again = subst (λ m'. IsPermutation (y ∷ values (remove m n)) (values m')) again (values_inserted (remove m n) n y (get_removed m n)) in
      IsPermutation-trans (y ∷ values m) (y ∷ x ∷ values (remove m n)) (x ∷ values (insert m n y)) (IsPermutation-cons y (values m) (x ∷ values (remove m n)) out)
      (IsPermutation-trans (y ∷ x ∷ values (remove m n)) (x ∷ y ∷ values (remove m n)) (x ∷ values (insert m n y)) (IsPermutation-middle (y ∷ []) x (values (remove m n)))
      (IsPermutation-cons x (y ∷ values (remove m n)) (values (insert m n y)) in_again))

  -- nothing is taken out where the key is not there
  pub remove_absent : (m : FinMap nat_cmp X) (n : ℕ) → get m n ≡ None → remove m n ≡ m
  remove_absent m n absent = same_map nat_cmp_total nat_cmp-IsAntisymmetric (remove m n) m (λ k. elim (same_or_apart k n) [
    | inl same ↦ ap (get (remove m n)) same ∙ get_removed m n ∙ sym absent ∙ sym (ap (get m) same)
    | inr apart ↦ get_past_remove m n k apart
  ])

  -- one key less
  pub len_removed : (m : FinMap nat_cmp X) (n : ℕ) (x : X) → get m n ≡ Some x → len m ≡ len (remove m n) + 1
  len_removed m n x there =
      sym (ap len (put_again m n x there)) ∙ len-insert nat_cmp_total (remove m n) n x ∙ ap (λ o. cond (is_some o) (len (remove m n)) (len (remove m n) + 1)) (get_removed m n)

  -- a map without keys
  pub empty_map : (m : FinMap nat_cmp X) → ((n : ℕ) → get m n ≡ None) → m ≡ empty
  empty_map m none = same_map nat_cmp_total nat_cmp-IsAntisymmetric m empty (λ n. none n ∙ sym (get-empty nat_cmp n))

  -- an empty map has no values
  pub values-empty : values (empty {X = X} {R = nat_cmp}) ≡ []
  values-empty = ap (map (λ (e : ℕ × X). e.1)) entries-empty
