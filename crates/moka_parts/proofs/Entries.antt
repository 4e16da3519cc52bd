-- The entries of a map, in order: which there are, one more behind all others, and the first taken out.
use Rattle.std.proofs.Common.{◌≡◌, refl, ℕ, ◌<◌, ◌≤◌, cond, T, List, [], ◌∷◌, ◌++◌, Some, ap, sym, ◌∙◌, arith, Ordering, Less, Equal, Greater, is_lt}
use Rattle.std.specs.List.{AllByRecursion}
use Rattle.std.specs.Ordering.{nat_cmp, eq_by_cmp}
use Rattle.std.specs.Cmp.{nat_cmp_total, nat_cmp_is, ranked}
use Rattle.std.specs.FinMap.{FinMap, get, insert, remove, entries, entries_sorted, entries-insert, get-entries, put, is_sorted}
use Rattle.std.specs.FinMap.Entries.{by_order, below_all}
use Rattle.std.specs.FinMap as finite
use Rattle.moka_records.proofs.Maps.{itself_ordered, found_removed}
use Rattle.moka_records.proofs.Values.{put_again}
use Rattle.moka_records.proofs.Lookup.{left_part, right_part, found_behind}

module _ {X : Type 0} where
  each_in : (P : ℕ × X → Type 0) (es : List (ℕ × X)) → T (is_sorted nat_cmp es) → ((k : ℕ) (x : X) → finite.find nat_cmp k es ≡ Some x → P (k, x)) → AllByRecursion P es
  each_in P [] s h = tt
  each_in P (e ∷ es) s h = (
    h e.0 e.1 (ap (λ b. cond b (Some e.1) (finite.find nat_cmp e.0 es)) (itself_ordered e.0)),
    each_in P es (right_part _ _ s) (λ k x there. h k x (found_behind k e.0 e.1 x es (left_part _ _ s) there (eq_by_cmp nat_cmp k e.0) refl)),
  )

  -- what holds of all that a map has holds of its entries
  pub each_entry : (P : ℕ × X → Type 0) (m : FinMap nat_cmp X) → ((k : ℕ) (x : X) → get m k ≡ Some x → P (k, x)) → AllByRecursion P (entries m)
  each_entry P m h = each_in P (entries m) (entries_sorted m) (λ k x there. h k x (get-entries m k ∙ there))

  put_last : (k : ℕ) (v : X) (es : List (ℕ × X)) → AllByRecursion (λ e. e.0 < k) es → put nat_cmp k v es ≡ es ++ (k, v) ∷ []
  put_last k v [] h = refl
  put_last k v (e ∷ es) h = ap (λ o. by_order o ((k, v) ∷ e ∷ es) ((e.0, v) ∷ es) (e ∷ put nat_cmp k v es)) (sym (nat_cmp_is k e.0 Greater h.0)) ∙ ap (λ xs. e ∷ xs) (put_last k v es h.1)

  put_first : (k : ℕ) (v : X) (es : List (ℕ × X)) → AllByRecursion (λ e. k < e.0) es → put nat_cmp k v es ≡ (k, v) ∷ es
  put_first k v [] h = refl
  put_first k v (e ∷ es) h = ap (λ o. by_order o ((k, v) ∷ e ∷ es) ((e.0, v) ∷ es) (e ∷ put nat_cmp k v es)) (sym (nat_cmp_is k e.0 Less h.0))

  -- a key above all others
  pub entries_pushed : (m : FinMap nat_cmp X) (k : ℕ) (v : X) → ((j : ℕ) (x : X) → get m j ≡ Some x → j < k) → entries (insert m k v) ≡ entries m ++ (k, v) ∷ []
  entries_pushed m k v below = entries-insert nat_cmp_total m k v ∙ put_last k v (entries m) (each_entry (λ e. e.0 < k) m below)

  -- the least key
  pub entries_popped : (m : FinMap nat_cmp X) (k : ℕ) (v : X) → get m k ≡ Some v → ((j : ℕ) (x : X) → get m j ≡ Some x → k ≤ j) → entries m ≡ (k, v) ∷ entries (remove m k)
  entries_popped m k v there least =
      ap entries (sym (put_again m k v there)) ∙ entries-insert nat_cmp_total (remove m k) k v ∙ put_first k v (entries (remove m k)) (each_entry (λ e. k < e.0) (remove m k) above)
    where
      above : (j : ℕ) (x : X) → get (remove m k) j ≡ Some x → k < j
      above j x at = let before = found_removed m k j x at in let low = least j x before.1 in let differ = before.0.forth in grind (arith, low, differ)

  -- the keys behind a key in order
  pub all_above : (k : ℕ) (es : List (ℕ × X)) → T (below_all nat_cmp k es) → AllByRecursion (λ e. k < e.0) es
  all_above k [] h = tt
  all_above k (e ∷ es) h = (below k e.0 (nat_cmp k e.0) refl (left_part _ _ h), all_above k es (right_part _ _ h))
    where
      below : (a b : ℕ) (o : Ordering) → o ≡ nat_cmp a b → T (is_lt o) → a < b
      below a b Less e h = ranked a b Less e
      below a b Equal e h = absurd h
      below a b Greater e h = absurd h
