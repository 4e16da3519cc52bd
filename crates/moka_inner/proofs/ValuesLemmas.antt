-- What `map_values` answers, and how it follows an insertion and a removal.
use Rattle.std.proofs.Common.{◌≡◌, ℕ, Bool, true, false, cond, ◌&&◌, List, [], ◌∷◌, map, length, Option, Some, None, option_map, T, refl, sym, ap, subst, ◌∙◌}
use Rattle.std.proofs.lemmas.List.{length-map}
use Rattle.std.specs.Ordering.{nat_cmp, eq_by_cmp, is_lt}
use Rattle.std.specs.Cmp.{nat_cmp_total}
use Rattle.std.specs.FinMap.{FinMap, entries, entries_sorted, is_sorted, find, get, insert, remove, len, keys, empty, get-empty, get-entries, get-insert, get-remove, len-entries, entries-from_sorted, same_map, nat_cmp-IsAntisymmetric}
use Rattle.std.specs.FinMap.Entries.{below_all}
use Rattle.moka_inner.specs.Values.{map_entry, map_values}

module _ {A B : Type 0} (f : A → B) where
  find-map : (q : ℕ) (es : List (ℕ × A)) → find nat_cmp q (map (map_entry f) es) ≡ option_map f (find nat_cmp q es)
  find-map q [] = refl
  find-map q (e ∷ es) = elim (eq_by_cmp nat_cmp q e.0) as (λ b. cond b (Some (f e.1)) (find nat_cmp q (map (map_entry f) es)) ≡ option_map f (cond b (Some e.1) (find nat_cmp q es))) [
    | true ↦ refl
    | false ↦ find-map q es
  ]

  below_all-map : (x : ℕ) (es : List (ℕ × A)) → below_all nat_cmp x (map (map_entry f) es) ≡ below_all nat_cmp x es
  below_all-map x [] = refl
  below_all-map x (e ∷ es) = ap (λ b. is_lt (nat_cmp x e.0) && b) (below_all-map x es)

  is_sorted-map : (es : List (ℕ × A)) → is_sorted nat_cmp (map (map_entry f) es) ≡ is_sorted nat_cmp es
  is_sorted-map [] = refl
  is_sorted-map (e ∷ es) = ap (λ b. b && is_sorted nat_cmp (map (map_entry f) es)) (below_all-map e.0 es) ∙ ap (λ b. below_all nat_cmp e.0 es && b) (is_sorted-map es)

  pub entries-map_values : (m : FinMap nat_cmp A) → entries (map_values f m) ≡ map (map_entry f) (entries m)
  unfolding map_values
  entries-map_values m = entries-from_sorted nat_cmp (map (map_entry f) (entries m)) (subst T (sym (is_sorted-map (entries m))) (entries_sorted m))

  pub get-map_values : (m : FinMap nat_cmp A) (q : ℕ) → get (map_values f m) q ≡ option_map f (get m q)
  get-map_values m q = get-entries (map_values f m) q ∙ (ap (find nat_cmp q) (entries-map_values m) ∙ (find-map q (entries m) ∙ ap (λ o. option_map f o) (sym (get-entries m q))))

  pub len-map_values : (m : FinMap nat_cmp A) → len (map_values f m) ≡ len m
  len-map_values m = len-entries (map_values f m) ∙ (ap length (entries-map_values m) ∙ (length-map (entries m) (map_entry f) ∙ sym (len-entries m)))

  option_map-cond : (b : Bool) (o p : Option A) → option_map f (cond b o p) ≡ cond b (option_map f o) (option_map f p)
  option_map-cond true o p = refl
  option_map-cond false o p = refl

  pub map_values-insert : (m : FinMap nat_cmp A) (k : ℕ) (x : A) → map_values f (insert m k x) ≡ insert (map_values f m) k (f x)
  map_values-insert m k x = same_map nat_cmp_total nat_cmp-IsAntisymmetric _ _ (λ q.
      get-map_values (insert m k x) q ∙ (ap (λ o. option_map f o) (get-insert nat_cmp_total m k x q) ∙ (option_map-cond (eq_by_cmp nat_cmp q k) (Some x) (get m q)
      ∙ sym (get-insert nat_cmp_total (map_values f m) k (f x) q ∙ ap (λ o. cond (eq_by_cmp nat_cmp q k) (Some (f x)) o) (get-map_values m q)))))

  pub map_values-remove : (m : FinMap nat_cmp A) (k : ℕ) → map_values f (remove m k) ≡ remove (map_values f m) k
  map_values-remove m k = same_map nat_cmp_total nat_cmp-IsAntisymmetric _ _ (λ q.
      get-map_values (remove m k) q ∙ (ap (λ o. option_map f o) (get-remove nat_cmp_total m k q) ∙ (option_map-cond (eq_by_cmp nat_cmp q k) None (get m q)
      ∙ sym (get-remove nat_cmp_total (map_values f m) k q ∙ ap (λ o. cond (eq_by_cmp nat_cmp q k) None o) (get-map_values m q)))))

  pub map_values-empty : map_values f empty ≡ empty
  map_values-empty = same_map nat_cmp_total nat_cmp-IsAntisymmetric _ _ (λ q. get-map_values empty q ∙ (ap (λ o. option_map f o) (get-empty nat_cmp q) ∙ sym (get-empty nat_cmp q)))

  keys-map : (es : List (ℕ × A)) → map (λ e. e.0) (map (map_entry f) es) ≡ map (λ e. e.0) es
  keys-map [] = refl
  keys-map (e ∷ es) = ap (λ ns. e.0 ∷ ns) (keys-map es)

  pub keys-map_values : (m : FinMap nat_cmp A) → keys (map_values f m) ≡ keys m
  keys-map_values m = ap (λ es. map (λ e. e.0) es) (entries-map_values m) ∙ keys-map (entries m)

  some-mapped : (o : Option A) (y : B) → option_map f o ≡ Some y → (x : A) × (o ≡ Some x) × (f x ≡ y)
  some-mapped None y h = cc
  some-mapped (Some x) y h = (x, refl, cc)

  -- a value of the new map was made of one of the old
  pub map_values-found : (m : FinMap nat_cmp A) (q : ℕ) (y : B) → get (map_values f m) q ≡ Some y → (x : A) × (get m q ≡ Some x) × (f x ≡ y)
  map_values-found m q y h = some-mapped (get m q) y (sym (get-map_values m q) ∙ h)

  pub map_values-none : (m : FinMap nat_cmp A) (q : ℕ) → get m q ≡ None → get (map_values f m) q ≡ None
  map_values-none m q h = get-map_values m q ∙ ap (λ o. option_map f o) h
