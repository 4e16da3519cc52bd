-- What a test of the key finds is what the one key that passes has.
use Rattle.std.proofs.Common.{◌≡◌, refl, ℕ, Bool, true, cond, List, [], ◌∷◌, Some, find, ap, ◌∙◌}
use Rattle.std.specs.FinMap.{get, values}
use Rattle.moka_records.specs.declared.records.Record.{Record}
use Rattle.moka_records.specs.Records.{Records, record_of_key}
use Rattle.moka_records.specs.KeyTests.{record_by}
use Rattle.moka_records.proofs.Lookup.{record_of_key_found}

-- tests with the same answers find the same
pub find_alike : {X : Type 0} (p q : X → Bool) → ((x : X) → p x ≡ q x) → (xs : List X) → find p xs ≡ find q xs
find_alike p q same [] = refl
find_alike p q same (x ∷ xs) = ap (λ b. cond b (Some x) (find p xs)) (same x) ∙ ap (λ o. cond (q x) (Some x) o) (find_alike p q same xs)

module _ {K V : Type 0} (eq : K → K → Bool) (passes : K → Bool) (one_key : (x y : K) → passes x ≡ true → passes y ≡ eq x y) (records : Records K V) where
  -- of a key that passes
  pub record_by_key : (key : K) → passes key ≡ true → record_by passes records ≡ record_of_key eq records key
  record_by_key key passing = find_alike (λ r. passes r.key) (λ r. eq key r.key) (λ r. one_key key r.key passing) (values records)

  -- the key that was found passes, and the record stands at some number
  pub record_by_found : (r : Record K V) → record_by passes records ≡ Some r → (n : ℕ) × (get records n ≡ Some r) × (passes r.key ≡ true)
  record_by_found r found =
      let of_any = record_of_key_found (λ (_ : K) k. passes k) records r.key r found in
      of_any
