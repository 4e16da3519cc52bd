-- The bits of a mask of lanes.
use Rattle.std.specs.Prelude.{◌≡◌, ℕ, zero, suc, ◌%◌, ◌^◌, ◌<◌, false, cond, eqb, List, [], ◌∷◌, map, get_or, replicate}
use mathlib.Core.Path.{refl, sym, subst, ◌∙◌}
use native.Mathlib.Omega.{arith}
use lib.Lanes.{zip2, mask_l, top}
use borrow.Author.Tests.{eq-eqb, eqb-true}
use Rattle.std.specs.Int.{w32}
use Rattle.std.proofs.lemmas.Simd.{bitmask_splat}
use Rattle.std_collections.proofs.IndexTableLemmas.Bits.{bit_mask, lane_from_bit}
use Rattle.std_collections.specs.IndexTable.Group.{IsBitSet}

-- seven lanes and one more
abbrev pub eight : List ℕ → ℕ → List ℕ
eight hs more = get_or hs 0 0 ∷ get_or hs 1 0 ∷ get_or hs 2 0 ∷ get_or hs 3 0 ∷ get_or hs 4 0 ∷ get_or hs 5 0 ∷ get_or hs 6 0 ∷ more ∷ []

-- what each of the seven lanes says
lane_bit : (hs : List ℕ) (more y k : ℕ) → k < 7 → get_or (map (λ x. eqb x y) (eight hs more)) k false ≡ eqb (get_or hs k 0) y
lane_bit hs more y zero l = refl
lane_bit hs more y (suc zero) l = refl
lane_bit hs more y (suc (suc zero)) l = refl
lane_bit hs more y (suc (suc (suc zero))) l = refl
lane_bit hs more y (suc (suc (suc (suc zero)))) l = refl
lane_bit hs more y (suc (suc (suc (suc (suc zero))))) l = refl
lane_bit hs more y (suc (suc (suc (suc (suc (suc zero)))))) l = refl
lane_bit hs more y (suc (suc (suc (suc (suc (suc (suc k))))))) l = absurd (omega arith)

pub bit_of_match : (hs : List ℕ) (more y k : ℕ) → k < 7 → get_or hs k 0 ≡ y → IsBitSet (mask_l (map (top 31) (zip2 (λ a b. cond (eqb a b) 4294967295 0) (eight hs more) (replicate 8 y))) % 2 ^ 64) k
bit_of_match hs more y k l e = subst (λ n. IsBitSet n k) (sym (bitmask_splat w32 eqb (eight hs more) 8 y refl (omega arith))) (bit_mask (map (λ x. eqb x y) (eight hs more)) k (lane_bit hs more y k l ∙ eq-eqb (get_or hs k 0) y e))

pub match_of_bit : (hs : List ℕ) (more y k : ℕ) → k < 7 → IsBitSet (mask_l (map (top 31) (zip2 (λ a b. cond (eqb a b) 4294967295 0) (eight hs more) (replicate 8 y))) % 2 ^ 64) k → get_or hs k 0 ≡ y
match_of_bit hs more y k l s = eqb-true (get_or hs k 0) y (sym (lane_bit hs more y k l) ∙ lane_from_bit (map (λ x. eqb x y) (eight hs more)) k (subst (λ n. IsBitSet n k) (bitmask_splat w32 eqb (eight hs more) 8 y refl (omega arith)) s))
