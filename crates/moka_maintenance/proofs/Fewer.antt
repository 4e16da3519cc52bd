-- A map whose keys are all in another one has no more of them.
use Rattle.std.proofs.Common.{◌≡◌, ℕ, zero, suc, ◌≤◌, List, [], ◌∷◌, length, Some, refl, ap, ◌∙◌, arith}
use Rattle.std.proofs.lemmas.Bool.{cond-true}
use Rattle.std.specs.Ordering.{nat_cmp, eq_by_cmp}
use Rattle.std.specs.FinMap.{FinMap, entries, find, get, remove, len, get-entries, len-entries}
use Rattle.moka_store.proofs.Gets.{after_remove, get-past_remove}
use Rattle.moka_records.proofs.Maps.{itself_ordered}
use Rattle.moka_records.proofs.Values.{len_removed}

-- each key of the second is one of the first
pub record AreKeysOf {X : Type 0} (old new : FinMap nat_cmp X) : Type 0 where
  pub key : (n : ℕ) (x : X) → get new n ≡ Some x → (y : X) × (get old n ≡ Some y)

module _ {X : Type 0} where
  -- a map that is not empty has a key
  some_key : (m : FinMap nat_cmp X) (k : ℕ) → len m ≡ suc k → (n : ℕ) × (x : X) × (get m n ≡ Some x)
  some_key m k count = at (entries m) refl
    where
      at : (es : List (ℕ × X)) → entries m ≡ es → (n : ℕ) × (x : X) × (get m n ≡ Some x)
      at [] is = (let e = len-entries m ∙ ap length is in absurd (omega arith))
      at (e ∷ es) is = (e.0, e.1, get-entries m e.0 ∙ ap (find nat_cmp e.0) is ∙ cond-true (eq_by_cmp nat_cmp e.0 e.0) (Some e.1) (find nat_cmp e.0 es) (itself_ordered e.0))

  without-both : (old new : FinMap nat_cmp X) (n : ℕ) → AreKeysOf old new → AreKeysOf (remove old n) (remove new n)
  without-both old new n h = record {
    key = λ q x there.
        let before = after_remove new n q x there in
        let found = h.key q x before.1 in
        (found.0, get-past_remove old n q before.0 ∙ found.1);
  }

  fewer : (k : ℕ) (old new : FinMap nat_cmp X) → len new ≡ k → AreKeysOf old new → len new ≤ len old
  fewer zero old new count h = omega arith
  fewer (suc k) old new count h =
      let one = some_key new k count in
      let also = h.key one.0 one.1 one.2 in
      let less = len_removed new one.0 one.1 one.2 in
      let less_too = len_removed old one.0 also.0 also.1 in
      let rest = fewer k (remove old one.0) (remove new one.0) (omega arith) (without-both old new one.0 h) in
      omega arith

  pub len-fewer : (old new : FinMap nat_cmp X) → AreKeysOf old new → len new ≤ len old
  len-fewer old new h = fewer (len new) old new refl h
