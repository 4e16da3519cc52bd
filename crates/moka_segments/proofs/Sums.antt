-- Sums over the segments, saturating.
use Rattle.std.proofs.Common.{◌≡◌, ℕ, ◌+◌, ◌<◌, ◌≤◌, List, [], ◌∷◌, ◌++◌, length, take, get_or, Option, Some, None, refl, ap, sym, ◌∙◌, arith, add-one}
use Rattle.std.proofs.Math.Seq.{take-suc}
use Rattle.std.proofs.lemmas.List.{take_all}
use Rattle.std.proofs.lemmas.List.Sums.{sum_by_more}
use Rattle.moka_records.specs.Time.{plus}
use Rattle.moka_parts.specs.declared.stats.Stats.{Stats}
use Rattle.moka_calls.specs.Synchronous.{Synchronous}
use Rattle.moka_segments.specs.Whole.{both, both_stats, saturated, whole_capacity, total, total_stats}

-- to saturate before makes no difference
saturates_once : (c d : Option ℕ) → saturated (both (saturated c) d) ≡ saturated (both c d)
saturates_once (Some a) (Some b) = ap Some (omega arith)
saturates_once (Some a) None = refl
saturates_once None d = refl

both_assoc : (a b c : Option ℕ) → both a (both b c) ≡ both (both a b) c
both_assoc (Some a) (Some b) (Some c) = ap Some (omega arith)
both_assoc (Some a) (Some b) None = refl
both_assoc (Some a) None c = refl
both_assoc None b c = refl

both_none : (a : Option ℕ) → both a (Some 0) ≡ both (Some 0) a
both_none (Some a) = ap Some (omega arith)
both_none None = refl

module _ {K V S X L P W : Type 0} where
  whole_push : (xs : List (Synchronous K V S X L P W)) (x : Synchronous K V S X L P W) → whole_capacity (xs ++ x ∷ []) ≡ both (whole_capacity xs) x.engine.state.capacity
  whole_push [] x = both_none x.engine.state.capacity
  whole_push (y ∷ xs) x = ap (both y.engine.state.capacity) (whole_push xs x) ∙ both_assoc y.engine.state.capacity (whole_capacity xs) x.engine.state.capacity

  -- the capacities so far, and one more
  pub capacity_next : (xs : List (Synchronous K V S X L P W)) (index : ℕ) (x : Synchronous K V S X L P W) (sum result : Option ℕ) → index < length xs → x ≡ get_or xs index x → sum ≡ saturated (whole_capacity (take index xs)) → result ≡ saturated (both sum x.engine.state.capacity) → result ≡ saturated (whole_capacity (take (index + 1) xs))
  capacity_next xs index x sum result within is so told =
      let one : take (index + 1) xs ≡ take index xs ++ x ∷ [] = ap (λ n. take n xs) (add-one index) ∙ take-suc xs index x within ∙ ap (λ z. take index xs ++ z ∷ []) (sym is) in
      let more : whole_capacity (take (index + 1) xs) ≡ both (whole_capacity (take index xs)) x.engine.state.capacity = ap whole_capacity one ∙ whole_push (take index xs) x in
      told ∙ ap (λ c. saturated (both c x.engine.state.capacity)) so ∙ saturates_once (whole_capacity (take index xs)) x.engine.state.capacity ∙ ap saturated (sym more)

  -- what was told so far, and once more
  pub total_next : (tells : Synchronous K V S X L P W → ℕ) (xs : List (Synchronous K V S X L P W)) (index : ℕ) (x : Synchronous K V S X L P W) (sum result : ℕ) → index < length xs → x ≡ get_or xs index x → sum ≡ total tells (take index xs) → result ≡ plus sum (tells x) → result ≡ total tells (take (index + 1) xs)
  total_next tells xs index x sum result within is so told =
      let here : tells x ≡ tells (get_or xs index x) = ap tells is in
      omega (arith, told, so, here, sum_by_more tells xs index x within)

  -- what was counted so far, and once more
  pub stats_next : (xs : List (Synchronous K V S X L P W)) (index : ℕ) (x : Synchronous K V S X L P W) (sum result : Stats) → index < length xs → x ≡ get_or xs index x → sum ≡ total_stats (take index xs) → result ≡ both_stats sum x.stats → result ≡ total_stats (take (index + 1) xs)
  stats_next xs index x sum result within is so told =
      let hits = total_next (λ s. s.stats.hits) xs index x sum.hits (plus sum.hits x.stats.hits) within is (ap (λ s. s.hits) so) refl in
      let misses = total_next (λ s. s.stats.misses) xs index x sum.misses (plus sum.misses x.stats.misses) within is (ap (λ s. s.misses) so) refl in
      let loads = total_next (λ s. s.stats.loads) xs index x sum.loads (plus sum.loads x.stats.loads) within is (ap (λ s. s.loads) so) refl in
      told ∙ (λ i. record { hits = hits i; misses = misses i; loads = loads i })

  -- all
  pub at_end : {A : Type 0} (tells : List (Synchronous K V S X L P W) → A) (xs : List (Synchronous K V S X L P W)) (index : ℕ) (sum : A) → length xs ≤ index → sum ≡ tells (take index xs) → sum ≡ tells xs
  at_end tells xs index sum all so = so ∙ ap tells (take_all index xs all)
