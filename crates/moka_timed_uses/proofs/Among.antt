-- What is put back into an empty cache was among what was handed in, and all of it is there.
use Rattle.std.proofs.Common.{◌≡◌, ◌==◌, ℕ, false, List, [], ◌∷◌, length, ◌⊎◌, inl, inr, Some, None, arith, ap, sym, subst, ◌∙◌}
use Rattle.std.specs.Prelude.{Contains}
use Rattle.std.specs.FinMap.{get, empty}
use Rattle.std.specs.List.{AllByRecursion}
use Rattle.moka_engine.specs.parts.Record.{Record}
use Rattle.moka_engine.specs.Records.{Records}
use Rattle.moka_engine.specs.State.{State, Settings}
use Rattle.moka_engine.specs.parts.Restored.{Restored}
use Rattle.moka_engine.proofs.Maps.{nothing_at}
use Rattle.moka_cache.specs.Saves.{AddsOnly, IsOfItem, IsRestored, WeighAtMost, has_expired}
use Rattle.moka_cache.specs.Unsent.{HidesNoMore}
use Rattle.moka_timed_uses.specs.Restarted.{AreAmong, AreBack, ArePutBack}

pub among_all : {X P W : Type 0} (s t : State ℕ ℕ X P W) (saved : List (Restored ℕ ℕ)) → s.records ≡ empty → AddsOnly saved s t → AreAmong t saved
among_all {X} {P} {W} s t saved none adds n r there = go (adds n r there)
  where
    go : ((q : Record ℕ ℕ) × (get s.records n ≡ Some q) × ((g : ℕ) × (r ≡ record q { applied = g }))) ⊎ ((item : Restored ℕ ℕ) × Contains saved item × IsOfItem item r) → (item : Restored ℕ ℕ) × Contains saved item × IsOfItem item r
    go (inl (q, at, same)) = absurd (nothing_at n q (sym (ap (λ (records : Records ℕ ℕ). get records n) none) ∙ at))
    go (inr is) = is

-- what is there of the entries has the times of the cache that they were put into
pub still_back : {X P W : Type 0} (begun s : State ℕ ℕ X P W) (saved : List (Restored ℕ ℕ)) (put : ℕ) → HidesNoMore begun s → AllByRecursion (λ item. has_expired begun.settings put item ≡ false → IsRestored (λ a b. a == b) s item) saved → AreBack s saved put
still_back begun s saved put hides there =
    subst (λ (settings : Settings _ _). AllByRecursion (λ item. has_expired settings put item ≡ false → IsRestored (λ a b. a == b) s item) saved) (sym hides.settings) there

pub all_back : {X P W : Type 0} (weighs : W → ℕ → ℕ → ℕ → Type 0) (s : State ℕ ℕ X P W) (saved : List (Restored ℕ ℕ)) (put idle : ℕ) → ArePutBack weighs saved put idle s → AreBack s saved put
all_back weighs s saved put idle made = still_back made.begun s saved put made.hides (made.there made.roomy)

-- without a weigher each weighs 1
pub each_weighs_one : {W : Type 0} (weighs : W → ℕ → ℕ → ℕ → Type 0) (saved : List (Restored ℕ ℕ)) → WeighAtMost weighs None saved (length saved)
each_weighs_one weighs [] = tt
each_weighs_one weighs (item ∷ saved) = (1, length saved, omega arith, λ w one. omega (arith, one), each_weighs_one weighs saved)
