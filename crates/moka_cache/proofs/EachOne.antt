-- Steps of each cache, one after the other.
use Rattle.std.proofs.Common.{◌≡◌, Bool, false, ◌||◌, List, [], ◌∷◌, length, refl, sym, subst, arith}
use Rattle.std.specs.List.{AllZip, IsFirstAndRest}
use Rattle.moka_records.specs.declared.instant.Instant.{Instant}
use Rattle.moka_parts.specs.State.{Meaning}
use Rattle.moka_calls.specs.Synchronous.{Synchronous}
use Rattle.moka_cache.specs.Each.{Ran, AllRan}

-- no element made a step
pub nothing_each : {A : Type 0} (R : A → A → Type 0) (xs : List A) → length xs ≡ 0 → AllZip R xs xs
nothing_each R [] none = tt
nothing_each R (x ∷ xs) none = absurd (omega arith)

-- the first made a step, and then the others
pub first_each : {A : Type 0} (R : A → A → Type 0) (xs later ys : List A) (x y : A) → IsFirstAndRest xs x later → R x y → AllZip R later ys → AllZip R xs (y ∷ ys)
first_each R xs later ys x y split one others = subst (λ zs. AllZip R zs (y ∷ ys)) (sym split.0) (one, others)

module _ {K V S X L P W C : Type 0} (m : Meaning K V X L P W C (Unit {0})) (now : Instant) where
  -- no segment ran
  pub nothing_ran : (clock : C) (xs : List (Synchronous K V S X L P W)) → length xs ≡ 0 → AllRan m now clock false clock xs xs
  nothing_ran clock [] none = (refl, refl)
  nothing_ran clock (x ∷ xs) none = absurd (omega arith)

  -- the first ran, and then the others
  pub first_ran : (clock between clock_after : C) (first rest more : Bool) (xs later ys : List (Synchronous K V S X L P W)) (x y : Synchronous K V S X L P W) → IsFirstAndRest xs x later → Ran m now clock first between x y → AllRan m now between rest clock_after later ys → more ≡ (first || rest)
      → AllRan m now clock more clock_after xs (y ∷ ys)
  first_ran clock between clock_after first rest more xs later ys x y split one others told = subst (λ zs. AllRan m now clock more clock_after zs (y ∷ ys)) (sym split.0) (first, between, rest, one, others, told)
