-- Steps of a run, and one more at their end.
use Rattle.std.proofs.Common.{◌≡◌, refl, Bool, List, [], ◌∷◌, ◌++◌, ap}
use Rattle.moka_laws.proofs.Types.{Registered, Contents, Choice, Removes, MovesToBack, Drops, Tests}
use Rattle.moka_parts.specs.Maintenance.{after_choice, after_choices, kept_by_choice, kept_by_choices, IsJustified, AreJustified}
use Rattle.moka_parts.specs.Bounds.{removed_by}

-- the numbers that steps remove
pub removed_by_append : (xs ys : List Choice) → removed_by (xs ++ ys) ≡ removed_by xs ++ removed_by ys
removed_by_append [] ys = refl
removed_by_append (Removes n cause ∷ xs) ys = ap (λ ns. n ∷ ns) (removed_by_append xs ys)
removed_by_append (MovesToBack n ∷ xs) ys = removed_by_append xs ys
removed_by_append (Drops i ∷ xs) ys = removed_by_append xs ys

module _ {K V P : Type 0} (says : P → K → V → Bool → Type 0) (q : Tests) where
  -- one more justified step
  pub AreJustified_push : (c : Contents K V) (ps : List (Registered P)) (xs : List Choice) (x : Choice) → AreJustified says q c ps xs → IsJustified says q (after_choices c xs) (kept_by_choices ps xs) x → AreJustified says q c ps (xs ++ x ∷ [])
  AreJustified_push c ps [] x are last = (last, tt)
  AreJustified_push c ps (y ∷ xs) x are last = (are.0, AreJustified_push (after_choice c y) (kept_by_choice ps y) xs x are.1 last)
