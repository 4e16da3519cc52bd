-- One more call of a list of calls that were explained in turn.
use Rattle.std.proofs.Common.{Bool, List, [], ◌∷◌, ◌++◌, refl, subst}
use Rattle.moka_script.specs.Calls.{CallText}
use Rattle.moka_explain.specs.declared.explain.Explained.{Explained}
use Rattle.moka_explain.specs.Explained.{Point, IsExplained, AreExplained}

module _ {S : Type 0} (automatic : Bool) where
  pub explained_more : (calls : List CallText) (all : List Explained) (s t u : Point S) (c : CallText) (x : Explained) → AreExplained automatic calls all s t → IsExplained automatic c x t u → AreExplained automatic (calls ++ c ∷ []) (all ++ x ∷ []) s u
  explained_more [] [] s t u c x same one = (u, subst (λ p. IsExplained automatic c x p u) same one, refl)
  explained_more (d ∷ calls) (y ∷ all) s t u c x done one = (done.0, done.1, explained_more calls all done.0 t u c x done.2 one)
  explained_more [] (y ∷ all) s t u c x done one = absurd done
  explained_more (d ∷ calls) [] s t u c x done one = absurd done
