-- What is known of many keys.
use Rattle.std.proofs.Common.{◌≡◌, sym, subst, ℕ, List, [], ◌∷◌, map, Option, Some, None, Ok}
use Rattle.std.specs.Fn.{Mut, Called}
use Rattle.std.specs.Iterator.{Yields, DrainsIf}
use Rattle.std.specs.declared.iter.Map.{Map}
use Rattle.std.proofs.lemmas.Iterator.{YieldsList, maps}
use Rattle.std.specs.Prelude.{IsPermutation}
use Rattle.std.specs.FinMap.{values}
use Rattle.std.specs.List.{AllByRecursion, AllZip}
use Rattle.std.proofs.lemmas.List.Elements.{same_from_all_zip}
use Rattle.moka_parts.specs.Calls.{KeysStep}
use Rattle.moka_parts.specs.Copies.{IsCopy}
use Rattle.moka_play.specs.Played.{ScriptState}

-- all that is yielded has a property
pub record YieldsOnly {S A : Type 0} (steps : S → Option A → S → Type 0) (P : A → Type 0) (s : S) : Type 0 where
  pub all : (xs : List A) (t : S) → Yields steps s xs t → AllByRecursion P xs

-- if each call of the closure gives that, and leaves the closure as it is
pub only_from_map : {S A B F R : Type 0} {steps : S → Option A → S → Type 0} {v : A → B} {ys : List B} {P : R → Type 0} {s : Map S F} (g : Mut F (A × Unit {0}) R) {f : F} → YieldsList steps v s.iter ys → s.f ≡ f → ((x : A) (r : R) (q : F) → Called g f (x, tt) r q → (q ≡ f) × P r) → YieldsOnly (maps steps g) P s
only_from_map {S} {A} {B} {F} {R} {steps} {v} {ys} {P} {s} g {f} source same each = record { all = go s same }
  where
    go : (s : Map S F) → s.f ≡ f → (rs : List R) (t : Map S F) → Yields (maps steps g) s rs t → AllByRecursion P rs
    go s same [] t yields = tt
    go s same (r ∷ rs) t (mid, (x, step, called), yields) =
        let given = each x r mid.f (subst (λ w. Called g w (x, tt) r mid.f) same called) in
        (given.1, go mid given.0 rs t yields)

pub all_drained : {S A : Type 0} {steps : S → Option A → S → Type 0} {P : A → Type 0} {s : S} (xs : List A) → DrainsIf steps (Unit {0}) s xs → YieldsOnly steps P s → AllByRecursion P xs
all_drained xs drained only = only.all xs drained.0 drained.1

-- a list of clones of the keys is one of the keys
pub keys_permuted : (s : ScriptState) (keys : List ℕ) → ((own : Option (List ℕ)) × KeysStep s 0 (Ok own) × IsCopy (AllZip (λ x y. y ≡ x)) own (Some keys)) → IsPermutation (map (λ r. r.key) (values s.records)) keys
keys_permuted s keys (Some own, step, copied) = subst (IsPermutation (map (λ r. r.key) (values s.records))) (sym (same_from_all_zip (λ x y. y ≡ x) own keys copied (λ x y same. same))) step.1
keys_permuted s keys (None, step, copied) = absurd (cc)
