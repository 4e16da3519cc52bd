-- Lists of the segments, one after the other.
use Rattle.std.proofs.Common.{◌≡◌, List, [], ◌∷◌, ◌++◌, length, Result, Ok, Err, IfOk, OnOk, refl, ap, sym, subst, ◌∙◌, append_assoc, append-nil, arith}
use Rattle.std.specs.List.{IsFirstAndRest}
use Rattle.moka_segments.specs.Listing.{AllListed}

-- what holds where a call answers `Ok`
pub at_ok : {T E Q : Type 0} (r : Result T E) (x : T) → r ≡ Ok x → OnOk r Q → Q
at_ok {Q = Q} r x is h = subst (λ s. OnOk s Q) is h

-- what was appended to nothing is all
pub all_of : {B : Type 0} (Q : List B → Type 0) (before after : List B) → before ≡ [] → (more : List B) × (after ≡ before ++ more) × Q more → Q after
all_of Q before after none (more, is, h) = subst Q (sym (is ∙ ap (λ ys. ys ++ more) none)) h

module _ {A B : Type 0} (Lists : A → List B → Type 0) where
  -- nothing was appended to what was found before
  pub listed_nothing : (xs : List A) (before : List B) → length xs ≡ 0 → (listed : List B) × (before ≡ before ++ listed) × AllListed Lists xs listed
  listed_nothing [] before none = ([], sym (append-nil before), refl)
  listed_nothing (x ∷ xs) before none = absurd (omega (arith, none))

  -- the first one's list was appended, and then those of the others
  pub listed_first : {T E : Type 0} (r : Result T E) (xs later : List A) (x : A) (before own between after : List B) → IsFirstAndRest xs x later → Lists x own → between ≡ before ++ own
      → IfOk r (λ _. (others : List B) × (after ≡ between ++ others) × AllListed Lists later others)
      → IfOk r (λ _. (listed : List B) × (after ≡ before ++ listed) × AllListed Lists xs listed)
  listed_first (Ok done) xs later x before own between after split here appended (others, is, there) =
      (own ++ others, is ∙ (ap (λ ys. ys ++ others) appended ∙ append_assoc before own others), subst (λ zs. AllListed Lists zs (own ++ others)) (sym split.0) (own, others, here, there, refl))
  listed_first (Err refused) xs later x before own between after split here appended rest = tt
