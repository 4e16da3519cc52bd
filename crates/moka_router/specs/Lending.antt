-- An element of a list at its index, and one that is lent, to be written.
use Rattle.std.specs.Prelude.{◌≡◌, ℕ, ◌<◌, List, length, slice_index_or, slice_set}
use Rattle.std.specs.Borrow.{Fml, MutBor, RattleType}
use Rattle.std.specs.Global.{Vec}
use Rattle.std.specs.Vec.{vec_follows_item}
use Rattle.std.specs.contracts.alloc.Global.{the_row as global}
use Rattle.std.specs.contracts.impls.GlobalAllocator.TheImpl.{ghosts}

-- the element at the index is this one
pub record IsAt {A : Type 0} (xs : List A) (index : ℕ) (x : A) : Type 0 where
  pub within : index < length xs
  pub is : (d : A) → slice_index_or xs index d ≡ x

-- the element at the index made a step, and every other is as it was
pub record StepsAt {A : Type 0} (index : ℕ) (Step : A → A → Type 0) (xs ys : List A) : Type 0 where
  pub before : A
  pub after : A
  pub there : IsAt xs index before
  pub step : Step before after
  pub others : ys ≡ slice_set xs index after

module _ (T : RattleType) where
  -- the element at the index is what was written, and every other is as it was
  abbrev pub LendsAt : MutBor (Vec T.Denot) → ℕ → MutBor T.Denot → Fml
  LendsAt items index item = vec_follows_item T global ghosts items index item
