-- What all segments list.
use Rattle.std.specs.Prelude.{◌≡◌, ℕ, Bool, List, [], ◌∷◌, ◌++◌}
use Rattle.moka_calls.specs.Synchronous.{Synchronous}
use Rattle.moka_cache.specs.Visible.{ClonesAreSameKeys, ListsVisible, LooksUpClones}

-- a list of each element, one after the other
abbrev pub AllListed : {A B : Type 0} → (A → List B → Type 0) → List A → List B → Type 0
AllListed Lists [] found = found ≡ []
AllListed {B = B} Lists (x ∷ xs) found = (own : List B) × (others : List B) × Lists x own × AllListed Lists xs others
    × (found ≡ own ++ others)

module _ {K V S X L P W : Type 0} (says : P → K → V → Bool → Type 0) (is_value_clone : V → V → Type 0)
    (eq : K → K → Bool) (is_key_clone : K → K → Type 0) (now : ℕ) where
  -- what `iter` promises of the list of a segment
  pub record ListsOwn (s : Synchronous K V S X L P W) (found : List (K × V)) : Type 0 where
    -- clones of the keys of all records, each looked up
    pub looked_up : LooksUpClones says is_value_clone s.engine.state now eq is_key_clone found
    -- if a clone of a key is equal to it, exactly the visible entries, each once
    pub visible : ClonesAreSameKeys eq is_key_clone
        → ListsVisible says is_value_clone s.engine.state now is_key_clone found
