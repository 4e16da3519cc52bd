-- What a cache keeps that evicts what came first.
use Rattle.std.specs.Prelude.{ℕ, Bool, true, not, ◌==◌, ◌&&◌, ◌||◌, nat_lt, List, [], ◌∷◌, ◌++◌, length, drop, if◌then◌else◌}
use Rattle.std.specs.List.{list_any}

-- the key is one of these
abbrev pub is_kept : ℕ → List ℕ → Bool
is_kept key keys = list_any (λ k. key == k) keys

-- none of the keys is there twice
abbrev pub are_distinct : List ℕ → Bool
are_distinct [] = true
are_distinct (key ∷ keys) = not (is_kept key keys) && are_distinct keys

-- if there are too many the first one leaves
abbrev pub within : ℕ → List ℕ → List ℕ
within capacity keys = if nat_lt capacity (length keys) then drop 1 keys else keys

-- the keys after a read of this one, in the order in which they came
abbrev pub after_read : (capacity key : ℕ) → List ℕ → List ℕ
after_read capacity key keys =
    if is_kept key keys || capacity == 0 then keys else within capacity (keys ++ key ∷ [])
