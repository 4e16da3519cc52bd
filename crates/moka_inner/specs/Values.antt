-- A finite map with each of its values replaced.
use Rattle.std.specs.Prelude.{ℕ, map}
use Rattle.std.specs.Ordering.{nat_cmp}
use Rattle.std.specs.FinMap.{FinMap, entries, from_sorted}

abbrev pub map_entry : {A B : Type 0} → (A → B) → ℕ × A → ℕ × B
map_entry f e = (e.0, f e.1)

-- the same keys, each with what the function makes of its value
unfoldable pub map_values : {A B : Type 0} → (A → B) → FinMap nat_cmp A → FinMap nat_cmp B
map_values f m = from_sorted (map (map_entry f) (entries m))
