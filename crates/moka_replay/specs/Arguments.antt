-- Which script the arguments of the program name.
use Rattle.std.specs.Prelude.{ℕ, List, [], ◌∷◌, Option, Some, None, Result, Ok, Err}
use Rattle.moka_script.specs.declared.failure.Failure.{Failure}
use Rattle.moka_script.specs.declared.failure.Failure.TheVariants.{Usage}

-- the path of the file behind the program's name, if there is one; more arguments are a fault
abbrev pub path_of : List (List ℕ) → Result (Option (List ℕ)) Failure
path_of [] = Ok None
path_of (program ∷ []) = Ok None
path_of (program ∷ path ∷ []) = Ok (Some path)
path_of (program ∷ path ∷ more ∷ rest) = Err Usage
