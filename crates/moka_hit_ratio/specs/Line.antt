-- What the lines of traces say.
use Rattle.std.specs.Prelude.{ℕ, List}
use Rattle.std.specs.Str.Parse.{digits_value, without_leading_plus}

-- the number that a text of digits says
abbrev pub number_in : List ℕ → ℕ
number_in text = digits_value 10 (without_leading_plus text)
