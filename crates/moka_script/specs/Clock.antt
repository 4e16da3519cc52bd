-- The clock of a script.
use Rattle.std.specs.Prelude.{ℕ, Bool, false, List, [], ◌∷◌, drop, Option, Some, None, codes, if◌then◌else◌}
use Rattle.std.specs.List.{filter_map, list_all}
use Rattle.std.specs.Str.{bytes_eq}
use Rattle.moka_script.specs.declared.script.clock.Readings.{Readings}
use Rattle.moka_script.specs.Lex.{is_number, number_of, words_of}

-- whether the words are `clock` and at least one more
abbrev pub is_clock : List (List ℕ) → Bool
is_clock (name ∷ first ∷ rest) = bytes_eq name (codes "clock")
is_clock _ = false

-- the readings that the words say, if each is a number
abbrev pub readings_of : List (List ℕ) → Option (List ℕ)
readings_of words = if list_all is_number words then Some (filter_map (number_of 64) words) else None

-- the readings that still stand in their line
abbrev pub told_readings : Readings → List ℕ
told_readings readings = filter_map (number_of 64) (drop 1 (words_of readings.line.now))

-- ---- what the clock tells

-- the next reading; without any it is 0
abbrev pub next_reading : List ℕ → ℕ
next_reading [] = 0
next_reading (n ∷ ns) = n

-- the readings that are left; the last one is told again and again
abbrev pub readings_left : List ℕ → List ℕ
readings_left (n ∷ m ∷ ns) = m ∷ ns
readings_left ns = ns
