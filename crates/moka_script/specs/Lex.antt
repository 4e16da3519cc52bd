-- The words and the numbers of a line.
use Rattle.std.specs.Prelude.{ℕ, ◌^◌, Bool, ◌&&◌, ◌==◌, nat_le, nat_lt, not, List, [], ◌∷◌, length, filter, map, Option, Some, None, option_and_then, is_some, option_map, unwrap_or, codes, if◌then◌else◌}
use Rattle.std.specs.Borrow.{Bor}
use Rattle.std.specs.List.{slice_split, list_all}
use Rattle.std.specs.Char.{is_ascii_digit}
use Rattle.std.specs.Str.{bytes_eq}
use Rattle.std.specs.Str.Parse.{digits_value}
use Rattle.moka_records.specs.declared.instant.Instant.{Instant}

-- a byte that may stand in a line
abbrev pub is_printable : ℕ → Bool
is_printable b = nat_le 0x20 b && nat_le b 0x7E

-- what stands between the spaces
abbrev pub words_of : List ℕ → List (List ℕ)
words_of line = filter (λ word. not (length word == 0)) (slice_split (λ b. b == 32) line)

-- the bytes of the words
abbrev pub texts : List (Bor (List ℕ)) → List (List ℕ)
texts words = map (λ word. word.now) words

-- one to twenty digits
abbrev pub is_numeral : List ℕ → Bool
is_numeral word = not (length word == 0) && (nat_le (length word) 20 && list_all is_ascii_digit word)

-- the number that a word says, if it is below a power of two
abbrev pub number_of : ℕ → List ℕ → Option ℕ
number_of bits word = if is_numeral word && nat_lt (digits_value 10 word) (2 ^ bits)
    then Some (digits_value 10 word) else None

-- the number that a word says, or none if it is `none`
abbrev pub number_or_none : List ℕ → Option (Option ℕ)
number_or_none word = if bytes_eq word (codes "none") then Some None else option_map Some (number_of 64 word)

-- whether a word says a number that fits in 64 bits
abbrev pub is_number : List ℕ → Bool
is_number word = is_some (number_of 64 word)

-- what comes next, if there was something to read
infixl 10 ◌>>=◌
abbrev pub ◌>>=◌ : {A B : Type 0} → Option A → (A → Option B) → Option B
o >>= f = option_and_then f o

-- the key and the moment that two words say
abbrev pub key_at : List ℕ → List ℕ → Option (ℕ × Instant)
key_at key now = do
  k ← number_of 32 key
  n ← number_of 64 now
  Some (k, record { 0 = n })

-- one to ten digits weigh the number that they say, if it is below 2^32, and any other word weighs 1
abbrev pub weight_of : List ℕ → ℕ
weight_of word = if nat_lt 10 (length word) then 1 else unwrap_or (number_of 32 word) 1

-- what a line asks for whose first word stands alone
abbrev pub alone : {A : Type 0} → A → List (List ℕ) → Option A
alone asked [] = Some asked
alone asked _ = None

-- the number of a line that asks for one alone
abbrev pub lone_number : List (List ℕ) → Option ℕ
lone_number (word ∷ []) = number_of 64 word
lone_number _ = None
