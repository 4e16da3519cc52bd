-- What std's `parse` reads of a numeral.
use Rattle.std.proofs.Common.{◌≡◌, ℕ, true, false, cond, Bool, not, ◌&&◌, ◌==◌, nat_lt, nat_le, List, length, rules, arith, ◌<◌, ◌^◌, Result, Ok, Err, Some, None, sym, ap, refl, ◌∙◌}
use Rattle.std.specs.List.{list_all}
use Rattle.std.specs.Char.{is_ascii_digit}
use Rattle.std.specs.Str.Parse.{digits_value, ParsesUnsigned}
use Rattle.std.specs.Result.{OkIff, result_ok}
use Rattle.std.proofs.lemmas.Bool.Decides.{nat_tests}
use Rattle.std.proofs.lemmas.Str.Parse.{IsNumeralModel, numerals_by_value, parse_digits, IsDigitsTest}
use Rattle.moka_script.specs.Lex.{number_of, is_numeral}

-- a text of digits, by std's words
is_digits_test : IsDigitsTest (λ ds. list_all is_ascii_digit ds ≡ true)
is_digits_test = search rules

is_numeral_model : IsNumeralModel (λ ds. list_all is_ascii_digit ds ≡ true) (digits_value 10)
is_numeral_model = numerals_by_value _ is_digits_test

-- a value that is there exactly below a bound
value_below : {E : Type 0} (r : Result ℕ E) (v bound size : ℕ) → OkIff r ((0 < size) × (v < bound)) v → 0 < size → result_ok r ≡ cond (nat_lt v bound) (Some v) None
value_below (Ok x) v bound size ok nonempty = grind (arith, nat_tests)
value_below (Err e) v bound size err nonempty = grind (arith, nat_tests)

-- what the test says of a numeral
nonempty_of : (a b c : Bool) → (a && (b && c)) ≡ true → (a ≡ true) × (c ≡ true)
nonempty_of true true true e = (refl, refl)
nonempty_of true true false e = cc
nonempty_of true false c e = cc
nonempty_of false b c e = cc

-- a numeral is read as its value, if that fits
pub number_of-numeral : {E : Type 0} (bits : ℕ) (word : List ℕ) (r : Result ℕ E) → ParsesUnsigned bits 10 word r → is_numeral word ≡ true → result_ok r ≡ number_of bits word
number_of-numeral bits word r parses numeral =
    let parts = nonempty_of (not (length word == 0)) (nat_le (length word) 20) (list_all is_ascii_digit word) numeral in
    let nonempty : 0 < length word = grind (arith, nat_tests, parts.0) in
    let read = value_below r _ _ _ (parse_digits is_numeral_model bits word r parses parts.1) nonempty in
    let tested = ap (λ b. cond (b && nat_lt (digits_value 10 word) (2 ^ bits)) (Some (digits_value 10 word)) None) numeral in
    read ∙ sym tested
