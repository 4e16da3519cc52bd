-- A line of printable bytes is text.
use Rattle.std.proofs.Common.{◌≡◌, refl, ℕ, zero, suc, Bool, true, false, ◌&&◌, nat_le, ◌<◌, List, [], ◌∷◌, arith, lit<}
use Rattle.std.specs.List.{list_all}
use Rattle.std.specs.Str.{IsAscii}
use Rattle.std.proofs.lemmas.Bool.Decides.{nat_tests}
use Rattle.moka_script.specs.Lex.{is_printable}

both : (a b c : Bool) → (a && b && c) ≡ true → (b ≡ true) × (c ≡ true)
both true true true e = (refl, refl)
both true true false e = cc
both true false c e = cc
both false b c e = cc

below : (b : ℕ) → nat_le b 0x7E ≡ true → b < 128
below b e = grind (arith, nat_tests)

pub IsAscii-printable : (line : List ℕ) → list_all is_printable line ≡ true → IsAscii line
IsAscii-printable [] e i = lit< tt
IsAscii-printable (b ∷ bs) e zero = below b (both (nat_le 0x20 b) (nat_le b 0x7E) (list_all is_printable bs) e).0
IsAscii-printable (b ∷ bs) e (suc i) = IsAscii-printable bs (both (nat_le 0x20 b) (nat_le b 0x7E) (list_all is_printable bs) e).1 i
