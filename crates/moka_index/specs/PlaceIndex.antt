-- What a contract sees of a `PlaceIndex`.
use Rattle.std.specs.Prelude.{ℕ, refl}
use Rattle.std.specs.Coded.{Coded, code_by, coded×, coded_ℕ}
use Rattle.std.specs.FinMap as finite
use Rattle.std.specs.FinMap.{FinMap}
use Rattle.std.specs.Ordering.{nat_cmp}

-- the hash of each place, and how many more places fit with no memory
pub record Index : Type 0 where
  pub entries : FinMap nat_cmp ℕ
  pub room : ℕ

-- an index is stored as the pair of its fields
abbrev pub index_code : Coded Index
index_code = code_by (FinMap nat_cmp ℕ × ℕ) (coded× (finite.code coded_ℕ coded_ℕ) coded_ℕ) (λ i. (i.entries, i.room))
    (λ p. record { entries = p.0; room = p.1 }) (λ _. refl)
