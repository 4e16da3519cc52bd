-- What a look-up finds at the place of a row.
use Rattle.std.proofs.Common.{◌≡◌, ℕ, Bool, true, false, List, Option, Some, None, IsSome, refl, sym, ap, ◌∙◌}
use Rattle.std.proofs.lemmas.Bool.{false≢true}
use Rattle.std.specs.Option.{option_map_or}
use Rattle.moka_table.specs.RecordTable.{Row, row_at, number_at, stored_at}
use Rattle.moka_table.proofs.TableMaps.{read-of}

module _ {R : Type 0} (rows : List (Option (Row R))) (place number : ℕ) where
  -- the row at the place has this number and record
  pub record LiveRow (stored : R) : Type 0 where
    pub row : Row R
    pub at_is : row_at rows place ≡ Some row
    pub number_is : number ≡ row.number
    pub stored_is : row.stored ≡ Some stored

  pub live-row : (stored : R) → number ≡ number_at rows place → Some stored ≡ stored_at rows place → LiveRow stored
  live-row stored numbered has =
      let w = read-of (λ (row : Row R). row.stored) (row_at rows place) stored (sym has) in
      record { row = w.0; at_is = w.1; number_is = numbered ∙ ap (λ o. option_map_or (λ (row : Row R). row.number) o 0) w.1; stored_is = w.2 }

-- only the key of a record passes
pub stored_passes : {R : Type 0} (passes : R → Bool) (o : Option R) → option_map_or passes o false ≡ true → IsSome o
stored_passes passes None passing = absurd (false≢true passing)
stored_passes passes (Some r) passing = refl
