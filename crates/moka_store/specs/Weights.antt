-- The sum of the counted weights, kept beside the access list.
use Rattle.std.specs.Prelude.{◌≡◌, ℕ, ◌==◌, ◌^◌, ◌<◌, List, [], ◌∷◌, ⊤}
use Rattle.std.specs.List.{IsDistinct}
use Rattle.moka_records.specs.declared.records.Member.{Member}
use Rattle.moka_records.specs.Records.{numbers_of, total_weight}

-- each counted weight is a number of 32 bits
abbrev pub AreLight : List Member → Type 0
AreLight [] = ⊤
AreLight (a ∷ members) = (a.counted < 2 ^ 32) × AreLight members

-- the sum is that of the members, none of which stands twice
pub record IsWeighed (access : List Member) (sum : ℕ) : Type 0 where
  pub once : IsDistinct (◌==◌) (numbers_of access)
  pub light : AreLight access
  pub total : sum ≡ total_weight access
