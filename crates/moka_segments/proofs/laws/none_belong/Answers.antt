use Rattle.moka_segments.proofs.Keys.{none_belong}
use Rattle.moka_records.specs.Hashing.{key_hash}
use Rattle.moka_segments.proofs.laws.none_belong.Goals as goal

pub returns : goal.returns
returns g c cache none = none_belong (λ h k. key_hash g.S.BuildHasher g.S.Hasher.Hasher h (g.K.Hash.hash_input k)) cache none
