use Rattle.moka_segments.proofs.KeptInPlace.{get_with}
use Rattle.moka_records.specs.Hashing.{key_hash}
use Rattle.moka_segments.proofs.laws.get_with_keeps_keys.Goals as goal

pub returns : goal.returns
returns g c = get_with (λ h k. key_hash g.S.BuildHasher g.S.Hasher.Hasher h (g.K.Hash.hash_input k)) _ (λ _ _. ⊥) _ _
