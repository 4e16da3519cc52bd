use Rattle.std.proofs.Common.{ap}
use Rattle.moka_segments.proofs.Belonging.{in_one_segment}
use Rattle.moka_records.specs.Hashing.{key_hash}
use Rattle.moka_segments.proofs.laws.one_segment_each.Goals as goal

pub returns : goal.returns
returns g c = in_one_segment _ g.K.PartialEq.eq (λ h k q equal. ap (λ input. key_hash g.S.BuildHasher g.S.Hasher.Hasher h input) (g.met.K.Hash.respects_eq k q equal))
