use Rattle.moka_records.specs.Hashing.{key_hash}
use Rattle.moka_calls.specs.Synchronous.{meaning_of}
use Rattle.moka_segments.proofs.Moving.{get_with}
use Rattle.moka_segments.proofs.laws.get_with_is_move.Goals as goal

pub returns : goal.returns
returns g c = get_with (λ h k. key_hash g.S.BuildHasher g.S.Hasher.Hasher h (g.K.Hash.hash_input k))
    (meaning_of g.K.PartialEq.eq g.L.Listener.tells g.P.PredicateFn.says g.W.Weigher.weighs g.C.Clock.reads g.X.Expiry.created g.X.Expiry.read g.X.Expiry.updated) g.K.Clone.is_clone g.V.Clone.is_clone _
