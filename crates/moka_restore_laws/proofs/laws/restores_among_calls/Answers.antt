use Rattle.moka_records.specs.Hashing.{key_hash}
use Rattle.moka_calls.specs.Synchronous.{meaning_of}
use Rattle.moka_restore_laws.proofs.Among.{restores_among_calls}
use Rattle.moka_restore_laws.proofs.laws.restores_among_calls.Goals as goal

pub returns : goal.returns
returns g c = restores_among_calls (meaning_of g.K.PartialEq.eq g.L.Listener.tells g.P.PredicateFn.says g.W.Weigher.weighs g.C.Clock.reads g.X.Expiry.created g.X.Expiry.read g.X.Expiry.updated)
    (λ h k. key_hash g.S.BuildHasher g.S.Hasher.Hasher h (g.K.Hash.hash_input k)) g.met.K.Eq.laws
