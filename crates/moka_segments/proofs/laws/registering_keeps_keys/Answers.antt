use Rattle.moka_records.specs.Hashing.{key_hash}
use Rattle.moka_calls.specs.Synchronous.{meaning_of}
use Rattle.moka_segments.proofs.KeptInPlace.{registering}
use Rattle.moka_segments.proofs.laws.registering_keeps_keys.Goals as goal

pub returns : goal.returns
returns g c = registering (λ h k. key_hash g.S.BuildHasher g.S.Hasher.Hasher h (g.K.Hash.hash_input k))
    (meaning_of {C = Unit {0}} g.K.PartialEq.eq g.L.Listener.tells g.P.PredicateFn.says g.W.Weigher.weighs (λ _ _ _. ⊥) g.X.Expiry.created g.X.Expiry.read g.X.Expiry.updated) _ _
