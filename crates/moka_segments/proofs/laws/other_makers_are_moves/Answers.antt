use Rattle.moka_records.specs.Hashing.{key_hash}
use Rattle.moka_calls.specs.Synchronous.{meaning_of}
use Rattle.moka_segments.proofs.Moving.{get_with_if_made, get_with_if_no_error}
use Rattle.moka_segments.proofs.laws.other_makers_are_moves.Goals as goal

pub returns : goal.returns
returns g c =
    let hash_of = λ (h : g.row.S.Denot) (k : g.row.K.Denot). key_hash g.S.BuildHasher g.S.Hasher.Hasher h (g.K.Hash.hash_input k) in
    let m = meaning_of g.K.PartialEq.eq g.L.Listener.tells g.P.PredicateFn.says g.W.Weigher.weighs g.C.Clock.reads g.X.Expiry.created g.X.Expiry.read g.X.Expiry.updated in
    record {
      optionally_get_with = get_with_if_made hash_of m g.K.Clone.is_clone g.V.Clone.is_clone _;
      try_get_with = get_with_if_no_error hash_of m g.K.Clone.is_clone g.V.Clone.is_clone _;
    }
