use Rattle.moka_segments.proofs.KeptInPlace.{get_with_if_made, get_with_if_no_error}
use Rattle.moka_records.specs.Hashing.{key_hash}
use Rattle.moka_segments.proofs.laws.other_makers_keep_keys.Goals as goal

pub returns : goal.returns
returns g c =
    let hash_of = λ (h : g.row.S.Denot) (k : g.row.K.Denot). key_hash g.S.BuildHasher g.S.Hasher.Hasher h (g.K.Hash.hash_input k) in
    record {
      optionally_get_with = get_with_if_made hash_of _ (λ _ _. ⊥) _ _;
      try_get_with = get_with_if_no_error hash_of _ (λ _ _. ⊥) _ _;
    }
