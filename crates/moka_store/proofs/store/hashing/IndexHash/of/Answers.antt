use Rattle.std.proofs.Common.{refl}
use Rattle.moka_store.specs.Hashing.{index_hash}
use Rattle.moka_store.proofs.store.hashing.IndexHash.of.Goals as goal

pub returns : goal.returns
unfolding index_hash
returns c = refl
