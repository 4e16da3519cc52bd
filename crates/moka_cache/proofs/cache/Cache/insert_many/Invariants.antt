use Rattle.std.proofs.Common.{◌≡◌, ◌+◌, List, ◌++◌, length}
use Rattle.std.specs.Vec.Iter.{into_iter_items, into_iter_len}
use Rattle.moka_records.specs.Hashing.{key_hash}
use Rattle.moka_calls.specs.Many.{Each, InsertsItem}
use Rattle.moka_calls.specs.Synchronous.{Makes, meaning_of}
use Rattle.moka_cache.proofs.cache.Cache.insert_many.Given as goal

abbrev pub invariant-loop-key : goal.invariant-loop-key
invariant-loop-key g l = record {
  made : (put : List (g.row.K.Denot × g.row.V.Denot)) × (l.fn.items.items ≡ put ++ into_iter_items l.rest) × (length put + into_iter_len l.rest ≡ l.total)
      × Makes (meaning_of g.K.PartialEq.eq g.L.Listener.tells g.P.PredicateFn.says g.W.Weigher.weighs g.C.Clock.reads g.X.Expiry.created g.X.Expiry.read g.X.Expiry.updated)
      (Each (InsertsItem (λ (key : g.row.K.Denot). key_hash g.S.BuildHasher g.S.Hasher.Hasher l.fn.self.engine.hasher (g.K.Hash.hash_input key)) l.fn.now) put) l.fn.self.engine l.fn.clock l.self.engine l.clock;
  counted : l.self.stats ≡ l.fn.self.stats;
}

abbrev pub decreases-loop-key : goal.decreases-loop-key
decreases-loop-key g l = into_iter_len l.rest
