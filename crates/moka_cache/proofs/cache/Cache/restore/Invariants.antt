use Rattle.std.proofs.Common.{◌≡◌, List, ◌++◌}
use Rattle.std.specs.Vec.Iter.{into_iter_items, into_iter_len}
use Rattle.moka_engine.specs.parts.Restored.{Restored}
use Rattle.moka_records.specs.Hashing.{key_hash}
use Rattle.moka_cache.specs.Saves.{AddsOnly, IsRoomyFor, PutsAllBack, TakesOnlyExpired}
use Rattle.moka_calls.specs.Synchronous.{meaning_of}
use Rattle.moka_cache.specs.Unsent.{HidesNoMore}
use Rattle.moka_cache.proofs.There.{HaveRecords}
use Rattle.moka_cache.proofs.cache.Cache.restore.Given as goal

abbrev pub invariant-loop-item : goal.invariant-loop-item
invariant-loop-item g l = record {
  adds : (done : List (Restored g.row.K.Denot g.row.V.Denot)) × (l.fn.items.items ≡ done ++ into_iter_items l.rest) × AddsOnly done l.fn.self.engine.state l.self.engine.state
      × PutsAllBack (meaning_of g.K.PartialEq.eq g.L.Listener.tells g.P.PredicateFn.says g.W.Weigher.weighs g.C.Clock.reads g.X.Expiry.created g.X.Expiry.read g.X.Expiry.updated)
      (λ (h : g.row.S.Denot) (key : g.row.K.Denot). key_hash g.S.BuildHasher g.S.Hasher.Hasher h (g.K.Hash.hash_input key)) l.fn.now done l.fn.self.engine l.fn.clock l.self.engine l.clock
      × TakesOnlyExpired g.W.Weigher.weighs done l.fn.now.0 l.fn.self.engine.state l.self.engine.state
      × (IsRoomyFor g.W.Weigher.weighs l.fn.items.items l.fn.self.engine.state → HaveRecords g.K.PartialEq.eq g.W.Weigher.weighs l.fn.now.0 l.fn.self.engine.state l.self.engine.state done);
  hides : HidesNoMore l.fn.self.engine.state l.self.engine.state;
  counted : l.self.stats ≡ l.fn.self.stats;
}

abbrev pub decreases-loop-item : goal.decreases-loop-item
decreases-loop-item g l = into_iter_len l.rest
