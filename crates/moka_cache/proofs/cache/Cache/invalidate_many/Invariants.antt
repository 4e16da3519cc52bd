use Rattle.std.proofs.Common.{◌≡◌, List, ◌++◌, length, Ok}
use Rattle.moka_records.specs.Hashing.{key_hash}
use Rattle.moka_calls.specs.Many.{Each, Invalidates}
use Rattle.moka_calls.specs.Synchronous.{Makes, hears_clones, meaning_of}
use Rattle.moka_cache.proofs.cache.Cache.invalidate_many.Given as goal

abbrev pub invariant-loop-key : goal.invariant-loop-key
invariant-loop-key g l = record {
  made : (before : List g.row.K.Denot) × (l.fn.keys ≡ before ++ l.rest)
      × Makes (meaning_of g.K.PartialEq.eq (hears_clones g.K.Clone.is_clone g.V.Clone.is_clone g.L.Listener.tells) g.P.PredicateFn.says g.W.Weigher.weighs g.C.Clock.reads g.X.Expiry.created g.X.Expiry.read g.X.Expiry.updated)
      (Each (Invalidates (λ (key : g.row.K.Denot). key_hash g.S.BuildHasher g.S.Hasher.Hasher l.fn.self.engine.hasher (g.K.Hash.hash_input key)) l.fn.now (Ok tt)) before) l.fn.self.engine l.fn.clock l.self.engine l.clock;
  settings : l.self.engine.state.settings ≡ l.fn.self.engine.state.settings;
  counted : l.self.stats ≡ l.fn.self.stats;
}

abbrev pub decreases-loop-key : goal.decreases-loop-key
decreases-loop-key g l = length l.rest
