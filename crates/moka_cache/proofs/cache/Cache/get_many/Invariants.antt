use Rattle.std.proofs.Common.{◌≡◌, ◌+◌, ◌≤◌, List, ◌++◌, length, map, Option, vec_len}
use Rattle.std.specs.Prelude.{vec_capacity}
use Rattle.moka_records.specs.Hashing.{key_hash}
use Rattle.moka_parts.specs.Counters.{after_look_ups}
use Rattle.moka_calls.specs.Many.{Each, GetsItem}
use Rattle.moka_calls.specs.Synchronous.{Makes, meaning_of}
use Rattle.moka_cache.proofs.cache.Cache.get_many.Given as goal

abbrev pub invariant-loop-key : goal.invariant-loop-key
invariant-loop-key g l = record {
  made : (got : List (g.row.K.Denot × Option g.row.V.Denot)) × (l.fn.keys ≡ map (λ g. g.0) got ++ l.rest) × (l.found.items ≡ map (λ g. g.1) got)
      × Makes (meaning_of g.K.PartialEq.eq g.L.Listener.tells g.P.PredicateFn.says g.W.Weigher.weighs g.C.Clock.reads g.X.Expiry.created g.X.Expiry.read g.X.Expiry.updated)
      (Each (GetsItem g.V.Clone.is_clone (λ (key : g.row.K.Denot). key_hash g.S.BuildHasher g.S.Hasher.Hasher l.fn.self.engine.hasher (g.K.Hash.hash_input key)) l.fn.now) got) l.fn.self.engine l.fn.clock l.self.engine l.clock;
  counted : l.self.stats ≡ after_look_ups l.found.items l.fn.self.stats;
  room : vec_len l.found + length l.rest ≤ vec_capacity l.found;
}

abbrev pub decreases-loop-key : goal.decreases-loop-key
decreases-loop-key g l = length l.rest
