-- A read through all caches.
use Rattle.std.specs.Prelude.{◌≡◌, ℕ, Bool}
use Rattle.moka_hit_ratio.specs.declared.bench.Caches.{Caches}
use Rattle.moka_hit_ratio.specs.Fifo.{after_read, is_kept}
use Rattle.moka_hit_ratio.specs.Reads.{CountsIf, IsRead}

-- the key was read through each cache, and each tally counts, if that is asked for, whether its cache held the key
pub record AreRead (key : ℕ) (is_counted : Bool) (old new : Caches) : Type 0 where
  pub tiny_lfu : (found : Bool) × IsRead key found old.tiny_lfu.cache.engine new.tiny_lfu.cache.engine
      × CountsIf is_counted found old.row.tiny_lfu new.row.tiny_lfu
  pub lru : (found : Bool) × IsRead key found old.lru.cache.engine new.lru.cache.engine
      × CountsIf is_counted found old.row.lru new.row.lru
  pub fifo : CountsIf is_counted (is_kept key old.fifo.queue.items) old.row.fifo new.row.fifo
  pub queue : new.fifo.queue.items ≡ after_read old.fifo.capacity key old.fifo.queue.items
