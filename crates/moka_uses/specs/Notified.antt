-- Two values under one key, in a cache with a listener that counts what leaves.
use Rattle.std.specs.Prelude.{◌≡◌, ◌==◌, ◌+◌, ℕ, min, Some, Ok}
use Rattle.moka_engine.specs.parts.Call.TheVariants as call
use Rattle.moka_engine.specs.parts.Instant.{Instant}
use Rattle.moka_engine.specs.parts.Reply.TheVariants as reply
use Rattle.moka_engine.specs.parts.Ticket.{Ticket}
use Rattle.moka_engine.specs.Config.{Config, default_config, new_engine}
use Rattle.moka_engine.specs.Runs.{Engine}
use Rattle.moka_engine.specs.State.{Meaning}
use Rattle.moka_engine.specs.Time.{greatest}
use Rattle.moka_uses.specs.Made.{IsOneCall, engine_meaning}
use Rattle.moka_uses.specs.declared.notified.Counter.{Counter}

-- what such a cache is made with: a listener that has counted nothing
abbrev pub config : {X W : Type 0} → Config X Counter W
config = record default_config { listener = Some (record { count = 0 }) }

module _ {X P W : Type 0} where
  -- what its parts mean: the listener counts one more
  abbrev pub meaning : Meaning ℕ ℕ X Counter P W (Unit {0}) (Unit {0})
  meaning = record (engine_meaning (λ a b. a == b)) {
    tells = λ before _ _ _ after. after ≡ record { count = min (before.count + 1) greatest };
  }

  -- a new cache, made at the moment, made an insert of the first value under the key and a send of its operation, and
  -- then the same of the second; no other call
  abbrev pub PutsInTurn : {S : Type 0} → Instant → (key first second : ℕ) → Engine ℕ ℕ S X Counter P W → Type 0
  PutsInTurn {S} now key first second new = (begun one sent both : Engine ℕ ℕ S X Counter P W)
      × (hash other_hash : ℕ) × (early late : Ticket × Instant)
      × (begun ≡ new_engine config begun.hasher now.0 begun.room)
      × IsOneCall meaning begun one (call.Insert key hash first now) (reply.Insert (Ok early))
      × IsOneCall meaning one sent (call.Send early.0) (reply.Send (Ok tt))
      × IsOneCall meaning sent both (call.Insert key other_hash second now) (reply.Insert (Ok late))
      × IsOneCall meaning both new (call.Send late.0) (reply.Send (Ok tt))
