-- Which of the settings let records expire.
use Rattle.std.specs.Prelude.{◌≡◌, ℕ, false, None, Some}
use Rattle.std.specs.FinMap.{get}
use Rattle.moka_types.specs.declared.policy.EvictionPolicy.TheVariants.{Lru}
use Rattle.moka_records.specs.declared.records.Record.{Record}
use Rattle.moka_types.specs.Policy.{Expirations}
use Rattle.moka_records.specs.Records.{Records}
use Rattle.moka_parts.specs.State.{Settings}

-- which of the settings let records expire
abbrev pub expirations_of : {X W : Type 0} → Settings X W → Expirations X
expirations_of settings =
    record { time_to_live = settings.time_to_live; time_to_idle = settings.time_to_idle; expiry = settings.expiry }

-- settings of which only these are set
abbrev pub expiring_by : {X : Type 0} → Expirations X → Settings X (Unit {0})
expiring_by x = record {
  policy = Lru;
  time_to_live = x.time_to_live;
  time_to_idle = x.time_to_idle;
  expiry = x.expiry;
  weigher = None;
  listening = false;
  invalidator = false;
  run_limit = 0;
  run_repeats = 0;
  run_batch = 0;
}

-- no record has an expiry of its own
abbrev pub NoneExpires : {K V : Type 0} → Records K V → Type 0
NoneExpires records = (n : ℕ) (r : Record _ _) → get records n ≡ Some r → r.expires ≡ None
