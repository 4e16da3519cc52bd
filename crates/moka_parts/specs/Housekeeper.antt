-- The housekeeper as contracts see it, and a run that it makes.
use Rattle.std.specs.Prelude.{◌≡◌, ℕ, Bool, List, Option}
use Rattle.std.specs.Duration.{as_nanos}
use Rattle.moka_parts.specs.declared.housekeeper.HousekeeperConfig.{HousekeeperConfig}
use Rattle.moka_records.specs.declared.instant.Instant.{Instant}
use Rattle.moka_parts.specs.Housekeeping.{Housekeeping, new_housekeeping, after_run_due, limit_of_run}
use Rattle.moka_parts.specs.Surroundings.{Leads}

-- what the housekeeper remembers, and what it gives to its runs; the limit is in nanoseconds
pub record Keeper : Type 0 where
  pub housekeeping : Housekeeping
  -- a listener is set
  pub listening : Bool
  pub run_limit : ℕ
  pub run_repeats : ℕ
  pub run_batch : ℕ

-- a housekeeper made at now
abbrev pub new_keeper : Bool → HousekeeperConfig → ℕ → Keeper
new_keeper listening config now = record {
  housekeeping = new_housekeeping now;
  listening = listening;
  run_limit = as_nanos config.maintenance_task_timeout;
  run_repeats = config.max_log_sync_repeats;
  run_batch = config.eviction_batch_size;
}

module _ {T C : Type 0} (runs : T → ℕ → Option ℕ → ℕ → ℕ → List Instant → Bool → T → Type 0)
    (reads : C → Instant → C → Type 0) where
  -- one run at now, with the housekeeper's limit, repeats and batch; what runs goes from `s` to `t`, and the clock from
  -- `c` to `d`
  abbrev pub MakesRun : Keeper → T → ℕ → C → Keeper → T → C → Type 0
  MakesRun h s now c k t d =
      (readings : List Instant) × (answer : Bool) × Leads reads c readings d
      × runs s now (limit_of_run h.listening h.run_limit) h.run_repeats h.run_batch readings answer t
      × (k ≡ record h { housekeeping = after_run_due h.housekeeping h.listening now answer })
