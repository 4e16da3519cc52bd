-- When the housekeeper starts a run.
use Rattle.std.specs.Prelude.{ℕ, Bool, true, false, ◌&&◌, ◌||◌, nat_le, Option, Some, None, if◌then◌else◌}
use Rattle.moka_records.specs.declared.instant.Instant.{Instant}
use Rattle.moka_records.specs.Time.{plus}

-- what the housekeeper remembers
pub record Housekeeping : Type 0 where
  -- from this moment on a run is due by time
  pub run_after : Instant
  -- the last run left more
  pub more : Bool
  -- runs start by themselves
  pub automatic : Bool

-- what the housekeeper waits before a run, in nanoseconds
abbrev pub run_interval : ℕ
run_interval = 300000000

-- so many queued operations make a run due
abbrev pub flush_point : ℕ
flush_point = 64

-- the moment from which the next run is due
abbrev pub next_run : ℕ → Instant
next_run now = record { 0 = plus now run_interval }

-- a housekeeper made at now
abbrev pub new_housekeeping : ℕ → Housekeeping
new_housekeeping now = record { run_after = next_run now; more = false; automatic = true }

-- a run is due: more is left, or runs are automatic and the queue is long or the moment has come
abbrev pub is_due : Housekeeping → ℕ → ℕ → Bool
is_due h queued now = h.more || (h.automatic && (nat_le flush_point queued || nat_le h.run_after.0 now))

-- below this length of its queue no run is due before the moment has come; while more is left one always is
abbrev pub shortest_due : Bool → ℕ
shortest_due more = if more then 0 else flush_point

-- after a run of the housekeeper: its answer is kept only if a listener is set
abbrev pub after_run_due : Housekeeping → Bool → ℕ → Bool → Housekeeping
after_run_due h listening now answer =
    record h { run_after = next_run now; more = if listening then answer else h.more }

-- the time limit that the housekeeper gives to a run: only if a listener is set
abbrev pub limit_of_run : Bool → ℕ → Option ℕ
limit_of_run listening limit = if listening then Some limit else None

-- from now on only what is left, or a caller, starts a run
abbrev pub without_automatic : Housekeeping → Housekeeping
without_automatic h = record h { automatic = false }
