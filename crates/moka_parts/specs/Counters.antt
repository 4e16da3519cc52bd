-- What a cache counts of its look-ups.
use Rattle.std.specs.Prelude.{ℕ, ◌+◌, min, List, [], ◌∷◌, Option, Some, None, Result, Ok, Err}
use Rattle.moka_types.specs.declared.error.OutOfMemory.{OutOfMemory}
use Rattle.moka_records.specs.Time.{greatest}
use Rattle.moka_parts.specs.declared.stats.Stats.{Stats}

-- one more, saturating
abbrev pub one_more : ℕ → ℕ
one_more n = min (n + 1) greatest

-- nothing was counted
abbrev pub no_stats : Stats
no_stats = record { hits = 0; misses = 0; loads = 0 }

-- a look-up that was answered is a hit or a miss
abbrev pub after_look_up : {V E : Type 0} → Result (Option V) E → Stats → Stats
after_look_up (Ok (Some value)) s = record s { hits = one_more s.hits }
after_look_up (Ok None) s = record s { misses = one_more s.misses }
after_look_up (Err refused) s = s

-- look-ups that found this, one after the other
abbrev pub after_look_ups : {V : Type 0} → List (Option V) → Stats → Stats
after_look_ups [] s = s
after_look_ups {V} (found ∷ rest) s = after_look_ups rest (after_look_up {V = V} {E = OutOfMemory} (Ok found) s)

-- a maker was called
abbrev pub after_load : Stats → Stats
after_load s = record s { loads = one_more s.loads }

-- a look-up, after which a maker was called if there is something made
abbrev pub after_get_with : {A B E : Type 0} → Option A → Result B E → Stats → Stats
after_get_with None (Ok value) s = record s { hits = one_more s.hits }
after_get_with None (Err refused) s = s
after_get_with (Some made) answer s = record s { misses = one_more s.misses; loads = one_more s.loads }
