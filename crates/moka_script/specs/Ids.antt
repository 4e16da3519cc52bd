-- The identifiers that the cache of a script asks for.
use Rattle.std.specs.Prelude.{ℕ, ◌+◌, ◌-◌, ◌^◌, min, Bool, if◌then◌else◌}
use Rattle.moka_script.specs.declared.sources.CountedIds.{CountedIds}

-- none is given yet
abbrev pub first_ids : Bool → CountedIds
first_ids repeats = record { given = 0; repeats = repeats }

-- the number that is given next: 1 each time, or counted up from 1 to the greatest, which is given again and again
abbrev pub next_given : CountedIds → ℕ
next_given ids = if ids.repeats then 1 else min (ids.given + 1) (2 ^ 64 - 1)
