-- How one group holds its places. No public clause cites this module.
use Rattle.std.specs.Prelude.{◌≡◌, ℕ, ◌+◌, ◌-◌, ◌*◌, ◌/◌, ◌%◌, ◌^◌, ◌≤◌, cond, max, nat_lt, Option, Some, None, length, replicate, slice_index, slice_set}
use Rattle.moka_index.specs.declared.group.Group.{Group}

-- the group in which the search for a hash begins, of n
unfoldable pub home : ℕ → ℕ → ℕ
home n hash = hash % 2 ^ 32 * n / 2 ^ 32

-- a group with no places
abbrev pub empty_group : Group
empty_group = record { hashes = replicate 7 0; count = 0; places = replicate 7 0; reach = 0 }

-- the hash in a lane
abbrev pub lane_hash : Group → ℕ → ℕ
lane_hash g lane = slice_index g.hashes lane

-- the place in a lane
abbrev pub lane_place : Group → ℕ → ℕ
lane_place g lane = slice_index g.places lane

-- the place and the hash in a lane that is in use
unfoldable pub entry_in : Group → ℕ → Option (ℕ × ℕ)
entry_in g lane = cond (nat_lt lane g.count) (Some (lane_place g lane, lane_hash g lane)) None

-- the group with one more place, in the first lane that is free
abbrev pub with_entry : Group → ℕ → ℕ → Group
with_entry g hash place = record g {
  hashes = slice_set g.hashes g.count hash;
  places = slice_set g.places g.count place;
  count = g.count + 1;
}

-- the group without the place in a lane, into which the last one has moved
abbrev pub without_lane : Group → ℕ → Group
without_lane g lane = record g {
  hashes = slice_set g.hashes lane (lane_hash g (g.count - 1));
  places = slice_set g.places lane (lane_place g (g.count - 1));
  count = g.count - 1;
}

-- the group with a reach of at least this
abbrev pub raised : Group → ℕ → Group
raised g step = record g { reach = max g.reach step }

-- the group has seven lanes, and no more are in use
pub record HasLanes (g : Group) : Type 0 where
  pub hashes : length g.hashes ≡ 7
  pub places : length g.places ≡ 7
  pub count : g.count ≤ 7
