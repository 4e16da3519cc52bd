-- The configuration that a caller hands in.
use Rattle.std.specs.Prelude.{ℕ, ◌+◌, ◌-◌, ◌/◌, ◌^◌, min, Bool, ◌&&◌, List, Option, Some, None, length, nat_eq, nat_le, slice_get, if◌then◌else◌}
use Rattle.std.specs.Int.{w64, from_le_bytes}
use Rattle.std.specs.Option.{option_map_or}
use Rattle.std.specs.Simd.{first_chunks}
use Rattle.moka_bench.specs.declared.config.Config.{Config}

-- the word at an index, with the least byte first, and 0 past the end
abbrev pub word_at : List ℕ → ℕ → ℕ
word_at bytes index = option_map_or (from_le_bytes w64) (slice_get (first_chunks 8 (length bytes / 8) bytes) index) 0

-- how many additions to the plain engine are asked for: an expiry, the synchronous cache, a listener, a weigher, texts
abbrev pub additions : List ℕ → ℕ
additions bytes = min
    (word_at bytes 4 + word_at bytes 10 + word_at bytes 11 + word_at bytes 12 + min (word_at bytes 8) 1) (2 ^ 64 - 1)

-- 16 words for the configuration and 8 for the counts; one of both policies, one of both hashers, and at most one
-- addition
abbrev pub is_served : List ℕ → ℕ → Bool
is_served bytes counts = nat_eq (length bytes) 128 && (nat_eq counts 64
    && (nat_le (word_at bytes 3) 1 && (nat_le (word_at bytes 7) 1 && nat_le (additions bytes) 1)))

-- the number at an index, but for the one that stands for none
abbrev pub optional_at : List ℕ → ℕ → Option ℕ
optional_at bytes index = if nat_eq (word_at bytes index) (2 ^ 64 - 1) then None else Some (word_at bytes index)

-- the settings that the words say; what is told by a test is so at 1 alone
abbrev pub config_of : List ℕ → Config
config_of bytes = record {
  max_capacity = optional_at bytes 0;
  time_to_live = optional_at bytes 1;
  time_to_idle = optional_at bytes 2;
  is_lru = nat_eq (word_at bytes 3) 1;
  has_expiry = nat_eq (word_at bytes 4) 1;
  is_automatic = nat_eq (word_at bytes 5) 1;
  initial_capacity = word_at bytes 6;
  is_sip = nat_eq (word_at bytes 7) 1;
  texts = word_at bytes 8;
  step = word_at bytes 9;
  is_synchronous = nat_eq (word_at bytes 10) 1;
  has_listener = nat_eq (word_at bytes 11) 1;
  has_weigher = nat_eq (word_at bytes 12) 1;
}
