-- What is known of a cache's policies; durations are in nanoseconds.
use Rattle.std.specs.Prelude.{ℕ, Option}

-- what a cache tells of its policy
pub record Limits : Type 0 where
  pub max_capacity : Option ℕ
  pub time_to_live : Option ℕ
  pub time_to_idle : Option ℕ

-- when entries expire
pub record Expirations (X : Type 0) : Type 0 where
  pub time_to_live : Option ℕ
  pub time_to_idle : Option ℕ
  pub expiry : Option X
