-- What is known of a key at a moment.
use Rattle.std.specs.Prelude.{◌≡◌, ℕ, nat_eq, option_map}
use Rattle.moka_records.specs.Records.{is_applied, record_of_key}
use Rattle.moka_engine.specs.Sights.{IsSight}
use Rattle.moka_play.specs.Played.{ScriptState, script_meaning}
use Rattle.moka_explain.specs.declared.look.Look.{Look}

-- a look-up of the key meets this, for that reason, its last write was applied or not, and its record weighs this
pub record IsLook (s : ScriptState) (now : ℕ) (look : Look) : Type 0 where
  pub sight : IsSight script_meaning.says s now (record_of_key nat_eq s.records look.key) look.sight
  pub applied : look.applied ≡ option_map is_applied (record_of_key nat_eq s.records look.key)
  pub weight : look.weight ≡ option_map (λ r. r.weight) (record_of_key nat_eq s.records look.key)
