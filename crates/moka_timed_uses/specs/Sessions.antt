-- Sessions that end by their idle time alone.
use Rattle.std.specs.Prelude.{◌≡◌, ℕ, Bool, ◌==◌, nat_lt, [], Some, None}
use Rattle.moka_engine.specs.parts.Record.{Record}
use Rattle.moka_engine.specs.Records.{record_of_key}
use Rattle.moka_engine.specs.State.{State}
use Rattle.moka_engine.specs.Time.{plus}

-- nothing hides the record but its idle time
pub record OnlyIdles {K V X P W : Type 0} (s : State K V X P W) (r : Record K V) (idle : ℕ) : Type 0 where
  pub unhidden : s.predicates ≡ []
  pub valid : s.invalid_before ≡ None
  pub live : s.settings.time_to_live ≡ None
  pub idles : s.settings.time_to_idle ≡ Some idle
  pub unexpiring : r.expires ≡ None

-- whether a session is found at the moment tells whether its last use lies less than the idle time before
abbrev pub IsFoundWithin : {V X P W : Type 0} → State ℕ V X P W → ℕ → ℕ → Bool → Type 0
IsFoundWithin {V} s user now found = (r : Record ℕ V) (idle : ℕ) → record_of_key (λ a b. a == b) s.records user ≡ Some r
    → OnlyIdles s r idle → found ≡ nat_lt now (plus r.read.0 idle)
