-- What a run with a batch of 0 answers.
use Rattle.std.proofs.Common.{◌≡◌, ℕ, Bool, ◌||◌, Option, is_some, option_map, ap, sym, ◌∙◌}
use Rattle.std.specs.Duration.{as_nanos}
use Rattle.std.specs.declared.time.Duration.{Duration}
use Rattle.moka_records.specs.declared.instant.Instant.{Instant}
use Rattle.moka_records.proofs.Options.{mapped_is_some}

-- more is left where there is a time to live, a time to idle or an invalidation of all, or the capacity is exceeded
pub idle_answer : (live idle : Option ℕ) (time_to_live time_to_idle : Option Duration) → option_map as_nanos time_to_live ≡ live → option_map as_nanos time_to_idle ≡ idle → (bound : Option Instant) (over left : Bool)
    → left ≡ (((is_some time_to_live || is_some time_to_idle) || is_some bound) || over) → left ≡ (((is_some live || is_some idle) || is_some bound) || over)
idle_answer live idle time_to_live time_to_idle lives idles bound over left answer =
    answer ∙ ap (λ b. ((b || is_some time_to_idle) || is_some bound) || over) (sym (mapped_is_some as_nanos time_to_live) ∙ ap is_some lives)
    ∙ ap (λ b. ((is_some live || b) || is_some bound) || over) (sym (mapped_is_some as_nanos time_to_idle) ∙ ap is_some idles)
