-- What holds of a new cache.
use Rattle.std.proofs.Common.{refl, ℕ, ◌<◌, Bool, Option, arith, nat_cmp}
use Rattle.moka_laws.proofs.Types.{Settings}
use Rattle.std.specs.List.{IsDistinct}
use Rattle.std.specs.FinMap.{empty, get-empty}
use Rattle.moka_parts.specs.State.{new_state}
use Rattle.moka_parts.specs.Settling.{IsConsistentState, IsValid}
use Rattle.moka_records.proofs.Maps.{nothing_at}
use Rattle.moka_laws.proofs.Rising.{rising_at_first}
use Rattle.moka_laws.proofs.AtEnd.{nothing_waits}

module _ (K V P : Type 0) {X W : Type 0} (settings : Settings X W) (capacity : Option ℕ) (now first_ticket : ℕ) where
  -- nothing is kept and nothing waits
  pub new_is_consistent : IsConsistentState (new_state {K = K} {V = V} {P = P} settings capacity now first_ticket)
  unfolding IsDistinct
  new_is_consistent = record { once = tt; sound = λ n. rw (get-empty nat_cmp n) tt }

  -- and numbers begin at 1
  pub new_is_valid : (eq : K → K → Bool) → IsValid eq (new_state {K = K} {V = V} {P = P} settings capacity now first_ticket)
  new_is_valid eq = record {
    consistent = new_is_consistent;
    numbered = record {
      numbered = record {
        numbered = λ n r there. absurd (nothing_at n r there);
        known = λ o waits. absurd (nothing_waits empty refl o waits);
        one_each = λ a b p q there also same. absurd (nothing_at a p there);
      };
      ticketed = record {
        handed = λ ticket o there. absurd (nothing_at ticket o there);
        sent = λ q at. let below : at.0 < 0 = at.1 in absurd (omega arith);
      };
      disabled = λ off. record { no_records = refl; no_members = refl; no_count = refl; no_weight = refl };
    };
    rising = rising_at_first;
  }
