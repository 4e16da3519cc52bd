-- What a listener counts of the removals that it is told of.
use Rattle.std.specs.Prelude.{◌≡◌, ◌≤◌, Bool, true, false, List, count_by, Option, Some, None, option_map}
use Rattle.moka_types.specs.declared.calls.Call.{Call}
use Rattle.moka_types.specs.declared.calls.Reply.{Reply}
use Rattle.moka_parts.specs.declared.notification.RemovalCause.{RemovalCause}
use Rattle.moka_parts.specs.declared.notification.RemovalCause.TheVariants.{Expired, Explicit, Replaced, Size}
use Rattle.moka_parts.specs.Notices.{Notice}
use Rattle.moka_parts.specs.Runs.{Engine, notices_of}
use Rattle.moka_parts.specs.State.{Meaning}
use Rattle.moka_parts.specs.Surroundings.{Heard}
use Rattle.moka_records.specs.Time.{greatest, plus}
use Rattle.moka_calls.specs.declared.removals.Removals.{Removals}
use Rattle.moka_calls.specs.declared.removals.CountingListener.{CountingListener}
use Rattle.moka_parts.specs.Counters.{one_more}
use Rattle.moka_calls.specs.Synchronous.{Made}

-- nothing was counted
abbrev pub no_removals : Removals
no_removals = record { expired = 0; explicit = 0; replaced = 0; size = 0 }

-- a removal was counted
abbrev pub after_removal : RemovalCause → Removals → Removals
after_removal Expired s = record s { expired = one_more s.expired }
after_removal Explicit s = record s { explicit = one_more s.explicit }
after_removal Replaced s = record s { replaced = one_more s.replaced }
after_removal Size s = record s { size = one_more s.size }

-- a notice is counted, and heard by the listener within
abbrev pub counting : {K V L : Type 0} → (L → K → V → RemovalCause → L → Type 0) → CountingListener L → K → V →
    RemovalCause → CountingListener L → Type 0
counting tells before key value cause after = (after.removals ≡ after_removal cause before.removals)
    × tells before.listener key value cause after.listener

-- what was counted, if a listener is set
abbrev pub removals_of : {L : Type 0} → Option (CountingListener L) → Removals
removals_of None = no_removals
removals_of (Some counted) = counted.removals

-- the listener within
abbrev pub inner_of : {L : Type 0} → Option (CountingListener L) → Option L
inner_of {L} counted = option_map (λ (l : CountingListener L). l.listener) counted

-- the notice has this cause
abbrev pub is_of : {K V : Type 0} → RemovalCause → Notice K V → Bool
is_of Expired (key, value, Expired) = true
is_of Explicit (key, value, Explicit) = true
is_of Replaced (key, value, Replaced) = true
is_of Size (key, value, Size) = true
is_of cause notice = false

-- the counters are numbers that the program holds
pub record AreHeld (s : Removals) : Type 0 where
  pub expired_held : s.expired ≤ greatest
  pub explicit_held : s.explicit ≤ greatest
  pub replaced_held : s.replaced ≤ greatest
  pub size_held : s.size ≤ greatest

-- each counter rose by the number of notices of its cause, saturating
pub record AreCounted {K V : Type 0} (notices : List (Notice K V)) (s t : Removals) : Type 0 where
  pub expired : t.expired ≡ plus s.expired (count_by (is_of Expired) notices)
  pub explicit : t.explicit ≡ plus s.explicit (count_by (is_of Explicit) notices)
  pub replaced : t.replaced ≡ plus s.replaced (count_by (is_of Replaced) notices)
  pub size : t.size ≡ plus s.size (count_by (is_of Size) notices)

-- ---- laws

-- over any list of calls that were made (`Made`) the counters are the notices of its run, by cause
abbrev pub CountsRemovals : {K V X L P W C : Type 0} → Type 0 → Meaning K V X (CountingListener L) P W C (Unit {0}) →
    Type 0
CountsRemovals {K} {V} {X} {L} {P} {W} {C} S m = (calls : List (Call K V P)) (replies : List (Reply K V P))
    (old new : Engine K V S X (CountingListener L) P W) (clock clock_after : C) → AreHeld (removals_of old.listener) →
    (made : Made m calls replies old clock new clock_after) →
    AreCounted (notices_of made.steps) (removals_of old.listener) (removals_of new.listener)
    × AreHeld (removals_of new.listener)

-- and over whatever was heard by this telling
abbrev pub CountsHeard : {K V L : Type 0} → (CountingListener L → K → V → RemovalCause → CountingListener L → Type 0) →
    Type 0
CountsHeard {K} {V} {L} tells = (before after : Option (CountingListener L)) (notices : List (Notice K V)) →
    AreHeld (removals_of before) → Heard tells before notices after →
    AreCounted notices (removals_of before) (removals_of after) × AreHeld (removals_of after)

-- and the listener within hears of each
abbrev pub PassesOn : {K V L : Type 0} → (L → K → V → RemovalCause → L → Type 0) → Type 0
PassesOn {K} {V} {L} tells = (before after : Option (CountingListener L)) (notices : List (Notice K V))
    → Heard (counting tells) before notices after → Heard tells (inner_of before) notices (inner_of after)
