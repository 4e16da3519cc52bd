-- What a read finds and does, and how it is counted.
use Rattle.std.specs.Prelude.{◌≡◌, ◌==◌, ◌<◌, ◌+◌, ◌-◌, ◌^◌, ℕ, Bool, false, Option, None, Ok, is_some, MatchBool, if◌then◌else◌}
use Rattle.moka_engine.specs.declared.FixedClock.{FixedClock}
use Rattle.moka_engine.specs.parts.Instant.{Instant}
use Rattle.moka_engine.specs.parts.Reply.TheVariants as reply
use Rattle.moka_engine.specs.Calls.{ContainsStep}
use Rattle.moka_engine.specs.Runs.{Engine}
use Rattle.moka_engine.specs.State.{State, Meaning}
use Rattle.moka_cache.specs.Synchronous.{GetsValue, InsertsEntry, Just, Makes, meaning_of, own_run}
use Rattle.moka_hit_ratio.specs.declared.tally.Tally.{Tally}

-- whether the cache holds the key, if no predicate covers anything
abbrev pub IsKept : {V X P W : Type 0} → State ℕ V X P W → ℕ → Bool → Type 0
IsKept s key found = ContainsStep (λ _ _ _ answer. answer ≡ false) (λ a b. a == b) s key 0 found

-- what the parts of the cache mean, which has no listener, no expiry, no predicates and no weigher
abbrev pub plain_meaning : {X L P W : Type 0} → Meaning ℕ ℕ X L P W FixedClock (Unit {0})
plain_meaning = meaning_of (λ a b. a == b) (λ before _ _ _ after. after ≡ before) (λ _ _ _ answer. answer ≡ false)
    (λ _ _ _ weight. weight ≡ 1) (λ before moment after. (moment ≡ before.0) × (after ≡ before)) (λ _ _ _ _. None)
    (λ _ _ _ _ left _. left) (λ _ _ _ _ left. left)

-- nothing expires, so all is done at one moment, by a clock that stands still
abbrev pub at_start : Instant
at_start = record { 0 = 0 }

abbrev pub still : FixedClock
still = record { 0 = at_start }

module _ {S X L P W : Type 0} (key : ℕ) where
  -- the key was put in under itself, and a run followed
  abbrev pub PutsIn : Engine ℕ ℕ S X L P W → FixedClock → Engine ℕ ℕ S X L P W → Type 0
  PutsIn old clock new = (hash : ℕ) × (put : Engine ℕ ℕ S X L P W) × (between : FixedClock) × (after : FixedClock)
      × (more : Bool) × Makes plain_meaning (InsertsEntry key hash key at_start (Ok tt)) old clock put between
      × Makes plain_meaning (Just (own_run at_start) (reply.Run more)) put between new after

  -- the key was looked up, and put in only if it was not found
  abbrev pub ReadsThrough : Bool → Engine ℕ ℕ S X L P W → Engine ℕ ℕ S X L P W → Type 0
  ReadsThrough found old new = (hash : ℕ) × (looked : Engine ℕ ℕ S X L P W) × (between : FixedClock)
      × (value : Option ℕ) × (is_some value ≡ found)
      × Makes plain_meaning (GetsValue key hash at_start (Ok value)) old still looked between
      × MatchBool found (new ≡ looked) (PutsIn looked between new)

  -- the cache was read through, and the answer says whether it held the key
  abbrev pub IsRead : Bool → Engine ℕ ℕ S X L P W → Engine ℕ ℕ S X L P W → Type 0
  IsRead found old new = IsKept old.state key found × ReadsThrough found old new

-- one more read, which found its key or not, unless 2^64 - 1 are counted
abbrev pub Counts : Bool → Tally → Tally → Type 0
Counts found old new = old.reads < 2 ^ 64 - 1 →
    (new.reads ≡ old.reads + 1) × (new.hits ≡ old.hits + (if found then 1 else 0))

-- the same, if the read is counted at all
abbrev pub CountsIf : Bool → Bool → Tally → Tally → Type 0
CountsIf is_counted found old new = MatchBool is_counted (Counts found old new) (new ≡ old)
