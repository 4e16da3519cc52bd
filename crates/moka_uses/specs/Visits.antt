-- Visits counted by page.
use Rattle.std.specs.Prelude.{◌≡◌, ◌==◌, ◌≤◌, ℕ, nat_le, Option, Some, None, Result, Ok, Err, option_map, unwrap_or, if◌then◌else◌}
use Rattle.moka_engine.specs.parts.Instant.{Instant}
use Rattle.moka_engine.specs.parts.OutOfMemory.{OutOfMemory}
use Rattle.moka_engine.specs.parts.Record.{Record}
use Rattle.moka_engine.specs.Records.{record_of_key}
use Rattle.moka_engine.specs.Runs.{Engine}
use Rattle.moka_engine.specs.State.{State, Meaning}
use Rattle.moka_engine.specs.Visibility.{has_lapsed}
use Rattle.moka_cache.specs.parts.Op.{Op}
use Rattle.moka_cache.specs.parts.Op.TheVariants.{Nop, Remove}
use Rattle.moka_cache.specs.parts.GetWithRefused.{GetWithRefused}
use Rattle.moka_cache.specs.parts.GetWithRefused.TheVariants as get_with_refused
use Rattle.moka_cache.specs.Compute.{InTurn}
use Rattle.moka_cache.specs.Counters.{one_more}
use Rattle.moka_cache.specs.Synchronous.{Makes, GetsValue, InsertsMade, RemovesEntry}
use Rattle.moka_uses.specs.Made.{LooksUp, plain_meaning}

module _ {X P W : Type 0} (s : State ℕ ℕ X P W) where
  -- the record's value, unless a moment hides it
  abbrev pub value_at : ℕ → Option (Record ℕ ℕ) → Option ℕ
  value_at now None = None
  value_at now (Some r) = if has_lapsed s.settings s.invalid_before r now then None else Some r.value

  -- the count of a page at a moment, if it is found then
  abbrev pub count_at : ℕ → ℕ → Option ℕ
  count_at page now = value_at now (record_of_key (λ a b. a == b) s.records page)

  -- the count with one more visit
  abbrev pub next_count : ℕ → ℕ → ℕ
  next_count page now = one_more (unwrap_or (count_at page now) 0)

  -- the page has this count, which has reached the limit
  abbrev pub IsFull : ℕ → ℕ → ℕ → ℕ → Type 0
  IsFull page now limit count = (count_at page now ≡ Some count) × (limit ≤ count)

  -- the page has no record, visible or hidden
  abbrev pub HasLeft : ℕ → Type 0
  HasLeft page = record_of_key (λ a b. a == b) s.records page ≡ None

-- what the parts of the cache mean: there is no listener, no expiry but by times, no predicate that covers a record,
-- and each count weighs 1
abbrev pub meaning : {X L P W C : Type 0} → (C → Instant → C → Type 0) → Meaning ℕ ℕ X L P W C (Unit {0})
meaning reads = plain_meaning (λ a b. a == b) reads

module _ {S X L P W C : Type 0} (m : Meaning ℕ ℕ X L P W C (Unit {0})) (page : ℕ) (now : Instant)
    (old : Engine ℕ ℕ S X L P W) (clock : C) (new : Engine ℕ ℕ S X L P W) (clock_after : C) where
  -- the cache made a look-up of the page, and put this count
  abbrev pub PutsCount : ℕ → Type 0
  PutsCount count = (hash : ℕ)
      × Makes m (InTurn (GetsValue page hash now (Ok (count_at old.state page now.0)))
      (InsertsMade page hash now count (Ok count))) old clock new clock_after

  -- the cache made a look-up of the page, which found this count, and a removal, which handed that out
  abbrev pub RemovesCount : ℕ → Option ℕ → Type 0
  RemovesCount count taken = (hash : ℕ) × (out : Option (ℕ × Result (Unit {0}) OutOfMemory))
      × (taken ≡ option_map (λ t. t.0) out)
      × Makes m (InTurn (GetsValue page hash now (Ok (Some count)))
      (RemovesEntry page hash now out)) old clock new clock_after

  -- the look-up of the page was refused
  abbrev pub RefusesLookup : Type 0
  RefusesLookup = (refused : OutOfMemory) × LooksUp m page now old clock new clock_after (Err refused)

  -- the look-up of the page was refused; or it was answered, and the insert of the next count refused
  abbrev pub RefusesCount : GetWithRefused ℕ ℕ → Type 0
  RefusesCount (get_with_refused.Lookup k) = RefusesLookup
  RefusesCount (get_with_refused.Insert refused) = (hash : ℕ)
      × Makes m (InTurn (GetsValue page hash now (Ok (count_at old.state page now.0)))
      (InsertsMade page hash now (next_count old.state page now.0) (Err refused))) old clock new clock_after

-- what is to be done with a page of this count
abbrev pub op_for : ℕ → Option ℕ → Op ℕ
op_for limit None = Nop
op_for limit (Some count) = if nat_le limit count then Remove else Nop
