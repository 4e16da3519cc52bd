-- Lists of calls in which identifiers are asked for: registrations, joined with the calls that ask for none.
use Rattle.std.specs.Prelude.{◌≡◌, true, List, [], ◌∷◌, ◌++◌, Result}
use Rattle.uuid.specs.declared.Uuid.{Uuid}
use Rattle.moka_types.specs.declared.calls.Call.{Call}
use Rattle.moka_types.specs.declared.calls.Call.TheVariants as call
use Rattle.moka_types.specs.declared.calls.Reply.{Reply}
use Rattle.moka_types.specs.declared.calls.Reply.TheVariants as reply
use Rattle.moka_types.specs.declared.error.PredicateRefused.{PredicateRefused}
use Rattle.moka_parts.specs.declared.notification.RemovalCause.{RemovalCause}
use Rattle.moka_records.specs.declared.instant.Instant.{Instant}
use Rattle.moka_parts.specs.Calls.{InvalidateStep, only_ids}
use Rattle.moka_parts.specs.Drives.{Drives}
use Rattle.moka_parts.specs.Order.{IsWriteList}
use Rattle.moka_parts.specs.Runs.{Engine, Befalls}
use Rattle.moka_parts.specs.Settling.{IsValid}
use Rattle.moka_parts.specs.State.{Meaning, Events, keeps_write_list}
use Rattle.moka_parts.specs.Surroundings.{Leads}
use Rattle.moka_calls.specs.Synchronous.{Made, MadeAsking}

-- calls with registrations in between are one run: the second meaning is the first with a source of identifiers, and
-- registrations are told as it is said before both
pub record JoinsRegistrations {K V X L P W C I : Type 0} (S : Type 0) (told : L → K → V → RemovalCause → L → Type 0)
    (m : Meaning K V X L P W C (Unit {0})) (n : Meaning K V X L P W C I) : Type 0 where
  -- what was made leaves any source as it is
  pub asked_none : (calls : List (Call K V P)) (replies : List (Reply K V P)) (old new : Engine K V S X L P W)
      (clock clock_after : C) (ids : I) → Made m calls replies old clock new clock_after →
      MadeAsking n calls replies old clock ids new clock_after ids
  -- what `invalidate_entries_if` ensures is a chain of one step, whatever the clock is
  pub registered : (predicate : P) (now : Instant) (answer : Result Uuid (PredicateRefused P)) (e : Events K V)
      (old new : Engine K V S X L P W) (clock : C) (ids ids_after : I) →
      InvalidateStep old.state predicate now answer e.ids new.state → e ≡ only_ids e.ids → Befalls told e old new
      → Leads n.gives ids e.ids ids_after → MadeAsking n (call.InvalidateIf predicate now ∷ [])
      (reply.InvalidateIf answer ∷ []) old clock ids new clock ids_after
  -- one chain after another is a chain
  pub goes_on : (calls later : List (Call K V P)) (replies answers : List (Reply K V P))
      (old mid new : Engine K V S X L P W) (c1 c2 c3 : C) (i1 i2 i3 : I) →
      MadeAsking n calls replies old c1 i1 mid c2 i2 → MadeAsking n later answers mid c2 i2 new c3 i3 →
      MadeAsking n (calls ++ later) (replies ++ answers) old c1 i1 new c3 i3
  -- and from a valid cache keeps all that is promised of a list of calls
  pub keeps_promises : (calls : List (Call K V P)) (replies : List (Reply K V P)) (old new : Engine K V S X L P W)
      (clock clock_after : C) (ids ids_after : I) → IsValid n.eq old.state →
      (keeps_write_list old.state.settings ≡ true → IsWriteList old.state old.write_list) →
      MadeAsking n calls replies old clock ids new clock_after ids_after
      → Drives n calls replies old clock ids new clock_after ids_after
