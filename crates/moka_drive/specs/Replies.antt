-- What a removal makes of a cache with the notice after it, what tells what waits, and which look-ups are granted.
use Rattle.std.specs.Prelude.{◌≡◌, Bool, List, length, Option, Some, option_map, Result, Err, ⊤}
use Rattle.std.specs.FinMap.{len}
use Rattle.moka_records.specs.declared.instant.Instant.{Instant}
use Rattle.moka_types.specs.declared.calls.Reply.{Reply}
use Rattle.moka_types.specs.declared.calls.Reply.TheVariants as reply
use Rattle.moka_types.specs.declared.calls.KvEntry.{KvEntry}
use Rattle.moka_types.specs.declared.calls.Ticket.{Ticket}
use Rattle.moka_types.specs.declared.error.OutOfMemory.{OutOfMemory}
use Rattle.moka_parts.specs.Notices.{Notice}
use Rattle.moka_parts.specs.State.{State, Settings, Events}
use Rattle.moka_parts.specs.Calls.{only_notices, RemoveStep, NotifiesAfter, oldest_ticket}

-- the reply is that of a removal of the key with these events
abbrev pub RemovesAndNotifies : {K V X P W : Type 0} → (K → K → Bool) → State K V X P W → K → Option Instant →
    Reply K V P → Events K V → State K V X P W → Type 0
RemovesAndNotifies eq s key now (reply.Remove removed told) e t = RemoveStep eq s key removed t
    × NotifiesAfter s.settings removed now told e.notices × (e ≡ only_notices e.notices)
RemovesAndNotifies eq s key now r e t = ⊥

-- the notice of an entry that was removed, under whichever ticket, if the removal carried a moment
abbrev pub NotifiesEntry : {K V X W : Type 0} → Settings X W → KvEntry K V → Option Instant →
    Option (Result (Unit {0}) OutOfMemory) → List (Notice K V) → Type 0
NotifiesEntry settings entry now a notices = (ticket : Ticket)
    → NotifiesAfter settings (Some (entry, ticket)) now a notices

-- the reply tells what waits
abbrev pub TellsPending : {K V X P W : Type 0} → State K V X P W → Reply K V P → Type 0
TellsPending s (reply.Pending handed oldest writes reads) = (handed ≡ len s.outstanding)
    × (option_map (λ ticket. ticket.0) oldest ≡ oldest_ticket s) × (writes ≡ length s.writes) × (reads ≡ length s.reads)
TellsPending s r = ⊥

-- no clone of any key or value can fail
abbrev pub AreInfallible : {K V : Type 0} → (K → Type 0) → (V → Type 0) → Type 0
AreInfallible is_key_infallible is_infallible =
    ((key : _) → is_key_infallible key) × ((value : _) → is_infallible value)

-- the reply is not that a look-up, or the notice of a removal, was refused memory
abbrev pub IsGranted : {K V P : Type 0} → Reply K V P → Type 0
IsGranted (reply.Get (Err error)) = ⊥
IsGranted (reply.GetUnrecorded (Err error)) = ⊥
IsGranted (reply.Scan (Err error)) = ⊥
IsGranted (reply.Key (Err error)) = ⊥
IsGranted (reply.Remove removed (Some (Err error))) = ⊥
IsGranted r = ⊤
