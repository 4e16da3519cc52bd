-- Each notice finds its room: no more is told than was inserted and removed.
use Rattle.std.proofs.Common.{◌≡◌, refl, sym, ap, ◌∙◌, ℕ, ◌+◌, ◌≤◌, Bool, true, false, cond, nat_lt, List, [], ◌∷◌, ◌++◌, append_assoc, append-nil, length, length-append, map, Option, Some, None, Result, Ok, Err, arith, nat_eq, unwrap_or}
use Rattle.std.specs.Cmp.{IsEquivalence, nat_eq_equiv}
use Rattle.std.proofs.lemmas.List.{length-map}
use Rattle.std.proofs.lemmas.List.Sums.{sum_by-cons}
use Rattle.std.proofs.lemmas.List.Sorted.{length_permutation}
use Rattle.std.proofs.lemmas.Bool.Decides.{nat_tests}
use Rattle.moka_types.specs.declared.calls.Call.{Call}
use Rattle.moka_types.specs.declared.calls.Call.TheVariants as call
use Rattle.moka_types.specs.declared.calls.Reply.{Reply}
use Rattle.moka_types.specs.declared.calls.Reply.TheVariants as reply
use Rattle.moka_types.specs.declared.calls.KvEntry.{KvEntry}
use Rattle.moka_types.specs.declared.calls.Ticket.{Ticket}
use Rattle.moka_records.specs.declared.instant.Instant.{Instant}
use Rattle.moka_types.specs.declared.error.OutOfMemory.{OutOfMemory}
use Rattle.moka_parts.specs.Notices.{when_listening}
use Rattle.moka_parts.specs.State as state
use Rattle.moka_parts.specs.State.{State, Meaning, Events}
use Rattle.moka_parts.specs.Maintenance.{MaintenanceRun}
use Rattle.moka_parts.specs.Settling.{IsValid}
use Rattle.moka_parts.specs.Surroundings.{Leads, NoticeStep, Heard}
use Rattle.moka_parts.specs.Calls.{NotifiesAfter}
use Rattle.moka_parts.specs.Runs.{Step, CallStep, AreSteps, PromisedRun, calls_of, notices_of, last_state}
use Rattle.moka_parts.specs.Laws.{values_of, values_put, values_handed, values_told, AllConserveValues}
use Rattle.moka_laws.proofs.ConservedCalls.{tells_each_once}
use Rattle.moka_records.specs.declared.records.Record.{Record}
use Rattle.moka_laws.proofs.NewCache.{new_is_valid}
use Rattle.moka_records.proofs.Values.{values-empty}
use Rattle.moka_laws.proofs.Promises.{weaker_steps}
use Rattle.moka_script.specs.declared.key_range.KeyRange.{KeyRange}
use Rattle.moka_script.specs.Calls.{CallText}
use Rattle.moka_parts.proofs.RunsGoOn.{promised_is_run}
use Rattle.moka_script.specs.Notices.{ScriptNotice, Kept, Keeps, needs_room, room_of, listener_for, told_of}
use Rattle.moka_script.specs.Settings.{Chosen}
use Rattle.moka_play.specs.Played.{ScriptStep, script_meaning, first_state, start_of}

-- ---- the listener

-- with room for all of them, each notice is kept
keeps_all : (before after : Kept) (notices : List ScriptNotice) → Leads (NoticeStep Keeps) before notices after → length before.told + length notices ≤ before.room → after.told ≡ before.told ++ notices
keeps_all before after [] led fits = ap (λ kept. kept.told) led ∙ sym (append-nil before.told)
keeps_all before after (n ∷ ns) (mid, step, led) fits =
    let room : nat_lt (length before.told) before.room ≡ true = grind (arith, nat_tests) in
    let kept : mid ≡ record before { told = before.told ++ n ∷ [] } = step ∙ ap (λ b. cond b (record before { told = before.told ++ n ∷ [] }) before) room in
    let told : mid.told ≡ before.told ++ n ∷ [] = ap (λ kept. kept.told) kept in
    let same : mid.room ≡ before.room = ap (λ kept. kept.room) kept in
    let longer : length mid.told ≡ length before.told + 1 = ap length told ∙ length-append before.told (n ∷ []) in
    keeps_all mid after ns led (omega arith) ∙ (ap (λ l. l ++ ns) told ∙ append_assoc before.told (n ∷ []) ns)

-- ---- one call

module _ {X L W C I : Type 0} (m : Meaning ℕ (List ℕ) X L KeyRange W C I) where
  abbrev ReferenceStep : State ℕ (List ℕ) X KeyRange W → Call ℕ (List ℕ) KeyRange → Reply ℕ (List ℕ) KeyRange → Events ℕ (List ℕ) → State ℕ (List ℕ) X KeyRange W → Type 0
  ReferenceStep s c r e t = CallStep m (MaintenanceRun m.says) s c r e t

  at_most_one : (b : Bool) (n : ScriptNotice) → length (when_listening b (n ∷ [])) ≤ 1
  at_most_one true n = omega arith
  at_most_one false n = omega arith

  -- a removal tells no more than it hands back
  after_removal : (settings : state.Settings X W) (removed : Option (KvEntry ℕ (List ℕ) × Ticket)) (now : Option Instant) (told : Option (Result (Unit {0}) OutOfMemory)) (notices : List ScriptNotice) → NotifiesAfter settings removed now told notices → length notices ≤ length (values_handed {K = ℕ} {P = KeyRange} (reply.Remove removed told))
  after_removal settings (Some removed) (Some now) (Some (Ok u)) notices step = rw step (at_most_one settings.listening _)
  after_removal settings (Some removed) (Some now) (Some (Err e)) notices step = rw step.1 (omega arith)
  after_removal settings (Some removed) (Some now) None notices step = absurd step
  after_removal settings (Some removed) None told notices step = rw step.1 (omega arith)
  after_removal settings None now told notices step = rw step.1 (omega arith)

  -- what is told left the map, or was handed back
  told_or_handed : (s t : State ℕ (List ℕ) X KeyRange W) (c : CallText) (r : Reply ℕ (List ℕ) KeyRange) (e : Events ℕ (List ℕ)) → ReferenceStep s c r e t → length e.notices ≤ length (values_told c e.notices) + length (values_handed r)
  told_or_handed s t (call.Remove key hash now) (reply.Remove removed told) e step = let handed = after_removal s.settings removed now told e.notices step.1 in omega arith
  told_or_handed s t (call.Remove key hash now) r e step = absurd step
  told_or_handed s t c r e step = let same = length-map e.notices (λ n. n.1) in omega arith

  -- an insert puts one value into the map, and no other call does
  put_by_insert : (c : CallText) (r : Reply ℕ (List ℕ) KeyRange) → length (values_put c r) ≤ cond (needs_room c) 1 0
  put_by_insert (call.Insert key hash value now) (reply.Insert (Ok a)) = omega arith
  put_by_insert (call.Insert key hash value now) r = omega arith
  put_by_insert c r = omega arith

  -- ---- all calls

  -- what is told, and what is left, was there or was put in
  fits : (s : State ℕ (List ℕ) X KeyRange W) (steps : List (Step ℕ (List ℕ) X KeyRange W)) → AreSteps m (MaintenanceRun m.says) s steps → AllConserveValues s steps → length (notices_of steps) + length (values_of (last_state s steps).records) ≤ length (values_of s.records) + room_of (calls_of steps)
  fits s [] done conserved = omega arith
  fits s (x ∷ xs) (step, rest) (conserved, all) =
      let told = told_or_handed s x.after x.call x.reply x.events step in
      let put = put_by_insert x.call x.reply in
      let here : length (values_told x.call x.events.notices ++ (values_handed x.reply ++ values_of x.after.records)) ≡ length (values_of s.records ++ values_put x.call x.reply) = length_permutation _ _ conserved in
      let before = length-append (values_of s.records) (values_put x.call x.reply) in
      let after = length-append (values_told x.call x.events.notices) (values_handed x.reply ++ values_of x.after.records) in
      let handed = length-append (values_handed x.reply) (values_of x.after.records) in
      let notices : length (notices_of (x ∷ xs)) ≡ length x.events.notices + length (notices_of xs) = length-append x.events.notices (notices_of xs) in
      let room : room_of (calls_of (x ∷ xs)) ≡ cond (needs_room x.call) 1 0 + room_of (calls_of xs) = sum_by-cons (λ c. cond (needs_room c) 1 0) x.call (calls_of xs) in
      let later : length (notices_of xs) + length (values_of (last_state s (x ∷ xs)).records) ≤ length (values_of x.after.records) + room_of (calls_of xs) = fits x.after xs rest all in
      omega arith

  -- from nothing, with a listener that has room for what the calls may tell, all of it is kept
  told_in_full : (laws : IsEquivalence m.eq) (s : State ℕ (List ℕ) X KeyRange W) (steps : List (Step ℕ (List ℕ) X KeyRange W)) (listening : Bool) (after : Option Kept) → IsValid m.eq s → values_of s.records ≡ [] → s.settings.listening ≡ listening → AreSteps m (MaintenanceRun m.says) s steps → Heard Keeps (listener_for listening (calls_of steps)) (notices_of steps) after → notices_of steps ≡ told_of after
  told_in_full laws s steps false None valid empty listens done heard = heard
  told_in_full laws s steps false (Some after) valid empty listens done heard = absurd heard
  told_in_full laws s steps true None valid empty listens done heard = absurd heard
  told_in_full laws s steps true (Some after) valid empty listens done heard =
      let within = fits s steps done (tells_each_once m laws s steps valid listens done) in
      let nothing : length (values_of s.records) ≡ 0 = ap length empty in
      sym (keeps_all (record { told = []; room = room_of (calls_of steps) }) after (notices_of steps) heard (omega arith))

-- ---- a script

-- what always holds of records and operations holds of the state that a script begins with
first_is_valid : (chosen : Chosen) → IsValid nat_eq (first_state chosen)
first_is_valid chosen =
    let valid = new_is_valid ℕ (List ℕ) KeyRange (first_state chosen).settings chosen.settings.capacity (start_of chosen.settings) (unwrap_or chosen.settings.first 1) nat_eq in
    record {
      consistent = record { once = valid.consistent.once; sound = valid.consistent.sound };
      numbered = record {
        numbered = record { numbered = valid.numbered.numbered.numbered; known = valid.numbered.numbered.known; one_each = valid.numbered.numbered.one_each };
        ticketed = valid.numbered.ticketed;
        disabled = valid.numbered.disabled;
      };
      rising = valid.rising;
    }

-- its listener keeps all that the calls tell
pub told_by_script : (chosen : Chosen) (calls : List CallText) (steps : List ScriptStep) (after : Option Kept) → calls_of steps ≡ calls → AreSteps script_meaning (PromisedRun script_meaning.says script_meaning.read) (first_state chosen) steps → Heard Keeps (listener_for chosen.settings.listener calls) (notices_of steps) after → notices_of steps ≡ told_of after
told_by_script chosen calls steps after made done heard =
    let whole = weaker_steps script_meaning (PromisedRun script_meaning.says script_meaning.read) (MaintenanceRun script_meaning.says) (promised_is_run script_meaning.says script_meaning.read) (first_state chosen) steps done in
    told_in_full script_meaning nat_eq_equiv (first_state chosen) steps chosen.settings.listener after (first_is_valid chosen) (ap (map (λ (r : Record ℕ (List ℕ)). r.value)) values-empty) refl whole (rw made heard)
