-- Calls that tell what there is: lists of keys, and what waits; and replies that refuse no memory.
use Rattle.std.proofs.Common.{refl, sym, subst, ℕ, List, Option, Some, None, Result, Ok, Err, IfOk, IfErr, option_map, true≢false}
use Rattle.std.proofs.lemmas.List.Elements.{same_from_all_zip}
use Rattle.std.specs.List.{AllZip}
use Rattle.std.specs.declared.alloc.Global.{Global}
use Rattle.std.specs.declared.vec.Vec.{Vec}
use Rattle.std.specs.Prelude.{IfSome, IsOk}
use Rattle.moka_types.specs.declared.calls.Entry.{Entry}
use Rattle.moka_types.specs.declared.calls.KvEntry.{KvEntry}
use Rattle.moka_types.specs.declared.calls.Ticket.{Ticket}
use Rattle.moka_types.specs.declared.calls.Call.TheVariants as call
use Rattle.moka_types.specs.declared.calls.Reply.{Reply}
use Rattle.moka_types.specs.declared.calls.Reply.TheVariants as reply
use Rattle.moka_types.specs.declared.error.OutOfMemory.{OutOfMemory}
use Rattle.moka_parts.specs.Notices.{Notice}
use Rattle.moka_parts.specs.State.{State, Meaning}
use Rattle.moka_parts.specs.Maintenance.{Terms, Course}
use Rattle.moka_parts.specs.Calls.{no_events, KeysStep}
use Rattle.moka_parts.specs.Copies.{ClonesAreEqual, IsCopy}
use Rattle.moka_parts.specs.Runs.{CallStep}
use Rattle.moka_laws.proofs.Copies.{copy-same}
use Rattle.moka_drive.specs.Replies.{IsGranted, TellsPending}

-- where clones of keys are equal, a list of clones is one of the keys themselves
own_keys : {K V X P W : Type 0} (is_clone : K → K → Type 0) → ClonesAreEqual is_clone → (s : State K V X P W) (segment : ℕ) (own keys : Option (List K)) → KeysStep s segment (Ok own) → IsCopy (AllZip is_clone) own keys → KeysStep s segment (Ok keys)
own_keys is_clone equal s segment own keys listed copied =
    subst (λ keys. KeysStep s segment (Ok keys)) (sym (copy-same (AllZip is_clone) (λ xs ys zipped. same_from_all_zip is_clone xs ys zipped equal) own keys copied)) listed

-- a list of keys that changes nothing, as a call
pub keys_step : {K V X L P W C I : Type 0} (is_clone : K → K → Type 0) → ClonesAreEqual is_clone → (m : Meaning K V X L P W C I) (Runs : State K V X P W → Terms → Course → List (Notice K V) → State K V X P W → Type 0) (s : State K V X P W) (segment : ℕ) (a : Result (Option (Vec K Global)) OutOfMemory) → IfOk a (λ keys. (own : Option (List K)) × KeysStep s segment (Ok own) × IsCopy (AllZip is_clone) own (option_map (λ v. v.items) keys)) → IfErr a (λ e. KeysStep s segment (Err e)) → CallStep m Runs s (call.Keys segment) (reply.Keys a) no_events s
keys_step is_clone equal m Runs s segment (Ok (Some keys)) listed refused = (own_keys is_clone equal s segment listed.0 (Some keys.items) listed.1 listed.2, (refl, refl))
keys_step is_clone equal m Runs s segment (Ok None) listed refused = (own_keys is_clone equal s segment listed.0 None listed.1 listed.2, (refl, refl))
keys_step is_clone equal m Runs s segment (Err e) listed refused = (refused, (refl, refl))

-- what waits, as a call
pub pending_step : {K V X L P W C I : Type 0} (m : Meaning K V X L P W C I) (Runs : State K V X P W → Terms → Course → List (Notice K V) → State K V X P W → Type 0) (s : State K V X P W) (r : Reply K V P) → TellsPending s r → CallStep m Runs s call.Pending r no_events s
pending_step m Runs s (reply.Pending handed oldest writes reads) told = (told.0, told.1, told.2, told.3, (refl, refl))
pending_step m Runs s r told = absurd told

-- what is answered is granted
module _ (K V P : Type 0) where
  pub granted_get : (a : Result (Option (Entry K V)) OutOfMemory) → IsOk a → IsGranted {P = P} (reply.Get a)
  granted_get (Ok found) ok = tt
  granted_get (Err refused) ok = absurd (true≢false (sym ok))

  pub granted_peek : (a : Result (Option V) OutOfMemory) → IsOk a → IsGranted {K = K} {P = P} (reply.GetUnrecorded a)
  granted_peek (Ok found) ok = tt
  granted_peek (Err refused) ok = absurd (true≢false (sym ok))

  pub granted_scan : (a : Result (Option V) OutOfMemory) → IsOk a → IsGranted {K = K} {P = P} (reply.Scan a)
  granted_scan (Ok found) ok = tt
  granted_scan (Err refused) ok = absurd (true≢false (sym ok))

  pub granted_key : (a : Result (Option K) OutOfMemory) → IsOk a → IsGranted {V = V} {P = P} (reply.Key a)
  granted_key (Ok found) ok = tt
  granted_key (Err refused) ok = absurd (true≢false (sym ok))

  pub granted_removal : (removed : Option (KvEntry K V × Ticket)) (told : Option (Result (Unit {0}) OutOfMemory)) → IfSome told IsOk → IsGranted {P = P} (reply.Remove removed told)
  granted_removal removed None ok = tt
  granted_removal removed (Some (Ok told)) ok = tt
  granted_removal removed (Some (Err refused)) ok = absurd (true≢false (sym ok))
