-- A first script as a chain of call steps: insert, send, run, get.
use Rattle.std.proofs.Common.{◌≡◌, refl, ℕ, false, ◌==◌, [], ◌∷◌, Some, None, Ok, ap, sym, ◌∙◌, lit<, nat_cmp}
use Rattle.std.specs.Cmp.{nat_cmp_total}
use Rattle.std.specs.FinMap.{insert, remove, empty, get-insert, entries, entries-insert, len-entries, put}
use Rattle.moka_laws.proofs.Types.{TinyLfu, Instant, Record, Operation, Upsert, Hit, State, Settings, Meaning, Freedom, Course}
use Rattle.moka_types.specs.declared.calls.Call.TheVariants as call
use Rattle.moka_types.specs.declared.calls.Reply.TheVariants as reply
use Rattle.moka_parts.specs.State.{new_state}
use Rattle.moka_parts.specs.Maintenance.{MaintenanceRun, after_run}
use Rattle.moka_parts.specs.Calls.{no_events, run_events, are_numbers_used_up, after_hit}
use Rattle.moka_records.proofs.Maps.{entries-empty}
use Rattle.moka_parts.specs.Runs.{CallStep, AreSteps}

-- a meaning where nothing but keys is asked
abbrev meaning : Meaning ℕ ℕ ℕ ℕ ℕ ℕ ℕ ℕ
meaning = record { eq = λ a b. a == b; tells = λ _ _ _ _ _. ⊥; says = λ _ _ _ _. ⊥; weighs = λ _ _ _ _. ⊥; observes = λ _ _ _. ⊥; gives = λ _ _ _. ⊥; created = λ _ _ _ _. None; read = λ _ _ _ _ told _. told; updated = λ _ _ _ _ told. told }

abbrev start : Instant
start = record { 0 = 0 }

abbrev settings : Settings ℕ ℕ
settings = record { policy = TinyLfu; time_to_live = None; time_to_idle = None; expiry = None; weigher = None; listening = false; invalidator = false; run_limit = 100000000; run_repeats = 4; run_batch = 384 }

abbrev empty_state : State ℕ ℕ ℕ ℕ ℕ
empty_state = new_state settings None 0 1

abbrev first : ℕ → Record ℕ ℕ
first applied = record { number = 1; key = 1; hash = 1; value = 7; written = start; read = start; expires = None; weight = 1; generation = 1; applied = applied }

abbrev upsert : Operation
upsert = Upsert 1 1 1 1

abbrev after_insert : State ℕ ℕ ℕ ℕ ℕ
after_insert = record empty_state { records = insert empty 1 (first 0); outstanding = insert empty 1 upsert; next_ticket = 2; next_number = 2 }

abbrev after_send : State ℕ ℕ ℕ ℕ ℕ
after_send = record after_insert { outstanding = remove (insert empty 1 upsert) 1; writes = record { ticket = 1; operation = upsert } ∷ [] }

abbrev after_first_run : State ℕ ℕ ℕ ℕ ℕ
after_first_run = record after_send { records = insert (insert empty 1 (first 0)) 1 (first 1); access = record { number = 1; counted = 1 } ∷ []; writes = []; count = 1; weight = 1 }

abbrev after_get : State ℕ ℕ ℕ ℕ ℕ
after_get = record after_first_run { records = insert after_first_run.records 1 (first 1); reads = Hit 1 1 false ∷ [] }

abbrev choices : Freedom
choices = record { moves = [] ∷ []; is_short = false; steps = [] }

abbrev course : Course
course = record { answer = false; readings = []; passes = 1 }

no_records : entries (empty {X = Record ℕ ℕ} {R = nat_cmp}) ≡ []
no_records = entries-empty

small : are_numbers_used_up empty_state 1 ≡ false
small = rw (len-entries (empty {X = Record ℕ ℕ} {R = nat_cmp}), no_records) refl

once_entries : entries after_insert.records ≡ (1, first 0) ∷ []
once_entries = entries-insert nat_cmp_total empty 1 (first 0) ∙ ap (put nat_cmp 1 (first 0)) no_records

applied_entries : entries after_first_run.records ≡ (1, first 1) ∷ []
applied_entries = entries-insert nat_cmp_total after_insert.records 1 (first 1) ∙ ap (put nat_cmp 1 (first 1)) once_entries

inserts : CallStep meaning (MaintenanceRun meaning.says) empty_state (call.Insert 1 1 7 start) (reply.Insert (Ok (record { 0 = 1 }, start))) no_events after_insert
inserts = rw no_records (refl, (1, refl, small, refl, refl, refl, refl))

sends : CallStep meaning (MaintenanceRun meaning.says) after_insert (call.Send (record { 0 = 1 })) (reply.Send (Ok tt)) no_events after_send
sends = rw (get-insert nat_cmp_total (empty {R = nat_cmp}) 1 upsert 1) ((lit< tt, refl), refl)

-- the run applies the upsert
run_ends : after_run after_send choices ≡ after_first_run
run_ends = rw (get-insert nat_cmp_total (empty {R = nat_cmp}) 1 (first 0) 1) refl

runs : CallStep meaning (MaintenanceRun meaning.says) after_send (call.Run start None 4 10) (reply.Run false) (run_events [] course) after_first_run
runs = (course, ((choices, (((tt, tt), tt), sym run_ends, refl), tt), tt), refl, refl)

-- the get finds the value
gets : CallStep meaning (MaintenanceRun meaning.says) after_first_run (call.Get 1 1 false start) (reply.Get (Ok (Some (record { key = None; value = 7 })))) no_events after_get
gets = rw (applied_entries) ((refl, (refl, tt)), refl, refl, (after_hit meaning.read after_first_run (first 1) 0, (refl, refl), refl))

pub first_script : AreSteps meaning (MaintenanceRun meaning.says) empty_state (
    record { call = call.Insert 1 1 7 start; reply = reply.Insert (Ok (record { 0 = 1 }, start)); events = no_events; after = after_insert }
    ∷ record { call = call.Send (record { 0 = 1 }); reply = reply.Send (Ok tt); events = no_events; after = after_send }
    ∷ record { call = call.Run start None 4 10; reply = reply.Run false; events = run_events [] course; after = after_first_run }
    ∷ record { call = call.Get 1 1 false start; reply = reply.Get (Ok (Some (record { key = None; value = 7 }))); events = no_events; after = after_get } ∷ [])
first_script = (inserts, (sends, (runs, (gets, tt))))
