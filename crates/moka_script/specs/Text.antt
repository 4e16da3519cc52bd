-- What a replay prints.
use Rattle.std.specs.Prelude.{◌≡◌, ℕ, ◌<◌, Bool, true, false, List, [], ◌∷◌, ◌++◌, Option, Some, None, Result, Ok, Err, codes, decimal, length, slice_index_or, if◌then◌else◌}
use Rattle.std.specs.List.{flat_map}
use Rattle.std.specs.List.Sorted.{IsPermutation, IsNonDecreasing}
use Rattle.std.specs.declared.vec.Vec.{Vec}
use Rattle.std.specs.declared.alloc.Global.{Global}
use Rattle.moka_types.specs.declared.calls.KvEntry.{KvEntry}
use Rattle.moka_types.specs.declared.calls.Ticket.{Ticket}
use Rattle.moka_types.specs.declared.error.OutOfMemory.{OutOfMemory}
use Rattle.moka_types.specs.declared.calls.Reply.{Reply}
use Rattle.moka_types.specs.declared.calls.Reply.TheVariants.{Insert, Disabled, Send, Get, GetUnrecorded, Contains, Key, Scan, Remove, InvalidateAll, InvalidateIf, Run, RunIfDue, DisableAutoRun, Keys, Report, Pending, SetCapacity}
use Rattle.moka_types.specs.declared.error.InsertError.{InsertError}
use Rattle.moka_types.specs.declared.error.InsertError.TheVariants as insert_error
use Rattle.moka_types.specs.declared.error.SendError.{SendError}
use Rattle.moka_types.specs.declared.error.SendError.TheVariants.{UnknownTicket, QueueFull}
use Rattle.moka_types.specs.declared.error.PredicateError.{PredicateError}
use Rattle.moka_types.specs.declared.error.PredicateError.TheVariants as predicate_error
use Rattle.uuid.specs.Text.{lower, hyphenated_text}
use Rattle.moka_script.specs.Notices.{ScriptNotice, notice_lines}
use Rattle.moka_script.specs.declared.print.Total.{Total}
use Rattle.moka_script.specs.declared.key_range.KeyRange.{KeyRange}

-- why an insert was refused
abbrev pub insert_error_text : InsertError → List ℕ
insert_error_text insert_error.OutOfMemory = codes "refused memory"
insert_error_text insert_error.NumbersUsedUp = codes "refused numbers"

-- why a ticket was not sent
abbrev pub send_error_text : SendError → List ℕ
send_error_text UnknownTicket = codes "unknown"
send_error_text QueueFull = codes "full"

-- why a predicate was not registered
abbrev pub predicate_error_text : PredicateError → List ℕ
predicate_error_text predicate_error.InvalidationClosuresDisabled = codes "closures disabled"
predicate_error_text predicate_error.NoFreeId = codes "no free id"
predicate_error_text predicate_error.OutOfMemory = codes "refused memory"

-- one space before each key
abbrev pub key_list_text : List ℕ → List ℕ
key_list_text keys = flat_map (λ key. codes " " ++ decimal key) keys

-- how many entries there are, and their weight
abbrev pub total_text : Total → List ℕ
total_text total = codes "count " ++ (decimal total.count ++ (codes " weight " ++ decimal total.weight))

-- the value that was found
abbrev pub value_text : Result (Option (List ℕ)) OutOfMemory → List ℕ
value_text (Ok (Some value)) = codes "value " ++ value
value_text (Ok None) = codes "none"
value_text (Err _) = codes "refused memory"

-- the key that was found
abbrev pub key_text : Result (Option ℕ) OutOfMemory → List ℕ
key_text (Ok (Some key)) = codes "key " ++ decimal key
key_text (Ok None) = codes "none"
key_text (Err _) = codes "refused memory"

-- the keys of a segment
abbrev pub keys_text : Result (Option (Vec ℕ Global)) OutOfMemory → List ℕ
keys_text (Ok (Some keys)) = codes "keys" ++ key_list_text keys.items
keys_text (Ok None) = codes "none"
keys_text (Err _) = codes "refused memory"

-- what was taken out, and on a line of its own whether the listener could not be told
abbrev pub removal_text : Option (KvEntry ℕ (List ℕ) × Ticket) → Option (Result (Unit {0}) OutOfMemory) → List ℕ
removal_text (Some removed) (Some (Err _)) = codes "removed "
    ++ (removed.0.value ++ (codes " ticket " ++ (decimal removed.1.0 ++ (10 ∷ codes "refused memory"))))
removal_text (Some removed) told = codes "removed " ++ (removed.0.value ++ (codes " ticket " ++ decimal removed.1.0))
removal_text None told = codes "none"

-- the report of the last run
abbrev pub report_text : ℕ → ℕ → ℕ → List ℕ
report_text count weight predicates =
    total_text (record { count = count; weight = weight }) ++ (codes " predicates " ++ decimal predicates)

-- a ticket, if there is one
abbrev pub ticket_text : Option Ticket → List ℕ
ticket_text (Some ticket) = decimal ticket.0
ticket_text None = codes "none"

-- what waits to be sent or applied
abbrev pub pending_text : ℕ → Option Ticket → ℕ → ℕ → List ℕ
pending_text handed oldest writes reads = codes "handed "
    ++ (decimal handed ++ (codes " oldest "
    ++ (ticket_text oldest ++ (codes " writes " ++ (decimal writes ++ (codes " reads " ++ decimal reads))))))

-- a reply that tells no number, no key and no value; nothing for any other
abbrev pub plain_text : Reply ℕ (List ℕ) KeyRange → List ℕ
plain_text (Insert (Err refused)) = insert_error_text refused.error
plain_text (Disabled key value) = codes "disabled"
plain_text (Send (Ok _)) = codes "sent"
plain_text (Send (Err error)) = send_error_text error
plain_text (Get (Ok None)) = codes "none"
plain_text (Get (Err _)) = codes "refused memory"
plain_text (Contains is_there) = if is_there then codes "yes" else codes "no"
plain_text InvalidateAll = codes "ok"
plain_text (InvalidateIf (Err refused)) = predicate_error_text refused.error
plain_text (Run is_more_left) = if is_more_left then codes "more" else codes "done"
plain_text RunIfDue = codes "ok"
plain_text DisableAutoRun = codes "ok"
plain_text (SetCapacity (Ok _)) = codes "ok"
plain_text (SetCapacity (Err _)) = codes "refused zero"
plain_text reply = []

-- a reply, without its line feed
abbrev pub reply_text : Reply ℕ (List ℕ) KeyRange → List ℕ
reply_text (Insert (Ok written)) = codes "ticket " ++ decimal written.0.0
reply_text (Get (Ok (Some entry))) = codes "value " ++ entry.value
reply_text (GetUnrecorded found) = value_text found
reply_text (Key found) = key_text found
reply_text (Scan found) = value_text found
reply_text (Remove removed told) = removal_text removed told
reply_text (InvalidateIf (Ok id)) = codes "predicate " ++ hyphenated_text lower id
reply_text (Keys keys) = keys_text keys
reply_text (Report count weight predicates) = report_text count weight predicates
reply_text (Pending handed oldest writes reads) = pending_text handed oldest writes reads
reply_text reply = plain_text reply

-- a line for each reply
abbrev pub reply_lines : List (Reply ℕ (List ℕ) KeyRange) → List ℕ
reply_lines replies = flat_map (λ reply. reply_text reply ++ codes "\n") replies

-- a line for each reply, one for each notice, and then the total, without the last line feed
abbrev pub replay_text : List (Reply ℕ (List ℕ) KeyRange) → List ScriptNotice → Total → List ℕ
replay_text replies notices total = reply_lines replies ++ (notice_lines notices ++ total_text total)

-- a reply, and the same with its keys, if it has any, in rising order
abbrev pub IsInOrder : Reply ℕ (List ℕ) KeyRange → Reply ℕ (List ℕ) KeyRange → Type 0
IsInOrder (Keys (Ok (Some keys))) (Keys (Ok (Some rising))) = IsPermutation keys.items rising.items
    × IsNonDecreasing rising.items
IsInOrder reply printed = printed ≡ reply

-- the same of each reply
abbrev pub AreInOrder : List (Reply ℕ (List ℕ) KeyRange) → List (Reply ℕ (List ℕ) KeyRange) → Type 0
AreInOrder replies printed = (length printed ≡ length replies)
    × ((k : ℕ) (d : Reply ℕ (List ℕ) KeyRange) → k < length replies
    → IsInOrder (slice_index_or replies k d) (slice_index_or printed k d))

abbrev pub is_insert_memory : InsertError → Bool
is_insert_memory insert_error.OutOfMemory = true
is_insert_memory insert_error.NumbersUsedUp = false

abbrev pub is_predicate_memory : PredicateError → Bool
is_predicate_memory predicate_error.OutOfMemory = true
is_predicate_memory _ = false

-- whether a reply was refused for memory
abbrev pub is_refused_memory : Reply ℕ (List ℕ) KeyRange → Bool
is_refused_memory (Insert (Err refused)) = is_insert_memory refused.error
is_refused_memory (InvalidateIf (Err refused)) = is_predicate_memory refused.error
is_refused_memory (Get (Err _)) = true
is_refused_memory (GetUnrecorded (Err _)) = true
is_refused_memory (Key (Err _)) = true
is_refused_memory (Scan (Err _)) = true
is_refused_memory (Keys (Err _)) = true
is_refused_memory (Remove _ (Some (Err _))) = true
is_refused_memory _ = false
