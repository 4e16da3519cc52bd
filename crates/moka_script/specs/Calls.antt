-- What the calls of a script ask for.
use Rattle.std.specs.Prelude.{ℕ, ◌/◌, ◌%◌, false, List, [], ◌∷◌, Option, Some, None, option_map, codes, if◌then◌else◌}
use Rattle.std.specs.Duration.{as_nanos}
use Rattle.std.specs.declared.time.Duration.{Duration}
use Rattle.std.specs.Str.{bytes_eq}
use Rattle.moka_types.specs.declared.calls.Call.{Call}
use Rattle.moka_types.specs.declared.calls.Call.TheVariants.{Insert, Send, Get, GetUnrecorded, Scan, Contains, Key, Remove, InvalidateAll, InvalidateIf, Run, RunIfDue, Keys, Report, Pending, SetCapacity}
use Rattle.moka_records.specs.declared.instant.Instant.{Instant}
use Rattle.moka_script.specs.declared.key_range.KeyRange.{KeyRange}
use Rattle.moka_script.specs.declared.script.calls.LineCall.{LineCall}
use Rattle.moka_script.specs.declared.script.calls.LineCall.TheVariants as line_call
use Rattle.moka_script.specs.Lex.{key_at, number_of, number_or_none, lone_number, alone, ◌>>=◌}

-- a call whose value is its bytes
abbrev pub CallText : Type 0
CallText = Call ℕ (List ℕ) KeyRange

-- so many nanoseconds
abbrev pub duration_of : ℕ → Duration
duration_of n = record { secs = n / 1_000_000_000; nanos = n % 1_000_000_000 }

-- the call as a script tells it: of its time limit the nanoseconds alone
abbrev pub told_call : CallText → CallText
told_call (Run now limit repeats batch) = Run now (option_map (λ d. duration_of (as_nanos d)) limit) repeats batch
told_call call = call

-- the call of a line, whose hash is its key
abbrev pub call_text : LineCall → CallText
call_text (line_call.Insert key value now) = Insert key key value.now now
call_text (line_call.Run now limit batch) = Run now (option_map duration_of limit) 4 batch
call_text (line_call.Other call) = call

-- `insert KEY VALUE NOW`; the hash is the key
abbrev pub insert_of : List (List ℕ) → Option CallText
insert_of (key ∷ value ∷ now ∷ []) = do
  asked ← key_at key now
  Some (Insert asked.0 asked.0 value asked.1)
insert_of _ = None

-- `KEY NOW`
abbrev pub key_and_moment : List (List ℕ) → Option (ℕ × Instant)
key_and_moment (key ∷ now ∷ []) = key_at key now
key_and_moment _ = None

-- `send TICKET`
abbrev pub send_of : List (List ℕ) → Option CallText
send_of arguments = do
  n ← lone_number arguments
  Some (Send (record { 0 = n }))

-- `get KEY NOW`
abbrev pub get_of : List (List ℕ) → Option CallText
get_of arguments = do
  asked ← key_and_moment arguments
  Some (Get asked.0 asked.0 false asked.1)

-- `peek KEY NOW`
abbrev pub peek_of : List (List ℕ) → Option CallText
peek_of arguments = do
  asked ← key_and_moment arguments
  Some (GetUnrecorded asked.0 asked.0 asked.1)

-- `scan KEY NOW`
abbrev pub scan_of : List (List ℕ) → Option CallText
scan_of arguments = do
  asked ← key_and_moment arguments
  Some (Scan asked.0 asked.1)

-- `contains KEY NOW`
abbrev pub contains_of : List (List ℕ) → Option CallText
contains_of arguments = do
  asked ← key_and_moment arguments
  Some (Contains asked.0 asked.0 asked.1)

-- `key KEY`
abbrev pub key_of : List (List ℕ) → Option CallText
key_of (key ∷ []) = do
  k ← number_of 32 key
  Some (Key k k)
key_of _ = None

-- a removal of that key, at a moment if the listener is told
abbrev pub remove_at : List ℕ → Option Instant → Option CallText
remove_at key now = do
  k ← number_of 32 key
  Some (Remove k k now)

-- `remove KEY`, of which nobody is told, or `remove KEY NOW`, which the listener is told of at that moment
abbrev pub remove_of : List (List ℕ) → Option CallText
remove_of (key ∷ []) = remove_at key None
remove_of (key ∷ now ∷ []) = do
  n ← number_of 64 now
  remove_at key (Some (record { 0 = n }))
remove_of _ = None

-- `invall NOW`
abbrev pub invall_of : List (List ℕ) → Option CallText
invall_of arguments = do
  n ← lone_number arguments
  Some (InvalidateAll (record { 0 = n }))

-- `invif LOW HIGH NOW`
abbrev pub invif_of : List (List ℕ) → Option CallText
invif_of (low ∷ high ∷ now ∷ []) = do
  l ← number_of 32 low
  asked ← key_at high now
  Some (InvalidateIf (record { low = l; high = asked.0 }) asked.1)
invif_of _ = None

-- a run of that moment and batch, with a limit in nanoseconds, and four repeats
abbrev pub run_at : List ℕ → List ℕ → Option ℕ → Option CallText
run_at now batch limit = do
  n ← number_of 64 now
  b ← number_of 32 batch
  Some (Run (record { 0 = n }) (option_map duration_of limit) 4 b)

-- `run NOW BATCH`, or `run NOW BATCH LIMIT`
abbrev pub run_of : List (List ℕ) → Option CallText
run_of (now ∷ batch ∷ []) = run_at now batch None
run_of (now ∷ batch ∷ limit ∷ []) = do
  l ← number_of 64 limit
  run_at now batch (Some l)
run_of _ = None

-- `due NOW`
abbrev pub due_of : List (List ℕ) → Option CallText
due_of arguments = do
  n ← lone_number arguments
  Some (RunIfDue (record { 0 = n }))

-- `resize N`, or `resize none` for no bound
abbrev pub resize_of : List (List ℕ) → Option CallText
resize_of (capacity ∷ []) = do
  c ← number_or_none capacity
  Some (SetCapacity c)
resize_of _ = None

-- the call of that name, but for `insert` and `run`; `keys` asks for the keys of the one segment
abbrev pub other_call_of : List ℕ → List (List ℕ) → Option CallText
other_call_of name arguments =
    if bytes_eq name (codes "send") then send_of arguments
    else (if bytes_eq name (codes "get") then get_of arguments
    else (if bytes_eq name (codes "peek") then peek_of arguments
    else (if bytes_eq name (codes "scan") then scan_of arguments
    else (if bytes_eq name (codes "contains") then contains_of arguments
    else (if bytes_eq name (codes "key") then key_of arguments
    else (if bytes_eq name (codes "remove") then remove_of arguments
    else (if bytes_eq name (codes "invall") then invall_of arguments
    else (if bytes_eq name (codes "invif") then invif_of arguments
    else (if bytes_eq name (codes "resize") then resize_of arguments
    else (if bytes_eq name (codes "due") then due_of arguments
    else (if bytes_eq name (codes "keys") then alone (Keys 0) arguments
    else (if bytes_eq name (codes "report") then alone Report arguments
    else (if bytes_eq name (codes "pending") then alone Pending arguments
    else None)))))))))))))

-- the call of that name
abbrev pub call_of : List ℕ → List (List ℕ) → Option CallText
call_of name arguments =
    if bytes_eq name (codes "insert") then insert_of arguments
    else (if bytes_eq name (codes "run") then run_of arguments else other_call_of name arguments)
