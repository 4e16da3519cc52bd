-- What a replay does to its reader and its writers.
use Rattle.std.specs.Prelude.{◌≡◌, ℕ, Bool, ◌⊎◌, List, [], Result, Ok, Err, IsOk, true, if◌then◌else◌}
use Rattle.std.specs.List.{list_any}
use Rattle.std.specs.declared.alloc.Global.{Global}
use Rattle.std.specs.declared.io.Error.{Error}
use Rattle.std.specs.declared.vec.Vec.{Vec}
use Rattle.std.specs.Io.Buffered.{writer_inner, writer_buffer}
use Rattle.moka_types.specs.declared.calls.Reply.{Reply}
use Rattle.moka_script.specs.declared.key_range.KeyRange.{KeyRange}
use Rattle.moka_script.specs.declared.failure.Failure.{Failure}
use Rattle.moka_script.specs.declared.failure.Failure.TheVariants.{BadLine, OutOfMemory}
use Rattle.moka_play.specs.declared.play.Played.{Played}
use Rattle.moka_script.specs.declared.script.Script.{Script}
use Rattle.moka_script.specs.Failure.{failure_text, status_of, IsWritten, IsReadFailure}
use Rattle.moka_script.specs.Script.{ScriptText, script_of, asks_for_memory, text_of}
use Rattle.moka_script.specs.Notices.{told_of}
use Rattle.moka_play.specs.Played.{AreReplies, total_of}
use Rattle.moka_script.specs.Text.{AreInOrder, replay_text, is_refused_memory}
use Rattle.moka_replay.specs.declared.Output.{Output}

-- what a reading to the end answers
abbrev pub Reading : Type 0
Reading = Result (Vec ℕ Global) Error

-- the input was read, and its bytes say the script
abbrev pub Says : Reading → ScriptText → Type 0
Says (Ok text) script = script_of text.items ≡ Ok script
Says (Err error) script = ⊥

-- memory may be refused to the rules, the clock and the calls in front of the first faulty line, and to the play of a
-- right script
abbrev pub MayRunOutOfMemory : List ℕ → Type 0
MayRunOutOfMemory text = (asks_for_memory text ≡ true) ⊎ IsOk (script_of text)

-- why a replay stops: the input was not read, its first faulty line is named, or memory was refused
abbrev pub Stops : Reading → Failure → Type 0
Stops (Err error) failure = IsReadFailure error failure
Stops (Ok text) (BadLine number) = script_of text.items ≡ Err number
Stops (Ok text) OutOfMemory = MayRunOutOfMemory text.items
Stops (Ok text) failure = ⊥

-- the script is what the input says, or the reading stops with reason
abbrev pub IsScriptRead : Reading → Result Script Failure → Type 0
IsScriptRead read (Ok script) = Says read (text_of script)
IsScriptRead read (Err failure) = Stops read failure

-- these are the replies to the script's calls, keys in rising order, and the cache that they left
abbrev pub IsPlayedScript : ScriptText → Played → Type 0
IsPlayedScript script played = (replies : List (Reply ℕ (List ℕ) KeyRange))
    × AreReplies script replies (told_of played.cache.listener) (total_of played.cache.state)
    × AreInOrder replies played.replies.items

-- what is printed of it
abbrev pub played_text : Played → List ℕ
played_text played = replay_text played.replies.items (told_of played.cache.listener) (total_of played.cache.state)

-- the input's script was played, or the replay stops with reason
abbrev pub IsPlayed : Reading → Result Played Failure → Type 0
IsPlayed read (Ok played) = (script : ScriptText) × Says read script × IsPlayedScript script played
IsPlayed read (Err failure) = Stops read failure

-- 3 if a reply was refused for memory
abbrev pub status_of_replies : List (Reply ℕ (List ℕ) KeyRange) → ℕ
status_of_replies replies = if list_any is_refused_memory replies then 3 else 0

-- the input's script was played and all of it printed, nothing said; or the replay stopped with reason, said it and
-- printed nothing
abbrev pub Ends : {W E : Type 0} → (W → List ℕ → Bool → W → Type 0) → (E → List ℕ → Bool → E → Type 0) → Reading → ℕ →
    W → E → W → E → Type 0
Ends prints says read status out err out_after err_after =
    ((played : Played) × IsPlayed read (Ok played)
    × IsWritten prints (played_text played) (status_of_replies played.replies.items) status out out_after
    × (err_after ≡ err))
    ⊎ ((failure : Failure) × Stops read failure
    × IsWritten says (failure_text failure) (status_of failure) status err err_after × (out_after ≡ out))

-- the replay ends as the input's answer has it
abbrev pub IsReplayed : {R W E : Type 0} → (R → Reading → R → Type 0) → (W → List ℕ → Bool → W → Type 0) →
    (E → List ℕ → Bool → E → Type 0) → ℕ → R → W → E → R → W → E → Type 0
IsReplayed gives prints says status input out err input_after out_after err_after = (read : Reading)
    × gives input read input_after × Ends prints says read status out err out_after err_after

-- an input that could not be opened answers why
abbrev pub Answers : {R : Type 0} → (R → Reading → R → Type 0) → Result R Error → Reading → Type 0
Answers {R} gives (Ok input) read = (after : R) × gives input read after
Answers {R} gives (Err error) read = read ≡ Err error

-- the replay ends over an empty buffer in front of the output, or memory for that buffer was refused and one line says
-- so
abbrev pub IsReplayedBuffered : {R W E : Type 0} → (R → Reading → R → Type 0) →
    (Output W → List ℕ → Bool → Output W → Type 0) → (E → List ℕ → Bool → E → Type 0) → ℕ →
    Result R Error → W → E → E → Type 0
IsReplayedBuffered {R} {W} gives prints says status input out err err_after =
    ((read : Reading) × Answers gives input read × (buffer after : Output W) × (writer_inner buffer.0 ≡ out)
    × (writer_buffer buffer.0 ≡ []) × Ends prints says read status buffer err after err_after)
    ⊎ IsWritten says (failure_text OutOfMemory) (status_of OutOfMemory) status err err_after
