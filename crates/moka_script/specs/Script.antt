-- What the lines of a script ask for.
use Rattle.std.specs.Prelude.{◌≡◌, ℕ, ◌+◌, ◌==◌, Bool, true, false, ◌&&◌, ◌||◌, List, [], ◌∷◌, ◌++◌, drop, length, map, Option, Some, None, Result, Ok, Err, option_map, slice_index, if◌then◌else◌}
use Rattle.std.specs.List.{slice_split, list_all}
use Rattle.std.specs.Option.{option_or, option_map_or}
use Rattle.moka_script.specs.declared.script.Script.{Script}
use Rattle.moka_script.specs.declared.script.calls.LineCall.{LineCall}
use Rattle.moka_script.specs.declared.script.clock.Readings.{Readings}
use Rattle.moka_script.specs.declared.script.Line.{Line}
use Rattle.moka_script.specs.declared.script.Line.TheVariants as line
use Rattle.moka_script.specs.declared.failure.Failure.{Failure}
use Rattle.moka_script.specs.declared.failure.Failure.TheVariants as failure
use Rattle.moka_script.specs.Lex.{is_printable, words_of, ◌>>=◌}
use Rattle.moka_script.specs.Settings.{Chosen, setting_of, rule_line, no_settings, put_in}
use Rattle.moka_script.specs.Clock.{is_clock, readings_of, told_readings}
use Rattle.moka_script.specs.Calls.{CallText, call_text, told_call, call_of}

-- ---- lines

-- what a line asks for
abbrev pub LineText : Type 0
LineText = Line (List ℕ) CallText

-- the same, of a line of which a value or a reading is still a part
abbrev pub line_text : Line Readings LineCall → LineText
line_text line.Nothing = line.Nothing
line_text (line.Setting setting) = line.Setting setting
line_text (line.Rule rule) = line.Rule rule
line_text (line.Clock readings) = line.Clock (told_readings readings)
line_text (line.Call call) = line.Call (call_text call)

-- whether a word begins with `#`
abbrev pub is_comment : List ℕ → Bool
is_comment word = slice_index word 0 == 35

-- the setting, or else the rule, or else the call
abbrev pub asked_by_name : List ℕ → List (List ℕ) → Option LineText
asked_by_name name arguments = option_or (option_map line.Setting (setting_of name arguments))
    (option_or (option_map line.Rule (rule_line name arguments)) (option_map line.Call (call_of name arguments)))

-- what words ask for that set no clock; a comment asks for nothing
abbrev pub asked_by_few : List (List ℕ) → Option LineText
asked_by_few [] = Some line.Nothing
asked_by_few (name ∷ arguments) = if is_comment name then Some line.Nothing else asked_by_name name arguments

-- what words ask for; `clock N N ..` sets the clock
abbrev pub asked_by : List (List ℕ) → Option LineText
asked_by words = if is_clock words then option_map line.Clock (readings_of (drop 1 words)) else asked_by_few words

-- what a line asks for
abbrev pub asked_in : List ℕ → Option LineText
asked_in text = if list_all is_printable text then asked_by (words_of text) else None

-- ---- scripts

-- what is chosen, the readings of the clock, and the calls in order
abbrev pub ScriptText : Type 0
ScriptText = Chosen × List ℕ × List CallText

-- a script that says nothing
abbrev pub no_text : ScriptText
no_text = (record { settings = no_settings; rules = [] }, [], [])

-- what a script sets, what its clock tells, and its calls
abbrev pub text_of : Script → ScriptText
text_of script = (
  record { settings = script.settings; rules = script.rules.items },
  script.clock.items,
  map told_call script.calls.items,
)

-- settings, rules and the clock come before the first call, and the clock once
abbrev pub joined : ScriptText → LineText → Option ScriptText
joined script line.Nothing = Some script
joined script (line.Setting setting) = if length script.2 == 0
    then option_map (λ settings. (record script.0 { settings = settings }, script.1, script.2))
    (put_in script.0.settings setting) else None
joined script (line.Rule rule) = if length script.2 == 0
    then Some (record script.0 { rules = script.0.rules ++ rule ∷ [] }, script.1, script.2) else None
joined script (line.Clock readings) = if length script.2 == 0 && length script.1 == 0
    then Some (script.0, readings, script.2) else None
joined script (line.Call call) = Some (script.0, script.1, script.2 ++ told_call call ∷ [])

-- the script, and what one more line asks for
abbrev pub with_line : ScriptText → List ℕ → Option ScriptText
with_line script text = asked_in text >>= joined script

-- the script that lines from that number on lead to, or the number of the first faulty one
abbrev pub lines_read : ℕ → ScriptText → List (List ℕ) → Result ScriptText ℕ
lines_read number script [] = Ok script
lines_read number script (text ∷ lines) =
    option_map_or (λ more. lines_read (number + 1) more lines) (with_line script text) (Err number)

-- the lines of a text
abbrev pub lines_of : List ℕ → List (List ℕ)
lines_of text = slice_split (λ byte. byte == 10) text

-- the script that a text says, or the number of its first faulty line
abbrev pub script_of : List ℕ → Result ScriptText ℕ
script_of text = lines_read 1 no_text (lines_of text)

-- whether what the line asks for is kept in a list: a rule, a clock or a call
abbrev pub is_kept : Option LineText → Bool
is_kept (Some (line.Rule rule)) = true
is_kept (Some (line.Clock readings)) = true
is_kept (Some (line.Call call)) = true
is_kept asked = false

-- whether a rule, a clock or a call stands in front of the first faulty line
abbrev pub keeps_some : ScriptText → List (List ℕ) → Bool
keeps_some script [] = false
keeps_some script (text ∷ lines) =
    is_kept (asked_in text) || option_map_or (λ more. keeps_some more lines) (with_line script text) false

-- whether the text asks for memory: only a rule, a clock and a call do
abbrev pub asks_for_memory : List ℕ → Bool
asks_for_memory text = keeps_some no_text (lines_of text)

-- what is asked for is added exactly if it may stand, and memory may be refused to a rule, a clock or a call alone
abbrev pub IsJoined : ScriptText → LineText → Result Bool Failure → ScriptText → Type 0
IsJoined old asked (Ok is_right) new = joined old asked ≡ (if is_right then Some new else None)
IsJoined old asked (Err failure.OutOfMemory) new = is_kept (Some asked) ≡ true
IsJoined old asked (Err _) new = ⊥

-- what a line asks for is added exactly if it is right, and memory may be refused to a rule, a clock or a call alone
abbrev pub IsAdded : ℕ → ScriptText → List ℕ → Result (Unit {0}) Failure → ScriptText → Type 0
IsAdded number old text (Ok _) new = with_line old text ≡ Some new
IsAdded number old text (Err (failure.BadLine n)) new = (n ≡ number) × (with_line old text ≡ None)
IsAdded number old text (Err failure.OutOfMemory) new = is_kept (asked_in text) ≡ true
IsAdded number old text (Err _) new = ⊥

-- reading succeeds exactly if each line is right, and else the first faulty line is named; memory may be refused to
-- the rules, the clock and the calls in front of it
abbrev pub IsParseOf : List ℕ → Result Script Failure → Type 0
IsParseOf text (Ok script) = script_of text ≡ Ok (text_of script)
IsParseOf text (Err (failure.BadLine number)) = script_of text ≡ Err number
IsParseOf text (Err failure.OutOfMemory) = asks_for_memory text ≡ true
IsParseOf text (Err _) = ⊥
