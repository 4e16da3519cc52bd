-- One line more of a script.
use Rattle.std.proofs.Common.{◌≡◌, ◌==◌, true, false, ◌||◌, refl, [], ◌∷◌, take, ℕ, ◌+◌, ◌<◌, ◌≤◌, ◌∙◌, List, length, drop, get_or, ap, sym, Result, Ok, Err, IsErrAnd, Some, None, arith}
use Rattle.std.proofs.Math.Bool.{or-true}
use Rattle.std.specs.Option.{option_map_or}
use Rattle.std.proofs.lemmas.List.{at_drop_more, at_drop_all}
use Rattle.std.proofs.lemmas.List.Splits.{length-slice_split}
use Rattle.std.proofs.lemmas.List.Sums.{count_by-le-length}
use Rattle.moka_script.specs.declared.script.Script.{Script}
use Rattle.moka_script.specs.declared.failure.Failure.{Failure}
use Rattle.moka_script.specs.declared.failure.Failure.TheVariants as failure
use Rattle.moka_script.specs.Clock.{is_clock}
use Rattle.moka_script.specs.Script.{ScriptText, script_of, asks_for_memory, IsAdded, IsParseOf, asked_by_few, asked_in, is_kept, keeps_some, with_line, lines_read, lines_of}

-- the line of that index
abbrev pub IsLineAt : List (List ℕ) → List ℕ → ℕ → Type 0
IsLineAt lines line n = (n < length lines) × (line ≡ get_or lines n line)

module _ (n : ℕ) (script : ScriptText) (lines : List (List ℕ)) where
  -- the next line decides
  lines_read-turn : (line : List ℕ) → IsLineAt lines line n → lines_read (n + 1) script (drop n lines) ≡ option_map_or (λ more. lines_read (n + 1 + 1) more (drop (n + 1) lines)) (with_line script line) (Err (n + 1))
  lines_read-turn line t = at_drop_more (lines_read (n + 1) script) lines n line t.0 ∙ ap (λ l. option_map_or (λ more. lines_read (n + 1 + 1) more (drop (n + 1) lines)) (with_line script l) (Err (n + 1))) (sym t.1)

  -- it is right
  pub lines_read_more : (line : List ℕ) (more : ScriptText) → IsLineAt lines line n → with_line script line ≡ Some more → lines_read (n + 1) script (drop n lines) ≡ lines_read (n + 1 + 1) more (drop (n + 1) lines)
  lines_read_more line more t e = lines_read-turn line t ∙ ap (λ o. option_map_or (λ more. lines_read (n + 1 + 1) more (drop (n + 1) lines)) o (Err (n + 1))) e

  -- it is faulty
  pub lines_read_bad : (line : List ℕ) → IsLineAt lines line n → with_line script line ≡ None → lines_read (n + 1) script (drop n lines) ≡ Err (n + 1)
  lines_read_bad line t e = lines_read-turn line t ∙ ap (λ o. option_map_or (λ more. lines_read (n + 1 + 1) more (drop (n + 1) lines)) o (Err (n + 1))) e

  -- no line is left
  pub lines_read_all : length lines ≤ n → lines_read (n + 1) script (drop n lines) ≡ Ok script
  lines_read_all past = at_drop_all (lines_read (n + 1) script) lines n past

-- there is at most one line more than there are bytes
pub length-lines_of-le : (text : List ℕ) → length (lines_of text) ≤ length text + 1
length-lines_of-le text = omega (arith, length-slice_split (λ byte. byte == 10) text, count_by-le-length (λ byte. byte == 10) text)

-- ---- memory

-- the next line is kept, or it is right and one that follows is
module _ (n : ℕ) (script : ScriptText) (lines : List (List ℕ)) (line : List ℕ) (t : IsLineAt lines line n) where
  keeps_some-turn : keeps_some script (drop n lines) ≡ (is_kept (asked_in line) || option_map_or (λ more. keeps_some more (drop (n + 1) lines)) (with_line script line) false)
  keeps_some-turn = at_drop_more (keeps_some script) lines n line t.0 ∙ ap (λ l. is_kept (asked_in l) || option_map_or (λ more. keeps_some more (drop (n + 1) lines)) (with_line script l) false) (sym t.1)

  -- it is kept
  pub keeps_some_here : is_kept (asked_in line) ≡ true → keeps_some script (drop n lines) ≡ true
  keeps_some_here call = keeps_some-turn ∙ ap (λ b. b || option_map_or (λ more. keeps_some more (drop (n + 1) lines)) (with_line script line) false) call

  -- it is right
  pub keeps_some_more : (more : ScriptText) → with_line script line ≡ Some more → keeps_some more (drop (n + 1) lines) ≡ true → keeps_some script (drop n lines) ≡ true
  keeps_some_more more right later = keeps_some-turn ∙ (ap (λ o. is_kept (asked_in line) || option_map_or (λ more. keeps_some more (drop (n + 1) lines)) o false) right ∙ (ap (λ b. is_kept (asked_in line) || b) later ∙ or-true (is_kept (asked_in line))))

-- reading stops where a line does
pub stops_at : (n : ℕ) (script : ScriptText) (text line : List ℕ) (failure : Failure) (new : ScriptText) → IsLineAt (lines_of text) line n → IsAdded (n + 1) script line (Err failure) new → lines_read (n + 1) script (drop n (lines_of text)) ≡ script_of text → (keeps_some script (drop n (lines_of text)) ≡ true → asks_for_memory text ≡ true) → IsParseOf text (Err failure)
stops_at n script text line (failure.BadLine number) new t stops left asks = rw stops.0 (sym left ∙ lines_read_bad n script (lines_of text) line t stops.1)
stops_at n script text line failure.OutOfMemory new t stops left asks = asks (keeps_some_here n script (lines_of text) line t stops)
stops_at n script text line failure.Usage new t stops left asks = stops
stops_at n script text line failure.CannotRead new t stops left asks = stops

-- a failure is passed on as it is
pub passed_on : (text : List ℕ) (result : Result Script Failure) (failure : Failure) → IsErrAnd result (λ passed. passed ≡ failure) → IsParseOf text (Err failure) → IsParseOf text result
passed_on text (Ok script) failure passed p = absurd passed
passed_on text (Err passed) failure same p = rw same p

-- ---- words

-- no line with a meaning has more than five words, but a clock and a comment
pub asked_by_few-take : (words : List (List ℕ)) → asked_by_few (take 6 words) ≡ asked_by_few words
asked_by_few-take [] = refl
asked_by_few-take (a ∷ []) = refl
asked_by_few-take (a ∷ b ∷ []) = refl
asked_by_few-take (a ∷ b ∷ c ∷ []) = refl
asked_by_few-take (a ∷ b ∷ c ∷ d ∷ []) = refl
asked_by_few-take (a ∷ b ∷ c ∷ d ∷ e ∷ []) = refl
asked_by_few-take (a ∷ b ∷ c ∷ d ∷ e ∷ f ∷ rest) = refl

-- the first two tell whether the clock is set
pub is_clock-take : (words : List (List ℕ)) → is_clock (take 6 words) ≡ is_clock words
is_clock-take [] = refl
is_clock-take (a ∷ []) = refl
is_clock-take (a ∷ b ∷ rest) = refl
