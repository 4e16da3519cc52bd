use Rattle.std.proofs.Common.{◌≡◌, ◌+◌, true, length, drop}
use Rattle.moka_script.specs.Script.{lines_of, lines_read, script_of, asks_for_memory, keeps_some, text_of}
use Rattle.moka_script.proofs.script.parse.Given as goal

abbrev pub invariant-loop-line : goal.invariant-loop-line
invariant-loop-line l = record {
  counted : l.number ≡ length l.yielded;
  left : lines_read (l.number + 1) (text_of l.script) (drop l.number (lines_of l.text)) ≡ script_of l.text;
  asks : keeps_some (text_of l.script) (drop l.number (lines_of l.text)) ≡ true → asks_for_memory l.text ≡ true;
}
