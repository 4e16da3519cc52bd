use Rattle.std.proofs.Common.{length, take}
use Rattle.std.specs.Fmt.{HasWritten, IsPlainFormatter}
use Rattle.std.specs.List.{zip}
use Rattle.moka_explain.specs.Text.{fate_lines}
use Rattle.moka_explain.proofs.text.write_fates.Given as goal

abbrev pub invariant-loop-before : goal.invariant-loop-before
invariant-loop-before g l =
    IsPlainFormatter l.initial.f → HasWritten g.W.Write.write_str_gives l.initial.f (fate_lines l.leaving l.hit (take (length l.yielded) (zip l.fn.before l.fn.after))) l.f
