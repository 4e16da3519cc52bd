use Rattle.std.proofs.Common.{slice_get, ap, ◌∙◌}
use Rattle.moka_maintenance.specs.Scan.{from_cursor}
use Rattle.moka_maintenance.proofs.Rounds.{first_from}
use Rattle.moka_maintenance.proofs.scan.start_of.Goals as goal

pub returns-in-Some-clause-first : goal.returns-in-Some-clause-first
returns-in-Some-clause-first g c =
    let k = c.args.store.now in
    let n = c.in-Some.handle.number in
    first_from n k.written c.in-Some.ensures.ordered.listed ∙ ap (λ cursor. slice_get (from_cursor cursor k.written) 0) c.in-Some.ensures.cursor
