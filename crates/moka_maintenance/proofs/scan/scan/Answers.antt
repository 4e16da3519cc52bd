use Rattle.std.proofs.Common.{◌≡◌, MatchBool, sym, subst, length}
use Rattle.moka_maintenance.specs.Scan.{AllDropped}
use Rattle.moka_maintenance.specs.Steps.{contents_in}
use Rattle.moka_maintenance.proofs.Scanned.{scanned, scanned-none, none_there, some_there, left_more}
use Rattle.moka_maintenance.proofs.scan.scan.Goals as goal
use Rattle.moka_maintenance.proofs.scan.scan.Goals.{then-round, else-round}

pub returns-then-is_empty : goal.returns-then-is_empty
returns-then-is_empty g c = scanned-none g.L.Listener.tells g.P.PredicateFn.says c.args.batch c.args.store.now c.args.invalidator.now c.args.notifier.now (none_there (length c.args.invalidator.now) c.if-is_empty.ensures) c.invariant_holds.ensures.listed

pub returns : goal.returns
returns g c =
    let ps = c.args.invalidator.now in
    let qs = c.if-round.invalidator in
    let round = c.go_round-round in
    let empty = c.is_empty-2 in
    let over : MatchBool round.result.is_end (AllDropped g.P.PredicateFn.says (contents_in round.new.store) ps qs) (qs ≡ ps) = elim c.if-round.branch [
      | then-round w ↦ subst (λ b. MatchBool b (AllDropped g.P.PredicateFn.says (contents_in round.new.store) ps qs) (qs ≡ ps)) (sym w.if-round.true) (subst (AllDropped g.P.PredicateFn.says (contents_in round.new.store) ps) (sym w.invalidator-is) w.drop_idle.ensures)
      | else-round w ↦ subst (λ b. MatchBool b (AllDropped g.P.PredicateFn.says (contents_in round.new.store) ps qs) (qs ≡ ps)) (sym w.if-round.false) w.invalidator-is
    ] in
    scanned g.L.Listener.tells g.P.PredicateFn.says c.args.batch c.args.store.now ps c.args.notifier.now round.new.store round.new.notifier round.result.looked round.result.is_end round.ensures c.invariant_holds.ensures.listed (some_there (length ps) c.if-is_empty.ensures) qs
    _ (left_more empty.result round.result.looked (length qs) empty.ensures) over
