use Rattle.std.proofs.Common.{sym, inl, inr, ◌∙◌}
use Rattle.moka_records.specs.KeyTests.{record_by}
use Rattle.moka_lookups.proofs.FindSteps.{nothing_found, found_hidden, found_shown}
use Rattle.moka_lookups.proofs.gets.find_unless.Goals as goal
use Rattle.moka_lookups.proofs.gets.find_unless.Goals.{then-ignores-via-then-ignores, then-ignores-via-else-ignores+then-hide, then-ignores-via-else-ignores+else-hide+then-apply_predicates}

pub returns-in_err-handle : goal.returns-in_err-handle
returns-in_err-handle g c =
    let m = c.args.moments.now in
    let sought = record_by (g.T.KeyTest.passes c.args.sought.0.now) c.args.store.now.records in
    rw c.from_residual.ensures (nothing_found g.I.ValueTest.asks c.args.store.now m.policy.now m.valid_after.now g.P.PredicateFn.says c.args.invalidator.now sought m.now.0 c.args.ignore_if.now (sym c.in_err-handle.ensures.value))

pub returns-then-ignores : goal.returns-then-ignores
returns-then-ignores g c =
    let m = c.args.moments.now in
    let found = sym c.in_ok-handle.ensures.value in
    let sought = record_by (g.T.KeyTest.passes c.args.sought.0.now) c.args.store.now.records in
    let hidden = found_hidden g.I.ValueTest.asks c.args.store.now m.policy.now m.valid_after.now g.P.PredicateFn.says c.args.invalidator.now sought m.now.0 c.in_ok-handle.found found c.args.ignore_if.now c.ignores.new.self c.ignores.result (rw c.value.ensures at c.ignores.ensures) in
    elim c.then-ignores.branch [
      | then-ignores-via-then-ignores w ↦ hidden (inl w.if-ignores.true)
      | then-ignores-via-else-ignores+then-hide w ↦ hidden (inr (inl (sym w.hide.ensures ∙ w.if-hide.true)))
      | then-ignores-via-else-ignores+else-hide+then-apply_predicates w ↦ hidden (inr (inr w.if-apply_predicates.ensures))
    ]

pub returns : goal.returns
returns g c =
    let m = c.args.moments.now in
    let found = sym c.in_ok-handle.ensures.value in
    let sought = record_by (g.T.KeyTest.passes c.args.sought.0.now) c.args.store.now.records in
    found_shown g.I.ValueTest.asks c.args.store.now m.policy.now m.valid_after.now g.P.PredicateFn.says c.args.invalidator.now sought m.now.0 c.in_ok-handle.found found c.args.ignore_if.now c.ignores.new.self c.ignores.result (rw c.value.ensures at c.ignores.ensures)
    c.in_ok-handle.handle (record { placed = c.in_ok-handle.ensures.handle; numbered = c.in_ok-handle.ensures.found; found = found; accepted = c.if-ignores.false; shown = sym c.hide.ensures ∙ c.if-hide.false; uncovered = c.if-apply_predicates.ensures })
