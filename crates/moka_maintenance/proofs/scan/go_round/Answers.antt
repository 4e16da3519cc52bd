use Rattle.std.proofs.Common.{◌≤◌, ◌-◌, ◌⊎◌, ℕ, [], refl, sym, subst, ◌∙◌, length}
use Rattle.std.proofs.lemmas.Bool.{not-true, not-false}
use Rattle.moka_maintenance.specs.Scan.{before_cursor, from_cursor}
use Rattle.moka_maintenance.proofs.Rounds.{IsKnown, before_and_from, round-part, round-whole}
use Rattle.moka_maintenance.proofs.scan.go_round.Goals as goal

pub returns-then-not-first : goal.returns-then-not-first
returns-then-not-first g c =
    let old = c.args.store.now in
    let first = c.scan_along-first in
    let part = not-true first.result.is_end c.if-not-first.true in
    let known : IsKnown old = record { distinct = c.invariant_holds.ensures.distinct; once = c.invariant_holds.ensures.once; listed = c.invariant_holds.ensures.listed; unlisted = c.invariant_holds.ensures.unlisted } in
    let walked = first.ensures.walked (before_cursor old.cursor old.written) (from_cursor old.cursor old.written) (before_and_from old.cursor old.written) c.start_of.ensures.first in
    let stopped : (length old.access ≤ first.result.passed) ⊎ (c.args.batch ≤ first.result.looked) = subst (λ (n : ℕ). (n ≤ first.result.passed) ⊎ (c.args.batch ≤ first.result.looked)) c.member_count-members.ensures.value (first.ensures.stretch.stopped part) in
    round-part g.L.Listener.tells g.P.PredicateFn.says c.args.invalidator.now c.args.batch old first.new.store c.args.notifier.now first.new.notifier first.result.looked first.result.passed known
    walked first.ensures.stretch.once first.ensures.stretch.used (sym first.ensures.stretch.ended ∙ part) stopped first.ensures.stretch.upkeep first.result.is_end part

pub returns : goal.returns
returns g c =
    let old = c.args.store.now in
    let first = c.scan_along-first in
    let second = c.scan_along-second in
    let over = not-false first.result.is_end c.if-not-first.false in
    let known : IsKnown old = record { distinct = c.invariant_holds.ensures.distinct; once = c.invariant_holds.ensures.once; listed = c.invariant_holds.ensures.listed; unlisted = c.invariant_holds.ensures.unlisted } in
    let walked = first.ensures.walked (before_cursor old.cursor old.written) (from_cursor old.cursor old.written) (before_and_from old.cursor old.written) c.start_of.ensures.first in
    round-whole g.L.Listener.tells g.P.PredicateFn.says c.args.invalidator.now c.args.batch old first.new.store c.args.notifier.now first.new.notifier first.result.looked first.result.passed known
    walked first.ensures.stretch.once first.ensures.stretch.used second.new.store second.new.notifier second.result.looked second.result.passed (sym first.ensures.stretch.ended ∙ over)
    (second.ensures.walked [] first.new.store.written refl c.front_written.ensures.front) second.ensures.stretch.once second.ensures.stretch.used
    (subst (λ (n : ℕ). second.result.passed ≤ n - first.result.passed) c.member_count-members.ensures.value second.ensures.stretch.few)
    (λ some. subst (λ (n : ℕ). (n - first.result.passed ≤ second.result.passed) ⊎ (c.args.batch - first.result.looked ≤ second.result.looked)) c.member_count-members.ensures.value (second.ensures.stretch.stopped (second.ensures.stretch.ended ∙ some)))
    first.ensures.stretch.upkeep second.ensures.stretch.upkeep _ refl
