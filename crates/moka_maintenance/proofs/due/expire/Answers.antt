use Rattle.std.proofs.Common.{false, refl, sym, ap, ◌∙◌}
use Rattle.std.specs.FinMap as finite
use Rattle.std.specs.Option.{option_map_or}
use Rattle.moka_records.specs.Records.{is_applied}
use Rattle.moka_records.specs.Time.{has_passed, moment_of}
use Rattle.moka_store.specs.Store.{Kept}
use Rattle.moka_store.proofs.Gets.{get-removed}
use Rattle.moka_maintenance.specs.Steps.{Stock, stock_in}
use Rattle.moka_maintenance.proofs.Expiring.{expires-none, expires-one, reset-waiting, reset-gone, reset-set}
use Rattle.moka_maintenance.proofs.Fronts.{settled_member}
use Rattle.moka_maintenance.proofs.due.expire.Goals as goal

pub returns-in_default-clause-expired : goal.returns-in_default-clause-expired
returns-in_default-clause-expired g c = expires-none g.L.Listener.tells c.args.tests (stock_in c.args.store.now) c.args.notifier.now

pub returns-in_default-clause-reset : goal.returns-in_default-clause-reset
returns-in_default-clause-reset g c =
    reset-waiting c.args.tests.now.0 c.args.handle.number c.args.store.now c.args.store.now c.requires.untimed
    (ap (λ o. option_map_or is_applied o false) (sym (c.in_default.ensures.found c.requires.member.placed)))

pub returns-then-not-is_settled-clause-expired : goal.returns-then-not-is_settled-clause-expired
returns-then-not-is_settled-clause-expired g c = expires-none g.L.Listener.tells c.args.tests (stock_in c.args.store.now) c.args.notifier.now

pub returns-then-not-is_settled-clause-reset : goal.returns-then-not-is_settled-clause-reset
returns-then-not-is_settled-clause-reset g c =
    reset-waiting c.args.tests.now.0 c.args.handle.number c.args.store.now c.args.store.now c.requires.untimed
    (ap (λ o. option_map_or is_applied o false) (sym (c.in-Some.ensures.found c.requires.member.placed)) ∙ (sym c.is_settled.ensures ∙ c.if-not-is_settled.true))

pub returns-then-is_expired_by_per_entry_ttl-clause-expired : goal.returns-then-is_expired_by_per_entry_ttl-clause-expired
returns-then-is_expired_by_per_entry_ttl-clause-expired g c =
    let n = c.args.handle.number in
    let r = c.in-Some.found in
    let found = sym (c.in-Some.ensures.found c.requires.member.placed) in
    expires-one g.L.Listener.tells c.args.tests (stock_in c.args.store.now) (stock_in c.expel.new.store) c.args.notifier.now c.expel.new.notifier n
    (r, found, settled_member c.args.store.now.records c.args.store.now.access n c.requires.member.member (ap (λ o. option_map_or is_applied o false) found ∙ (sym c.is_settled.ensures ∙ c.if-not-is_settled.false)), (ap (λ e. has_passed (moment_of e) c.args.tests.now.0) (sym c.expires.ensures) ∙ sym c.is_expired_by_per_entry_ttl.ensures ∙ c.if-is_expired_by_per_entry_ttl.true, refl))
    c.expel.ensures.step c.expel.ensures.told

pub returns-then-is_expired_by_per_entry_ttl-clause-reset : goal.returns-then-is_expired_by_per_entry_ttl-clause-reset
returns-then-is_expired_by_per_entry_ttl-clause-reset g c =
    let n = c.args.handle.number in
    reset-gone c.args.tests.now.0 n c.args.store.now c.expel.new.store c.requires.untimed
    (ap (λ (s : Stock g.row.K.Denot g.row.V.Denot). finite.get s.contents.records n) c.expel.ensures.step ∙ get-removed c.args.store.now.records n)
    c.expel.ensures.upkeep.keeps (ap (λ (k : Kept g.row.K.Denot g.row.V.Denot g.row.S.Denot). k.timers) c.expel.ensures.whole)

pub returns-clause-expired : goal.returns-clause-expired
returns-clause-expired g c =
    rw c.set_timer.ensures.rest (expires-none g.L.Listener.tells c.args.tests (stock_in c.args.store.now) c.args.notifier.now)

pub returns-clause-reset : goal.returns-clause-reset
returns-clause-reset g c =
    reset-set c.args.tests.now.0 c.args.handle.number c.args.store.now c.set_timer.new.self c.requires.untimed c.in-Some.found (sym (c.in-Some.ensures.found c.requires.member.placed))
    (ap (λ e. has_passed (moment_of e) c.args.tests.now.0) (sym c.expires.ensures) ∙ sym c.is_expired_by_per_entry_ttl.ensures ∙ c.if-is_expired_by_per_entry_ttl.false) (c.set_timer.ensures.step c.in-Some.found (sym (c.in-Some.ensures.found c.requires.member.placed)))
