use Rattle.std.proofs.Common.{◌≡◌, refl, Some, None, Ok, Err, option_map, ap, sym, ◌∙◌}
use Rattle.moka_records.specs.declared.records.ReadOperation.TheVariants.{Hit}
use Rattle.moka_records.specs.declared.records.Record.{Record}
use Rattle.moka_records.specs.KeyTests.{record_by}
use Rattle.moka_records.proofs.Tested.{record_by_found, record_by_key}
use Rattle.moka_store.specs.Store.{Kept}
use Rattle.moka_inner.specs.Interior.{Interior}
use Rattle.moka_lookups.specs.Gets.{entry_at}
use Rattle.moka_engine.proofs.EngineSteps.{number-inside}
use Rattle.moka_engine.proofs.GetSteps.{IsNoted, whole-noted, whole-queued, number-read, get_misses, get_hits, queues_read, get_refused}
use Rattle.moka_engine.proofs.base_cache.BaseCache.get_hashed.Given.{Over}
use Rattle.moka_engine.proofs.base_cache.BaseCache.get_hashed.Goals as goal
use Rattle.moka_engine.proofs.base_cache.BaseCache.get_hashed.Goals.{After-note_hit}

-- the hit, as it was noted in the record
noted : (g : Over) (c : After-note_hit g) (j : Interior g.row.K.Denot g.row.V.Denot g.row.S.Denot) → j ≡ record c.self.inside.inner { kept = j.kept } → j.kept ≡ c.note_hit.new.inner.kept
    → IsNoted g.X.Expiry.read c.self.inside.expiration_policy c.self.inside.inner j c.in-Found.handle.number c.in-Found.ensures.2.0 c.args.now.0 c.in-Found.hit.read c.in-Found.hit.expires c.in-Found.hit.is_renewed
noted g c j rest same =
    let there = rw c.store-store.ensures at c.in-Found.ensures.2.1.numbered in
    record { there = there; touches = c.in-Found.ensures.2.2.2; rest = rest; kept = same ∙ c.note_hit.ensures.step c.in-Found.ensures.2.0 there }

pub note_hit-requires-clause-given : goal.note_hit-requires-clause-given
note_hit-requires-clause-given g c = (number-inside c.self.invariant.cache c.self.inside.inner refl c.in-Found.handle.number c.in-Found.ensures.2.0 (rw c.store-store.ensures at c.in-Found.ensures.2.1.numbered)).1

pub record_hit_by-requires-clause-due : goal.record_hit_by-requires-clause-due
record_hit_by-requires-clause-due g c =
    let reads = ap (λ (i : Interior g.row.K.Denot g.row.V.Denot g.row.S.Denot). i.reads) (c.note_hit.ensures.waits c.if-note_hit.true) in
    rw reads (sym c.note_hit.ensures.due ∙ c.if-note_hit.true)

pub record_hit_by-requires-clause-own : goal.record_hit_by-requires-clause-own
record_hit_by-requires-clause-own g c =
    let same = ap (λ (k : Kept g.row.K.Denot g.row.V.Denot g.row.S.Denot). k.hasher) (c.note_hit.ensures.step c.in-Found.ensures.2.0 (rw c.store-store.ensures at c.in-Found.ensures.2.1.numbered)) in
    rw same (rw (← c.self.view_is) at c.requires.own)

pub record_hit_by-requires-clause-found : goal.record_hit_by-requires-clause-found
record_hit_by-requires-clause-found g c =
    let passes = g.T.KeyTest.passes c.args.sought.0.now in
    let one_key = g.met.T.KeyTest.one_key c.args.sought.0.now in
    let key = c.in-Found.ensures.2.0.key in
    let passing = (record_by_found g.K.PartialEq.eq passes one_key c.self.inside.inner.kept.records c.in-Found.ensures.2.0 (rw c.store-store.ensures at c.in-Found.ensures.2.1.found)).2 in
    let hit = noted g (goal.at.record_hit_by-requires-clause-found g c).After-note_hit c.note_hit.new.inner (c.note_hit.ensures.waits c.if-note_hit.true) refl in
    ap (option_map (λ (r : Record g.row.K.Denot g.row.V.Denot). r.number)) (record_by_key g.K.PartialEq.eq passes one_key c.note_hit.new.inner.kept.records key passing)
    ∙ number-read c.self.invariant hit refl g.met.K.Eq.laws key (g.met.K.Eq.laws.refl key)

pub returns-in-Missed-clause-step : goal.returns-in-Missed-clause-step
returns-in-Missed-clause-step g c =
    let at = c.in-Missed.ensures in
    let missed = get_misses g.P.PredicateFn.says g.X.Expiry.read g.L.Listener.tells g.C.Clock.reads c.self.view_is (record_by (g.T.KeyTest.passes c.args.sought.0.now)) c.args.sought.1.hash c.args.need_key at.0 c.args.now c.args.clock.now
    (rw c.store-store.ensures at at.2) c.record_miss.ensures.disabled c.record_miss.ensures.enabled in
    (at.0, rw (← c.self.view_is) (rw c.store-store.ensures at at.1), (Ok None, missed, refl))

pub returns-in-Refused-clause-step : goal.returns-in-Refused-clause-step
returns-in-Refused-clause-step g c =
    let at = c.in-Refused.ensures in
    let refused = get_refused g.P.PredicateFn.says g.X.Expiry.read g.L.Listener.tells g.C.Clock.reads c.self.view_is (record_by (g.T.KeyTest.passes c.args.sought.0.now)) c.args.sought.1.hash c.args.need_key at.0 c.args.now c.args.clock.now
    g.met.K.Eq.laws c.self.inside.inner c.self.invariant (rw c.store-store.ensures at at.2.2) refl (record {}) in
    (at.0, rw (← c.self.view_is) (rw c.store-store.ensures at at.1), (Err (record {}), refused, refl))

pub returns-in-Refused-clause-succeeds : goal.returns-in-Refused-clause-succeeds
returns-in-Refused-clause-succeeds g c =
    let (handle, r, at, refused) = c.in-Refused.ensures.2 in
    rw (← c.self.view_is) (λ granted. absurd (refused (granted r (rw c.store-store.ensures at at.found))))

pub invariant_of-self : goal.invariant_of-self
invariant_of-self g c = whole-noted c.self.invariant (noted g (goal.at.invariant_of-self g c).After-note_hit c.note_hit.new.inner (c.note_hit.ensures.waits c.if-note_hit.true) refl) refl g.met.K.Eq.laws

pub returns-then-note_hit-clause-step : goal.returns-then-note_hit-clause-step
returns-then-note_hit-clause-step g c =
    let at = c.in-Found.ensures in
    let noted = noted g (goal.at.returns-then-note_hit-clause-step g c).After-note_hit c.note_hit.new.inner (c.note_hit.ensures.waits c.if-note_hit.true) refl in
    let hit = get_hits g.P.PredicateFn.says g.X.Expiry.read g.L.Listener.tells g.C.Clock.reads c.self.view_is (record_by (g.T.KeyTest.passes c.args.sought.0.now)) c.args.sought.1.hash c.args.need_key at.0 c.args.now c.args.clock.now
    g.met.K.Eq.laws c.self.inside.inner c.self.invariant (rw c.store-store.ensures at at.2.1) refl noted (rw c.in-Found.ensures.2.2.1 at c.record_hit_by.ensures) in
    (at.0, rw (← c.self.view_is) (rw c.store-store.ensures at at.1), (Ok (Some (entry_at c.args.need_key c.in-Found.ensures.2.0)), hit, c.in-Found.ensures.2.2.0))

pub invariant_of-self-else-note_hit : goal.invariant_of-self-else-note_hit
invariant_of-self-else-note_hit g c =
    let mid : Interior g.row.K.Denot g.row.V.Denot g.row.S.Denot = record c.self.inside.inner { kept = c.note_hit.new.inner.kept } in
    let whole = whole-noted c.self.invariant (noted g (goal.at.invariant_of-self-else-note_hit g c).After-note_hit mid refl refl) refl g.met.K.Eq.laws in
    whole-queued mid whole refl (Hit c.in-Found.handle.number c.in-Found.hash c.in-Found.hit.is_renewed) c.note_hit.new.inner (c.note_hit.ensures.queued c.if-note_hit.false)

pub returns-else-note_hit-clause-step : goal.returns-else-note_hit-clause-step
returns-else-note_hit-clause-step g c =
    let at = c.in-Found.ensures in
    let mid : Interior g.row.K.Denot g.row.V.Denot g.row.S.Denot = record c.self.inside.inner { kept = c.note_hit.new.inner.kept } in
    let hit = noted g (goal.at.returns-else-note_hit-clause-step g c).After-note_hit mid refl refl in
    let queued = queues_read g.P.PredicateFn.says g.X.Expiry.read g.L.Listener.tells g.C.Clock.reads c.self.view_is (record_by (g.T.KeyTest.passes c.args.sought.0.now)) c.args.sought.1.hash c.args.need_key at.0 c.args.now c.args.clock.now
    g.met.K.Eq.laws c.self.inside.inner c.self.invariant (rw c.store-store.ensures at at.2.1) refl hit (sym c.note_hit.ensures.due ∙ c.if-note_hit.false) (Hit c.in-Found.handle.number c.in-Found.ensures.2.0.hash c.in-Found.hit.is_renewed) c.note_hit.new.inner (rw c.in-Found.ensures.2.2.1 at (c.note_hit.ensures.queued c.if-note_hit.false)) in
    let found = get_hits g.P.PredicateFn.says g.X.Expiry.read g.L.Listener.tells g.C.Clock.reads c.self.view_is (record_by (g.T.KeyTest.passes c.args.sought.0.now)) c.args.sought.1.hash c.args.need_key at.0 c.args.now c.args.clock.now
    g.met.K.Eq.laws c.self.inside.inner c.self.invariant (rw c.store-store.ensures at at.2.1) refl hit queued in
    (at.0, rw (← c.self.view_is) (rw c.store-store.ensures at at.1), (Ok (Some (entry_at c.args.need_key c.in-Found.ensures.2.0)), found, c.in-Found.ensures.2.2.0))
