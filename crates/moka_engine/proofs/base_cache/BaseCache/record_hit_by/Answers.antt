use Rattle.std.proofs.Common.{refl, option_map, ap, sym, ◌∙◌}
use Rattle.moka_records.specs.declared.records.ReadOperation.TheVariants.{Hit}
use Rattle.moka_records.specs.declared.records.Record.{Record}
use Rattle.moka_records.specs.KeyTests.{record_by}
use Rattle.moka_records.proofs.Tested.{record_by_found, record_by_key}
use Rattle.moka_engine.proofs.GetSteps.{whole-queued}
use Rattle.moka_engine.proofs.HitSteps.{number_found, known_after}
use Rattle.moka_engine.proofs.KeeperSteps.{read_follows}
use Rattle.moka_engine.proofs.base_cache.BaseCache.record_hit_by.Goals as goal

pub queue_hit_by-requires-clause-known : goal.queue_hit_by-requires-clause-known
queue_hit_by-requires-clause-known g c =
    let records = c.args.self.now.state.records in
    let eq = g.K.PartialEq.eq in
    let passes = g.T.KeyTest.passes c.args.sought.0.now in
    let one_key = g.met.T.KeyTest.one_key c.args.sought.0.now in
    let ran = c.run_by_housekeeper.ensures in
    let found = number_found (record_by passes records) c.args.number c.requires.found in
    let passing = (record_by_found eq passes one_key records found.0 found.1).2 in
    let by_key = ap (option_map (λ (r : Record g.row.K.Denot g.row.V.Denot). r.number)) (sym (record_by_key eq passes one_key records found.0.key passing)) ∙ c.requires.found in (
      found.0.key,
      passing,
      known_after eq g.met.K.Eq.laws g.P.PredicateFn.says g.X.Expiry.read c.args.self.now c.self.view_is c.self.invariant.cache ran.valid c.args.hit.read.0 ran.step.0 ran.step.1 found.0.key c.args.number by_key,
    )

pub invariant_of-self : goal.invariant_of-self
invariant_of-self g c = whole-queued c.self.inside.inner c.self.invariant refl (Hit c.args.number c.args.hash c.args.hit.is_renewed) c.queue_hit_by.new.self c.queue_hit_by.ensures

pub returns : goal.returns
returns g c =
    let ran = c.run_by_housekeeper.ensures.step in
    read_follows g.P.PredicateFn.says g.X.Expiry.read g.L.Listener.tells g.C.Clock.reads c.args.self.now c.args.hit.read.0 c.args.clock.now c.run_by_housekeeper.new.clock c.self.view_is (ran.0, rw c.requires.due ran.1, ran.2, ran.3)
    c.self.inside.inner refl (Hit c.args.number c.args.hash c.args.hit.is_renewed) c.queue_hit_by.new.self c.queue_hit_by.ensures
