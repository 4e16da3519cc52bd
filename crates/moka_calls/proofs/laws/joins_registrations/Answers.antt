use Rattle.moka_calls.specs.Laws.{anytime}
use Rattle.moka_calls.specs.Synchronous.{meaning_of, hears_clones}
use Rattle.moka_calls.proofs.Registering.{joins_registrations}
use Rattle.moka_calls.proofs.laws.joins_registrations.Goals as goal

pub returns : goal.returns
returns g c =
    let tells = g.L.Listener.tells in
    let clones = hears_clones g.K.Clone.is_clone g.V.Clone.is_clone tells in
    record {
      themselves = joins_registrations g.row.S.Denot tells (meaning_of g.K.PartialEq.eq tells g.P.PredicateFn.says g.W.Weigher.weighs g.C.Clock.reads g.X.Expiry.created g.X.Expiry.read g.X.Expiry.updated) (λ a id b none. none) g.I.IdSource.gives g.met.K.Eq.laws;
      clones = joins_registrations g.row.S.Denot tells (meaning_of g.K.PartialEq.eq clones g.P.PredicateFn.says g.W.Weigher.weighs g.C.Clock.reads g.X.Expiry.created g.X.Expiry.read g.X.Expiry.updated) (λ a id b none. none) g.I.IdSource.gives g.met.K.Eq.laws;
      at_any_time = joins_registrations g.row.S.Denot tells (anytime (meaning_of g.K.PartialEq.eq clones g.P.PredicateFn.says g.W.Weigher.weighs g.C.Clock.reads g.X.Expiry.created g.X.Expiry.read g.X.Expiry.updated)) (λ a id b none. none) g.I.IdSource.gives g.met.K.Eq.laws;
    }
