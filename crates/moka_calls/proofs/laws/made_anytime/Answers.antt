use Rattle.moka_calls.specs.Synchronous.{meaning_of, hears_clones}
use Rattle.moka_calls.proofs.Anytime.{made_at_any_time}
use Rattle.moka_calls.proofs.laws.made_anytime.Goals as goal

pub returns : goal.returns
returns g c =
    let tells = g.L.Listener.tells in
    let clones = hears_clones g.K.Clone.is_clone g.V.Clone.is_clone tells in
    record {
      themselves = made_at_any_time g.row.S.Denot (meaning_of g.K.PartialEq.eq tells g.P.PredicateFn.says g.W.Weigher.weighs g.C.Clock.reads g.X.Expiry.created g.X.Expiry.read g.X.Expiry.updated) g.met.K.Eq.laws;
      clones = made_at_any_time g.row.S.Denot (meaning_of g.K.PartialEq.eq clones g.P.PredicateFn.says g.W.Weigher.weighs g.C.Clock.reads g.X.Expiry.created g.X.Expiry.read g.X.Expiry.updated) g.met.K.Eq.laws;
    }
