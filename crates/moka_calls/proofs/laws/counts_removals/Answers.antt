use Rattle.std.proofs.Common.{refl}
use Rattle.moka_calls.specs.Removed.{counting}
use Rattle.moka_calls.specs.Synchronous.{meaning_of, hears_clones}
use Rattle.moka_calls.proofs.Telling.{counts_heard, counts_removals, counting_counts, clones_count, passes_on}
use Rattle.moka_calls.proofs.laws.counts_removals.Goals as goal

pub returns : goal.returns
returns g c =
    let counted = counting g.L.Listener.tells in
    let clones = hears_clones g.K.Clone.is_clone g.V.Clone.is_clone counted in
    record {
      themselves = counts_removals counted (counting_counts g.L.Listener.tells) g.row.S.Denot (meaning_of g.K.PartialEq.eq counted g.P.PredicateFn.says g.W.Weigher.weighs g.C.Clock.reads g.X.Expiry.created g.X.Expiry.read g.X.Expiry.updated) refl;
      clones = counts_removals clones (clones_count g.L.Listener.tells g.K.Clone.is_clone g.V.Clone.is_clone) g.row.S.Denot (meaning_of g.K.PartialEq.eq clones g.P.PredicateFn.says g.W.Weigher.weighs g.C.Clock.reads g.X.Expiry.created g.X.Expiry.read g.X.Expiry.updated) refl;
      heard = counts_heard counted (counting_counts g.L.Listener.tells);
      clones_heard = counts_heard clones (clones_count g.L.Listener.tells g.K.Clone.is_clone g.V.Clone.is_clone);
      passed_on = passes_on g.L.Listener.tells;
    }
