use Rattle.moka_calls.proofs.Counting.{counts_calls, adds_up, sums_to_look_ups}
use Rattle.moka_calls.proofs.laws.counts_look_ups.Goals as goal

pub returns : goal.returns
returns g c = record {
  calls = counts_calls g.row.K.Denot g.row.V.Denot g.row.P.Denot g.row.E.Denot g.V.Clone.is_clone;
  adds_up = adds_up g.row.K.Denot g.row.V.Denot g.row.P.Denot;
  look_ups = sums_to_look_ups g.row.K.Denot g.row.V.Denot g.row.P.Denot;
}
