use Rattle.moka_calls.proofs.Lists.{invalidates_all, sets_max_capacity}
use Rattle.moka_calls.proofs.laws.makes_one_step.Goals as goal

pub returns : goal.returns
returns g c =
    record {
      invalidate_all = invalidates_all g.row.S.Denot _;
      set_max_capacity = sets_max_capacity g.row.S.Denot _;
    }
