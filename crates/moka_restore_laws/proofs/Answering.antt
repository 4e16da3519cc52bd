-- A record that was put back answers as the one that it was listed of.
use Rattle.std.proofs.Common.{Bool}
use Rattle.moka_parts.specs.Visibility.{is_expired, is_past_live, is_past_idle, is_written_before, is_read_before}
use Rattle.moka_laws.proofs.Surplus.{none_of_five}
use Rattle.moka_restore_laws.specs.Again.{AnswersAlike}

pub answers_alike : {K V P : Type 0} (X W : Type 0) (says : P → K → V → Bool → Type 0) → AnswersAlike X W says
answers_alike X W says first second r q seen now live idle valid unhidden written read expires shown =
    let bound = none_of_five (is_expired r seen) (is_past_live first.settings r seen) (is_past_idle first.settings r seen) (is_written_before first.invalid_before r) (is_read_before first.invalid_before r) shown.0 in (
      λ at. (rw (expires, live, written, idle, read, valid) (rw (bound.3, bound.4) at at.0), rw unhidden tt),
      λ at. (rw (bound.3, bound.4) (rw (expires, live, written, idle, read, valid) at at.0), shown.1),
    )
