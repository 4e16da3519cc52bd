use Rattle.moka_segments.specs.Whole.{whole_capacity}
use Rattle.moka_timed_uses.proofs.Bound.{within_all}
use Rattle.moka_timed_uses.proofs.shared.keep_bound.Goals as goal

pub returns-clause-within : goal.returns-clause-within
returns-clause-within c = within_all c.run_pending_tasks.new.self.segments (whole_capacity c.run_pending_tasks.new.self.segments) c.max_capacity-most.result c.weighted_size-weight.result c.weighted_size-weight.ensures c.max_capacity-most.ensures c.run_pending_tasks.ensures.within

pub returns-clause-ran : goal.returns-clause-ran
returns-clause-ran c = (c.run_pending_tasks.ensures.routing, c.run_pending_tasks.result, c.run_pending_tasks.new.clock, c.run_pending_tasks.ensures.each)
