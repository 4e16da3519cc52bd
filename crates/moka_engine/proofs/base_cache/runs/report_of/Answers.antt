use Rattle.std.proofs.Common.{rules}
use Rattle.moka_engine.proofs.base_cache.runs.report_of.Goals as goal

pub returns-clause-count : goal.returns-clause-count
returns-clause-count g c = c.member_count-count.ensures.value

pub returns-clause-weight : goal.returns-clause-weight
returns-clause-weight g c = search rules
