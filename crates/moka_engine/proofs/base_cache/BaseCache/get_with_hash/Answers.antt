use Rattle.moka_records.specs.Records.{record_of_key}
use Rattle.moka_lookups.specs.Gets.{value_of}
use Rattle.moka_lookups.proofs.FindSteps.{ignores_nothing}
use Rattle.moka_engine.proofs.base_cache.BaseCache.get_with_hash.Goals as goal

pub returns-clause-step : goal.returns-clause-step
returns-clause-step g c =
    let got = c.get_hashed.ensures.step in
    let unasked = ignores_nothing (record {}) c.get_hashed.new.ignore_if (value_of (record_of_key g.K.PartialEq.eq c.args.self.now.state.records c.args.key.now)) got.0 got.1 in
    rw unasked at got.2
