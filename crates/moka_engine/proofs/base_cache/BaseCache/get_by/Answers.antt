use Rattle.std.proofs.Common.{ap, ◌∙◌}
use Rattle.moka_records.specs.KeyTests.{record_by}
use Rattle.moka_store.specs.Hashing.{index_hash}
use Rattle.moka_lookups.specs.Gets.{value_of}
use Rattle.moka_lookups.proofs.FindSteps.{ignores_nothing}
use Rattle.moka_engine.proofs.base_cache.BaseCache.get_by.Goals as goal

pub get_hashed-requires-clause-own : goal.get_hashed-requires-clause-own
get_hashed-requires-clause-own g c = λ k passing. c.of-own.ensures ∙ ap index_hash (c.requires.own k passing)

pub returns-clause-step : goal.returns-clause-step
returns-clause-step g c =
    let got = c.get_hashed.ensures.step in
    let unasked = ignores_nothing (record {}) c.get_hashed.new.ignore_if (value_of (record_by (g.T.KeyTest.passes c.args.test.now) c.args.self.now.state.records)) got.0 got.1 in
    rw unasked at got.2

pub returns-clause-succeeds : goal.returns-clause-succeeds
returns-clause-succeeds g c = c.get_hashed.ensures.succeeds
