use Rattle.moka_records.specs.KeyTests.{record_by}
use Rattle.moka_lookups.specs.Gets.{value_of}
use Rattle.moka_lookups.proofs.FindSteps.{ignores_nothing}
use Rattle.moka_lookups.proofs.gets.find_shown.Goals as goal

pub returns : goal.returns
returns g c =
    let found = c.find_unless.ensures in
    let unasked = ignores_nothing (record {}) c.find_unless.new.ignore_if (value_of (record_by (g.T.KeyTest.passes c.args.sought.0.now) c.args.store.now.records)) found.0 found.1 in
    rw unasked at found.2
