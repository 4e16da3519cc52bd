use Rattle.std.proofs.Common.{List, ap}
use Rattle.moka_records.specs.declared.records.Member.{Member}
use Rattle.moka_lookups.specs.Snapshot.{Scene, scene_from}
use Rattle.moka_lookups.proofs.Passing.{starts}
use Rattle.moka_lookups.proofs.snapshot.Snapshot.new.Goals as goal

pub returns : goal.returns
returns g c =
    let scene : Scene g.row.K.Denot g.row.V.Denot g.row.X.Denot g.row.P.Denot = scene_from c.args.store.now c.args.moments.policy.now c.args.moments.valid_after.now c.args.invalidator.now c.args.moments.now.0 in
    ap (λ (members : List Member). record scene { members = members }) (starts c.args.store.now.access c.front.result c.handle_of-at.result c.front.ensures.front c.handle_of-at.ensures)
