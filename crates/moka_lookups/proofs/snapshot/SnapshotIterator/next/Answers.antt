use Rattle.std.proofs.Common.{refl, ◌∙◌}
use Rattle.moka_lookups.specs.Snapshot.{Scene, scene_at}
use Rattle.moka_lookups.proofs.Passing.{lists_found}
use Rattle.moka_lookups.proofs.snapshot.SnapshotIterator.next.Goals as goal

pub returns-clause-steps : goal.returns-clause-steps
returns-clause-steps g c =
    let inside = c.self.inside in
    let before : Scene g.row.K.Denot g.row.V.Denot g.row.X.Denot g.row.P.Denot = scene_at inside.store.now inside.moments.policy.now inside.moments.valid_after.now inside.invalidator.now inside.moments.now.0 inside.at in
    let after : Scene g.row.K.Denot g.row.V.Denot g.row.X.Denot g.row.P.Denot = scene_at inside.store.now inside.moments.policy.now inside.moments.valid_after.now inside.invalidator.now inside.moments.now.0 c.next_shown-found.result.1 in
    rw (← c.self.view_is, c.key.ensures, c.value.ensures, c.written-written.ensures, c.read-read.ensures, c.expires.ensures) (lists_found g.P.PredicateFn.says before c.next_shown-found.result.0 c.in_ok-found.found after c.in_ok-found.was c.next_shown-found.ensures.listed _ (c.remaining.ensures ∙ rw (c.time_to_live-live.ensures, c.time_to_idle-idle.ensures, c.expires-2.ensures, c.written-written.ensures, c.read-read.ensures) refl))
