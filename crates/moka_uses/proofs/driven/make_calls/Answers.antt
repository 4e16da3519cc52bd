use Rattle.moka_engine.specs.Drives.{Drives}
use Rattle.moka_engine.specs.State.{Meaning, meaning_of}
use Rattle.moka_uses.specs.Driven.{Follows}
use Rattle.moka_uses.proofs.Followed.{if_ok, follows}
use Rattle.moka_uses.proofs.driven.make_calls.Goals as goal

pub returns-clause-made : goal.returns-clause-made
returns-clause-made g c =
    let m : Meaning g.row.K.Denot g.row.V.Denot g.row.X.Denot g.row.L.Denot g.row.P.Denot g.row.W.Denot g.row.C.Denot g.row.I.Denot = meaning_of g.K.PartialEq.eq g.L.Listener.tells g.P.PredicateFn.says g.W.Weigher.weighs g.C.Clock.reads g.I.IdSource.gives g.X.Expiry.created g.X.Expiry.read g.X.Expiry.updated in
    if_ok (λ replies. Drives m c.args.calls.items replies.items c.args.cache.now c.args.clock.now c.args.ids.now c.drive.new.cache c.drive.new.clock c.drive.new.ids) (λ replies. Follows m c.args.calls.items replies.items c.args.cache.now c.args.clock.now c.args.ids.now c.drive.new.cache c.drive.new.clock c.drive.new.ids)
    (λ replies drives. follows m c.lists_are_of_reference.ensures c.lists_keep_order.ensures c.predicates_leave_idle.ensures c.args.calls.items replies.items c.args.cache.now c.drive.new.cache c.args.clock.now c.drive.new.clock c.args.ids.now c.drive.new.ids c.invariant_holds.ensures.valid drives)
    c.drive.result c.drive.ensures.run
