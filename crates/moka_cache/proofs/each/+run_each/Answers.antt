use Rattle.std.proofs.Common.{refl}
use Rattle.moka_calls.specs.Synchronous.{meaning_of}
use Rattle.moka_cache.proofs.EachOne.{nothing_ran, first_ran}
use Rattle.moka_cache.proofs.each.+run_each.Goals as goal

pub returns-in_default : goal.returns-in_default
returns-in_default g t c = nothing_ran (meaning_of g.K.PartialEq.eq g.L.Listener.tells g.P.PredicateFn.says g.W.Weigher.weighs g.C.Clock.reads g.X.Expiry.created g.X.Expiry.read g.X.Expiry.updated) c.args.now c.args.clock.now c.args.caches.now c.in_default.ensures.cases

pub returns : goal.returns
returns g t c =
    let ran = c.run_pending_tasks-more.ensures in
    first_ran (meaning_of g.K.PartialEq.eq g.L.Listener.tells g.P.PredicateFn.says g.W.Weigher.weighs g.C.Clock.reads g.X.Expiry.created g.X.Expiry.read g.X.Expiry.updated) c.args.now
    c.args.clock.now c.run_pending_tasks-more.new.clock c.run_each-others.new.clock c.run_pending_tasks-more.result c.run_each-others.result _ c.args.caches.now c.in-Some.rest.now c.run_each-others.new.caches c.in-Some.first.now c.run_pending_tasks-more.new.self
    c.in-Some.ensures.cases (record { made = ran.made; exact = ran.exact; within = ran.within; members = ran.members; counted = ran.counted }) c.run_each-others.ensures refl
