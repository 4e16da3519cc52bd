use Rattle.moka_cache.specs.Each.{Hides}
use Rattle.moka_cache.proofs.EachOne.{nothing_each, first_each}
use Rattle.moka_cache.proofs.each.+invalidate_each.Goals as goal

pub returns-in_default : goal.returns-in_default
returns-in_default g t c = nothing_each _ c.args.caches.now c.in_default.ensures.cases

pub returns : goal.returns
returns g t c =
    first_each (Hides g.L.Listener.tells c.args.now) c.args.caches.now c.in-Some.rest.now c.invalidate_each.new.caches c.in-Some.first.now c.invalidate_all.new.self
    c.in-Some.ensures.cases (record { step = c.invalidate_all.ensures.step; events = c.invalidate_all.ensures.events; counted = c.invalidate_all.ensures.counted }) c.invalidate_each.ensures
