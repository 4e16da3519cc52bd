use Rattle.std.proofs.Common.{◌+◌, ◌<◌, length, arith}
use Rattle.moka_wheel.proofs.Maps.{puts-timers, put-lookup}
use Rattle.moka_wheel.proofs.Upkeep.{none-free, none-past, reuse-wheel, append-wheel}
use Rattle.moka_wheel.proofs.timer_wheel.TimerWheel.schedule.Goals as goal

-- ---- a new node

pub invariant_of-self : goal.invariant_of-self
invariant_of-self c =
    let s = c.self.inside in
    let fits : length s.buckets.nodes.items < 4294967296 = omega (arith, c.append.type_inv, c.append.ensures.slot) in
    append-wheel s.buckets c.append.new.self s.len s.free c.append.result _ c.self.invariant (omega (arith, c.if-count-len.true, c.len.ensures)) fits
    c.append.ensures.placed c.append.ensures.puts (omega (arith, c.append.ensures.len)) (omega (arith, c.append.ensures.slot))

pub returns-then-count-len-clause-fresh : goal.returns-then-count-len-clause-fresh
returns-then-count-len-clause-fresh c = rw (← c.self.view_is) (none-past c.self.inside.buckets.nodes.items c.append.result (omega (arith, c.append.ensures.slot)))

pub returns-then-count-len-clause-timers : goal.returns-then-count-len-clause-timers
returns-then-count-len-clause-timers c = rw (← c.self.view_is) (puts-timers _ _ c.append.result _ c.append.ensures.puts)

pub returns-then-count-len-clause-lookups : goal.returns-then-count-len-clause-lookups
returns-then-count-len-clause-lookups c other = rw (← c.self.view_is) (put-lookup _ _ c.append.result _ c.append.ensures.puts other)

-- ---- a free node

pub invariant_of-self-2 : goal.invariant_of-self-2
invariant_of-self-2 c =
    let s = c.self.inside in
    let more : s.len + 2049 < length s.buckets.nodes.items = omega (arith, c.self.invariant.total, c.if-count-len.false, c.len.ensures) in
    reuse-wheel s.buckets c.reuse-self-inside.new.self s.len s.free c.reuse-self-inside.result _ c.self.invariant more
    c.reuse-self-inside.ensures.placed c.reuse-self-inside.ensures.puts (omega (arith, c.reuse-self-inside.ensures.len)) c.reuse-self-inside.ensures.next

pub returns-clause-fresh : goal.returns-clause-fresh
returns-clause-fresh c =
    rw (← c.self.view_is) (none-free c.self.invariant (omega (arith, c.self.invariant.total, c.if-count-len.false, c.len.ensures)))

pub returns-clause-timers : goal.returns-clause-timers
returns-clause-timers c = rw (← c.self.view_is) (puts-timers _ _ c.self.inside.free _ c.reuse-self-inside.ensures.puts)

pub returns-clause-lookups : goal.returns-clause-lookups
returns-clause-lookups c other = rw (← c.self.view_is) (put-lookup _ _ c.self.inside.free _ c.reuse-self-inside.ensures.puts other)
