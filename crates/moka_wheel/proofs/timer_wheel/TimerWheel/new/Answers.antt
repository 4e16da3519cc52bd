use Rattle.moka_wheel.proofs.Heads.{heads-wheel, no-timers}
use Rattle.moka_wheel.proofs.timer_wheel.TimerWheel.new.Goals as goal

pub invariant_of-result : goal.invariant_of-result
invariant_of-result c = heads-wheel c.in_ok-new.field-0 c.in_ok-new.ensures.placed c.in_ok-new.ensures.heads

pub returns : goal.returns
returns c = no-timers c.in_ok-new.field-0.nodes.items c.in_ok-new.ensures.heads
