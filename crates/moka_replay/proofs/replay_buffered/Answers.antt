use Rattle.std.proofs.Common.{inl}
use Rattle.moka_replay.specs.declared.Output.{Output}
use Rattle.moka_replay.proofs.replay_buffered.Goals as goal

pub returns : goal.returns
returns g c =
    let output : Output g.row.W.Denot = record { 0 = c.in-Ok.buffer } in
    inl (c.replay_opened-status.ensures.0, c.replay_opened-status.ensures.1, output, c.replay_opened-status.new.out, c.in-Ok.ensures.inner, c.in-Ok.ensures.empty, c.replay_opened-status.ensures.2)
