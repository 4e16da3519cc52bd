use Rattle.std.proofs.Common.{refl, arith, [], ◌∷◌, None}
use Rattle.moka_engine.specs.parts.Call.TheVariants as call
use Rattle.moka_engine.specs.parts.Reply.TheVariants as reply
use Rattle.moka_uses.proofs.invalidated.run_after_hiding.Goals as goal

pub returns : goal.returns
returns c =
    let called = c.run_pending_tasks.ensures.step in
    let old = c.args.numbers.now in
    let new = c.run_pending_tasks.new.self in
    let step = c.steps_are_of_reference.ensures old.state old.write_list (record { call = call.Run c.args.now None 1 384; reply = reply.Run c.run_pending_tasks.result; events = called.0; after = new.state }) new.write_list (called.1, called.2.listed) in
    record {
      hidden = λ key hidden later shown no_earlier look. c.stays_hidden.ensures old.state (record { call = call.Run c.args.now None 1 384; reply = reply.Run c.run_pending_tasks.result; events = called.0; after = new.state } ∷ []) key c.args.now.0 later shown c.invariant_holds.ensures.valid (step, tt) (omega arith, tt, tt) (refl, tt) no_earlier hidden look;
      ran = (called.0, called.1, called.2, tt);
    }
