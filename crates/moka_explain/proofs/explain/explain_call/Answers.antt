use Rattle.moka_explain.proofs.Ran.{call_makes_room}
use Rattle.moka_explain.proofs.explain.explain_call.Goals as goal

pub returns-in_ok-reply-in-All-clause-room : goal.returns-in_ok-reply-in-All-clause-room
returns-in_ok-reply-in-All-clause-room c = let made = c.in_ok-reply-in-All.ensures.made in call_makes_room c.args.call made.0 _ _ _ _ _ _ c.invariant_holds.ensures.valid made.2
