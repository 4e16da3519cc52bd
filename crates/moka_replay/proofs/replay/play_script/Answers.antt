use Rattle.moka_script.specs.Script.{text_of}
use Rattle.moka_replay.proofs.replay.play_script.Goals as goal

pub returns : goal.returns
returns g c = (c.in_ok-script.ensures.0, c.in_ok-script.ensures.1, (text_of c.in_ok-script.script, c.in_ok-script.ensures.2, (c.in_ok-replies.field-0.replies.items, c.in_ok-replies.ensures, c.in_order-replies.ensures)))
