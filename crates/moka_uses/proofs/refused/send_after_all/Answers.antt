use Rattle.std.proofs.Common.{◌≡◌, refl, Err, subst, inr, false}
use Rattle.moka_engine.specs.Calls.{no_events, SendStep}
use Rattle.moka_uses.proofs.SentAfterAll.{after_run}
use Rattle.moka_uses.proofs.refused.send_after_all.Goals as goal

pub returns-in-Err-QueueFull-clause-held : goal.returns-in-Err-QueueFull-clause-held
returns-in-Err-QueueFull-clause-held c =
    let s = c.args.cache.now.state in
    let full = c.send.new.self in
    let run = c.run_pending_tasks.ensures.step in
    let refused = subst (λ e. SendStep s c.args.ticket.0 (Err e) full.state) c.in-Err-QueueFull.field-0-is c.in-Err-QueueFull.ensures.step in
    (after_run (λ _ _ _ answer. answer ≡ false) (λ _ _ _ _ left _. left) full.write_list c.run_pending_tasks.new.self.write_list s full.state c.args.ticket.0 c.requires refused _ c.run_pending_tasks.result run.0 c.run_pending_tasks.new.self.state run.1
    c.send-in-Err-QueueFull.result c.send-in-Err-QueueFull.new.self.state c.send-in-Err-QueueFull.ensures.step).held

pub returns-in-Err-QueueFull-clause-made : goal.returns-in-Err-QueueFull-clause-made
returns-in-Err-QueueFull-clause-made c =
    let run = c.run_pending_tasks.ensures.step in
    let refused = subst (λ e. SendStep c.args.cache.now.state c.args.ticket.0 (Err e) c.send.new.self.state) c.in-Err-QueueFull.field-0-is c.in-Err-QueueFull.ensures.step in
    inr (
      c.send.new.self,
      c.run_pending_tasks.new.self,
      c.run_pending_tasks.result,
      (no_events, (refused, refl), c.in-Err-QueueFull.ensures.events, tt),
      (run.0, run.1, run.2, tt),
      (no_events, (c.send-in-Err-QueueFull.ensures.step, refl), c.send-in-Err-QueueFull.ensures.events, tt),
    )
