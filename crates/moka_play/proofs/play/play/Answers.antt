use Rattle.std.proofs.Common.{◌≡◌, ◌∙◌, ap, map, subst}
use Rattle.moka_parts.specs.Surroundings.{Heard, Leads}
use Rattle.moka_parts.specs.Runs.{AreSteps, PromisedRun, notices_of, readings_of, ids_of, last_state}
use Rattle.moka_script.specs.Calls.{told_call}
use Rattle.moka_script.specs.Notices.{Keeps, listener_for}
use Rattle.moka_play.specs.Played.{script_meaning, total_of}
use Rattle.moka_play.proofs.KeptNotices.{told_by_script}
use Rattle.moka_play.proofs.play.play.Goals as goal

pub returns-in-Ok : goal.returns-in-Ok
returns-in-Ok c =
    let run = c.in-Ok.ensures.run in
    let listens : c.in_ok-cache.cache.listener ≡ listener_for c.args.script.settings.listener c.args.script.calls.items = c.in_ok-cache.ensures.listener ∙ (c.in_ok-listener.ensures ∙ ap (λ calls. listener_for c.args.script.settings.listener calls) c.deref.ensures.value) in
    let heard = subst (λ listener. Heard Keeps listener (notices_of run.steps) c.drive.new.cache.listener) listens run.is_run.heard in
    let done = subst (λ s. AreSteps script_meaning (PromisedRun script_meaning.says script_meaning.read) s run.steps) c.in_ok-cache.ensures.state run.is_run.are_steps in
    (run.steps, ap (map told_call) run.is_run.calls_made, run.is_run.replies_given, told_by_script (record { settings = c.args.script.settings; rules = c.args.script.rules.items }) c.args.script.calls.items run.steps c.drive.new.cache.listener run.is_run.calls_made done heard, done, (c.drive.new.clock, subst (λ readings. Leads script_meaning.observes readings (readings_of run.steps) c.drive.new.clock) c.new.ensures run.is_run.read), (c.drive.new.ids, subst (λ ids. Leads script_meaning.gives ids (ids_of run.steps) c.drive.new.ids) c.new-ids.ensures run.is_run.given), ap (λ cache. total_of cache.state) run.is_run.ends ∙ ap (λ s. total_of (last_state s run.steps)) c.in_ok-cache.ensures.state)
