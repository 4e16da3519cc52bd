use Rattle.std.proofs.Common.{◌≡◌, true≢false, refl, None, option_map, ap, sym, ◌∙◌, if◌then◌else◌}
use Rattle.std.specs.Duration.{as_nanos}
use Rattle.moka_parts.specs.Maintenance.{is_over}
use Rattle.moka_engine.proofs.IdleRuns.{idle_answer}
use Rattle.moka_engine.proofs.RunSteps.{run_keeps_whole, run_ends_exact, cache_runs, disabled_cache_runs, disabled_exact}
use Rattle.moka_engine.proofs.base_cache.BaseCache.run_pending_tasks.Given.{Over}
use Rattle.moka_engine.proofs.base_cache.BaseCache.run_pending_tasks.Goals as goal
use Rattle.moka_engine.proofs.base_cache.BaseCache.run_pending_tasks.Goals.{After-limit_of_run-limit}

pub returns-then-is_map_disabled : goal.returns-then-is_map_disabled
returns-then-is_map_disabled g c =
    let disabled = sym c.is_map_disabled.ensures ∙ c.if-is_map_disabled.true in
    record {
      step = disabled_cache_runs c.self.view_is c.self.invariant.cache disabled g.P.PredicateFn.says g.X.Expiry.read g.L.Listener.tells g.C.Clock.reads (record { now = c.args.now.0; limit = option_map as_nanos c.args.limit; batch = c.args.batch }) c.args.clock.now;
      exact = λ _. disabled_exact c.self.view_is c.self.invariant.cache disabled;
      idle = λ enabled. absurd (true≢false (sym disabled ∙ enabled));
    }

-- the run has a limit only where a listener is set
limited : (g : Over) (c : After-limit_of_run-limit g) → option_map as_nanos c.limit_of_run-limit.result ≡ (if c.self.inside.housekeeper.listening then option_map as_nanos c.args.limit else None)
limited g c = c.limit_of_run-limit.ensures ∙ ap (λ b. if b then option_map as_nanos c.args.limit else None) (c.is_enabled.ensures ∙ sym c.self.invariant.cache.listens)

pub invariant_of-self-2 : goal.invariant_of-self-2
invariant_of-self-2 g c =
    run_keeps_whole c.self.view_is c.self.inside.inner c.apply_queues.new.self c.make_passes-ran.new.self refl c.self.invariant (sym c.is_map_disabled.ensures ∙ c.if-is_map_disabled.false)
    c.is_some.ensures c.apply_queues.ensures.prepared c.apply_queues.ensures.rest c.apply_queues.ensures.timers c.make_passes-ran.ensures.timers
    (record { now = c.args.now.0; limit = option_map as_nanos c.args.limit; batch = c.args.batch }) (rw (c.time_to_live.ensures, c.time_to_idle.ensures) refl) (limited g (goal.at.invariant_of-self-2 g c).After-limit_of_run-limit)
    c.make_passes-ran.ensures.ran c.make_passes-ran.ensures.rest c.report_of-count.result.0 c.report_of-count.result.1 (rw c.store.ensures at c.report_of-count.ensures.count) (rw c.store.ensures at c.report_of-count.ensures.weight)

pub returns-clause-step : goal.returns-clause-step
returns-clause-step g c =
    cache_runs c.self.view_is c.self.inside.inner c.apply_queues.new.self c.make_passes-ran.new.self refl c.self.invariant (sym c.is_map_disabled.ensures ∙ c.if-is_map_disabled.false)
    c.is_some.ensures c.apply_queues.ensures.prepared c.apply_queues.ensures.rest c.apply_queues.ensures.timers c.make_passes-ran.ensures.timers
    (record { now = c.args.now.0; limit = option_map as_nanos c.args.limit; batch = c.args.batch }) (rw (c.time_to_live.ensures, c.time_to_idle.ensures) refl) (limited g (goal.at.returns-clause-step g c).After-limit_of_run-limit)
    c.make_passes-ran.ensures.ran c.make_passes-ran.ensures.rest c.report_of-count.result.0 c.report_of-count.result.1 (rw c.store.ensures at c.report_of-count.ensures.count) (rw c.store.ensures at c.report_of-count.ensures.weight)
    c.make_passes-ran.ensures.none

pub returns-clause-exact : goal.returns-clause-exact
returns-clause-exact g c =
    run_ends_exact c.self.view_is c.self.inside.inner c.apply_queues.new.self c.make_passes-ran.new.self refl c.self.invariant (sym c.is_map_disabled.ensures ∙ c.if-is_map_disabled.false)
    c.is_some.ensures c.apply_queues.ensures.prepared c.apply_queues.ensures.rest c.apply_queues.ensures.timers c.make_passes-ran.ensures.timers
    (record { now = c.args.now.0; limit = option_map as_nanos c.args.limit; batch = c.args.batch }) (rw (c.time_to_live.ensures, c.time_to_idle.ensures) refl) (limited g (goal.at.returns-clause-exact g c).After-limit_of_run-limit)
    c.make_passes-ran.ensures.ran c.make_passes-ran.ensures.rest c.report_of-count.result.0 c.report_of-count.result.1 (rw c.store.ensures at c.report_of-count.ensures.count) (rw c.store.ensures at c.report_of-count.ensures.weight)

pub returns-clause-idle : goal.returns-clause-idle
returns-clause-idle g c = λ _ zero.
    idle_answer c.self.inside.expiration_policy.time_to_live c.self.inside.expiration_policy.time_to_idle c.time_to_live.result c.time_to_idle.result c.time_to_live.ensures c.time_to_idle.ensures c.self.inside.valid_after
    (is_over c.self.inside.max_capacity c.make_passes-ran.new.self.kept.access) c.make_passes-ran.result.has_more (c.make_passes-ran.ensures.ran.idle zero)
