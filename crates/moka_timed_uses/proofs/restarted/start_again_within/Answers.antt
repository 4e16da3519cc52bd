use Rattle.std.proofs.Common.{◌≡◌, ◌==◌, ◌∙◌, ◌≤◌, ℕ, false, Some, None, ap, sym, subst, arith}
use Rattle.std.specs.Duration.{as_nanos}
use Rattle.std.specs.FinMap.{empty}
use Rattle.std.specs.Prelude.{length}
use Rattle.moka_cache.specs.Saves.{WeighAtMost}
use Rattle.moka_engine.specs.Config.{Config}
use Rattle.moka_engine.specs.State.{is_disabled}
use Rattle.moka_engine.specs.declared.NoWeigher.{NoWeigher}
use Rattle.moka_uses.specs.Made.{IsNew, plain_meaning}
use Rattle.moka_timed_uses.proofs.Among.{among_all, each_weighs_one, still_back}
use Rattle.moka_timed_uses.proofs.Limited.{all_back}
use Rattle.moka_timed_uses.proofs.restarted.start_again_within.Goals as goal

enabled : (capacity : ℕ) → 1 ≤ capacity → is_disabled (Some capacity) ≡ false
enabled capacity some = grind (arith, some)

pub returns-in-Ok : goal.returns-in-Ok
returns-in-Ok g c =
    let (now, read, reads, (put, there, lasts)) = c.in-Ok.ensures.made in
    let chosen = c.max_capacity-config.ensures ∙ ap (λ (f : Config _ _ _). record f { max_capacity = Some c.args.capacity }) (c.time_to_idle.ensures ∙ ap (λ (f : Config _ _ _). record f { time_to_idle = Some (as_nanos c.args.idle) }) c.default.ensures) in
    let new = subst (λ f. IsNew g.C.Clock.reads f c.args.clock c.in_ok-sessions.sessions.cache c.in_ok-sessions.sessions.clock) chosen c.in_ok-sessions.ensures.empty in
    let begun = c.in_ok-sessions.sessions.cache.engine in
    let back = c.restore.new.self.cache.engine in
    let bounded : begun.state.capacity ≡ Some c.args.capacity = ap (λ s. s.engine.state.capacity) new.2 in
    let idles : begun.state.settings.time_to_idle ≡ Some (as_nanos c.args.idle) = ap (λ s. s.engine.state.settings.time_to_idle) new.2 in
    let weigher : begun.state.settings.weigher ≡ None = ap (λ s. s.engine.state.settings.weigher) new.2 in
    let none : begun.state.records ≡ empty = ap (λ s. s.engine.state.records) new.2 in
    record {
      idle = ap (λ s. s.time_to_idle) c.restore.ensures.hides.settings ∙ idles;
      bound = all_back (plain_meaning (λ a b. a == b) g.C.Clock.reads) _ now c.args.saved.items begun read back c.restore.new.self.clock put ∙ bounded;
      back = (
        new.0,
        c.in_ok-sessions.sessions.clock,
        new.1,
        now,
        read,
        reads,
        λ some few.
            still_back begun.state back.state c.args.saved.items now.0 c.restore.ensures.hides (there (c.made_again_answers_alike.ensures.room c.args.saved.items begun.state c.args.capacity (length c.args.saved.items)
            (record { records = none; outstanding = ap (λ s. s.engine.state.outstanding) new.2; writes = ap (λ s. s.engine.state.writes) new.2; access = ap (λ s. s.engine.state.access) new.2 })
            (ap (λ s. s.engine.state.invalid_before) new.2) (ap (λ s. s.engine.state.predicates) new.2) bounded (enabled c.args.capacity some) (subst (λ w. WeighAtMost (λ (_ : NoWeigher) _ _ weight. weight ≡ 1) w c.args.saved.items (length c.args.saved.items)) (sym weigher) (each_weighs_one (λ (_ : NoWeigher) _ _ weight. weight ≡ 1) c.args.saved.items)) few)),
      );
      among = among_all begun.state back.state c.args.saved.items none c.restore.ensures.adds;
      made = (c.in_ok-sessions.sessions.cache, c.in_ok-sessions.sessions.clock, new, now, read, reads, (_, put));
    }
