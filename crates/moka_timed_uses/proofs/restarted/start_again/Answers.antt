use Rattle.std.proofs.Common.{◌≡◌, ◌==◌, ◌∙◌, None, Some, ap, sym, subst}
use Rattle.std.specs.Duration.{as_nanos}
use Rattle.std.specs.FinMap.{empty}
use Rattle.moka_engine.specs.Config.{Config}
use Rattle.moka_cache.specs.Saves.{HasRoomFor}
use Rattle.moka_uses.specs.Made.{IsNew, plain_meaning}
use Rattle.moka_timed_uses.specs.Restarted.{ArePutBack}
use Rattle.moka_timed_uses.proofs.Among.{among_all, all_back}
use Rattle.moka_timed_uses.proofs.Limited.{all_back as same_capacity}
use Rattle.moka_timed_uses.proofs.restarted.start_again.Goals as goal

pub returns-in-Ok : goal.returns-in-Ok
returns-in-Ok g c =
    let (now, read, reads, (put, there, lasts)) = c.in-Ok.ensures.made in
    let chosen = c.time_to_idle-config.ensures ∙ ap (λ (f : Config _ _ _). record f { time_to_idle = Some (as_nanos c.args.idle) }) c.default.ensures in
    let new = subst (λ f. IsNew g.C.Clock.reads f c.args.clock c.in_ok-sessions.sessions.cache c.in_ok-sessions.sessions.clock) chosen c.in_ok-sessions.ensures.empty in
    let begun = c.in_ok-sessions.sessions.cache.engine in
    let back = c.restore.new.self.cache.engine in
    let capacity : begun.state.capacity ≡ None = ap (λ s. s.engine.state.capacity) new.2 in
    let idles : begun.state.settings.time_to_idle ≡ Some (as_nanos c.args.idle) = ap (λ s. s.engine.state.settings.time_to_idle) new.2 in
    let none : begun.state.records ≡ empty = ap (λ s. s.engine.state.records) new.2 in
    let made : ArePutBack (λ _ _ _ weight. weight ≡ 1) c.args.saved.items now.0 (as_nanos c.args.idle) back.state = record {
      begun = begun.state;
      no_records = none;
      roomy = record {
        room = subst (λ o. HasRoomFor (λ _ _ _ weight. weight ≡ 1) o c.args.saved.items begun.state) (sym capacity) tt;
        bound = ap (λ s. s.engine.state.invalid_before) new.2;
        predicates = ap (λ s. s.engine.state.predicates) new.2;
      };
      live = ap (λ s. s.engine.state.settings.time_to_live) new.2;
      idles = idles;
      expiry = ap (λ s. s.engine.state.settings.expiry) new.2;
      lasts = lasts;
      there = there;
      adds = c.restore.ensures.adds;
      hides = c.restore.ensures.hides;
    } in
    record {
      idle = ap (λ s. s.time_to_idle) c.restore.ensures.hides.settings ∙ idles;
      back = (new.0, c.in_ok-sessions.sessions.clock, new.1, now, read, reads, (all_back (λ _ _ _ weight. weight ≡ 1) back.state c.args.saved.items now.0 (as_nanos c.args.idle) made, made));
      among = among_all begun.state back.state c.args.saved.items none c.restore.ensures.adds;
      unbounded = same_capacity (plain_meaning (λ a b. a == b) g.C.Clock.reads) _ now c.args.saved.items begun read back c.restore.new.self.clock put ∙ capacity;
      made = (c.in_ok-sessions.sessions.cache, c.in_ok-sessions.sessions.clock, new, now, read, reads, (_, put));
    }
