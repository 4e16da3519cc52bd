use Rattle.std.proofs.Common.{◌≡◌, ◌==◌, false, None, Some, inl, sym, subst, ◌∙◌}
use Rattle.std.proofs.lemmas.Bool.{eq-eqb}
use Rattle.std.specs.Duration.{as_nanos}
use Rattle.moka_restore_laws.specs.Again.{IsMadeAgain}
use Rattle.moka_engine.specs.Settling.{IsValid}
use Rattle.moka_timed_uses.proofs.restarted.hand_over.Goals as goal

pub returns-clause-handed_over : goal.returns-clause-handed_over
returns-clause-handed_over g c =
    let (saved, read, reads, items, ran) = c.in_ok-saved.ensures.saved in
    let (begun, ticked, ticks, put, read_again, reads_again, (back, made)) = c.in_ok-again.ensures.back in
    let valid = subst (λ e. IsValid (λ a b. a == b) e.state) c.engine.ensures c.invariant_holds-2.ensures.valid in
    let valid_again = subst (λ e. IsValid (λ a b. a == b) e.state) c.engine-2.ensures c.invariant_holds-3.ensures.valid in
    let first = c.save.new.sessions.cache.engine in
    let second = c.in_ok-again.again.cache.engine in
    let again : first.state.settings.time_to_idle ≡ Some (as_nanos c.args.idle) → first.state.settings.time_to_live ≡ None → IsMadeAgain (λ _ _ _ weight. weight ≡ 1) (λ a b. a == b) (λ _ _ _ answer. answer ≡ false) (λ a b. b ≡ a) (λ a b. b ≡ a) saved.0 put.0 c.in_ok-saved.saved.items first.state made.begun second.state = λ idle live. record {
      items_saved = items;
      all_saved = c.in_ok-saved.ensures.members;
      no_records = made.no_records;
      roomy = made.roomy;
      time_to_live = made.live ∙ sym live;
      time_to_idle = made.idles ∙ sym idle;
      there = made.there;
      adds = made.adds;
      hides = made.hides;
    } in (
      saved,
      read,
      reads,
      ran,
      (
        begun,
        ticked,
        ticks,
        put,
        read_again,
        reads_again,
        (
          λ idle live. c.made_again_answers_alike.ensures.alike (λ x y same. eq-eqb x y (sym same)) saved.0 put.0 c.in_ok-saved.saved.items first.state made.begun second.state valid valid_again (again idle live),
          λ ends now after other_after calls others replies answers late_saved late_put alike in_time. c.look_ups_answer_alike.ensures.at_any_time (λ x y same. same) (λ x y same. same)
              saved.0 put.0 now c.in_ok-saved.saved.items first second after other_after made.begun tt tt tt tt calls others replies answers valid valid_again
              (record {
                made_again = again ends.idles ends.live;
                lasts = made.lasts;
                roomy = c.look_ups_answer_alike.ensures.room saved ran.0 c.args.sessions.now.cache.engine first read c.save.new.sessions.clock c.invariant_holds.ensures ends.enabled ran.1 ends.bound ends.predicates;
                expiry = made.expiry ∙ sym ends.expiry;
                written = inl ends.expiry;
              })
              late_saved late_put alike in_time,
        ),
      ),
    )

pub returns-clause-begun : goal.returns-clause-begun
returns-clause-begun g c =
    let (saved, read, reads, items, ran) = c.in_ok-saved.ensures.saved in
    (saved, read, reads, (c.in_ok-saved.saved.items, items, c.in_ok-again.ensures.made))
