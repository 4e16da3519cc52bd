use Rattle.std.proofs.Common.{◌≡◌, ◌==◌, rules, refl, ap, sym, subst, ◌∙◌, [], None, false}
use Rattle.moka_engine.specs.Calls.{no_events}
use Rattle.moka_engine.specs.Config.{chosen_settings}
use Rattle.moka_engine.specs.State.{is_disabled}
use Rattle.moka_engine.specs.declared.NoWeigher.{NoWeigher}
use Rattle.moka_cache.specs.Saves.{HasRoomFor}
use Rattle.moka_uses.proofs.Both.{AreBoth, both_stay, never_lapses, put_both, reports_both, weighs_one}
use Rattle.moka_uses.proofs.Sent.{hands_out, sends, sent_in_other_order, alike_then}
use Rattle.moka_uses.proofs.late.send_in_other_order.Goals as goal

pub do_insert_with_hash-requires-2 : goal.do_insert_with_hash-requires-2
do_insert_with_hash-requires-2 c =
    let s = c.in_ok-cache.cache.state in
    let t = c.do_insert_with_hash.new.self.state in
    let put = hands_out (λ _ _ _ _. None) (λ _ _ _ _ left. left) (λ _ _ _ weight. weight ≡ 1) (λ a b. a == b) s 1 c.hash-one.result 10 (record { 0 = 0 }) (c.in_ok-first.first, c.in_ok-first.field-0-1) c.in_ok-first.ensures.0 t c.in_ok-first.ensures.1.1 in
    record { enabled = ap is_disabled (put.alike.capacity ∙ ap (λ x. x.state.capacity) c.in_ok-cache.ensures.empty) ∙ search rules }

pub returns : goal.returns
returns c =
    let one = c.in_ok-first.ensures in
    let other = c.in_ok-second.ensures in
    let new = ap (λ x. x.state) c.in_ok-cache.ensures.empty in
    let s = c.in_ok-cache.cache.state in
    let t = c.do_insert_with_hash.new.self.state in
    let v = c.do_insert_with_hash-2.new.self.state in
    let x = c.send.new.self.state in
    let y = c.send-2.new.self.state in
    let z = c.run_pending_tasks.new.self.state in
    let run = c.run_pending_tasks.ensures.step in
    let first = hands_out (λ _ _ _ _. None) (λ _ _ _ _ left. left) (λ _ _ _ weight. weight ≡ 1) (λ a b. a == b) s 1 c.hash-one.result 10 (record { 0 = 0 }) (c.in_ok-first.first, c.in_ok-first.field-0-1) one.0 t one.1.1 in
    let second = hands_out (λ _ _ _ _. None) (λ _ _ _ _ left. left) (λ _ _ _ weight. weight ≡ 1) (λ a b. a == b) t 2 c.hash-other.result 20 (record { 0 = 0 }) (c.in_ok-second.second, c.in_ok-second.field-0-1) other.0 v other.1.1 in
    let sent = sends v _ _ x c.in_ok-send.ensures.step in
    let late = sends x _ _ y c.in_ok-send-2.ensures.step in
    let alike = alike_then s v y (alike_then s t v first.alike second.alike) (alike_then v x y sent.alike late.alike) in
    let put = put_both (λ a b. a == b) (λ _ _ _ _. None) (λ _ _ _ _ left. left) (λ _ _ _ weight. weight ≡ 1) _ _ _ s new (search rules)
    1 c.hash-one.result 10 (record { 0 = 0 }) (c.in_ok-first.first, c.in_ok-first.field-0-1) one.0 t one.1.1 t refl refl refl
    2 c.hash-other.result 20 (record { 0 = 0 }) (c.in_ok-second.second, c.in_ok-second.field-0-1) other.0 v other.1.1 refl in
    let capacity : y.capacity ≡ None = alike.capacity ∙ ap (λ x. x.capacity) new ∙ search rules in
    let bound : y.invalid_before ≡ None = alike.bound ∙ ap (λ x. x.invalid_before) new in
    let live : y.settings.time_to_live ≡ None = ap (λ s. s.time_to_live) (alike.settings ∙ ap (λ x. x.settings) new) ∙ search rules in
    let idle : y.settings.time_to_idle ≡ None = ap (λ s. s.time_to_idle) (alike.settings ∙ ap (λ x. x.settings) new) ∙ search rules in
    let exact = c.run_pending_tasks.ensures.exact (sent_in_other_order s t v x y _ _ first second sent late (ap (λ x. x.outstanding) new)) in
    let stay = both_stay (λ _ _ _ weight. weight ≡ 1) (λ _ _ _ answer. answer ≡ false) (λ _ _ _ _ left _. left) c.send-2.new.self.write_list c.run_pending_tasks.new.self.write_list y _ c.run_pending_tasks.result run.0 z run.1
    (record { room = subst (λ o. HasRoomFor (λ _ _ _ weight. weight ≡ 1) o [] y) (sym capacity) tt; bound = bound; predicates = alike.predicates ∙ ap (λ x. x.predicates) new })
    1 2 put.p put.q (subst (λ m. AreBoth m 1 2 put.p put.q) (sym (late.records ∙ sent.records)) put.both)
    (never_lapses y.settings y.invalid_before put.p 0 live idle bound put.unexpiring_p) (never_lapses y.settings y.invalid_before put.q 0 live idle bound put.unexpiring_q) in
    let told = reports_both z 1 2 _ _ exact stay.2 in
    let weight_p = weighs_one (λ (_ : NoWeigher) _ _ weight. weight ≡ 1) (chosen_settings c.default.result).weigher 1 10 put.p.weight put.weight_p (search rules) in
    let weight_q = weighs_one (λ (_ : NoWeigher) _ _ weight. weight ≡ 1) (chosen_settings c.default.result).weigher 2 20 put.q.weight put.weight_q (search rules) in
    record {
      exact = exact;
      made = (
        c.in_ok-cache.cache,
        c.do_insert_with_hash.new.self,
        c.do_insert_with_hash-2.new.self,
        c.send.new.self,
        c.send-2.new.self,
        c.hash-one.result,
        c.hash-other.result,
        (c.in_ok-first.first, c.in_ok-first.field-0-1),
        (c.in_ok-second.second, c.in_ok-second.field-0-1),
        c.run_pending_tasks.result,
        rw c.default.ensures at c.in_ok-cache.ensures.empty,
        (one.0, one.1, one.2, tt),
        (other.0, other.1, other.2, tt),
        (no_events, (c.in_ok-send.ensures.step, refl), c.in_ok-send.ensures.events, tt),
        (no_events, (c.in_ok-send-2.ensures.step, refl), c.in_ok-send-2.ensures.events, tt),
        (run.0, run.1, run.2, tt),
      );
      both = (told.0, told.1 ∙ rw (weight_p, weight_q) refl);
    }
