use Rattle.std.proofs.Common.{◌≡◌, ◌==◌, ◌+◌, min, rules, refl, ap, sym, subst, ◌∙◌, None}
use Rattle.moka_engine.specs.Calls.{no_events}
use Rattle.moka_engine.specs.State.{is_disabled}
use Rattle.moka_engine.specs.Time.{greatest}
use Rattle.std.specs.Cmp.{nat_eq_equiv}
use Rattle.moka_uses.proofs.Sent.{hands_out, put_and_sent, sends}
use Rattle.moka_uses.proofs.Told.{told_of_the_first, heard_of_the_second}
use Rattle.moka_cache.specs.Unsent.{IsHeld}
use Rattle.moka_cache.proofs.Put.{kept_where_held, put_by_insert}
use Rattle.moka_cache.proofs.Stays.{send_holds}
use Rattle.moka_uses.specs.declared.notified.Counter.{Counter}
use Rattle.moka_uses.proofs.notified.replace.Goals as goal

pub do_insert_with_hash-requires-2 : goal.do_insert_with_hash-requires-2
do_insert_with_hash-requires-2 c =
    let s = c.in_ok-cache.cache.state in
    let t = c.do_insert_with_hash.new.self.state in
    let put = hands_out (λ _ _ _ _. None) (λ _ _ _ _ left. left) (λ _ _ _ weight. weight ≡ 1) (λ a b. a == b) s c.args.key c.hash-hash.result c.args.first (record { 0 = 0 }) (c.in_ok-put.put, c.in_ok-put.field-0-1) c.in_ok-put.ensures.0 t c.in_ok-put.ensures.1.1 in
    let sent = sends t _ _ c.send.new.self.state c.in_ok-send.ensures.step in
    record { enabled = ap is_disabled (sent.alike.capacity ∙ put.alike.capacity ∙ ap (λ x. x.state.capacity) c.in_ok-cache.ensures.empty) ∙ search rules }

pub returns : goal.returns
returns c =
    let put = c.in_ok-put.ensures in
    let again = c.in_ok-replaced.ensures in
    let l = c.in_ok-cache.cache in
    let m = c.do_insert_with_hash.new.self in
    let n = c.send.new.self in
    let o = c.do_insert_with_hash-2.new.self in
    let p = c.send-2.new.self in
    let told = told_of_the_first (λ a b. a == b) (λ _ _ _ _. None) (λ _ _ _ _ left. left) (λ _ _ _ weight. weight ≡ 1)
    nat_eq_equiv _ _ _ l.state (ap (λ x. x.state) c.in_ok-cache.ensures.empty) (search rules)
    c.args.key c.hash-hash.result c.args.first (record { 0 = 0 }) (c.in_ok-put.put, c.in_ok-put.field-0-1) put.0 m.state put.1.1
    _ _ n.state c.in_ok-send.ensures.step
    c.hash-hash.result c.args.second (record { 0 = 0 }) (c.in_ok-replaced.replaced, c.in_ok-replaced.field-0-1) again.0 o.state again.1.1 in
    let kept = put_by_insert (λ a b. a == b) nat_eq_equiv c.args.key c.args.second (record { 0 = 0 }) (λ _ _ _ _. None) (λ _ _ _ _ left. left) (λ _ _ _ weight. weight ≡ 1) n.state c.hash-hash.result (c.in_ok-replaced.replaced, c.in_ok-replaced.field-0-1) again.0 o.state c.invariant_holds.ensures.valid again.1.1 in
    let one = hands_out (λ _ _ _ _. None) (λ _ _ _ _ left. left) (λ _ _ _ weight. weight ≡ 1) (λ a b. a == b) l.state c.args.key c.hash-hash.result c.args.first (record { 0 = 0 }) (c.in_ok-put.put, c.in_ok-put.field-0-1) put.0 m.state put.1.1 in
    let other = hands_out (λ _ _ _ _. None) (λ _ _ _ _ left. left) (λ _ _ _ weight. weight ≡ 1) (λ a b. a == b) n.state c.args.key c.hash-hash.result c.args.second (record { 0 = 0 }) (c.in_ok-replaced.replaced, c.in_ok-replaced.field-0-1) again.0 o.state again.1.1 in
    let sent = sends m.state _ _ n.state c.in_ok-send.ensures.step in
    let last = sends o.state _ _ p.state c.in_ok-send-2.ensures.step in
    record {
      notified = heard_of_the_second (λ (c : Counter). record { count = min (c.count + 1) greatest }) (λ before _ _ _ after. after ≡ record { count = min (before.count + 1) greatest }) (λ _ _ _ _ _ h. h)
          (record { count = 0 }) l.listener m.listener n.listener o.listener p.listener put.0.notices again.0.notices
          (ap (λ x. x.listener) c.in_ok-cache.ensures.empty ∙ search rules) put.2.heard c.in_ok-send.ensures.events.heard again.2.heard c.in_ok-send-2.ensures.events.heard told.0 told.1;
      sent = put_and_sent n.state o.state p.state _ other last (put_and_sent l.state m.state n.state _ one sent (ap (λ x. x.state.outstanding) c.in_ok-cache.ensures.empty));
      replaced = kept_where_held (λ a b. a == b) nat_eq_equiv c.args.key c.args.second (record { 0 = 0 }) _ o.state p.state c.invariant_holds-2.ensures.valid kept
          (subst (IsHeld kept.made.number kept.made) (sym (send_holds o.state _ _ p.state c.in_ok-send-2.ensures.step)) kept.held);
      made = (
        l,
        m,
        n,
        o,
        c.hash-hash.result,
        c.hash-hash.result,
        (c.in_ok-put.put, c.in_ok-put.field-0-1),
        (c.in_ok-replaced.replaced, c.in_ok-replaced.field-0-1),
        rw c.default.ensures at (rw c.eviction_listener-config.ensures at c.in_ok-cache.ensures.empty),
        (put.0, put.1, put.2, tt),
        (no_events, (c.in_ok-send.ensures.step, refl), c.in_ok-send.ensures.events, tt),
        (again.0, again.1, again.2, tt),
        (no_events, (c.in_ok-send-2.ensures.step, refl), c.in_ok-send-2.ensures.events, tt),
      );
    }
