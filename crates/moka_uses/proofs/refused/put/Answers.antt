use Rattle.std.proofs.Common.{◌≡◌, ◌==◌, None, subst}
use Rattle.std.specs.Cmp.{nat_eq_equiv}
use Rattle.moka_cache.proofs.Put.{kept_where_held, put_by_insert}
use Rattle.moka_uses.specs.Made.{engine_meaning}
use Rattle.moka_uses.specs.Refused.{SendsAfterAll}
use Rattle.moka_uses.proofs.Sent.{hands_out}
use Rattle.moka_uses.proofs.SentAfterAll.{new_ticket, sent_then}
use Rattle.moka_uses.proofs.refused.put.Goals as goal

pub returns : goal.returns
returns c =
    let called = c.in_ok-ticket.ensures in
    let s = c.args.cache.now.state in
    let t = c.do_insert_with_hash.new.self.state in
    let u = c.send_after_all-sent.new.cache.state in
    let after = c.send_after_all-sent.ensures in
    let put = put_by_insert (λ a b. a == b) nat_eq_equiv c.args.key c.args.value c.args.now (λ _ _ _ _. None) (λ _ _ _ _ left. left) (λ _ _ _ weight. weight ≡ 1) s c.hash-hash.result (c.in_ok-ticket.ticket, c.in_ok-ticket.field-0-1) called.0 t c.invariant_holds.ensures.valid called.1.1 in
    let out = hands_out (λ _ _ _ _. None) (λ _ _ _ _ left. left) (λ _ _ _ weight. weight ≡ 1) (λ a b. a == b) s c.args.key c.hash-hash.result c.args.value c.args.now (c.in_ok-ticket.ticket, c.in_ok-ticket.field-0-1) called.0 t called.1.1 in
    let absent = new_ticket (λ a b. a == b) s t c.in_ok-ticket.ticket.0 c.invariant_holds.ensures.valid out in
    let sent = sent_then s t u c.in_ok-ticket.ticket.0 out absent c.send_after_all-sent.result after.refused after.sent in
    record {
      put = kept_where_held (λ a b. a == b) nat_eq_equiv c.args.key c.args.value c.args.now _ t u c.invariant_holds-2.ensures.valid put (after.held put.made.number put.made put.older put.held);
      sent = sent.1;
      back = tt;
      unchanged = tt;
      made = (
        c.hash-hash.result,
        c.do_insert_with_hash.new.self,
        (c.in_ok-ticket.ticket, c.in_ok-ticket.field-0-1),
        (called.0, called.1, called.2, tt),
        subst (λ a. SendsAfterAll (engine_meaning (λ a b. a == b)) c.in_ok-ticket.ticket c.args.now c.do_insert_with_hash.new.self c.send_after_all-sent.new.cache a) sent.0 after.made,
      );
    }
