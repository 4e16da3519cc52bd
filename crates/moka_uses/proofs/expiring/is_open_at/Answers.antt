use Rattle.std.proofs.Common.{◌≡◌, ◌==◌, refl, ap, rules, Some, false}
use Rattle.std.specs.Duration.{as_nanos}
use Rattle.moka_uses.specs.declared.expiring.Lasts.{Lasts}
use Rattle.std.specs.Cmp.{nat_eq_equiv}
use Rattle.moka_uses.proofs.Ended.{shown_as_long}
use Rattle.moka_uses.proofs.expiring.is_open_at.Goals as goal

pub returns : goal.returns
returns c =
    let put = c.in_ok-ticket.ensures in
    shown_as_long (λ a b. a == b) (λ _ _ _ answer. answer ≡ false) (λ (lasts : Lasts) _ _ _. Some (as_nanos lasts.0)) (λ lasts _ _ _ _. Some (as_nanos lasts.0)) (λ _ _ _ weight. weight ≡ 1)
    nat_eq_equiv _ _ _ _ c.in_ok-sessions.sessions.state (ap (λ x. x.state) c.in_ok-sessions.ensures.empty) (search rules) (search rules) (record { 0 = c.args.lasts }) (search rules)
    c.args.session.user c.hash-hash.result c.args.session.token c.args.session.at (as_nanos c.args.lasts) refl (c.in_ok-ticket.ticket, c.in_ok-ticket.field-0-1) put.0 c.do_insert_with_hash.new.self.state put.1.1
    _ _ c.send.new.self.state c.in_ok-send.ensures.step
    c.args.asked.0 _ c.contains_key_with_hash.ensures
