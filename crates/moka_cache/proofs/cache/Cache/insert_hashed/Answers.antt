use Rattle.std.proofs.Common.{◌≡◌, true, false, ap, sym, ◌∙◌}
use Rattle.std.specs.FinMap.{insert}
use Rattle.std.proofs.lemmas.Result.{err_from_is_err_and}
use Rattle.moka_parts.specs.State.{is_disabled}
use Rattle.moka_cache.proofs.Asking.{let_go, inserted, insert_refused}
use Rattle.moka_cache.proofs.Put.{put_by_insert, kept_where_held, shown_where_held}
use Rattle.moka_cache.proofs.Alike.{then, insert_hides, still_shows}
use Rattle.moka_cache.proofs.Waiting.{insert_hands_out}
use Rattle.moka_cache.proofs.cache.Cache.insert_hashed.Goals as goal

pub returns-then-is_map_disabled-clause-made : goal.returns-then-is_map_disabled-clause-made
returns-then-is_map_disabled-clause-made g c =
    rw (← c.self.view_is) (let_go _ c.args.put.key _ c.args.put.value c.args.now c.self.inside.engine c.args.clock.now (sym c.is_map_disabled.ensures ∙ c.if-is_map_disabled.true))

pub returns-in_err-ticket-clause-made : goal.returns-in_err-ticket-clause-made
returns-in_err-ticket-clause-made g c =
    let own = rw (← c.self.view_is) at c.requires.own in
    let put = c.in_err-ticket.ensures in
    let p = err_from_is_err_and c.from_residual.result c.from_residual.ensures.1 in
    rw (p.1, p.2, ← c.self.view_is, ← own) (insert_refused _ c.args.put.key c.args.put.hash c.args.put.value c.args.now c.self.inside.engine c.do_insert_with_own_hash.new.self c.args.clock.now (sym c.is_map_disabled.ensures ∙ c.if-is_map_disabled.false) c.in_err-ticket.field-0.0 put.0 put.1.1 put.2)

pub returns-clause-made : goal.returns-clause-made
returns-clause-made g c =
    let own = rw (← c.self.view_is) at c.requires.own in
    let put = c.in_ok-ticket.ensures in
    rw (← c.self.view_is, ← own) (inserted _ c.args.put.key c.args.put.hash c.args.put.value c.args.now c.self.inside.engine c.do_insert_with_own_hash.new.self c.args.clock.now (sym c.is_map_disabled.ensures ∙ c.if-is_map_disabled.false) (c.in_ok-ticket.ticket, c.in_ok-ticket.field-0-1) put.0 put.1.1 put.2 c.post.new.engine c.post.new.clock c.post.ensures.made)

pub returns-clause-kept : goal.returns-clause-kept
returns-clause-kept g c =
    let put = c.in_ok-ticket.ensures in
    let laws = g.met.K.Eq.laws in
    let is_put = put_by_insert g.K.PartialEq.eq laws c.args.put.key c.args.put.value c.args.now g.X.Expiry.created g.X.Expiry.updated g.W.Weigher.weighs c.self.inside.engine.state c.args.put.hash (c.in_ok-ticket.ticket, c.in_ok-ticket.field-0-1) put.0 c.do_insert_with_own_hash.new.self.state c.invariant_holds.ensures.valid put.1.1 in
    λ enabled. kept_where_held g.K.PartialEq.eq laws c.args.put.key c.args.put.value c.args.now _ c.do_insert_with_own_hash.new.self.state c.post.new.engine.state c.invariant_holds-2.ensures.valid is_put (c.post.ensures.holds is_put.made.number is_put.made is_put.older is_put.held)

pub returns-clause-shown : goal.returns-clause-shown
returns-clause-shown g c =
    let put = c.in_ok-ticket.ensures in
    let laws = g.met.K.Eq.laws in
    let old = c.self.inside.engine.state in
    let mid = c.do_insert_with_own_hash.new.self.state in
    let is_put = put_by_insert g.K.PartialEq.eq laws c.args.put.key c.args.put.value c.args.now g.X.Expiry.created g.X.Expiry.updated g.W.Weigher.weighs old c.args.put.hash (c.in_ok-ticket.ticket, c.in_ok-ticket.field-0-1) put.0 mid c.invariant_holds.ensures.valid put.1.1 in
    let alike = then old mid c.post.new.engine.state (insert_hides g.X.Expiry.created g.X.Expiry.updated g.W.Weigher.weighs g.K.PartialEq.eq old c.args.put.key c.args.put.hash c.args.put.value c.args.now (c.in_ok-ticket.ticket, c.in_ok-ticket.field-0-1) put.0 mid put.1.1) c.post.ensures.hides in
    rw (← c.self.view_is) (λ enabled shows. shown_where_held g.K.PartialEq.eq laws c.args.put.key c.args.put.value c.args.now g.P.PredicateFn.says _ mid c.post.new.engine.state c.invariant_holds-2.ensures.valid is_put (c.post.ensures.holds is_put.made.number is_put.made is_put.older is_put.held)
    (shows.unexpiring, c.invariant_holds.ensures.served.unexpiring shows.unexpiring) (still_shows old c.post.new.engine.state c.args.now.0 alike shows))

pub returns-then-is_map_disabled-clause-kept : goal.returns-then-is_map_disabled-clause-kept
returns-then-is_map_disabled-clause-kept g c =
    rw (← c.self.view_is) (λ enabled. let impossible : true ≡ false = sym (sym c.is_map_disabled.ensures ∙ c.if-is_map_disabled.true) ∙ enabled in absurd (cc))

pub returns-then-is_map_disabled-clause-shown : goal.returns-then-is_map_disabled-clause-shown
returns-then-is_map_disabled-clause-shown g c =
    rw (← c.self.view_is) (λ enabled. let impossible : true ≡ false = sym (sym c.is_map_disabled.ensures ∙ c.if-is_map_disabled.true) ∙ enabled in absurd (cc))

pub post-requires-clause-waiting : goal.post-requires-clause-waiting
post-requires-clause-waiting g c =
    let put = c.in_ok-ticket.ensures in
    let out = (insert_hands_out g.X.Expiry.created g.X.Expiry.updated g.W.Weigher.weighs g.K.PartialEq.eq c.self.inside.engine.state c.args.put.key c.args.put.hash c.args.put.value c.args.now (c.in_ok-ticket.ticket, c.in_ok-ticket.field-0-1) put.0 c.do_insert_with_own_hash.new.self.state put.1.1).0 in
    (out.operation, out.outstanding ∙ ap (λ m. insert m c.in_ok-ticket.ticket.0 out.operation) c.self.invariant)

pub post-requires-clause-enabled : goal.post-requires-clause-enabled
post-requires-clause-enabled g c =
    let put = c.in_ok-ticket.ensures in
    let out = (insert_hands_out g.X.Expiry.created g.X.Expiry.updated g.W.Weigher.weighs g.K.PartialEq.eq c.self.inside.engine.state c.args.put.key c.args.put.hash c.args.put.value c.args.now (c.in_ok-ticket.ticket, c.in_ok-ticket.field-0-1) put.0 c.do_insert_with_own_hash.new.self.state put.1.1).0 in
    ap is_disabled out.capacity ∙ (sym c.is_map_disabled.ensures ∙ c.if-is_map_disabled.false)

pub returns-in_err-ticket-clause-disabled : goal.returns-in_err-ticket-clause-disabled
returns-in_err-ticket-clause-disabled g c =
    rw (← c.self.view_is) (λ off. let impossible : true ≡ false = sym off ∙ (sym c.is_map_disabled.ensures ∙ c.if-is_map_disabled.false) in absurd (cc))
