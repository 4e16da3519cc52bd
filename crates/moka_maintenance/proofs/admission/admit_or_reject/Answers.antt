use Rattle.std.proofs.Common.{refl, sym, ap, ◌∙◌}
use Rattle.moka_types.specs.declared.policy.EvictionPolicy.TheVariants.{TinyLfu, Lru}
use Rattle.moka_records.specs.Records.{has_room}
use Rattle.moka_maintenance.specs.Steps.{contents_with}
use Rattle.moka_maintenance.proofs.Fates.{applies-admitted, applies-rejected, applies-compared, newcomer-fits, newcomer-heavy, newcomer-by_policy}
use Rattle.moka_maintenance.proofs.admission.admit_or_reject.Goals as goal

pub returns-then-has_room : goal.returns-then-has_room
returns-then-has_room g c =
    let u = c.args.upsert in
    applies-admitted g.L.Listener.tells c.args.bounds c.args.sketch.now c.args.store.now c.enter.new.store u c.args.notifier.now c.args.notifier.now c.requires.outside c.requires.newer c.enter.ensures.upkeep
    (newcomer-fits c.args.bounds.capacity c.args.bounds.policy (contents_with c.args.sketch.now c.args.store.now) u.weight u.hash (ap (λ w. has_room c.args.bounds.capacity w u.weight) (sym c.total_weight.ensures) ∙ sym c.has_room.ensures ∙ c.if-has_room.true)) c.enter.ensures.step c.enter.ensures.written refl

pub returns-then-not-has_room : goal.returns-then-not-has_room
returns-then-not-has_room g c =
    let u = c.args.upsert in
    let full = ap (λ w. has_room c.args.bounds.capacity w u.weight) (sym c.total_weight.ensures) ∙ sym c.has_room.ensures ∙ c.if-has_room.false in
    applies-rejected g.L.Listener.tells c.args.bounds c.args.sketch.now c.args.store.now c.reject.new.store u c.args.notifier.now c.reject.new.notifier c.requires.outside c.requires.newer c.reject.ensures.upkeep
    (newcomer-heavy c.args.bounds.capacity c.args.bounds.policy (contents_with c.args.sketch.now c.args.store.now) u.weight u.hash full (sym c.has_room-else-has_room.ensures ∙ c.if-not-has_room.true)) c.reject.ensures.step c.reject.ensures.written c.reject.ensures.told

pub returns-in-Lru : goal.returns-in-Lru
returns-in-Lru g c =
    let u = c.args.upsert in
    let full = ap (λ w. has_room c.args.bounds.capacity w u.weight) (sym c.total_weight.ensures) ∙ sym c.has_room.ensures ∙ c.if-has_room.false in
    applies-admitted g.L.Listener.tells c.args.bounds c.args.sketch.now c.args.store.now c.enter-in-Lru.new.store u c.args.notifier.now c.args.notifier.now c.requires.outside c.requires.newer c.enter-in-Lru.ensures.upkeep
    (newcomer-by_policy c.args.bounds.capacity c.args.bounds.policy (contents_with c.args.sketch.now c.args.store.now) u.weight u.hash full (sym c.has_room-else-has_room.ensures ∙ c.if-not-has_room.false) Lru c.in-Lru.is) c.enter-in-Lru.ensures.step c.enter-in-Lru.ensures.written refl

pub returns-in-TinyLfu : goal.returns-in-TinyLfu
returns-in-TinyLfu g c =
    let u = c.args.upsert in
    let full = ap (λ w. has_room c.args.bounds.capacity w u.weight) (sym c.total_weight.ensures) ∙ sym c.has_room.ensures ∙ c.if-has_room.false in
    applies-compared g.L.Listener.tells c.args.bounds c.args.sketch.now c.args.store.now c.compare.new.store u c.args.notifier.now c.compare.new.notifier c.requires.outside c.requires.newer c.compare.ensures.upkeep
    (newcomer-by_policy c.args.bounds.capacity c.args.bounds.policy (contents_with c.args.sketch.now c.args.store.now) u.weight u.hash full (sym c.has_room-else-has_room.ensures ∙ c.if-not-has_room.false) TinyLfu c.in-TinyLfu.is) c.compare.ensures.compared
