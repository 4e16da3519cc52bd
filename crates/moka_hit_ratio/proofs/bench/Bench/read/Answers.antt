use Rattle.std.proofs.Common.{◌≡◌, ◌∙◌, ap, arith, get_or, nat_le, subst, sym}
use Rattle.std.specs.List.{AllZip}
use Rattle.moka_hit_ratio.specs.Through.{AreRead}
use Rattle.moka_hit_ratio.proofs.Capacities.{map_same}
use Rattle.moka_hit_ratio.proofs.Reached.{all_reached, cut_back, one_more}
use Rattle.moka_hit_ratio.proofs.bench.Bench.read.Goals as goal
use Rattle.moka_hit_ratio.proofs.bench.Bench.read.Goals.{in-Some+in_ok-push, in_default}

pub loop-caches-preserved : goal.loop-caches-preserved
loop-caches-preserved c =
    let same : nat_le c.match-self.self.warm c.match-self.self.reads ≡ nat_le c.args.self.now.warm c.args.self.now.reads = elim c.match-self.branch [
      | in-Some+in_ok-push w ↦ ap (λ bench. nat_le bench.warm bench.reads) w.self-is
      | in_default w ↦ ap (λ bench. nat_le bench.warm bench.reads) w.self-is
    ] in (
      map_same (λ caches. caches.row.capacity) c.loop-caches.caches-items c.loop-caches.caches-index c.read.new.self c.caches-item.result c.read.ensures.row.0 ∙ c.loop-caches.invariant.0,
      one_more (AreRead c.args.key (nat_le c.args.self.now.warm c.args.self.now.reads)) c.loop-caches.caches-index c.args.self.now.caches.items c.loop-caches.caches-items c.caches-item.result c.read.new.self (omega (arith, c.loop-caches-test.true, c.loop-caches.auto.caches-items)) c.loop-caches.invariant.1 (subst (λ b. AreRead c.args.key b (get_or c.loop-caches.caches-items c.loop-caches.caches-index c.caches-item.result) c.read.new.self) same c.in_ok-read.ensures.read),
    )

pub returns-clause-read : goal.returns-clause-read
returns-clause-read c =
    let R = AreRead c.args.key (nat_le c.args.self.now.warm c.args.self.now.reads) in
    let all = all_reached R c.loop-caches.caches-index c.args.self.now.caches.items c.loop-caches.caches-items (omega (arith, c.loop-caches-test.false, c.loop-caches.auto.caches-items)) c.loop-caches.invariant.1 in
    subst (λ items. AllZip R c.args.self.now.caches.items items) (sym (cut_back c.match-self.self.caches.len c.loop-caches.caches-items _ (c.loop-caches.auto.caches-items ∙ c.deref_mut-caches-items.ensures.len))) all
