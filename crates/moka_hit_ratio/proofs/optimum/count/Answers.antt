use Rattle.std.proofs.Common.{◌≡◌, ◌<◌, ◌^◌, ◌-◌, arith, ◌∙◌, ap, length, refl}
use Rattle.std.specs.Prelude.{nat_le}
use Rattle.moka_hit_ratio.specs.Optimum.{Played, played}
use Rattle.moka_hit_ratio.proofs.Playing.{counts-few, plays-one}
use Rattle.moka_hit_ratio.proofs.optimum.count.Goals as goal

pub loop-place-init : goal.loop-place-init
loop-place-init c = rw (c.new-kept.ensures.empty, c.new-tally.ensures.0, c.new-tally.ensures.1) (refl, omega arith)

pub loop-place-preserved : goal.loop-place-preserved
loop-place-preserved c =
    let few : c.loop-place.tally.reads < 2 ^ 64 - 1 = (let counted = c.loop-place.invariant.1 in omega (arith, counted, c.loop-place-test.true, c.loop-place.auto.place-end)) in (
      plays-one c.args.first_counted c.args.capacity c.args.nexts.now c.loop-place.place c.loop-place.kept.keys c.remove-is_hit.new.self.keys c.keep.new.kept.keys c.loop-place.tally.hits c.loop-place.tally.reads c.count_from.new.self.hits c.count_from.new.self.reads c.remove-is_hit.result
          c.loop-place.invariant.0 c.remove-is_hit.ensures.test c.remove-is_hit.ensures.keys c.in_ok-keep.ensures (c.count_from.ensures.hit few) (c.count_from.ensures.read few),
      counts-few c.loop-place.tally.reads c.loop-place.place c.count_from.new.self.reads (nat_le c.args.first_counted c.loop-place.place) c.loop-place.invariant.1 (c.count_from.ensures.read few),
    )

pub returns-clause-hits : goal.returns-clause-hits
returns-clause-hits c =
    let all : c.loop-place.place ≡ length c.args.nexts.now = omega (arith, c.loop-place-test.false, c.loop-place.auto.place-end) in
    ap (λ (p : Played). p.hits) (c.loop-place.invariant.0 ∙ ap (played c.args.first_counted c.args.capacity c.args.nexts.now) all)

pub returns-clause-reads : goal.returns-clause-reads
returns-clause-reads c =
    let all : c.loop-place.place ≡ length c.args.nexts.now = omega (arith, c.loop-place-test.false, c.loop-place.auto.place-end) in
    ap (λ (p : Played). p.reads) (c.loop-place.invariant.0 ∙ ap (played c.args.first_counted c.args.capacity c.args.nexts.now) all)
