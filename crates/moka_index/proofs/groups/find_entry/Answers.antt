use Rattle.std.proofs.Common.{◌≡◌, ℕ, ◌+◌, ◌*◌, ◌<◌, false, length, slice_index_or, inl, inr, sym, ap, subst, ◌∙◌, arith}
use Rattle.std.proofs.lemmas.Bool.{cases_eq}
use Rattle.moka_index.specs.Group.{home, entry_in, HasLanes}
use Rattle.moka_index.specs.Groups.{probe, behind, group_at}
use Rattle.moka_index.proofs.Probes.{home-lt, home-within, probe-none, probe-behind}
use Rattle.moka_index.proofs.Lanes.{blank, group-read}
use Rattle.moka_index.proofs.Changes.{inside-of, lanes-of, lane-read}
use Rattle.moka_index.proofs.Search.{all-seen}
use Rattle.moka_index.proofs.groups.find_entry.Goals as goal

pub returns-then-count-eq0-clause-absent : goal.returns-then-count-eq0-clause-absent
returns-then-count-eq0-clause-absent g c q p e = absurd (omega (arith, (inside-of c.args.groups.now c.requires.groups q (p, c.args.hash) e).0, c.if-count-eq0.true))

pub bounds-groups-first : goal.bounds-groups-first
bounds-groups-first g c = home-within (length c.args.groups.now) c.args.hash c.home-first.result (omega arith) c.home-first.ensures

pub offset_bounds-groups-first : goal.offset_bounds-groups-first
offset_bounds-groups-first g c =
    let first_in = home-within (length c.args.groups.now) c.args.hash c.home-first.result (omega arith) c.home-first.ensures in
    record { fits = omega (arith, c.requires.groups.bounded) }

pub loop-step-init : goal.loop-step-init
loop-step-init g c =
    let first_in = home-within (length c.args.groups.now) c.args.hash c.home-first.result (omega arith) c.home-first.ensures in
    record {
      left = record { seen = λ k l. absurd (omega arith) };
      here = c.home-first.ensures ∙ probe-none (length c.args.groups.now) (home (length c.args.groups.now) c.args.hash) (subst (λ i. i < length c.args.groups.now) c.home-first.ensures first_in);
      within = first_in;
    }

pub bounds-groups-at : goal.bounds-groups-at
bounds-groups-at g c = c.loop-step.invariant.within

pub offset_bounds-groups-at : goal.offset_bounds-groups-at
offset_bounds-groups-at g c = record { fits = omega (arith, c.requires.groups.bounded, c.loop-step.invariant.within) }

pub behind-at-requires : goal.behind-at-requires
behind-at-requires g c = c.loop-step.invariant.within

pub find_in_group-requires : goal.find_in_group-requires
find_in_group-requires g c = record {
  lanes = subst HasLanes (sym (group-read c.args.groups.now c.loop-step.at blank c.loop-step.invariant.within)) (lanes-of c.args.groups.now c.requires.groups c.loop-step.at);
  callable = λ lane p e. c.requires.callable (7 * c.loop-step.at + lane) p (lane-read c.args.groups.now c.requires.groups c.loop-step.at lane p c.args.hash c.loop-step.invariant.within e).1;
}

pub returns-in-Some : goal.returns-in-Some
returns-in-Some g c =
    let found = lane-read c.args.groups.now c.requires.groups c.loop-step.at c.in-Some.lane c.in-Some.place c.args.hash c.loop-step.invariant.within c.in-Some.ensures.found in
    record { found = found.1; lane = found.0; group = c.loop-step.invariant.within; passes = c.in-Some.ensures.passes; absent = tt }

pub loop-step-preserved : goal.loop-step-preserved
loop-step-preserved g c =
    let some : 0 < length c.args.groups.now = omega arith in
    let first_in = home-within (length c.args.groups.now) c.args.hash c.home-first.result some c.home-first.ensures in
    let first = group-read c.args.groups.now c.home-first.result blank first_in in
    let less = (c.requires.groups.shaped c.home-first.result).reach some in
    let near : c.loop-step._step < length c.args.groups.now = omega (arith, c.loop-step-test.true, ap (λ x. x.reach) first, less) in
    record {
      left = record {
        seen = λ k l lane p e. elim (cases_eq k c.loop-step._step) as (λ _. goal.F-post g c.args.is_match p false) [
          | inl s ↦
              let read = group-read c.args.groups.now c.loop-step.at blank c.loop-step.invariant.within in
              let there : c.loop-step.at ≡ probe (length c.args.groups.now) (home (length c.args.groups.now) c.args.hash) k = c.loop-step.invariant.here ∙ (λ i. probe (length c.args.groups.now) (home (length c.args.groups.now) c.args.hash) (sym s i)) in
              c.in_default.ensures.absent lane p (ap (λ x. entry_in x lane) read ∙ ap (λ i. entry_in (group_at c.args.groups.now i) lane) there ∙ e)
          | inr ne ↦ c.loop-step.invariant.left.seen k (omega arith) lane p e
        ];
      };
      here = c.behind-at.ensures.value ∙ ap (behind (length c.args.groups.now)) c.loop-step.invariant.here ∙ probe-behind (length c.args.groups.now) (home (length c.args.groups.now) c.args.hash) c.loop-step._step (home-lt (length c.args.groups.now) c.args.hash some) near;
      within = c.behind-at.ensures.within;
    }

pub returns-clause-absent : goal.returns-clause-absent
returns-clause-absent g c q p e =
    let first_in = home-within (length c.args.groups.now) c.args.hash c.home-first.result (omega arith) c.home-first.ensures in
    let read = group-read c.args.groups.now c.home-first.result blank first_in in
    let r : (group_at c.args.groups.now (home (length c.args.groups.now) c.args.hash)).reach ≡ (slice_index_or c.args.groups.now c.home-first.result blank).reach = ap (λ i. (group_at c.args.groups.now i).reach) (sym c.home-first.ensures) ∙ ap (λ x. x.reach) (sym read) in
    let far : (group_at c.args.groups.now (home (length c.args.groups.now) c.args.hash)).reach < c.loop-step._step = omega (arith, c.loop-step-test.false, r) in
    all-seen (λ (j : ℕ). goal.F-post g c.args.is_match j false) c.args.groups.now c.args.hash c.loop-step._step c.requires.groups c.loop-step.invariant.left far q p e
