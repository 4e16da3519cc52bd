use Rattle.std.proofs.Common.{◌≡◌, ◌<◌, ◌≤◌, List, length, slice_index_or, inl, inr, refl, sym, ap, subst, ◌∙◌, arith}
use Rattle.std.proofs.lemmas.Bool.{cases_eq}
use Rattle.std.proofs.lemmas.List.{length-set}
use Rattle.std.specs.FinMap as finite
use Rattle.moka_index.specs.declared.group.Group.{Group}
use Rattle.moka_index.specs.Group.{home, with_entry}
use Rattle.moka_index.specs.Groups.{probe, group_at, pushed, with_reach, entries_of, IsTight}
use Rattle.moka_index.proofs.Probes.{home-within}
use Rattle.moka_index.proofs.Changes.{Leaves, full-len, pushed-leaves, pushed-tight}
use Rattle.moka_index.proofs.Lanes.{group-read}
use Rattle.moka_index.proofs.Search.{Full, full-all}
use Rattle.moka_index.proofs.groups.insert_entry.Goals as goal

pub loop-step-init : goal.loop-step-init
loop-step-init c = record { same = refl; full = record { full = λ k l. absurd (omega arith) } }

pub probe-at-requires-clause-first : goal.probe-at-requires-clause-first
probe-at-requires-clause-first c =
    home-within c.len-count.result c.args.hash c.home-first.result (omega arith) c.home-first.ensures

pub raise_reach-requires : goal.raise_reach-requires
raise_reach-requires c =
    let h = home-within c.len-count.result c.args.hash c.home-first.result (omega arith) c.home-first.ensures in
    let same = c.loop-step.invariant.same in
    let n : length c.loop-step.groups.items ≡ length c.args.groups.now.items = ap (λ v. length v.items) same in
    let pushed_in : length c.push_at.new.groups.items ≡ length c.loop-step.groups.items = ap length c.push_at.ensures ∙ length-set c.loop-step.groups.items c.probe-at.result (with_entry (group_at c.loop-step.groups.items c.probe-at.result) c.args.hash c.args.place) in
    omega (arith, h, n, pushed_in)

pub returns-then-index-lt-LANES : goal.returns-then-index-lt-LANES
returns-then-index-lt-LANES c =
    let items : List Group = c.args.groups.now.items in
    let same = c.loop-step.invariant.same in
    let n_is : c.len-count.result ≡ length items = omega arith in
    let from : c.home-first.result ≡ home (length items) c.args.hash = c.home-first.ensures ∙ ap (λ n. home n c.args.hash) n_is in
    let first_in = home-within (length items) c.args.hash c.home-first.result (omega arith) from in
    let at_in : c.probe-at.result < length items = omega (arith, c.probe-at.ensures.within) in
    let step_in : c.loop-step.step < length items = omega (arith, c.loop-step-test.true) in
    let there : c.probe-at.result ≡ probe (length items) c.home-first.result c.loop-step.step = c.probe-at.ensures.value ∙ ap (λ n. probe n c.home-first.result c.loop-step.step) n_is in
    let read : c.index.result.now ≡ group_at items c.probe-at.result = c.index.ensures ∙ ap (λ v. slice_index_or v.items c.probe-at.result c.index.result.now) same ∙ group-read items c.probe-at.result c.index.result.now at_in in
    let room : (group_at items c.probe-at.result).count < 7 = subst (λ x. x.count < 7) read c.if-index-lt-LANES.true in
    let new_is : c.raise_reach.new.groups.items ≡ with_reach (pushed items c.probe-at.result c.args.hash c.args.place) c.home-first.result c.loop-step.step =
    c.raise_reach.ensures ∙ ap (λ v. with_reach v c.home-first.result c.loop-step.step) (c.push_at.ensures ∙ ap (λ v. pushed v.items c.probe-at.result c.args.hash c.args.place) same) in
    let l = subst (λ new. Leaves items new (finite.insert (entries_of items) c.args.place c.args.hash)) (sym new_is)
    (pushed-leaves items c.requires.groups c.home-first.result c.probe-at.result c.loop-step.step c.args.hash c.args.place from first_in at_in step_in there room c.requires.fresh) in
    record {
      groups = l.groups;
      entries = l.entries;
      len = l.len;
      tight = subst (λ new. IsTight items → IsTight new) (sym new_is)
          (pushed-tight items c.requires.groups c.home-first.result c.probe-at.result c.loop-step.step c.args.hash c.args.place from first_in at_in step_in there room c.requires.fresh);
    }

pub loop-step-preserved : goal.loop-step-preserved
loop-step-preserved c =
    let items : List Group = c.loop-step.groups.items in
    let same = c.loop-step.invariant.same in
    let n_is : c.len-count.result ≡ length items = omega (arith, ap (λ v. length v.items) same) in
    let at_in : c.probe-at.result < length items = omega (arith, c.probe-at.ensures.within) in
    let read : c.index.result.now ≡ group_at items c.probe-at.result = c.index.ensures ∙ group-read items c.probe-at.result c.index.result.now at_in in
    let here : 7 ≤ (group_at items c.probe-at.result).count = subst (λ x. 7 ≤ x.count) read c.if-index-lt-LANES.false in
    let there : c.probe-at.result ≡ probe (length items) c.home-first.result c.loop-step.step = c.probe-at.ensures.value ∙ ap (λ n. probe n c.home-first.result c.loop-step.step) n_is in
    record {
      same = same;
      full = record {
        full = λ k l. elim (cases_eq k c.loop-step.step) as (λ _. 7 ≤ (group_at items (probe (length items) c.home-first.result k)).count) [
          | inl s ↦ subst (λ i. 7 ≤ (group_at items i).count) (there ∙ ap (probe (length items) c.home-first.result) (sym s)) here
          | inr ne ↦ c.loop-step.invariant.full.full k (omega arith)
        ];
      };
    }

pub unreachable-requires : goal.unreachable-requires
unreachable-requires c =
    let items : List Group = c.args.groups.now.items in
    let same = c.loop-step.invariant.same in
    let n_is : c.len-count.result ≡ length items = omega arith in
    let first_in = home-within (length items) c.args.hash c.home-first.result (omega (arith, c.requires.room)) (c.home-first.ensures ∙ ap (λ n. home n c.args.hash) n_is) in
    let steps_is : c.loop-step.step ≡ length items = omega arith in
    let full = subst (λ v. Full v.items c.home-first.result c.loop-step.step) same c.loop-step.invariant.full in
    let all = subst (Full items c.home-first.result) steps_is full in
    let len_is = full-len items c.requires.groups (full-all items c.home-first.result first_in all) in
    omega (arith, c.requires.room, len_is)
