use Rattle.std.proofs.Common.{◌≡◌, ◌≢◌, ℕ, ◌/◌, ◌<◌, ◌≤◌, List, length, slice_set, ◌⊎◌, inl, inr, sym, ap, subst, ◌∙◌, arith}
use Rattle.moka_index.specs.declared.group.Group.{Group}
use Rattle.moka_index.specs.Group.{home, lane_hash}
use Rattle.moka_index.specs.Groups.{probe, distance, group_at, entries_of, IsTight}
use Rattle.moka_index.proofs.Changes.{Leaves, lowered-leaves, lowered-tight}
use Rattle.moka_index.proofs.Lanes.{group-read}
use Rattle.moka_index.proofs.Search.{falls-next}
use Rattle.moka_index.proofs.groups.lower_reach.Goals.{then-loop-reach-test+else-not-has_home, else-loop-reach-test}
use Rattle.moka_index.proofs.groups.lower_reach.Goals as goal

pub loop-reach-init : goal.loop-reach-init
loop-reach-init c =
    let items : List Group = c.args.groups.now.items in
    let read : c.index.result.now ≡ group_at items c.args.first = c.index.ensures ∙ group-read items c.args.first c.index.result.now c.requires.first in
    let r : c.index.result.now.reach ≡ (group_at items c.args.first).reach = ap (λ x. x.reach) read in
    record {
      less = omega arith;
      enough = λ q e h s. subst (λ x. distance (length items) c.args.first (q / 7) ≤ x) (sym r) (subst (λ f. distance (length items) f (q / 7) ≤ (group_at items f).reach) s (c.requires.groups.reached.within q e h));
    }

pub probe-requires-clause-step : goal.probe-requires-clause-step
probe-requires-clause-step c =
    let items : List Group = c.args.groups.now.items in
    let n_is : c.len-count.result ≡ length items = omega arith in
    let some : 0 < length items = omega (arith, c.requires.first) in
    omega (arith, c.loop-reach.invariant.less, (c.requires.groups.shaped c.args.first).reach some)

pub loop-reach-preserved : goal.loop-reach-preserved
loop-reach-preserved c =
    let items : List Group = c.args.groups.now.items in
    let n_is : c.len-count.result ≡ length items = omega arith in
    let at_in : c.probe.result < length items = omega (arith, c.probe.ensures.within) in
    let there : c.probe.result ≡ probe (length items) c.args.first c.loop-reach.reach = c.probe.ensures.value ∙ ap (λ n. probe n c.args.first c.loop-reach.reach) n_is in
    let read : c.index-in-loop-reach.result.now ≡ group_at items (probe (length items) c.args.first c.loop-reach.reach) =
    c.index-in-loop-reach.ensures ∙ group-read items c.probe.result c.index-in-loop-reach.result.now at_in ∙ ap (group_at items) there in
    let none = c.has_home.ensures.none c.if-not-has_home.true in
    falls-next items c.args.first c.loop-reach.reach c.requires.groups c.requires.first c.loop-reach.invariant
    (subst (λ x. (lane : ℕ) → lane < x.count → home (length items) (lane_hash x lane) ≢ c.args.first) read (subst (λ n. (lane : ℕ) → lane < c.index-in-loop-reach.result.now.count → home n (lane_hash c.index-in-loop-reach.result.now lane) ≢ c.args.first) n_is none))

pub returns : goal.returns
returns c =
    let items : List Group = c.args.groups.now.items in
    let n_is : c.len-count.result ≡ length items = omega arith in
    let read : c.index_mut.result.now ≡ group_at items c.args.first = c.index_mut.ensures.value ∙ group-read items c.args.first c.index_mut.result.now c.requires.first in
    let l = subst (λ (x : Group). Leaves items (slice_set items c.args.first (record x { reach = c.loop-reach.reach })) (entries_of items)) (sym read)
    (lowered-leaves items c.requires.groups c.args.first c.loop-reach.reach c.requires.first c.loop-reach.invariant.less c.loop-reach.invariant.enough) in
    let ended : (c.loop-reach.reach ≡ 0) ⊎ ((lane : ℕ) × (lane < (group_at items (probe (length items) c.args.first c.loop-reach.reach)).count) × (home (length items) (lane_hash (group_at items (probe (length items) c.args.first c.loop-reach.reach)) lane) ≡ c.args.first)) =
    elim c.loop-reach-test.branch [
      | then-loop-reach-test+else-not-has_home w ↦
          let at_in : w.probe.result < length items = omega (arith, w.probe.ensures.within) in
          let at_is : w.probe.result ≡ probe (length items) c.args.first c.loop-reach.reach = w.probe.ensures.value ∙ ap (λ n. probe n c.args.first c.loop-reach.reach) n_is in
          let here : w.index-in-loop-reach.result.now ≡ group_at items (probe (length items) c.args.first c.loop-reach.reach) = w.index-in-loop-reach.ensures ∙ group-read items w.probe.result w.index-in-loop-reach.result.now at_in ∙ ap (group_at items) at_is in
          let one = w.has_home.ensures.one w.if-not-has_home.false in
          inr (subst (λ x. (lane : ℕ) × (lane < x.count) × (home (length items) (lane_hash x lane) ≡ c.args.first)) here
          (subst (λ n. (lane : ℕ) × (lane < w.index-in-loop-reach.result.now.count) × (home n (lane_hash w.index-in-loop-reach.result.now lane) ≡ c.args.first)) n_is one))
      | else-loop-reach-test w ↦ inl (omega (arith, w.loop-reach-test.false))
    ] in
    record {
      groups = l.groups;
      entries = l.entries;
      len = l.len;
      tight = λ others. subst (λ (x : Group). IsTight (slice_set items c.args.first (record x { reach = c.loop-reach.reach }))) (sym read)
          (lowered-tight items c.requires.groups c.args.first c.loop-reach.reach c.requires.first c.loop-reach.invariant.less c.loop-reach.invariant.enough ended others);
    }
