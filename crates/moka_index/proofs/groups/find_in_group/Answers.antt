use Rattle.std.proofs.Common.{◌≡◌, ℕ, false, Some, slice_index_or, ◌⊎◌, inl, inr, sym, subst, ◌∙◌, of_calls, arith}
use Rattle.std.proofs.lemmas.Bool.{cases_eq}
use Rattle.std_collections.specs.IndexTable.Group.{IsBitSet}
use Rattle.moka_index.specs.Group.{entry_in}
use Rattle.moka_index.proofs.Lanes.{entry-here, entry-is}
use Rattle.moka_index.proofs.Search.{none-left}
use Rattle.moka_index.proofs.groups.find_in_group.Goals.{then-lane-group+else-is_match, else-lane-group}
use Rattle.moka_index.proofs.groups.find_in_group.Goals as goal

pub loop-matches-init : goal.loop-matches-init
loop-matches-init g c = record {
  rest = λ lane p e.
      let w = entry-is c.args.group.now lane p c.args.hash e in
      inl (c.matches-matches.ensures.set lane (omega (arith, w.0, c.requires.lanes.count)) w.1.1);
  only = λ lane l s. c.matches-matches.ensures.only lane l s;
}

pub is_match-requires : goal.is_match-requires
is_match-requires g c =
    let here = entry-here c.args.group.now c.lowest_set_bit-lane.result c.if-lane-group.true in
    let same = c.loop-matches.invariant.only c.lowest_set_bit-lane.result (omega (arith, c.if-lane-group.true, c.requires.lanes.count)) c.lowest_set_bit-lane.ensures.set in
    let there = subst (λ h. entry_in c.args.group.now c.lowest_set_bit-lane.result ≡ Some (slice_index_or c.args.group.now.places c.lowest_set_bit-lane.result 0, h)) same here in
    search (of_calls, c.requires.callable _ _ there)

pub returns-then-is_match-clause-found : goal.returns-then-is_match-clause-found
returns-then-is_match-clause-found g c =
    let here = entry-here c.args.group.now c.lowest_set_bit-lane.result c.if-lane-group.true in
    let same = c.loop-matches.invariant.only c.lowest_set_bit-lane.result (omega (arith, c.if-lane-group.true, c.requires.lanes.count)) c.lowest_set_bit-lane.ensures.set in
    subst (λ h. entry_in c.args.group.now c.lowest_set_bit-lane.result ≡ Some (slice_index_or c.args.group.now.places c.lowest_set_bit-lane.result 0, h)) same here

pub loop-matches-preserved : goal.loop-matches-preserved
loop-matches-preserved g c = record {
  rest = λ lane p e.
      elim (c.loop-matches.invariant.rest lane p e) as (λ _. IsBitSet c.without_lowest_bit-matches.result lane ⊎ goal.F-post g c.args.is_match.now p false) [
        | inr done ↦ inr done
        | inl set ↦ elim (cases_eq lane c.lowest_set_bit-lane.result) as (λ _. IsBitSet c.without_lowest_bit-matches.result lane ⊎ goal.F-post g c.args.is_match.now p false) [
          | inr ne ↦ inl (c.without_lowest_bit-matches.ensures.others lane set (λ s. ne (s ∙ sym c.lowest_set_bit-lane.ensures.value)))
          | inl s ↦
              let w = entry-is c.args.group.now c.lowest_set_bit-lane.result p c.args.hash (subst (λ l. entry_in c.args.group.now l ≡ Some (p, c.args.hash)) s e) in
              elim c.if-lane-group.branch as (λ _. IsBitSet c.without_lowest_bit-matches.result lane ⊎ goal.F-post g c.args.is_match.now p false) [
                | then-lane-group+else-is_match v ↦
                    inr (subst (λ j. goal.F-post g c.args.is_match.now j false) w.1.0 (subst (goal.F-post g c.args.is_match.now (slice_index_or c.args.group.now.places c.lowest_set_bit-lane.result 0)) v.if-is_match.false v.is_match.ensures))
                | else-lane-group v ↦ absurd (omega (arith, w.0, v.if-lane-group.false))
              ]
        ]
      ];
  only = λ lane l s. c.loop-matches.invariant.only lane l (c.without_lowest_bit-matches.ensures.only lane s);
}

pub returns-clause-absent : goal.returns-clause-absent
returns-clause-absent g c = none-left (λ (j : ℕ). goal.F-post g c.args.is_match.now j false) c.args.group.now c.args.hash c.loop-matches.matches c.loop-matches.invariant c.loop-matches-test.false
