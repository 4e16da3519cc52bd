use Rattle.std.proofs.Common.{◌≡◌, refl, ℕ, ◌+◌, ◌<◌, ◌≤◌, ◌&&◌, ◌⊎◌, inl, inr, true, false, None, Some, Option, IfSome, IsSome, List, option_map, nat_le, nat_lt, length, ap, sym, subst, ◌∙◌, arith}
use Rattle.std.specs.FinMap.{FinMap, get}
use Rattle.std.specs.Ordering.{nat_cmp}
use Rattle.moka_parts.specs.Frequency.{frequency}
use Rattle.moka_records.specs.declared.records.Member.{Member}
use Rattle.moka_parts.specs.Candidates.{hash_of}
use Rattle.moka_records.specs.Records.{counted_of, is_settled, member, to_back}
use Rattle.moka_store.specs.Store.{Kept}
use Rattle.moka_store.specs.declared.store.Handle.{Handle}
use Rattle.moka_maintenance.specs.Choice.{Chooses}
use Rattle.moka_maintenance.specs.Steps.{contents_with}
use Rattle.moka_maintenance.proofs.Walking.{Walks, walks-none, walks-settled, walks-unsettled, walks-as, walks-over}
use Rattle.moka_maintenance.proofs.choice.choose.Goals as goal
use Rattle.moka_maintenance.proofs.choice.choose.Goals.{then-loop-weights-test+then-frequencies-frequency+else-unsettled-lt-MAX_UNSETTLED, then-loop-weights-test+else-frequencies-frequency, else-loop-weights-test, then-loop-weights-test+then-frequencies-frequency+then-unsettled-lt-MAX_UNSETTLED+in_default}

-- what comes next, as a member
abbrev named : Option (Handle × ℕ) → Option Member
named o = option_map (λ f. member f.0.number f.1) o

some_placed : (o : Option (Handle × ℕ)) {p q : FinMap nat_cmp ℕ} → p ≡ q → IfSome o (λ f. get p f.0.number ≡ Some f.0.place) → IfSome o (λ f. get q f.0.number ≡ Some f.0.place)
some_placed None same h = tt
some_placed (Some f) same h = ap (λ m. get m f.0.number) (sym same) ∙ h

some_counted : (o : Option (Handle × ℕ)) (xs ys : List Member) → ((n : ℕ) → counted_of n ys ≡ counted_of n xs) → IfSome o (λ f. IsSome (counted_of f.0.number xs)) → IfSome o (λ f. IsSome (counted_of f.0.number ys))
some_counted None xs ys same h = tt
some_counted (Some f) xs ys same h = subst IsSome (sym (same f.0.number)) h

heavy_by : (weight weights : ℕ) → weight ≤ weights → nat_le weight weights ≡ true
heavy_by weight weights heavy = grind arith

light_by : (weight weights : ℕ) → weights < weight → nat_le weight weights ≡ false
light_by weight weights light = grind arith

pub loop-weights-init : goal.loop-weights-init
loop-weights-init g c =
    let k = contents_with c.args.sketch.now c.args.store.now in
    let w = c.from-weight.result in
    record {
      walks =
          subst (λ n. Walks k w c.args.hash c.args.store.now.access (named c.front-next.result) 0 0 0 0 n) (sym c.member_count-ahead.ensures.value)
          (subst (λ o. Walks k w c.args.hash c.args.store.now.access o 0 0 0 0 (length c.args.store.now.access)) (sym c.front-next.ensures.front) (walks-none k w c.args.hash));
      placed = c.front-next.ensures.placed;
      member = c.front-next.ensures.member;
      rest = refl;
      few = omega arith;
    }

pub loop-weights-smaller-in-Some-frequency_of : goal.loop-weights-smaller-in-Some-frequency_of
loop-weights-smaller-in-Some-frequency_of g c =
    let inv = c.loop-weights.invariant in
    let a = member c.in-Some.handle.number c.in-Some.counted in
    let is = ap (λ (s : Kept g.row.K.Denot g.row.V.Denot g.row.S.Denot). is_settled s.records a.number) (sym inv.rest) ∙ c.in-Some-frequency_of.ensures.0 in
    let some = (walks-settled (contents_with c.args.sketch.now c.args.store.now) c.from-weight.result c.args.hash c.invariant_holds.ensures.distinct a inv.walks (ap named c.in-Some.is)
    c.loop-weights-test.true c.if-unsettled-lt-MAX_UNSETTLED.true (named c.next-next.result) c.next-next.ensures.next is).0 in
    let less = c.saturating_sub-ahead.ensures in
    omega arith

pub loop-weights-preserved-in-Some-frequency_of : goal.loop-weights-preserved-in-Some-frequency_of
loop-weights-preserved-in-Some-frequency_of g c =
    let k = contents_with c.args.sketch.now c.args.store.now in
    let inv = c.loop-weights.invariant in
    let a = member c.in-Some.handle.number c.in-Some.counted in
    let is = ap (λ (s : Kept g.row.K.Denot g.row.V.Denot g.row.S.Denot). is_settled s.records a.number) (sym inv.rest) ∙ c.in-Some-frequency_of.ensures.0 in
    let seen = c.from.ensures ∙ c.in-Some-frequency_of.ensures.1 c.in-Some.counted ∙ ap (λ (s : Kept g.row.K.Denot g.row.V.Denot g.row.S.Denot). frequency c.args.sketch.now (hash_of (contents_with c.args.sketch.now s) a)) inv.rest in
    let on = walks-settled k c.from-weight.result c.args.hash c.invariant_holds.ensures.distinct a inv.walks (ap named c.in-Some.is)
    c.loop-weights-test.true c.if-unsettled-lt-MAX_UNSETTLED.true (named c.next-next.result) c.next-next.ensures.next is in
    record {
      walks = walks-as k c.from-weight.result c.args.hash c.with_weight-weights.ensures (ap (λ n. c.loop-weights.frequencies + n) seen) c.saturating_sub-ahead.ensures on.1;
      placed = c.next-next.ensures.placed;
      member = c.next-next.ensures.member;
      rest = inv.rest;
      few = (let less = c.saturating_sub-ahead.ensures in let few = inv.few in let some = on.0 in omega arith);
    }

pub loop-weights-preserved : goal.loop-weights-preserved
loop-weights-preserved g c =
    let k = contents_with c.args.sketch.now c.args.store.now in
    let inv = c.loop-weights.invariant in
    let access = c.loop-weights.store.access in
    let a = member c.in-Some.handle.number c.in-Some.counted in
    let is = ap (λ (s : Kept g.row.K.Denot g.row.V.Denot g.row.S.Denot). is_settled s.records a.number) (sym inv.rest) ∙ c.in-None.ensures in
    let step = c.move_in_access.ensures.step in
    let moved = ap (λ (s : Kept g.row.K.Denot g.row.V.Denot g.row.S.Denot). s.access) step in
    record {
      walks =
          walks-as k c.from-weight.result c.args.hash refl refl c.saturating_sub-ahead.ensures
          (walks-unsettled k c.from-weight.result c.args.hash c.invariant_holds.ensures.distinct a inv.walks (ap named c.in-Some.is)
          c.loop-weights-test.true c.if-unsettled-lt-MAX_UNSETTLED.true (named c.next-next.result) c.next-next.ensures.next c.move_in_access.new.self.access moved is);
      placed = some_placed c.next-next.result (sym c.move_in_access.ensures.places) c.next-next.ensures.placed;
      member = some_counted c.next-next.result access c.move_in_access.new.self.access c.move_in_access.ensures.counted c.next-next.ensures.member;
      rest = step ∙ ap (λ (s : Kept g.row.K.Denot g.row.V.Denot g.row.S.Denot). record s { access = to_back a.number access }) inv.rest ∙ ap (λ xs. record c.args.store.now { access = xs }) (sym moved);
      few = (let less = c.saturating_sub-ahead.ensures in let few = inv.few in omega arith);
    }

pub returns-then-weights-weight-clause-chosen : goal.returns-then-weights-weight-clause-chosen
returns-then-weights-weight-clause-chosen g c =
    let k = contents_with c.args.sketch.now c.args.store.now in
    let l = c.loop-weights in
    let seen = c.from-frequency.ensures ∙ c.frequency.ensures in
    let heavy : nat_le c.from-weight.result l.weights ≡ true = heavy_by _ _ c.if-weights-weight.true in
    subst (Chooses k c.args.weight c.args.hash l.store.access l.victims) (ap (λ b. b && nat_lt l.frequencies (frequency c.args.sketch.now c.args.hash)) heavy ∙ ap (nat_lt l.frequencies) (sym seen))
    (subst (λ w. Chooses k w c.args.hash l.store.access l.victims (nat_le c.from-weight.result l.weights && nat_lt l.frequencies (frequency c.args.sketch.now c.args.hash))) c.from-weight.ensures
    (walks-over k c.from-weight.result c.args.hash c.invariant_holds.ensures.distinct l.invariant.walks (inl c.if-weights-weight.true)))

pub returns-else-weights-weight-clause-chosen : goal.returns-else-weights-weight-clause-chosen
returns-else-weights-weight-clause-chosen g c =
    let k = contents_with c.args.sketch.now c.args.store.now in
    let l = c.loop-weights in
    let seen = c.from-frequency.ensures ∙ c.frequency.ensures in
    let not_heavy : nat_le c.from-weight.result l.weights ≡ false = light_by _ _ c.if-weights-weight.false in
    let over : (c.from-weight.result ≤ l.weights) ⊎ ((frequency c.args.sketch.now c.args.hash < l.frequencies) ⊎ ((6 ≤ l.unsettled) ⊎ (named l.next ≡ None))) = elim c.loop-weights-test.branch [
      | then-loop-weights-test+then-frequencies-frequency+else-unsettled-lt-MAX_UNSETTLED w ↦ inr (inr (inl w.if-unsettled-lt-MAX_UNSETTLED.false))
      | then-loop-weights-test+else-frequencies-frequency w ↦ inr (inl (subst (λ n. n < l.frequencies) seen w.if-frequencies-frequency.false))
      | else-loop-weights-test w ↦ inl w.loop-weights-test.false
      | then-loop-weights-test+then-frequencies-frequency+then-unsettled-lt-MAX_UNSETTLED+in_default w ↦ inr (inr (inr (ap named w.in_default.is)))
    ] in
    subst (Chooses k c.args.weight c.args.hash l.store.access l.victims) (ap (λ b. b && nat_lt l.frequencies (frequency c.args.sketch.now c.args.hash)) not_heavy ∙ sym not_heavy)
    (subst (λ w. Chooses k w c.args.hash l.store.access l.victims (nat_le c.from-weight.result l.weights && nat_lt l.frequencies (frequency c.args.sketch.now c.args.hash))) c.from-weight.ensures
    (walks-over k c.from-weight.result c.args.hash c.invariant_holds.ensures.distinct l.invariant.walks over))

pub returns-then-weights-weight-clause-rest : goal.returns-then-weights-weight-clause-rest
returns-then-weights-weight-clause-rest g c = c.loop-weights.invariant.rest

pub returns-else-weights-weight-clause-rest : goal.returns-else-weights-weight-clause-rest
returns-else-weights-weight-clause-rest g c = c.loop-weights.invariant.rest
