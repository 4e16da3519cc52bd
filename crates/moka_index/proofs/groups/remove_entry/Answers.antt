use Rattle.std.proofs.Common.{◌≡◌, ◌≢◌, ◌+◌, ◌*◌, ◌<◌, ◌==◌, false, Some, length, ◌⊎◌, inl, inr, refl, sym, ap, ◌∙◌, arith, rules}
use Rattle.std.proofs.lemmas.Bool.{eq-eqb, true≢false}
use Rattle.moka_index.specs.Group.{home}
use Rattle.moka_index.specs.Groups.{entry_at, group_at, probe}
use Rattle.moka_index.proofs.Probes.{home-within}
use Rattle.moka_index.proofs.Changes.{entry-found}
use Rattle.moka_index.proofs.Lanes.{group-read}
use Rattle.moka_index.proofs.Search.{others-exact, all-exact}
use Rattle.moka_index.proofs.groups.remove_entry.Goals.{else-reach-gt0-via-then-reach-gt0+else-probe-found, else-reach-gt0-via-else-reach-gt0}
use Rattle.moka_index.proofs.groups.remove_entry.Goals as goal

pub unreachable-requires : goal.unreachable-requires
unreachable-requires c =
    let w = entry-found c.args.groups.now.items c.args.place c.args.hash c.requires.there in
    let there : entry_at c.deref.result.now w.0 ≡ Some (c.args.place, c.args.hash) = ap (λ x. entry_at x w.0) c.deref.ensures.value ∙ w.1.1 in
    let no = c.in_default.ensures.absent w.0 c.args.place there in
    let e : (c.args.place == c.args.place) ≡ false = search (rules, no) in
    true≢false (sym (eq-eqb c.args.place c.args.place refl) ∙ e)

pub index-requires : goal.index-requires
index-requires c =
    omega (arith, home-within c.len-count.result c.args.hash c.home-first.result (omega (arith, c.in-Some.ensures.group, ap length c.deref.ensures.value, c.remove_found.ensures.len)) c.home-first.ensures)

pub probe-requires : goal.probe-requires
probe-requires c =
    let within = home-within c.len-count.result c.args.hash c.home-first.result (omega (arith, c.in-Some.ensures.group, ap length c.deref.ensures.value, c.remove_found.ensures.len)) c.home-first.ensures in
    let less = (c.remove_found.ensures.groups.shaped c.home-first.result).reach (omega arith) in
    let read = c.index.ensures ∙ group-read c.remove_found.new.groups.items c.home-first.result c.index.result.now (omega (arith, within)) in
    record { first = within; step = omega (arith, ap (λ g. g.reach) read, less); count = omega (arith, c.remove_found.ensures.groups.bounded) }

pub lower_reach-requires-clause-first : goal.lower_reach-requires-clause-first
lower_reach-requires-clause-first c =
    omega (arith, home-within c.len-count.result c.args.hash c.home-first.result (omega (arith, c.in-Some.ensures.group, ap length c.deref.ensures.value, c.remove_found.ensures.len)) c.home-first.ensures)

pub returns-then-probe-found-clause-tight : goal.returns-then-probe-found-clause-tight
returns-then-probe-found-clause-tight c =
    let old = c.args.groups.now.items in
    let at : entry_at old (7 * c.in-Some.found.group + c.in-Some.found.lane) ≡ Some (c.in-Some.found.place, c.args.hash) = ap (λ x. entry_at x (7 * c.in-Some.found.group + c.in-Some.found.lane)) (sym c.deref.ensures.value) ∙ c.in-Some.ensures.found in
    let first_is = c.home-first.ensures ∙ ap (λ n. home n c.args.hash) (let n : c.len-count.result ≡ length c.remove_found.new.groups.items = omega arith in n) in
    λ tight. c.lower_reach.ensures.tight (others-exact old c.remove_found.new.groups.items c.in-Some.found.group c.in-Some.found.lane c.in-Some.found.place c.args.hash c.home-first.result c.remove_found.ensures.len first_is at c.remove_found.ensures.exact tight)

pub returns-else-reach-gt0-clause-tight : goal.returns-else-reach-gt0-clause-tight
returns-else-reach-gt0-clause-tight c =
    let old = c.args.groups.now.items in
    let mid = c.remove_found.new.groups.items in
    let at : entry_at old (7 * c.in-Some.found.group + c.in-Some.found.lane) ≡ Some (c.in-Some.found.place, c.args.hash) = ap (λ x. entry_at x (7 * c.in-Some.found.group + c.in-Some.found.lane)) (sym c.deref.ensures.value) ∙ c.in-Some.ensures.found in
    let n_is : c.len-count.result ≡ length mid = omega arith in
    let first_is = c.home-first.ensures ∙ ap (λ n. home n c.args.hash) n_is in
    let within = home-within c.len-count.result c.args.hash c.home-first.result (omega (arith, c.in-Some.ensures.group, ap length c.deref.ensures.value, c.remove_found.ensures.len)) c.home-first.ensures in
    let first_in : c.home-first.result < length mid = omega (arith, within) in
    let group_in : c.in-Some.found.group < length mid = omega (arith, c.in-Some.ensures.group, ap length c.deref.ensures.value, c.remove_found.ensures.len) in
    let reach : c.index.result.now.reach ≡ (group_at mid c.home-first.result).reach = ap (λ g. g.reach) (c.index.ensures ∙ group-read mid c.home-first.result c.index.result.now first_in) in
    let ends : ((group_at mid c.home-first.result).reach ≡ 0) ⊎ (probe (length mid) c.home-first.result (group_at mid c.home-first.result).reach ≢ c.in-Some.found.group) =
    elim c.else-reach-gt0.branch [
      | else-reach-gt0-via-then-reach-gt0+else-probe-found w ↦ inr (λ s. w.if-probe-found.false (w.probe.ensures.value ∙ ap (λ n. probe n c.home-first.result c.index.result.now.reach) n_is ∙ ap (probe (length mid) c.home-first.result) reach ∙ s))
      | else-reach-gt0-via-else-reach-gt0 w ↦ inl (omega (arith, reach, w.if-reach-gt0.false))
    ] in
    λ tight. all-exact old mid c.in-Some.found.group c.in-Some.found.lane c.in-Some.found.place c.args.hash c.home-first.result c.remove_found.ensures.len first_is at c.remove_found.ensures.exact tight first_in group_in ends
