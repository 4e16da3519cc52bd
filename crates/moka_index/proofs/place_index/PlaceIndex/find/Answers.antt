use Rattle.std.proofs.Common.{◌+◌, ◌*◌, sym, ap, ◌∙◌}
use Rattle.std.specs.FinMap as finite
use Rattle.moka_index.specs.Groups.{entry_at}
use Rattle.moka_index.proofs.Changes.{get-entry, entry-found}
use Rattle.moka_index.proofs.place_index.PlaceIndex.find.Goals as goal

pub find_entry-requires-clause-callable : goal.find_entry-requires-clause-callable
find_entry-requires-clause-callable g c q p e =
    let there = get-entry c.self.inside.groups.items c.self.invariant.groups_are q p c.args.hash (ap (λ x. entry_at x q) (sym c.deref.ensures.value) ∙ e) in
    c.requires.callable p (ap (λ v. finite.get v.entries p) (sym c.self.view_is) ∙ there)

pub returns-in-Some-clause-found : goal.returns-in-Some-clause-found
returns-in-Some-clause-found g c =
    let e = ap (λ x. entry_at x (7 * c.in-Some.found.group + c.in-Some.found.lane)) (sym c.deref.ensures.value) ∙ c.in-Some.ensures.found in
    ap (λ v. finite.get v.entries c.in-Some.found.place) (sym c.self.view_is) ∙ get-entry c.self.inside.groups.items c.self.invariant.groups_are _ c.in-Some.found.place c.args.hash e

pub returns-in-None-clause-absent : goal.returns-in-None-clause-absent
returns-in-None-clause-absent g c p h =
    let w = entry-found c.self.inside.groups.items p c.args.hash (ap (λ v. finite.get v.entries p) c.self.view_is ∙ h) in
    c.in-None.ensures.absent w.0 p (ap (λ x. entry_at x w.0) c.deref.ensures.value ∙ w.1.1)
