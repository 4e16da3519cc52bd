-- One more identifier.
use Rattle.std.proofs.Common.{[], ◌∷◌, ◌++◌, arith, rules, refl}
use Rattle.std.proofs.lemmas.List.{length_push}
use borrow.Author.Tests.{tests}
use Rattle.moka_parts.proofs.RunsGoOn.{Leads-append}
use Rattle.moka_parts.proofs.Registry.{taken_push, first_free}
use Rattle.moka_parts.proofs.invalidator.Invalidator.free_id.Goals as goal

pub returns-then-not-is_taken : goal.returns-then-not-is_taken
returns-then-not-is_taken g c =
    let so_far = c.loop.invariant in
    let id = c.next_id-id.result in
    let counted = length_push so_far.0 id in (
      so_far.0 ++ id ∷ [],
      Leads-append g.I.IdSource.gives c.args.ids.now c.loop.ids c.next_id-id.new.self so_far.0 (id ∷ []) so_far.1 (c.next_id-id.new.self, c.next_id-id.ensures, refl),
      (omega (arith, counted, so_far.2), first_free c.args.self.now so_far.0 id so_far.3 (search (rules, tests))),
    )

pub loop-preserved : goal.loop-preserved
loop-preserved g c =
    let so_far = c.loop.invariant in
    let id = c.next_id-id.result in
    let counted = length_push so_far.0 id in (
      so_far.0 ++ id ∷ [],
      Leads-append g.I.IdSource.gives c.args.ids.now c.loop.ids c.next_id-id.new.self so_far.0 (id ∷ []) so_far.1 (c.next_id-id.new.self, c.next_id-id.ensures, refl),
      omega (arith, counted, so_far.2),
      taken_push c.args.self.now so_far.0 id so_far.3 (search (rules, tests)),
    )
