use Rattle.std.proofs.Common.{◌≡◌, true, false, Some, inl, inr, refl, sym, ap, subst, ◌∙◌}
use Rattle.std.proofs.lemmas.Option.{same_Some}
use Rattle.std.specs.Option.{option_map_or}
use Rattle.moka_records.specs.Records.{is_applied, is_settled}
use Rattle.moka_parts.specs.Visibility.{NoneCovers}
use Rattle.moka_maintenance.proofs.Fronts.{settled_member}
use Rattle.moka_maintenance.proofs.scan.look_at.Goals as goal

pub returns-then-apply_predicates : goal.returns-then-apply_predicates
returns-then-apply_predicates g c =
    let n = c.args.handle.number in
    let old = c.args.store.now in
    let r = c.in-Some.found in
    let found = sym (c.in-Some.ensures.found c.requires.placed) in
    let applied : is_applied r ≡ true = sym c.is_settled.ensures ∙ c.if-not-is_settled.false in
    let settled : is_settled old.records n ≡ true = ap (λ o. option_map_or is_applied o false) found ∙ applied in (
      settled,
      inr (
        (r, found, settled_member old.records old.access n c.requires.member settled, c.if-apply_predicates.ensures, refl),
        c.expel.ensures,
      ),
    )

pub returns-in_default : goal.returns-in_default
returns-in_default g c = (ap (λ o. option_map_or is_applied o false) (sym (c.in_default.ensures.found c.requires.placed)), refl, refl)

pub returns-then-not-is_settled : goal.returns-then-not-is_settled
returns-then-not-is_settled g c =
    (ap (λ o. option_map_or is_applied o false) (sym (c.in-Some.ensures.found c.requires.placed)) ∙ (sym c.is_settled.ensures ∙ c.if-not-is_settled.true), refl, refl)

pub returns-else-apply_predicates : goal.returns-else-apply_predicates
returns-else-apply_predicates g c =
    let found = sym (c.in-Some.ensures.found c.requires.placed) in (
      ap (λ o. option_map_or is_applied o false) found ∙ (sym c.is_settled.ensures ∙ c.if-not-is_settled.false),
      inl (
        refl,
        refl,
        λ r is. (let there : Some c.in-Some.found ≡ Some r = sym found ∙ is in subst (NoneCovers g.P.PredicateFn.says c.args.invalidator.now) (same_Some _ _ there) c.if-apply_predicates.ensures),
      ),
    )
