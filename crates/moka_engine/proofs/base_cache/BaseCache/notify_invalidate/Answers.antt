use Rattle.std.proofs.Common.{rules, refl, sym, ◌∙◌, [], ◌∷◌, inl, inr}
use Rattle.moka_engine.proofs.base_cache.BaseCache.notify_invalidate.Goals as goal

pub returns-then-not-is_removal_notifier_enabled-clause-step : goal.returns-then-not-is_removal_notifier_enabled-clause-step
returns-then-not-is_removal_notifier_enabled-clause-step g c = ([], (c.args.entry.now, search rules, inl refl), refl, search rules)

pub returns-in_default-clause-step : goal.returns-in_default-clause-step
returns-in_default-clause-step g c =
    ([], (c.args.entry.now, search rules, inl refl), refl, search rules)

pub returns-in_default-clone-clause-step : goal.returns-in_default-clone-clause-step
returns-in_default-clone-clause-step g c =
    ([], (c.args.entry.now, search rules, inl refl), refl, search rules)

pub returns-clause-step : goal.returns-clause-step
returns-clause-step g c =
    let listening = rw (← c.self.view_is) at (sym c.is_removal_notifier_enabled.ensures ∙ c.if-not-is_removal_notifier_enabled.false) in
    let copied = inr (record { key = c.in-Ok.ensures.cases; value = c.in-Ok-clone.ensures.cases; last_modified = refl; last_accessed = refl }) in (
      (c.in-Ok.key, c.in-Ok-clone.value, c.cause_of_removal-cause.result) ∷ [],
      (record c.args.entry.now { key = c.in-Ok.key; value = c.in-Ok-clone.value }, search rules, copied),
      rw (← c.self.view_is) refl,
      record { kept = rw (← c.self.view_is) refl; heard = rw (← c.self.view_is) (rw listening at c.notify.ensures); passes = rw (← c.self.view_is) refl; listed = λ _. rw (← c.self.view_is) refl },
    )
