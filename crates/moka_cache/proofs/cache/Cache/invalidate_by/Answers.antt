use Rattle.std.proofs.Common.{◌∙◌, ap}
use Rattle.moka_calls.specs.Synchronous.{invalidated}
use Rattle.moka_cache.proofs.Asking.{invalidated_told}
use Rattle.moka_cache.proofs.cache.Cache.invalidate_by.Goals as goal

pub returns-clause-step : goal.returns-clause-step
returns-clause-step g c =
    let e = c.take_by.ensures in
    record {
      made = λ key passing. (c.take_by.result, c.invalidated.ensures, e.made key passing);
      none = λ none. (c.invalidated.ensures ∙ ap invalidated (e.none none).0, (e.none none).1);
      gone = e.gone;
      hasher = e.hasher;
      counted = e.counted;
    }

pub returns-clause-succeeds : goal.returns-clause-succeeds
returns-clause-succeeds g c = λ granted. rw c.invalidated.ensures (invalidated_told c.take_by.result (c.take_by.ensures.notified granted))
