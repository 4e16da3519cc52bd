use Rattle.std.proofs.Common.{Some, None, Ok, Err, refl}
use Rattle.moka_records.specs.Records.{record_of_key}
use Rattle.moka_engine.proofs.PeekSteps.{scan_misses, scan_hits, scan_refused}
use Rattle.moka_engine.proofs.base_cache.BaseCache.scanning_get.Goals as goal

pub returns-in_default-clause-step : goal.returns-in_default-clause-step
returns-in_default-clause-step g c =
    let m = c.moments-moments.ensures in
    let found = rw (c.store.ensures, m.policy, m.valid_after, m.now, ← c.self.view_is) at c.in_default.ensures in
    (Ok None, scan_misses g.P.PredicateFn.says c.self.view_is c.self.inside.inner.kept (λ records. record_of_key g.K.PartialEq.eq records c.args.key.now) c.args.now.0 found, refl)

pub returns-in-Err-clause-step : goal.returns-in-Err-clause-step
returns-in-Err-clause-step g c =
    let m = c.moments-moments.ensures in
    let found = rw (c.store.ensures, m.policy, m.valid_after, m.now, ← c.self.view_is) at c.in-Some.ensures in
    (Err (record {}), scan_refused g.P.PredicateFn.says c.self.view_is c.self.inside.inner.kept (λ records. record_of_key g.K.PartialEq.eq records c.args.key.now) c.args.now.0 c.in-Some.field-0-0 c.in-Some.found found (record {}), refl)

pub returns-in-Ok-clause-step : goal.returns-in-Ok-clause-step
returns-in-Ok-clause-step g c =
    let m = c.moments-moments.ensures in
    let found = rw (c.store.ensures, m.policy, m.valid_after, m.now, ← c.self.view_is) at c.in-Some.ensures in
    (Ok (Some c.in-Some.found.value), scan_hits g.P.PredicateFn.says c.self.view_is c.self.inside.inner.kept (λ records. record_of_key g.K.PartialEq.eq records c.args.key.now) c.args.now.0 c.in-Some.field-0-0 c.in-Some.found found, rw c.value.ensures at c.in-Ok.ensures.cases)

pub returns-in-Err-clause-succeeds : goal.returns-in-Err-clause-succeeds
returns-in-Err-clause-succeeds g c =
    let m = c.moments-moments.ensures in
    let found = rw (c.store.ensures, m.policy, m.valid_after, m.now, ← c.self.view_is) at c.in-Some.ensures in
    rw (← c.self.view_is) (λ granted. absurd (c.in-Err.ensures.cases (rw c.value.ensures (granted c.in-Some.found found.found))))
