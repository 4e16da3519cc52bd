use Rattle.std.proofs.Common.{◌≡◌, arith, rules}
use Rattle.moka_cache.specs.Given.{ComesBack}
use Rattle.moka_cache.specs.Keyed.{IsOfInsert}
use Rattle.moka_uses.specs.Visits.{PutsCount, RefusesCount, meaning, next_count}
use Rattle.moka_uses.proofs.Visited.{counted, goes_on, renamed}
use Rattle.moka_uses.proofs.visits.count.Goals as goal

pub returns : goal.returns
returns g c =
    let called = c.and_upsert_with.ensures.step in
    let old = c.entry.result.cache.now.engine in
    let new = c.and_upsert_with.new.self.0.engine in
    let all = counted g.C.Clock.reads c.entry.result.key _ c.args.now old c.args.clock.now new c.and_upsert_with.new.clock (λ a b. b ≡ a) called.0 called.1 called.2 called.8 _ (λ seen value answers. search rules) called.3 called.4 c.and_upsert_with.result called.5 called.6 called.9 in
    let here = rw (c.entry.ensures.key, c.entry.ensures.unchanged) at (rw c.in_ok-entry.was at all) in
    record { counted = here.0; put = renamed _ new (grind (arith, c.entry.ensures.same_cache)) (λ e. PutsCount (meaning g.C.Clock.reads) c.args.page c.args.now c.args.visits.now.engine c.args.clock.now e c.and_upsert_with.new.clock) _ here.1; back = tt; refused = tt; looks_up = tt }

pub returns-in_err-entry-clause-back : goal.returns-in_err-entry-clause-back
returns-in_err-entry-clause-back g c =
    let called = c.and_upsert_with.ensures.step in
    let old = c.entry.result.cache.now.engine in
    let new = c.and_upsert_with.new.self.0.engine in
    let all = counted g.C.Clock.reads c.entry.result.key _ c.args.now old c.args.clock.now new c.and_upsert_with.new.clock (λ a b. b ≡ a) called.0 called.1 called.2 called.8 _ (λ seen value answers. search rules) called.3 called.4 c.and_upsert_with.result called.5 called.6 called.9 in
    let here = rw (c.entry.ensures.key, c.entry.ensures.unchanged) at (rw c.in_err-entry.was at all) in
    goes_on _ _ c.from_residual.result c.from_residual.ensures (renamed c.visits-1.given.0.engine new (grind (arith, c.entry.ensures.same_cache)) (λ e. ComesBack c.args.visits.now.engine.state e.state c.args.page (λ count. count ≡ next_count c.args.visits.now.engine.state c.args.page c.args.now.0)) _ here.0)

pub returns-in_err-entry-clause-refused : goal.returns-in_err-entry-clause-refused
returns-in_err-entry-clause-refused g c =
    let called = c.and_upsert_with.ensures.step in
    let old = c.entry.result.cache.now.engine in
    let new = c.and_upsert_with.new.self.0.engine in
    let all = counted g.C.Clock.reads c.entry.result.key _ c.args.now old c.args.clock.now new c.and_upsert_with.new.clock (λ a b. b ≡ a) called.0 called.1 called.2 called.8 _ (λ seen value answers. search rules) called.3 called.4 c.and_upsert_with.result called.5 called.6 called.9 in
    let here = rw (c.entry.ensures.key, c.entry.ensures.unchanged) at (rw c.in_err-entry.was at all) in
    goes_on _ _ c.from_residual.result c.from_residual.ensures (renamed c.visits-1.given.0.engine new (grind (arith, c.entry.ensures.same_cache)) (λ e. RefusesCount (meaning g.C.Clock.reads) c.args.page c.args.now c.args.visits.now.engine c.args.clock.now e c.and_upsert_with.new.clock) _ here.1)

pub returns-in_err-entry-clause-looks_up : goal.returns-in_err-entry-clause-looks_up
returns-in_err-entry-clause-looks_up g c = goes_on IsOfInsert _ c.from_residual.result c.from_residual.ensures (rw c.in_err-entry.was at (c.and_upsert_with.ensures.looks_up (λ r there. tt)))
