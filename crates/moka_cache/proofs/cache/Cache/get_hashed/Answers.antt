use Rattle.std.proofs.Common.{◌∙◌, false}
use Rattle.moka_parts.specs.Listed.{ListedRun}
use Rattle.moka_records.specs.Records.{record_of_key}
use Rattle.moka_calls.specs.Given.{Sees}
use Rattle.moka_calls.specs.Synchronous.{value_found}
use Rattle.moka_laws.proofs.Alike.{get_alike, listed_run_alike}
use Rattle.moka_cache.proofs.Waiting.{none_of_key}
use Rattle.moka_cache.proofs.Asking.{got, nothing_found, value_copied, value_alone, value_granted, handed_out, seen_shown, unchanged_when_refused}
use Rattle.moka_cache.proofs.Keeping.{value_stays}
use Rattle.moka_cache.proofs.cache.Cache.get_hashed.Goals as goal

pub invariant_of-self : goal.invariant_of-self
invariant_of-self g c =
    let gets = c.get_with_own_hash-entry.ensures.step in
    (get_alike (ListedRun g.P.PredicateFn.says g.X.Expiry.read c.self.inside.engine.write_list c.get_with_own_hash-entry.new.self.write_list) (listed_run_alike g.P.PredicateFn.says g.X.Expiry.read c.self.inside.engine.write_list c.get_with_own_hash-entry.new.self.write_list) g.P.PredicateFn.says g.X.Expiry.read g.K.PartialEq.eq c.self.inside.engine.state c.args.key.now c.args.hash false false c.args.now.0 gets.0 gets.1.0 c.get_with_own_hash-entry.new.self.state gets.1.1).0.outstanding ∙ c.self.invariant

pub returns-clause-made : goal.returns-clause-made
returns-clause-made g c =
    let own = rw (← c.self.view_is) at c.requires.own in
    let gets = c.get_with_own_hash-entry.ensures.step in
    rw (← c.self.view_is, ← own, c.value_of-found.ensures) (value_found gets.0, value_copied g.K.Clone.is_clone g.V.Clone.is_clone gets.0 c.get_with_own_hash-entry.result gets.2, got _ c.args.key.now c.args.hash c.args.now c.self.inside.engine c.get_with_own_hash-entry.new.self c.args.clock.now c.get_with_own_hash-entry.new.clock gets.0 gets.1.0 gets.1.1 gets.1.2 gets.1.3)

pub returns-clause-sees : goal.returns-clause-sees
returns-clause-sees g c =
    let s = c.self.inside.engine.state in
    let gets = c.get_with_own_hash-entry.ensures.step in
    let none_kept = none_of_key g.K.PartialEq.eq c.args.key.now s c.invariant_holds.ensures.valid.numbered in
    rw (← c.self.view_is, c.value_of-found.ensures) (handed_out g.P.PredicateFn.says g.X.Expiry.read (ListedRun g.P.PredicateFn.says g.X.Expiry.read c.self.inside.engine.write_list c.get_with_own_hash-entry.new.self.write_list) g.K.Clone.is_clone g.V.Clone.is_clone s (record_of_key g.K.PartialEq.eq s.records c.args.key.now) none_kept c.args.hash c.args.now.0 gets.0 c.get_with_own_hash-entry.result gets.1.0 c.get_with_own_hash-entry.new.self.state gets.1.1 gets.2
    (Sees g.K.PartialEq.eq g.P.PredicateFn.says g.V.Clone.is_clone s c.args.key.now c.args.now.0) (λ r v there visible cloned. (r, there, visible, cloned)) (λ hidden. hidden))

pub returns-clause-shown : goal.returns-clause-shown
returns-clause-shown g c = seen_shown g.K.PartialEq.eq g.P.PredicateFn.says g.V.Clone.is_clone c.args.self.now.engine.state c.args.key.now c.args.now.0 c.value_of-found.result (returns-clause-sees g c)

pub returns-clause-succeeds : goal.returns-clause-succeeds
returns-clause-succeeds g c = rw (← c.self.view_is, c.value_of-found.ensures) (λ granted.
    value_granted c.get_with_own_hash-entry.result (c.get_with_own_hash-entry.ensures.succeeds (value_alone g.K.Clone.is_infallible g.V.Clone.is_infallible _ granted)))

pub returns-clause-unchanged : goal.returns-clause-unchanged
returns-clause-unchanged g c =
    let s = c.self.inside.engine.state in
    let gets = c.get_with_own_hash-entry.ensures.step in
    let none_kept = none_of_key g.K.PartialEq.eq c.args.key.now s c.invariant_holds.ensures.valid.numbered in
    rw (← c.self.view_is, c.value_of-found.ensures) (unchanged_when_refused g.P.PredicateFn.says g.X.Expiry.read (ListedRun g.P.PredicateFn.says g.X.Expiry.read c.self.inside.engine.write_list c.get_with_own_hash-entry.new.self.write_list) g.K.Clone.is_clone g.V.Clone.is_clone s (record_of_key g.K.PartialEq.eq s.records c.args.key.now) none_kept c.args.hash c.args.now.0 gets.0 c.get_with_own_hash-entry.result gets.1.0 c.get_with_own_hash-entry.new.self.state gets.1.1 gets.2
    g.C.Clock.reads c.args.clock.now c.get_with_own_hash-entry.new.clock gets.1.3)

pub returns-clause-stays : goal.returns-clause-stays
returns-clause-stays g c =
    let gets = c.get_with_own_hash-entry.ensures.step in
    rw (← c.self.view_is) (value_stays g.K.PartialEq.eq g.P.PredicateFn.says g.X.Expiry.read c.self.inside.engine.write_list c.get_with_own_hash-entry.new.self.write_list c.self.inside.engine.state c.get_with_own_hash-entry.new.self.state c.invariant_holds.ensures.valid c.args.key.now c.args.hash c.args.now.0 gets.1.0 g.met.K.Eq.laws gets.0 gets.1.1)

pub returns-clause-disabled : goal.returns-clause-disabled
returns-clause-disabled g c =
    let s = c.self.inside.engine.state in
    let gets = c.get_with_own_hash-entry.ensures.step in
    let none_kept = none_of_key g.K.PartialEq.eq c.args.key.now s c.invariant_holds.ensures.valid.numbered in
    rw (← c.self.view_is, c.value_of-found.ensures) (nothing_found g.P.PredicateFn.says g.X.Expiry.read (ListedRun g.P.PredicateFn.says g.X.Expiry.read c.self.inside.engine.write_list c.get_with_own_hash-entry.new.self.write_list) g.K.Clone.is_clone g.V.Clone.is_clone s (record_of_key g.K.PartialEq.eq s.records c.args.key.now) none_kept c.args.hash c.args.now.0 gets.0 c.get_with_own_hash-entry.result gets.1.0 c.get_with_own_hash-entry.new.self.state gets.1.1 gets.2)
