use Rattle.std.proofs.Common.{◌≡◌, ◌∙◌, ap, sym, subst, true, false, is_some, Some}
use Rattle.std.specs.Prelude.{IfOk, IfSome}
use Rattle.moka_records.specs.declared.records.Record.{Record}
use Rattle.moka_parts.specs.KeyTests.{ContainsByStep}
use Rattle.moka_records.specs.KeyTests.{record_by}
use Rattle.moka_parts.specs.Visibility.{IsShown}
use Rattle.moka_parts.specs.Listed.{ListedRun}
use Rattle.moka_records.specs.Records.{record_of_key}
use Rattle.moka_calls.specs.Given.{Sees}
use Rattle.moka_calls.specs.Synchronous.{value_found}
use Rattle.moka_laws.proofs.Alike.{gets_alike, listed_run_alike}
use Rattle.moka_cache.proofs.Waiting.{none_of_key}
use Rattle.moka_cache.proofs.Asking.{got, value_copied, value_alone, value_granted, handed_out, seen_found, unchanged_when_refused}
use Rattle.moka_cache.proofs.ByTest.{got_as_key, got_none, none_passes}
use Rattle.moka_cache.proofs.cache.Cache.get_by.Goals as goal

pub invariant_of-self : goal.invariant_of-self
invariant_of-self g c =
    let gets = c.get_by-entry.ensures.step in
    let s = c.self.inside.engine.state in
    (gets_alike (ListedRun g.P.PredicateFn.says g.X.Expiry.read c.self.inside.engine.write_list c.get_by-entry.new.self.write_list) (listed_run_alike g.P.PredicateFn.says g.X.Expiry.read c.self.inside.engine.write_list c.get_by-entry.new.self.write_list) g.P.PredicateFn.says g.X.Expiry.read s (record_by (g.T.KeyTest.passes c.args.test.now) s.records) c.args.hash false false c.args.now.0 gets.0 gets.1.0 c.get_by-entry.new.self.state gets.1.1).0.outstanding ∙ c.self.invariant

pub returns-clause-step : goal.returns-clause-step
returns-clause-step g c =
    let s = c.self.inside.engine.state in
    let gets = c.get_by-entry.ensures.step in
    let as_key = got_as_key g.K.PartialEq.eq (g.T.KeyTest.passes c.args.test.now) (g.met.T.KeyTest.one_key c.args.test.now) s g.P.PredicateFn.says g.X.Expiry.read (ListedRun g.P.PredicateFn.says g.X.Expiry.read c.self.inside.engine.write_list c.get_by-entry.new.self.write_list) c.args.hash c.args.now.0 gets.0 gets.1.0 c.get_by-entry.new.self.state gets.1.1 in
    let as_none = got_none g.K.PartialEq.eq (g.T.KeyTest.passes c.args.test.now) (g.met.T.KeyTest.one_key c.args.test.now) s g.P.PredicateFn.says g.X.Expiry.read (ListedRun g.P.PredicateFn.says g.X.Expiry.read c.self.inside.engine.write_list c.get_by-entry.new.self.write_list) c.args.hash c.args.now.0 gets.0 gets.1.0 c.get_by-entry.new.self.state gets.1.1 in
    let none_kept = none_passes g.K.PartialEq.eq (g.T.KeyTest.passes c.args.test.now) s c.invariant_holds.ensures.valid.numbered in
    let sees : (key : g.row.K.Denot) → g.T.KeyTest.passes c.args.test.now key ≡ true → IfOk (value_found c.get_by-entry.result) (Sees g.K.PartialEq.eq g.P.PredicateFn.says g.V.Clone.is_clone s key c.args.now.0) =
    λ key passing. handed_out g.P.PredicateFn.says g.X.Expiry.read (ListedRun g.P.PredicateFn.says g.X.Expiry.read c.self.inside.engine.write_list c.get_by-entry.new.self.write_list) g.K.Clone.is_clone g.V.Clone.is_clone s (record_of_key g.K.PartialEq.eq s.records key) (none_of_key g.K.PartialEq.eq key s c.invariant_holds.ensures.valid.numbered) c.args.hash c.args.now.0 gets.0 c.get_by-entry.result gets.1.0 c.get_by-entry.new.self.state (as_key key passing) gets.2
    (Sees g.K.PartialEq.eq g.P.PredicateFn.says g.V.Clone.is_clone s key c.args.now.0) (λ r v there visible cloned. (r, there, visible, cloned)) (λ hidden. hidden) in
    rw (← c.self.view_is, c.value_of-found.ensures) (record {
      made = λ key passing. (value_found gets.0, value_copied g.K.Clone.is_clone g.V.Clone.is_clone gets.0 c.get_by-entry.result gets.2, got _ key c.args.hash c.args.now c.self.inside.engine c.get_by-entry.new.self c.args.clock.now c.get_by-entry.new.clock gets.0 gets.1.0 (as_key key passing) gets.1.2 gets.1.3);
      missed = λ none key absent. (value_found gets.0, value_copied g.K.Clone.is_clone g.V.Clone.is_clone gets.0 c.get_by-entry.result gets.2, got _ key c.args.hash c.args.now c.self.inside.engine c.get_by-entry.new.self c.args.clock.now c.get_by-entry.new.clock gets.0 gets.1.0 (as_none key none absent) gets.1.2 gets.1.3);
      value = handed_out g.P.PredicateFn.says g.X.Expiry.read (ListedRun g.P.PredicateFn.says g.X.Expiry.read c.self.inside.engine.write_list c.get_by-entry.new.self.write_list) g.K.Clone.is_clone g.V.Clone.is_clone s (record_by (g.T.KeyTest.passes c.args.test.now) s.records) none_kept c.args.hash c.args.now.0 gets.0 c.get_by-entry.result gets.1.0 c.get_by-entry.new.self.state gets.1.1 gets.2
          (λ x. IfSome x (λ v. (r : Record g.row.K.Denot g.row.V.Denot) × (record_by (g.T.KeyTest.passes c.args.test.now) s.records ≡ Some r) × g.V.Clone.is_clone r.value v)) (λ r v there visible cloned. (r, there, cloned)) (λ hidden. tt);
      sees = sees;
      shown = handed_out g.P.PredicateFn.says g.X.Expiry.read (ListedRun g.P.PredicateFn.says g.X.Expiry.read c.self.inside.engine.write_list c.get_by-entry.new.self.write_list) g.K.Clone.is_clone g.V.Clone.is_clone s (record_by (g.T.KeyTest.passes c.args.test.now) s.records) none_kept c.args.hash c.args.now.0 gets.0 c.get_by-entry.result gets.1.0 c.get_by-entry.new.self.state gets.1.1 gets.2
          (λ x. ContainsByStep g.P.PredicateFn.says (g.T.KeyTest.passes c.args.test.now) s c.args.now.0 (is_some x)) (λ r v there visible cloned. subst (λ o. IsShown g.P.PredicateFn.says s o c.args.now.0 true) (sym there) visible) (λ hidden. hidden);
      found = λ key passing. seen_found g.K.PartialEq.eq g.P.PredicateFn.says g.V.Clone.is_clone s key c.args.now.0 (value_found c.get_by-entry.result) (sees key passing);
      unchanged = unchanged_when_refused g.P.PredicateFn.says g.X.Expiry.read (ListedRun g.P.PredicateFn.says g.X.Expiry.read c.self.inside.engine.write_list c.get_by-entry.new.self.write_list) g.K.Clone.is_clone g.V.Clone.is_clone s (record_by (g.T.KeyTest.passes c.args.test.now) s.records) none_kept c.args.hash c.args.now.0 gets.0 c.get_by-entry.result gets.1.0 c.get_by-entry.new.self.state gets.1.1 gets.2
          g.C.Clock.reads c.args.clock.now c.get_by-entry.new.clock gets.1.3;
      hasher = ap (λ x. x.hasher) gets.1.2.kept;
      counted = rw (c.value_of-found.ensures) at c.count_look_up.ensures;
    })

pub returns-clause-succeeds : goal.returns-clause-succeeds
returns-clause-succeeds g c = rw (← c.self.view_is, c.value_of-found.ensures) (λ granted.
    value_granted c.get_by-entry.result (c.get_by-entry.ensures.succeeds (value_alone g.K.Clone.is_infallible g.V.Clone.is_infallible _ granted)))
