use Rattle.std.proofs.Common.{List, Option, Some, Ok, option_map, Vec, Global, sym, subst}
use Rattle.std.specs.List.{AllZip}
use Rattle.moka_parts.specs.Calls.{KeysStep}
use Rattle.moka_parts.specs.Copies.{IsCopy}
use Rattle.moka_parts.specs.Runs.{Engine}
use Rattle.moka_parts.specs.Settling.{IsValid}
use Rattle.moka_cache.specs.Visible.{ListsVisible, LooksUp}
use Rattle.moka_cache.proofs.Listing.{lists_visible, looks_up_clones}
use Rattle.moka_cache.proofs.cache.Cache.iter.Goals as goal

pub returns-in_ok-look_up_all-in-Some-clause-visible : goal.returns-in_ok-look_up_all-in-Some-clause-visible
returns-in_ok-look_up_all-in-Some-clause-visible g c same =
    let E : Type 0 = Engine g.row.K.Denot g.row.V.Denot g.row.S.Denot g.row.X.Denot g.row.L.Denot g.row.P.Denot g.row.W.Denot in
    let s = c.args.self.now.engine.state in
    let entries = c.in_ok-look_up_all-in-Some.field-0.items in
    let told = subst (λ (o : Option (Vec g.row.K.Denot Global)). (own : Option (List g.row.K.Denot)) × KeysStep c.engine-2.result.now.state 0 (Ok own) × IsCopy (AllZip g.K.Clone.is_clone) own (option_map (λ v. v.items) o)) c.in-Some.is c.in_ok-keys.ensures.ok in
    let keys = subst (λ (e : E). (own : Option (List g.row.K.Denot)) × KeysStep e.state 0 (Ok own) × IsCopy (AllZip g.K.Clone.is_clone) own (Some c.in-Some.keys.items)) c.engine-2.ensures told in
    let looks = subst (λ (e : E). LooksUp g.P.PredicateFn.says g.V.Clone.is_clone e.state c.args.now.0 g.K.PartialEq.eq c.in-Some.keys.items entries) c.engine-in-Some.ensures c.in_ok-look_up_all-in-Some.ensures in
    let valid = subst (λ (e : E). IsValid g.K.PartialEq.eq e.state) c.engine.ensures c.invariant_holds.ensures.valid in
    let clones = looks_up_clones g.P.PredicateFn.says g.V.Clone.is_clone s c.args.now.0 g.K.PartialEq.eq g.K.Clone.is_clone c.in-Some.keys.items entries keys looks in
    let listed = lists_visible g.P.PredicateFn.says g.V.Clone.is_clone s c.args.now.0 g.K.PartialEq.eq g.K.Clone.is_clone g.met.K.Eq.laws valid same entries clones in
    subst (ListsVisible g.P.PredicateFn.says g.V.Clone.is_clone s c.args.now.0 g.K.Clone.is_clone) (sym c.into_iter.ensures.rest) listed
