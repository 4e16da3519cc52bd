use Rattle.std.proofs.Common.{List, sym, subst, []}
use Rattle.moka_engine.specs.Snapshot.{Scene}
use Rattle.moka_engine.specs.parts.Restored.{Restored}
use Rattle.moka_cache.proofs.Saving.{SavesTo, saves_first, saves_one, saves_all}
use Rattle.moka_cache.proofs.cache.saves.clones_of.Goals as goal

pub loop-entry-init : goal.loop-entry-init
loop-entry-init g c =
    let saves : Scene g.row.K.Denot g.row.V.Denot g.row.X.Denot g.row.P.Denot → List (Restored g.row.K.Denot g.row.V.Denot) → Type 0 = SavesTo g.P.PredicateFn.says g.K.Clone.is_clone g.V.Clone.is_clone c.args.snapshot in
    record {
      can = tt;
      finite = tt;
      saved = subst (saves c.into_iter-entry-iterator.result) (sym c.new-items.ensures.items) (subst (λ d. saves d []) (sym c.into_iter-entry-iterator.ensures.into_iter_gives) (saves_first g.P.PredicateFn.says g.K.Clone.is_clone g.V.Clone.is_clone c.args.snapshot));
    }

pub loop-entry-preserved : goal.loop-entry-preserved
loop-entry-preserved g c =
    let saves : Scene g.row.K.Denot g.row.V.Denot g.row.X.Denot g.row.P.Denot → List (Restored g.row.K.Denot g.row.V.Denot) → Type 0 = SavesTo g.P.PredicateFn.says g.K.Clone.is_clone g.V.Clone.is_clone c.args.snapshot in
    record {
      can = tt;
      finite = tt;
      saved = subst (saves c.next.new.self) (sym c.in-Ok.ensures.items) (saves_one g.P.PredicateFn.says g.K.Clone.is_clone g.V.Clone.is_clone c.args.snapshot c.loop-entry.entry-iterator c.next.new.self c.loop-entry.items.items _ c.in_ok-item.item c.loop-entry.invariant.saved c.in-Some.ensures.steps c.in_ok-item.ensures);
    }

pub returns : goal.returns
returns g c =
    saves_all g.P.PredicateFn.says g.K.Clone.is_clone g.V.Clone.is_clone c.args.snapshot c.loop-entry.entry-iterator c.next.new.self c.loop-entry.items.items c.loop-entry.invariant.saved c.in-None.ensures.steps
