use Rattle.std.specs.FinMap as finite
use Rattle.std.proofs.Common.{None, sym, ap, ◌∙◌}
use Rattle.moka_table.proofs.TableMaps.{altered-same}
use Rattle.moka_store.proofs.Timed.{none-timed}
use Rattle.moka_store.specs.Store.{Kept}
use Rattle.moka_store.proofs.store.Store.clear_timer.Goals as goal

pub returns-else-are_kept : goal.returns-else-are_kept
returns-else-are_kept g c =
    let untimed = ap (λ (k : Kept _ _ _). finite.get k.timers c.args.handle.number) (sym c.self.view_is) ∙ none-timed c.self.inside.table.rows c.self.inside.timers.timers (c.are_kept.ensures.none c.if-are_kept.false) c.args.handle.number in
    ap (λ timers. record c.args.self.now { timers = timers }) (sym (altered-same c.args.self.now.timers c.args.handle.number None untimed))
