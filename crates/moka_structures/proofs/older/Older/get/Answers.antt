use Rattle.std.proofs.Common.{sym, ap, ◌∙◌, option_map}
use Rattle.moka_structures.proofs.Kept.{get-table, get-kept, kept_at}
use Rattle.moka_structures.proofs.older.Older.get.Goals as goal

pub returns-in-Some : goal.returns-in-Some
returns-in-Some g c = rw (← c.self.view_is) (sym (get-table c.self.inside.kept.items c.self.inside.table.items c.self.invariant c.args.ticket c.in-Some.item (sym c.in-Some.ensures)))

pub returns-in-None : goal.returns-in-None
returns-in-None g c = rw (← c.self.view_is) (c.find_kept.ensures ∙ ap (λ ks. option_map (λ k. k.item) (kept_at ks c.args.ticket)) c.as_slice.ensures.value
    ∙ sym (get-kept c.self.inside.kept.items c.self.inside.table.items c.self.invariant c.args.ticket (sym c.in-None.ensures)))
