use Rattle.std.proofs.Common.{◌≡◌, ◌≤◌, ap, ◌∙◌, sym, subst, arith, Option, is_some, option_map}
use Rattle.std.specs.Prelude.{option_to_list}
use Rattle.std.specs.FinMap as finite
use Rattle.moka_records.specs.declared.records.Record.{Record}
use Rattle.moka_parts.specs.Notices.{when_listening}
use Rattle.moka_parts.specs.Surroundings.{Heard}
use Rattle.moka_store.specs.Store.{Kept}
use Rattle.moka_maintenance.specs.Expel.{without_record}
use Rattle.moka_maintenance.specs.Steps.{stock_in}
use Rattle.moka_maintenance.specs.Upkeep.{SetsNoTimer}
use Rattle.moka_maintenance.proofs.Upkeep.{untimed-gone}
use Rattle.moka_maintenance.proofs.expel.expel.Goals as goal

pub returns : goal.returns
returns g c =
    let n = c.args.handle.number in
    let new = c.forget.new.self in
    let whole : new ≡ without_record n new.room c.args.store.now = c.forget.ensures.step ∙ ap (λ (k : Kept g.row.K.Denot g.row.V.Denot g.row.S.Denot). record k { places = finite.remove k.places n; room = new.room }) c.take_out-key.ensures.step in
    let more : c.args.store.now.room ≤ new.room = (let before = c.take_out-key.ensures.room in let after = c.forget.ensures.room in omega arith) in
    record {
      step = ap (λ (k : Kept g.row.K.Denot g.row.V.Denot g.row.S.Denot). stock_in k) whole;
      told = subst (λ (o : Option (Record g.row.K.Denot g.row.V.Denot)). Heard g.L.Listener.tells c.args.notifier.now (when_listening (is_some c.args.notifier.now) (option_to_list (option_map (λ (r : Record g.row.K.Denot g.row.V.Denot). (r.key, r.value, c.args.cause)) o))) c.notify.new.self) (sym c.take_out-key.ensures.taken) c.notify.ensures;
      whole = whole;
      upkeep = subst (λ (k : Kept g.row.K.Denot g.row.V.Denot g.row.S.Denot). SetsNoTimer c.args.store.now k) (sym whole) (untimed-gone c.args.store.now n new.room more);
    }

pub forget-requires-clause-placed : goal.forget-requires-clause-placed
forget-requires-clause-placed g c = ap (λ places. finite.get places c.args.handle.number) c.take_out-key.ensures.places ∙ c.requires.placed
