use Rattle.std.proofs.Common.{IsSome, sym, ap, subst, ◌∙◌}
use Rattle.std.specs.FinMap as finite
use Rattle.moka_store.specs.Store.{Kept}
use Rattle.moka_maintenance.proofs.Upkeep.{upkeep-on}
use Rattle.moka_maintenance.proofs.Fates.{still_apart, upkeep-chosen, compared-preferred, compared-refused}
use Rattle.moka_maintenance.proofs.admission.compare.Goals as goal

pub enter-requires : goal.enter-requires
enter-requires g c =
    let n = c.args.candidate.handle.number in
    let rest = c.choose-chosen.ensures.rest in
    let others = c.expel_front.ensures.others n (still_apart c.args.sketch.now c.args.store.now c.choose-chosen.new.store n c.args.candidate.generation c.args.candidate.weight c.args.candidate.hash c.choose-chosen.result.victims c.choose-chosen.ensures.chosen rest c.requires.apart) in
    record {
      outside = record {
        handle = record {
          placed = others.2 ∙ ap (λ (k : Kept g.row.K.Denot g.row.V.Denot g.row.S.Denot). finite.get k.places n) rest ∙ c.requires.handle.placed;
          stored = subst IsSome (sym (others.1 ∙ ap (λ (k : Kept g.row.K.Denot g.row.V.Denot g.row.S.Denot). finite.get k.records n) rest)) c.requires.handle.stored;
        };
        apart = others.0;
      };
    }

pub reject-requires : goal.reject-requires
reject-requires g c =
    let n = c.args.candidate.handle.number in
    let rest = c.choose-chosen.ensures.rest in
    record {
      outside = record {
        handle = record {
          placed = ap (λ (k : Kept g.row.K.Denot g.row.V.Denot g.row.S.Denot). finite.get k.places n) rest ∙ c.requires.handle.placed;
          stored = subst IsSome (sym (ap (λ (k : Kept g.row.K.Denot g.row.V.Denot g.row.S.Denot). finite.get k.records n) rest)) c.requires.handle.stored;
        };
        apart = still_apart c.args.sketch.now c.args.store.now c.choose-chosen.new.store n c.args.candidate.generation c.args.candidate.weight c.args.candidate.hash c.choose-chosen.result.victims c.choose-chosen.ensures.chosen rest c.requires.apart;
      };
    }

pub returns-then-chosen-clause-compared : goal.returns-then-chosen-clause-compared
returns-then-chosen-clause-compared g c = λ r found.
    let n = c.args.candidate.handle.number in
    let rest = c.choose-chosen.ensures.rest in
    let others = c.expel_front.ensures.others n (still_apart c.args.sketch.now c.args.store.now c.choose-chosen.new.store n c.args.candidate.generation c.args.candidate.weight c.args.candidate.hash c.choose-chosen.result.victims c.choose-chosen.ensures.chosen rest c.requires.apart) in
    compared-preferred c.args.sketch.now c.args.store.now c.choose-chosen.new.store n c.args.candidate.generation c.args.candidate.weight c.args.candidate.hash c.choose-chosen.result.victims c.choose-chosen.ensures.chosen rest
    g.L.Listener.tells r c.enter.new.store c.args.notifier.now c.expel_front.new.notifier c.expel_front.new.store c.if-chosen.true c.expel_front.ensures.step
    (c.enter.ensures.step r (others.1 ∙ ap (λ (k : Kept g.row.K.Denot g.row.V.Denot g.row.S.Denot). finite.get k.records n) rest ∙ found))
    c.expel_front.ensures.upkeep.keeps.timers.ordered c.expel_front.ensures.written c.enter.ensures.written c.expel_front.ensures.told

pub returns-else-chosen-clause-compared : goal.returns-else-chosen-clause-compared
returns-else-chosen-clause-compared g c = λ r found.
    let n = c.args.candidate.handle.number in
    let rest = c.choose-chosen.ensures.rest in
    let there = ap (λ (k : Kept g.row.K.Denot g.row.V.Denot g.row.S.Denot). finite.get k.records n) rest ∙ found in
    compared-refused c.args.sketch.now c.args.store.now c.choose-chosen.new.store n c.args.candidate.generation c.args.candidate.weight c.args.candidate.hash c.choose-chosen.result.victims c.choose-chosen.ensures.chosen rest
    g.L.Listener.tells r c.reject.new.store c.args.notifier.now c.reject.new.notifier c.if-chosen.false (c.reject.ensures.step r there) c.reject.ensures.written (c.reject.ensures.told r there)

pub returns-then-chosen-clause-upkeep : goal.returns-then-chosen-clause-upkeep
returns-then-chosen-clause-upkeep g c =
    upkeep-on c.args.store.now c.expel_front.new.store c.enter.new.store
    (upkeep-on c.args.store.now c.choose-chosen.new.store c.expel_front.new.store (upkeep-chosen c.args.sketch.now c.args.store.now c.choose-chosen.new.store c.args.candidate.weight c.args.candidate.hash c.choose-chosen.result.victims c.choose-chosen.ensures.chosen c.choose-chosen.ensures.rest) c.expel_front.ensures.upkeep.keeps)
    c.enter.ensures.upkeep

pub returns-else-chosen-clause-upkeep : goal.returns-else-chosen-clause-upkeep
returns-else-chosen-clause-upkeep g c = upkeep-on c.args.store.now c.choose-chosen.new.store c.reject.new.store (upkeep-chosen c.args.sketch.now c.args.store.now c.choose-chosen.new.store c.args.candidate.weight c.args.candidate.hash c.choose-chosen.result.victims c.choose-chosen.ensures.chosen c.choose-chosen.ensures.rest) c.reject.ensures.upkeep
