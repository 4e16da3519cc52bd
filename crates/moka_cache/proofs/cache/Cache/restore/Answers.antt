use Rattle.std.proofs.Common.{◌≡◌, ℕ, false, ◌∙◌, ap, sym, subst, refl, [], ◌∷◌, ◌++◌, append_assoc, append-nil}
use Rattle.std.specs.List.{AllByRecursion}
use Rattle.std.specs.Vec.Iter.{into_iter_items}
use Rattle.std.proofs.lemmas.List.{nil_from_length}
use Rattle.moka_parts.specs.Settling.{IsValid}
use Rattle.moka_records.specs.Hashing.{key_hash}
use Rattle.moka_cache.specs.Saves.{AddsOnly, IsRestored, IsRoomyFor, TakesOnlyExpired, has_expired}
use Rattle.moka_cache.proofs.Alike.{itself, then}
use Rattle.moka_cache.proofs.Lasting.{keeps_itself, keeps_then}
use Rattle.moka_cache.proofs.Restoring.{adds_nothing, adds_then, put_next}
use Rattle.moka_cache.proofs.There.{records_more, all_restored}
use Rattle.moka_cache.proofs.cache.Cache.restore.Goals as goal

pub loop-item-init : goal.loop-item-init
loop-item-init g c = record {
  adds = ([], sym c.into_iter-rest.ensures.rest, adds_nothing [] c.args.self.now.engine.state c.args.self.now.engine.state refl, (refl, refl), keeps_itself g.W.Weigher.weighs [] c.args.now.0 c.args.self.now.engine.state, λ roomy. tt);
  hides = itself c.args.self.now.engine.state;
  counted = refl;
}

pub loop-item-preserved : goal.loop-item-preserved
loop-item-preserved g c =
    let hash_by : g.row.S.Denot → g.row.K.Denot → ℕ = λ h key. key_hash g.S.BuildHasher g.S.Hasher.Hasher h (g.K.Hash.hash_input key) in
    let h = c.loop-item.invariant.adds in
    let s = c.args.self.now.engine.state in
    let t = c.loop-item.self.engine.state in
    let u = c.restore_entry.new.self.engine.state in
    record {
      adds = (
        h.0 ++ c.in-Some.item ∷ [],
        h.1 ∙ (ap (λ xs. h.0 ++ xs) c.in-Some.ensures.items ∙ sym (append_assoc h.0 (c.in-Some.item ∷ []) (into_iter_items c.next.new.self))),
        adds_then h.0 (c.in-Some.item ∷ []) s t u h.2 c.restore_entry.ensures.adds,
        put_next _ hash_by c.args.now h.0 c.in-Some.item c.args.self.now.engine c.loop-item.self.engine c.restore_entry.new.self.engine c.args.clock.now c.loop-item.clock c.restore_entry.new.clock h.3 c.in_default-restore_entry.ensures.made,
        keeps_then g.W.Weigher.weighs h.0 (c.in-Some.item ∷ []) c.args.now.0 s t u h.4 c.restore_entry.ensures.lasts,
        λ roomy.
            let items = into_iter_items c.next.new.self in
            let split = h.1 ∙ ap (λ xs. h.0 ++ xs) c.in-Some.ensures.items in
            let first = h.4 (c.in-Some.item ∷ items) (subst (λ xs. IsRoomyFor g.W.Weigher.weighs xs s) split roomy) in
            records_more g.K.PartialEq.eq g.W.Weigher.weighs c.args.now.0 s t u h.0 c.in-Some.item (c.in-Some.item ∷ items) first.0 first.1 (c.restore_entry.ensures.lasts items first.1).0 (h.5 roomy) c.in_default-restore_entry.ensures.kept,
      );
      hides = then s t u c.loop-item.invariant.hides c.restore_entry.ensures.hides;
      counted = c.restore_entry.ensures.counted ∙ c.loop-item.invariant.counted;
    }

pub returns-in-Err-clause-adds : goal.returns-in-Err-clause-adds
returns-in-Err-clause-adds g c =
    let h = c.loop-item.invariant.adds in
    let s = c.args.self.now.engine.state in
    let t = c.loop-item.self.engine.state in
    let u = c.restore_entry.new.self.engine.state in
    subst (λ items. AddsOnly items s u) (sym h.1) (adds_then h.0 (into_iter_items c.loop-item.rest) s t u h.2 (adds_nothing (into_iter_items c.loop-item.rest) t u c.in-Err.ensures.unchanged.0))

pub returns-clause-adds : goal.returns-clause-adds
returns-clause-adds g c =
    let h = c.loop-item.invariant.adds in
    let all = h.1 ∙ (ap (λ xs. h.0 ++ xs) (nil_from_length (into_iter_items c.loop-item.rest) (sym c.loop-item.rest.rest.ok.0 ∙ c.in_default.ensures.cases.0)) ∙ append-nil h.0) in
    rw all h.2

pub returns-in-Err-clause-made : goal.returns-in-Err-clause-made
returns-in-Err-clause-made g c =
    let h = c.loop-item.invariant.adds in
    (h.0, c.in-Some.item, h.1 ∙ ap (λ xs. h.0 ++ xs) c.in-Some.ensures.items, c.loop-item.self.engine, c.loop-item.clock, h.3, c.in-Err.ensures.made)

pub returns-clause-made : goal.returns-clause-made
returns-clause-made g c =
    let h = c.loop-item.invariant.adds in
    let all = h.1 ∙ (ap (λ xs. h.0 ++ xs) (nil_from_length (into_iter_items c.loop-item.rest) (sym c.loop-item.rest.rest.ok.0 ∙ c.in_default.ensures.cases.0)) ∙ append-nil h.0) in
    rw all h.3

pub returns-in-Err-clause-lasts : goal.returns-in-Err-clause-lasts
returns-in-Err-clause-lasts g c =
    let h = c.loop-item.invariant.adds in
    let s = c.args.self.now.engine.state in
    let t = c.loop-item.self.engine.state in
    let u = c.restore_entry.new.self.engine.state in
    let rest = into_iter_items c.loop-item.rest in
    let still = subst (TakesOnlyExpired g.W.Weigher.weighs rest c.args.now.0 t) (sym c.in-Err.ensures.unchanged.0) (keeps_itself g.W.Weigher.weighs rest c.args.now.0 t) in
    subst (λ items. TakesOnlyExpired g.W.Weigher.weighs items c.args.now.0 s u) (sym h.1) (keeps_then g.W.Weigher.weighs h.0 rest c.args.now.0 s t u h.4 still)

pub returns-clause-lasts : goal.returns-clause-lasts
returns-clause-lasts g c =
    let h = c.loop-item.invariant.adds in
    let all = h.1 ∙ (ap (λ xs. h.0 ++ xs) (nil_from_length (into_iter_items c.loop-item.rest) (sym c.loop-item.rest.rest.ok.0 ∙ c.in_default.ensures.cases.0)) ∙ append-nil h.0) in
    subst (λ items. TakesOnlyExpired g.W.Weigher.weighs items c.args.now.0 c.args.self.now.engine.state c.loop-item.self.engine.state) (sym all) h.4

pub returns-clause-there : goal.returns-clause-there
returns-clause-there g c =
    let h = c.loop-item.invariant.adds in
    let all = h.1 ∙ (ap (λ xs. h.0 ++ xs) (nil_from_length (into_iter_items c.loop-item.rest) (sym c.loop-item.rest.rest.ok.0 ∙ c.in_default.ensures.cases.0)) ∙ append-nil h.0) in
    let valid = subst (λ x. IsValid g.K.PartialEq.eq x.engine.state) c.self.view_is c.invariant_holds.ensures.valid in
    let s = c.args.self.now.engine.state in
    let t = c.loop-item.self.engine.state in
    λ roomy. subst (λ items. AllByRecursion (λ item. has_expired s.settings c.args.now.0 item ≡ false → IsRestored g.K.PartialEq.eq t item) items) (sym all) (all_restored g.K.PartialEq.eq g.W.Weigher.weighs c.args.now.0 s t g.met.K.Eq.laws valid h.0 (h.5 roomy))
