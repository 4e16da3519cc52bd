-- What always holds of a cache after a caller's removal.
use Rattle.std.proofs.Common.{◌≡◌, refl, ℕ, ◌+◌, Bool, Option, Some, ap, sym, subst, ◌∙◌}
use Rattle.std.specs.Cmp.{IsEquivalence}
use Rattle.std.specs.FinMap.{get, remove}
use Rattle.moka_records.specs.declared.records.Operation.TheVariants.{Removal}
use Rattle.moka_records.specs.declared.records.Record.{Record}
use Rattle.moka_parts.specs.Calls.{handing_out}
use Rattle.moka_parts.specs.State.{State}
use Rattle.moka_laws.proofs.CallsKeep.{removal_valid}
use Rattle.moka_inner.specs.Interior.{Interior, handing_out_inside}
use Rattle.moka_engine.specs.BaseCache.{IsStocked, IsEngine}
use Rattle.moka_engine.proofs.EngineSteps.{with_inner, unexpiring-removed, cache-inner, number-inside, own-inside}
use Rattle.moka_engine.proofs.Stocked.{stocked-removed}

-- the record at this number was taken out
pub whole-removed : {K V X L P W S : Type 0} {eq : K → K → Bool} {read : X → K → V → ℕ → Option ℕ → ℕ → Option ℕ} {l : Option L} {s : State K V X P W} (laws : IsEquivalence eq) (i j : Interior K V S) → IsEngine eq read l i.kept s → with_inner s i ≡ s → (n : ℕ) (r : Record K V) → get i.kept.records n ≡ Some r
    → j ≡ handing_out_inside i (remove i.kept.records n) (Removal n (r.generation + 1)) j → IsEngine eq read l j.kept (with_inner s j)
whole-removed {K} {V} {X} {L} {P} {W} {S} {eq} {read} {l} {s} laws i j h inside n r there step =
    let number = (number-inside h.cache i inside n r there).0 in
    let own = own-inside h.cache i inside laws n r there in
    let here : with_inner s (handing_out_inside i (remove i.kept.records n) (Removal n (r.generation + 1)) j) ≡ handing_out (record (with_inner s i) { records = remove (with_inner s i).records r.number }) (Removal r.number (r.generation + 1)) = rw number refl in
    let removed = ap (with_inner s) step ∙ here ∙ ap (λ (t : State K V X P W). handing_out (record t { records = remove t.records r.number }) (Removal r.number (r.generation + 1))) inside in
    record {
      cache = cache-inner h.cache l refl j removed (removal_valid eq s r.key r own h.cache.valid) (λ none. unexpiring-removed s.records (h.cache.served.unexpiring none) r.number);
      store = subst (λ (x : Interior K V S). IsStocked read s.settings x.kept) (sym step) (stocked-removed h.store n j.kept.places j.kept.room);
    }
