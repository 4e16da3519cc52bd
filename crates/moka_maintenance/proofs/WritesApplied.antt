-- Queued operations that are applied, one part after the other.
use Rattle.std.proofs.Common.{◌≡◌, ℕ, Bool, true, List, [], ◌∷◌, ◌++◌, Option, inl, inr, refl, sym, ap, ◌∙◌, subst, append_assoc, append-nil}
use Rattle.std.proofs.lemmas.List.{map-append}
use Rattle.std.proofs.lemmas.List.Elements.{Contains-append_cases}
use Rattle.moka_parts.specs.declared.notification.RemovalCause.{RemovalCause}
use Rattle.moka_types.specs.declared.policy.EvictionPolicy.{EvictionPolicy}
use Rattle.moka_records.specs.declared.records.Operation.{Operation}
use Rattle.moka_records.specs.declared.records.Operation.TheVariants.{Removal}
use Rattle.moka_records.specs.declared.records.Ticketed.{Ticketed}
use Rattle.moka_parts.specs.Order.{written_after_write, written_after_writes}
use Rattle.moka_parts.specs.State.{Contents}
use Rattle.moka_parts.specs.Writes.{after_write, after_writes, left_by_write, left_by_writes, AreAllMoves}
use Rattle.moka_parts.specs.Frequency.{SketchTable}
use Rattle.moka_store.specs.Store.{Kept}
use Rattle.moka_maintenance.specs.declared.bounds.Bounds.{Bounds}
use Rattle.moka_maintenance.specs.declared.queued.QueuedWrite.{QueuedWrite}
use Rattle.moka_maintenance.specs.Queued.{handed_of, writes_of}
use Rattle.moka_maintenance.specs.Admission.{AppliesWrite, AppliesWrites, AreApplied, IsApplied}
use Rattle.moka_maintenance.specs.Steps.{Told, contents_with}
use Rattle.moka_maintenance.proofs.Popped.{first_or_rest, nothing_there}
use Rattle.moka_maintenance.proofs.Told.{told-none, told-on}
use Rattle.moka_maintenance.proofs.Upkeep.{upkeep-none, upkeep-on}

module _ {K V : Type 0} (capacity : Option ℕ) (policy : EvictionPolicy) where
  -- what operations and then others come to, each with its moves
  record Joined (c : Contents K V) (xs ys : List Ticketed) (ms ns : List (List ℕ)) : Type 0 where
    may : AreAllMoves capacity policy c (xs ++ ys) (ms ++ ns)
    led : after_writes capacity policy c (xs ++ ys) (ms ++ ns) ≡ after_writes capacity policy (after_writes capacity policy c xs ms) ys ns
    left : left_by_writes capacity policy c (xs ++ ys) (ms ++ ns) ≡ left_by_writes capacity policy c xs ms ++ left_by_writes capacity policy (after_writes capacity policy c xs ms) ys ns
    listed : (qs : List ℕ) → written_after_writes true capacity policy c qs (xs ++ ys) (ms ++ ns) ≡ written_after_writes true capacity policy (after_writes capacity policy c xs ms) (written_after_writes true capacity policy c qs xs ms) ys ns

  joined : (c : Contents K V) (xs ys : List Ticketed) (ms ns : List (List ℕ)) → AreAllMoves capacity policy c xs ms → AreAllMoves capacity policy (after_writes capacity policy c xs ms) ys ns → Joined c xs ys ms ns
  joined c [] ys [] ns may then = record { may = then; led = refl; left = refl; listed = λ qs. refl }
  joined c [] ys (m ∷ ms) ns may then = absurd may
  joined c (x ∷ xs) ys [] ns may then = absurd may
  joined c (x ∷ xs) ys (m ∷ ms) ns may then =
      let gone = left_by_write capacity policy c x.operation in
      let next = after_write capacity policy c x.operation m in
      let later = joined next xs ys ms ns may.1 then in
      record {
        may = (may.0, later.may);
        led = later.led;
        left = ap (λ l. gone ++ l) later.left ∙ sym (append_assoc gone (left_by_writes capacity policy next xs ms) (left_by_writes capacity policy (after_writes capacity policy next xs ms) ys ns));
        listed = λ qs. later.listed (written_after_write true capacity policy c qs x.operation);
      }

module _ {K V L : Type 0} (tells : L → K → V → RemovalCause → L → Type 0) (capacity : Option ℕ) (policy : EvictionPolicy) (ordered : Bool) where
  applied-none : (c : Contents K V) (ns : List ℕ) (l : Option L) → AreApplied tells capacity policy ordered c c ns ns [] l l
  applied-none c ns l = record { moves = []; may = tt; led = refl; listed = λ kept. refl; told = told-none tells l }

  applied-one : (a b : Contents K V) (ns ms : List ℕ) (o : Operation) (ticket : ℕ) (l m : Option L) → IsApplied tells capacity policy ordered a b ns ms o l m → AreApplied tells capacity policy ordered a b ns ms (record { ticket = ticket; operation = o } ∷ []) l m
  applied-one a b ns ms o ticket l m h = record {
    moves = h.moved ∷ [];
    may = (h.may, tt);
    led = h.led;
    listed = h.listed;
    told = subst (λ xs. Told tells l xs m) (sym (append-nil (left_by_write capacity policy a o))) h.told;
  }

  applied-on : (a b c : Contents K V) (ns ms ks : List ℕ) (xs ys : List Ticketed) (l m k : Option L) → AreApplied tells capacity policy ordered a b ns ms xs l m → AreApplied tells capacity policy ordered b c ms ks ys m k → AreApplied tells capacity policy ordered a c ns ks (xs ++ ys) l k
  applied-on a b c ns ms ks xs ys l m k h j =
      let all = joined capacity policy a xs ys h.moves j.moves h.may (subst (λ x. AreAllMoves capacity policy x ys j.moves) h.led j.may) in
      record {
        moves = h.moves ++ j.moves;
        may = all.may;
        led = j.led ∙ ap (λ x. after_writes capacity policy x ys j.moves) h.led ∙ sym all.led;
        listed = λ kept.
            j.listed kept ∙ ap (λ x. written_after_writes true capacity policy x ms ys j.moves) h.led
            ∙ ap (λ x. written_after_writes true capacity policy (after_writes capacity policy a xs h.moves) x ys j.moves) (h.listed kept) ∙ sym (all.listed ns);
        told =
            subst (λ ls. Told tells l ls k) (ap (λ x. left_by_writes capacity policy a xs h.moves ++ left_by_writes capacity policy x ys j.moves) h.led ∙ sym all.left)
            (told-on tells l m k (left_by_writes capacity policy a xs h.moves) (left_by_writes capacity policy b ys j.moves) h.told j.told);
      }

-- ---- what operations make of a store

module _ {K V S L : Type 0} (tells : L → K → V → RemovalCause → L → Type 0) (bounds : Bounds) (sketch : Option SketchTable) where
  -- no operation
  pub writes-none : (k : Kept K V S) (l : Option L) → AppliesWrites tells bounds sketch k k [] l l
  writes-none k l = record {
    applied = applied-none tells bounds.capacity bounds.policy k.ordered (contents_with sketch k) k.written l;
    upkeep = upkeep-none k;
    rows = λ n p at gone. (gone, λ t g there. nothing_there _ there);
  }

  -- one operation
  pub writes-one : (a b : Kept K V S) (q : QueuedWrite) (l m : Option L) → AppliesWrite tells bounds sketch a b q.write.operation l m → AppliesWrites tells bounds sketch a b (writes_of (q ∷ [])) l m
  writes-one a b q l m h = record {
    applied = applied-one tells bounds.capacity bounds.policy a.ordered (contents_with sketch a) (contents_with sketch b) a.written b.written q.write.operation q.ticket l m h.applied;
    upkeep = h.upkeep;
    rows = λ n p at gone.
        (let before = h.rows n p at gone in (
          before.0,
          λ t g there. elim (first_or_rest (handed_of q) (record { ticket = t; operation = Removal n g }) [] there) [
            | inl same ↦ before.1 g (ap (λ (x : Ticketed). x.operation) same)
            | inr behind ↦ nothing_there _ behind
          ],
        ));
  }

  -- operations and then others
  pub writes-on : (a b c : Kept K V S) (xs ys : List QueuedWrite) (l m k : Option L) → AppliesWrites tells bounds sketch a b (writes_of xs) l m → AppliesWrites tells bounds sketch b c (writes_of ys) m k → AppliesWrites tells bounds sketch a c (writes_of (xs ++ ys)) l k
  writes-on a b c xs ys l m k h j =
      let then = subst (λ o. AreApplied tells bounds.capacity bounds.policy o (contents_with sketch b) (contents_with sketch c) b.written c.written (writes_of ys) m k) h.upkeep.timers.ordered j.applied in
      subst (λ os. AppliesWrites tells bounds sketch a c os l k) (sym (map-append handed_of xs ys))
      record {
        applied = applied-on tells bounds.capacity bounds.policy a.ordered (contents_with sketch a) (contents_with sketch b) (contents_with sketch c) a.written b.written c.written (writes_of xs) (writes_of ys) l m k h.applied then;
        upkeep = upkeep-on a b c h.upkeep j.upkeep;
        rows = λ n p at gone.
            (let later = j.rows n p at gone in
            let before = h.rows n p (j.upkeep.places n p at) later.0 in (
              before.0,
              λ t g there. elim (Contains-append_cases (writes_of xs) (writes_of ys) _ there) [
                | inl here ↦ before.1 t g here
                | inr behind ↦ later.1 t g behind
              ],
            ));
      }
