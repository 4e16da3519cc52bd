-- Queued reads that are applied, one part after the other, and their hashes, which are counted apart.
use Rattle.std.proofs.Common.{◌≡◌, List, [], ◌∷◌, ◌++◌, Option, None, inl, inr, refl, sym, ap, ◌∙◌, subst, Contains}
use Rattle.std.proofs.lemmas.List.Elements.{Contains-append_cases, Contains-append_right}
use Rattle.std.proofs.lemmas.List.{append-nil, append_assoc}
use Rattle.moka_parts.specs.Reads.{after_read, after_reads}
use Rattle.moka_parts.specs.State.{Contents}
use Rattle.moka_parts.specs.Frequency.{SketchTable, counted_once}
use Rattle.moka_store.specs.Store.{Kept}
use Rattle.moka_maintenance.specs.declared.queued.Outcome.{Outcome}
use Rattle.moka_maintenance.specs.declared.queued.Outcome.TheVariants as O
use Rattle.moka_maintenance.specs.declared.queued.QueuedRead.{QueuedRead}
use Rattle.moka_maintenance.specs.Queued.{IsReadAt, IsRenewed, counted_all, read_of, reads_of}
use Rattle.moka_maintenance.specs.Admission.{AppliesReads}
use Rattle.moka_maintenance.specs.Steps.{contents_in}
use Rattle.moka_maintenance.specs.Timers.{Serves}
use Rattle.moka_maintenance.proofs.Popped.{first_or_rest, nothing_there}
use Rattle.moka_maintenance.proofs.Timing.{keeps-none, keeps-on}

-- ---- hashes

-- while the sketch is off nothing is counted
pub counted-off : (qs : List QueuedRead) → counted_all None qs ≡ None
counted-off [] = refl
counted-off (q ∷ qs) = counted-off qs

-- reads and then others
pub counted-both : (sketch : Option SketchTable) (xs ys : List QueuedRead) → counted_all sketch (xs ++ ys) ≡ counted_all (counted_all sketch xs) ys
counted-both sketch [] ys = refl
counted-both sketch (x ∷ xs) ys = counted-both (counted_once sketch x.hash) xs ys

module _ {K V : Type 0} where
  -- a read counts its hash, whatever else it does
  read-apart : (c : Contents K V) (q : QueuedRead) → after_read c (read_of q) ≡ record (after_read (record c { sketch = None }) (read_of q)) { sketch = counted_once c.sketch q.hash }
  read-apart c q = by q.outcome
    where
      by : (o : Outcome) → after_read c (read_of (record q { outcome = o })) ≡ record (after_read (record c { sketch = None }) (read_of (record q { outcome = o }))) { sketch = counted_once c.sketch q.hash }
      by O.Hit = refl
      by O.Renewal = refl
      by O.Miss = refl

  -- and is counted nowhere where there is no sketch
  read-uncounted : (c : Contents K V) (q : QueuedRead) → record (after_read c (read_of q)) { sketch = None } ≡ after_read (record c { sketch = None }) (read_of q)
  read-uncounted c q = ap (λ (d : Contents K V). record d { sketch = None }) (read-apart c q) ∙ sym (read-apart (record c { sketch = None }) q)

  -- all reads count their hashes, whatever else they do
  pub reads-apart : (c : Contents K V) (qs : List QueuedRead) → after_reads c (reads_of qs) ≡ record (after_reads (record c { sketch = None }) (reads_of qs)) { sketch = counted_all c.sketch qs }
  reads-apart c [] = refl
  reads-apart c (q ∷ qs) =
      reads-apart (after_read c (read_of q)) qs
      ∙ ap (λ (d : Contents K V). record (after_reads d (reads_of qs)) { sketch = counted_all (after_read c (read_of q)).sketch qs }) (read-uncounted c q)
      ∙ ap (λ sketch. record (after_reads (after_read (record c { sketch = None }) (read_of q)) (reads_of qs)) { sketch = counted_all sketch qs }) (ap (λ (d : Contents K V). d.sketch) (read-apart c q))

-- ---- what reads make of a store

-- reads and then others
reads-both : {K V : Type 0} (c : Contents K V) (xs ys : List QueuedRead) → after_reads c (reads_of (xs ++ ys)) ≡ after_reads (after_reads c (reads_of xs)) (reads_of ys)
reads-both c [] ys = refl
reads-both c (x ∷ xs) ys = reads-both (after_read c (read_of x)) xs ys

module _ {K V S : Type 0} where
  -- no reads
  pub applies-none : (a : Kept K V S) → AppliesReads [] a a
  applies-none a = record {
    applied = refl;
    served = record { rest = refl; renewed = λ n is. absurd (nothing_there is.0 is.1); kept = λ n stands. stands; timers = keeps-none a };
  }

  -- one read
  pub applies-one : (a b : Kept K V S) (q : QueuedRead) → contents_in b ≡ after_read (contents_in a) (read_of q) → Serves (IsRenewed (read_of q)) a b → AppliesReads (q ∷ []) a b
  applies-one a b q applied served = record {
    applied = applied;
    served = record {
      rest = served.rest;
      renewed = λ n is. elim (first_or_rest q is.0 [] is.1) [
        | inl same ↦ served.renewed n (subst (λ (x : QueuedRead). IsRenewed (read_of x) n) (sym same) is.2)
        | inr behind ↦ absurd (nothing_there is.0 behind)
      ];
      kept = served.kept;
      timers = served.timers;
    };
  }

  -- reads and then others
  pub applies-both : (a b c : Kept K V S) (xs ys : List QueuedRead) → AppliesReads xs a b → AppliesReads ys b c → AppliesReads (xs ++ ys) a c
  applies-both a b c xs ys made then = record {
    applied = then.applied ∙ ap (λ (d : Contents K V). after_reads d (reads_of ys)) made.applied ∙ sym (reads-both (contents_in a) xs ys);
    served = record {
      rest = then.served.rest ∙ ap (λ (k : Kept K V S). record k { access = c.access; timers = c.timers }) made.served.rest;
      renewed = λ n is. elim (Contains-append_cases xs ys is.0 is.1) [
        | inl here ↦ then.served.kept n (made.served.renewed n (is.0, here, is.2))
        | inr behind ↦ then.served.renewed n (is.0, behind, is.2)
      ];
      kept = λ n stands. then.served.kept n (made.served.kept n stands);
      timers = keeps-on a b c made.served.timers then.served.timers;
    };
  }

  -- places stay
  pub located-on : (a b : Kept K V S) (xs : List QueuedRead) (q : QueuedRead) → AppliesReads xs a b → IsReadAt a.places q.place (read_of q) → IsReadAt b.places q.place (read_of q)
  located-on a b xs q made at = subst (λ (k : Kept K V S). IsReadAt k.places q.place (read_of q)) (sym made.served.rest) at

  -- of these reads the first were applied, the rest are left
  pub record AreLeft (reads rest : List QueuedRead) (a b : Kept K V S) : Type 0 where
    pub done : List QueuedRead
    pub split : done ++ rest ≡ reads
    pub made : AppliesReads done a b

  pub all-left : (reads : List QueuedRead) (a : Kept K V S) → AreLeft reads reads a a
  all-left reads a = record { done = []; split = refl; made = applies-none a }

  pub fewer-left : (reads rest some behind : List QueuedRead) (a b c : Kept K V S) → AreLeft reads rest a b → some ++ behind ≡ rest → AppliesReads some b c → AreLeft reads behind a c
  fewer-left reads rest some behind a b c left split made = record {
    done = left.done ++ some;
    split = append_assoc left.done some behind ∙ ap (λ l. left.done ++ l) split ∙ left.split;
    made = applies-both a b c left.done some left.made made;
  }

  pub none-left : (reads : List QueuedRead) (a b : Kept K V S) → AreLeft reads [] a b → AppliesReads reads a b
  none-left reads a b left = subst (λ qs. AppliesReads qs a b) (sym (append-nil left.done) ∙ left.split) left.made

  -- what is left is among the reads, so its rows are where they were
  pub left-located : (reads rest : List QueuedRead) (a b : Kept K V S) (q : QueuedRead) → AreLeft reads rest a b → ((x : QueuedRead) → Contains reads x → IsReadAt a.places x.place (read_of x)) → Contains rest q → IsReadAt b.places q.place (read_of q)
  left-located reads rest a b q left located there =
      located-on a b left.done q left.made (located q (subst (λ (qs : List QueuedRead). Contains qs q) left.split (Contains-append_right left.done rest q there)))
