-- How the facts of the inner part follow each kind of change.
use Rattle.std.proofs.Common.{◌≡◌, ℕ, ◌+◌, ◌<◌, ◌≤◌, ◌^◌, List, [], ◌∷◌, ◌++◌, length, Some, None, option_map, ◌⊎◌, inl, inr, Result, Ok, Err, IsOk, OnOk, IfErr, refl, sym, ap, subst, ◌∙◌, arith, Option}
use Rattle.std.specs.Prelude.{Contains}
use Rattle.std.proofs.lemmas.List.{length-append, map-append}
use Rattle.std.proofs.lemmas.List.Elements.{Contains-push_cases}
use Rattle.std.proofs.lemmas.Bool.{cases_eq}
use Rattle.std.specs.FinMap.{FinMap, get, insert, remove, len, empty, get-empty, len-empty}
use Rattle.std.specs.Ordering.{nat_cmp}
use Rattle.circular_buffer.specs.Buffer.{Buffer, buffer}
use Rattle.moka_records.specs.declared.records.Operation.{Operation}
use Rattle.moka_records.specs.declared.records.Operation.TheVariants.{Removal}
use Rattle.moka_records.specs.declared.records.Record.{Record}
use Rattle.moka_records.specs.declared.records.ReadOperation.{ReadOperation}
use Rattle.moka_records.specs.declared.records.ReadOperation.TheVariants.{Hit, Miss}
use Rattle.moka_records.specs.declared.records.Ticketed.{Ticketed}
use Rattle.moka_parts.specs.declared.notification.RemovalCause.{RemovalCause}
use Rattle.moka_types.specs.declared.policy.EvictionPolicy.{EvictionPolicy}
use Rattle.moka_parts.specs.Calls.{queue_length}
use Rattle.moka_records.specs.Records.{Records}
use Rattle.moka_parts.specs.Settling.{number_of, IsWaitingIn}
use Rattle.moka_parts.specs.Maintenance.{Choice}
use Rattle.moka_parts.specs.State.{Contents}
use Rattle.moka_laws.proofs.RunKeeps.{Keeps, keeps_writes, keeps_choices}
use Rattle.moka_records.proofs.Values.{len_removed, remove_absent}
use Rattle.moka_laws.proofs.Waiting.{hands_out, waits_sent}
use Rattle.moka_structures.specs.Outstanding.{Pending}
use Rattle.moka_store.specs.Store.{Kept}
use Rattle.moka_store.proofs.Gets.{after_insert, after_remove, get-inserted, get-past_insert, get-past_remove, len-inserted, len-kept, option-cases}
use Rattle.moka_maintenance.proofs.Popped.{nothing_there}
use Rattle.moka_maintenance.specs.declared.queued.PlacedWrite.{PlacedWrite}
use Rattle.moka_maintenance.specs.declared.queued.QueuedWrite.{QueuedWrite}
use Rattle.moka_maintenance.specs.declared.queued.QueuedRead.{QueuedRead}
use Rattle.moka_maintenance.specs.Queued.{IsReadAt, handed_of, read_of, writes_of}
use Rattle.moka_maintenance.specs.Admission.{AreApplied, LeavesNoRowBy}
use Rattle.moka_maintenance.specs.Steps.{Stock, AddsNoPlace, LeavesNoRow, IsStepped, contents_in, contents_with, stock_in}
use Rattle.moka_inner.specs.Inner.{IsInner, AreLocated, HasUse}
use Rattle.moka_inner.specs.Interior.{IsLocated, IsReadLocated, operations_of}
use Rattle.moka_maintenance.proofs.Fewer.{len-fewer}
use Rattle.moka_maintenance.proofs.Placed.{none_inserted}
use Rattle.moka_inner.proofs.ValuesLemmas.{get-map_values, map_values-insert, map_values-remove, map_values-found}
use Rattle.moka_parts.specs.Frequency.{SketchTable}

-- ---- where what waits is located

module _ (places : FinMap nat_cmp ℕ) (n place : ℕ) where
  -- a new row does not move what is placed
  placed-inserted : (number at : ℕ) → IsLocated places n number at → IsLocated (insert places n place) (n + 1) number at
  placed-inserted number at h = record {
    given = (let lt = h.given in omega arith);
    at = λ p is. elim (after_insert places n place number p is) [
      | inl same ↦ (let lt = h.given in absurd (let e = same.0 in omega arith))
      | inr other ↦ h.at p other.1
    ];
  }

  read_placed-inserted : (at : ℕ) (read : ReadOperation) → IsReadLocated places n at read → IsReadLocated (insert places n place) (n + 1) at read
  read_placed-inserted at (Hit number hash renewed) h = placed-inserted number at h
  read_placed-inserted at (Miss hash) h = tt

  located-grown : (items : FinMap nat_cmp PlacedWrite) (writes : List QueuedWrite) (reads : List QueuedRead) → AreLocated places n items writes reads → AreLocated (insert places n place) (n + 1) items writes reads
  located-grown items writes reads h = record {
    given = λ m p at. elim (after_insert places n place m p at) [
      | inl same ↦ (let e = same.0 in omega arith)
      | inr other ↦ (let lt = h.given m p other.1 in omega arith)
    ];
    handed = λ u x at. placed-inserted (number_of x.operation) x.place (h.handed u x at);
    sent = λ q at. placed-inserted (number_of q.write.operation) q.write.place (h.sent q at);
    seen = λ q at. read_placed-inserted q.place (read_of q) (h.seen q at);
  }

-- one more operation, of a number that has its row at the place
located-handed : (places : FinMap nat_cmp ℕ) (n : ℕ) (items : FinMap nat_cmp PlacedWrite) (writes : List QueuedWrite) (reads : List QueuedRead) (t : ℕ) (w : PlacedWrite) → AreLocated places n items writes reads → get places (number_of w.operation) ≡ Some w.place → AreLocated places n (insert items t w) writes reads
located-handed places n items writes reads t w h there = record {
  given = h.given;
  handed = λ u x at. elim (after_insert items t w u x at) [
    | inl same ↦ subst (λ (x : PlacedWrite). IsLocated places n (number_of x.operation) x.place) (sym same.1) (record { given = h.given (number_of w.operation) w.place there; at = λ p is. cc })
    | inr other ↦ h.handed u x other.1
  ];
  sent = h.sent;
  seen = h.seen;
}

-- rows go, and none moves
located-less : (places less : FinMap nat_cmp ℕ) (n number place : ℕ) → ((k p : ℕ) → get less k ≡ Some p → get places k ≡ Some p) → IsLocated places n number place → IsLocated less n number place
located-less places less n number place fewer h = record { given = h.given; at = λ p there. h.at p (fewer number p there) }

read_located-less : (places less : FinMap nat_cmp ℕ) (n place : ℕ) (read : ReadOperation) → ((k p : ℕ) → get less k ≡ Some p → get places k ≡ Some p) → IsReadLocated places n place read → IsReadLocated less n place read
read_located-less places less n place (Hit number hash renewed) fewer h = located-less places less n number place fewer h
read_located-less places less n place (Miss hash) fewer h = tt

-- where a located read leads
pub read_at : (places : FinMap nat_cmp ℕ) (n place : ℕ) (read : ReadOperation) → IsReadLocated places n place read → IsReadAt places place read
read_at places n place (Hit number hash renewed) h = h.at
read_at places n place (Miss hash) h = tt

-- a place in 32 bits will do, since each row has such a one
pub read_located-narrow : (places : FinMap nat_cmp ℕ) (n place short : ℕ) (read : ReadOperation) → ((m p : ℕ) → get places m ≡ Some p → p < 2 ^ 32) → (place < 2 ^ 32 → short ≡ place) → IsReadLocated places n place read → IsReadLocated places n short read
read_located-narrow places n place short (Hit number hash renewed) narrow same h = record {
  given = h.given;
  at = λ p is. h.at p is ∙ sym (same (subst (λ q. q < 2 ^ 32) (h.at p is) (narrow number p is)));
}
read_located-narrow places n place short (Miss hash) narrow same h = tt

-- ---- the tickets of what waits

-- an operation handed out under a new ticket waits beside the others
waits-handed : (items : FinMap nat_cmp PlacedWrite) (writes : List Ticketed) (t : ℕ) (w : PlacedWrite) → ((u : ℕ) (x : PlacedWrite) → get items u ≡ Some x → u < t) → (o : Operation) → IsWaitingIn (operations_of items) writes o ⊎ (o ≡ w.operation) → IsWaitingIn (operations_of (insert items t w)) writes o
waits-handed items writes t w below o h = rw map_values-insert (at h)
  where
    free : get (operations_of items) t ≡ None
    free = elim (option-cases (get (operations_of items) t)) [
      | inl none ↦ none
      | inr some ↦ (let x = map_values-found (λ (w : PlacedWrite). w.operation) items t some.0 some.1 in let lt = below t x.0 x.1 in absurd (omega arith))
    ]

    at : IsWaitingIn (operations_of items) writes o ⊎ (o ≡ w.operation) → IsWaitingIn (insert (operations_of items) t w.operation) writes o
    at (inl waits) = (hands_out (operations_of items) writes t w.operation free).forth o waits
    at (inr same) = subst (IsWaitingIn (insert (operations_of items) t w.operation) writes) (sym same) (hands_out (operations_of items) writes t w.operation free).there

ticketed-handed : (items : FinMap nat_cmp PlacedWrite) (t : ℕ) (w : PlacedWrite) → ((u : ℕ) (x : PlacedWrite) → get items u ≡ Some x → u < t) → (u : ℕ) (x : PlacedWrite) → get (insert items t w) u ≡ Some x → u < t + 1
ticketed-handed items t w below u x there = elim (after_insert items t w u x there) [
  | inl same ↦ (let e = same.0 in omega arith)
  | inr other ↦ (let lt = below u x other.1 in omega arith)
]

-- ---- keys of a map

module _ {X : Type 0} (m : FinMap nat_cmp X) (n : ℕ) where
  -- no more than one more
  len-one_more : (x : X) → len (insert m n x) ≤ len m + 1
  len-one_more x = elim (option-cases (get m n)) [
    | inl none ↦ (let e = len-inserted m n x none in omega arith)
    | inr some ↦ (let e = len-kept m n x some.0 some.1 in omega arith)
  ]

  -- only the removed key is gone
  taken : (k : ℕ) (x : X) → get m k ≡ Some x → get (remove m n) k ≡ None → k ≡ n
  taken k x there gone = elim (cases_eq k n) as (λ _. k ≡ n) [
    | inl e ↦ e
    | inr ne ↦ (let g = get-past_remove m n k ne in cc)
  ]

-- ---- one change each

module _ {K V S : Type 0} (kept after : Kept K V S) (out handed : Pending PlacedWrite) (writes : Buffer QueuedWrite) (reads : Buffer QueuedRead) (t n : ℕ) (h : IsInner kept out writes reads t n) where
  -- an operation is handed out, whose number has its row at the place: a number with a row and no record had none
  -- before, or the operation is its removal
  inner-handed : (w : PlacedWrite) (next : ℕ) → handed.items ≡ insert out.items t w → AreLocated after.places next out.items writes.items reads.items → get after.places (number_of w.operation) ≡ Some w.place
      → ((k p : ℕ) → get after.places k ≡ Some p → get after.records k ≡ None → ((get kept.places k ≡ Some p) × (get kept.records k ≡ None)) ⊎ ((generation : ℕ) × (Removal k generation ≡ w.operation)))
      → ((k : ℕ) (r : Record K V) → get after.records k ≡ Some r → r.generation ≤ t) → (1 ≤ next) × (next ≤ t + 1) → t + 1 + len after.records ≤ 2 ^ 64 → len after.records ≤ handed.room → IsInner after handed writes reads (t + 1) next
  inner-handed w next items located placed used generations numbers tickets removals = record {
    located = rw items (located-handed after.places next out.items writes.items reads.items t w located placed);
    used = rw items (λ k p row gone. elim (used k p row gone) [
      | inl before ↦ (let was = h.used k p before.0 before.1 in (was.0, waits-handed out.items (writes_of writes.items) t w h.ticketed (Removal k was.0) (inl was.1)))
      | inr now ↦ (now.0, waits-handed out.items (writes_of writes.items) t w h.ticketed (Removal k now.0) (inr now.1))
    ]);
    ticketed = rw items (ticketed-handed out.items t w h.ticketed);
    generations = λ k r at. (let low = generations k r at in omega arith);
    numbers = numbers;
    tickets = tickets;
    removals = removals;
    write_queue = h.write_queue;
    read_queue = h.read_queue;
  }

  -- a new record with its operation
  pub inner-inserted : (r : Record K V) (w : PlacedWrite) → after.records ≡ insert kept.records n r → after.places ≡ insert kept.places n w.place → handed.items ≡ insert out.items t w → r.generation ≡ 1 → number_of w.operation ≡ n → t + len kept.records + 1 < 2 ^ 64 → len kept.records + 1 ≤ handed.room → IsInner after handed writes reads (t + 1) (n + 1)
  inner-inserted r w records places items generation number tickets room =
      let count = len-one_more kept.records n r in
      let same = ap len records in
      let first = h.numbers in
      inner-handed w (n + 1) items (rw places (located-grown kept.places n w.place out.items writes.items reads.items h.located)) (rw (places, number) (get-inserted kept.places n w.place))
      (λ m p row gone. elim (after_insert kept.places n w.place m p (sym (ap (λ ps. get ps m) places) ∙ row)) [
        | inl new ↦ (let is : get (insert kept.records n r) n ≡ None = sym (ap (get (insert kept.records n r)) new.0) ∙ sym (ap (λ (rs : Records K V). get rs m) records) ∙ gone in let some = get-inserted kept.records n r in cc)
        | inr old ↦ inl (old.1, sym (get-past_insert kept.records n r m old.0) ∙ sym (ap (λ (rs : Records K V). get rs m) records) ∙ gone)
      ])
      (rw records (λ m q there. elim (after_insert kept.records n r m q there) [
        | inl same ↦ (let e = ap (λ (q : Record K V). q.generation) same.1 in omega arith)
        | inr other ↦ (let lt = h.generations m q other.1 in omega arith)
      ]))
      (omega arith, omega arith) (omega arith) (omega arith)

  -- a record changed with its operation
  pub inner-updated : (m : ℕ) (old r : Record K V) (w : PlacedWrite) → get kept.records m ≡ Some old → after.records ≡ insert kept.records m r → after.places ≡ kept.places → handed.items ≡ insert out.items t w → r.generation ≡ old.generation + 1 → get kept.places (number_of w.operation) ≡ Some w.place → t + len kept.records < 2 ^ 64 → len kept.records ≤ handed.room → IsInner after handed writes reads (t + 1) n
  inner-updated m old r w there records places items generation placed tickets room =
      let count = ap len records ∙ len-kept kept.records m r old there in
      let low = h.generations m old there in
      let first = h.numbers in
      inner-handed w n items (rw places h.located) (rw places placed)
      (λ k p row gone. inl (sym (ap (λ ps. get ps k) places) ∙ row, none_inserted kept.records m r k (sym (ap (λ (rs : Records K V). get rs k) records) ∙ gone)))
      (rw records (λ k q at. elim (after_insert kept.records m r k q at) [
        | inl same ↦ (let e = ap (λ (q : Record K V). q.generation) same.1 in omega arith)
        | inr other ↦ (let lt = h.generations k q other.1 in omega arith)
      ]))
      (omega arith, omega arith) (omega arith) (omega arith)

  -- a record taken out with its operation
  pub inner-removed : (m : ℕ) (old : Record K V) (w : PlacedWrite) (generation : ℕ) → get kept.records m ≡ Some old → after.records ≡ remove kept.records m → after.places ≡ kept.places → handed.items ≡ insert out.items t w → w.operation ≡ Removal m generation → get kept.places m ≡ Some w.place → out.room ≤ handed.room + 1 → IsInner after handed writes reads (t + 1) n
  inner-removed m old w generation there records places items operation placed room =
      let one = len_removed kept.records m old there in
      let same = ap len records in
      let first = h.numbers in
      let tickets = h.tickets in
      let removals = h.removals in
      inner-handed w n items (rw places h.located) (rw (places, operation) placed)
      (λ k p row gone. elim (option-cases (get kept.records k)) [
        | inl none ↦ inl (sym (ap (λ ps. get ps k) places) ∙ row, none)
        | inr some ↦ (let is = taken kept.records m k some.0 some.1 (sym (ap (λ (rs : Records K V). get rs k) records) ∙ gone) in inr (generation, ap (λ k. Removal k generation) is ∙ sym operation))
      ])
      (rw records (λ k q at. (let lt = h.generations k q (after_remove kept.records m k q at).1 in omega arith)))
      (omega arith, omega arith) (omega arith) (omega arith)

  -- a record changed, and nothing handed out
  pub inner-touched : (m : ℕ) (old r : Record K V) → get kept.records m ≡ Some old → after.records ≡ insert kept.records m r → after.places ≡ kept.places → r.generation ≡ old.generation → IsInner after out writes reads t n
  inner-touched m old r there records places generation =
      let count = ap len records ∙ len-kept kept.records m r old there in
      let low = h.generations m old there in
      record {
        located = rw places h.located;
        used = λ k p row gone. h.used k p (sym (ap (λ ps. get ps k) places) ∙ row) (none_inserted kept.records m r k (sym (ap (λ (rs : Records K V). get rs k) records) ∙ gone));
        ticketed = h.ticketed;
        generations = rw records (λ k q at. elim (after_insert kept.records m r k q at) [
          | inl same ↦ (let e = ap (λ (q : Record K V). q.generation) same.1 in omega arith)
          | inr other ↦ h.generations k q other.1
        ]);
        numbers = h.numbers;
        tickets = (let e = h.tickets in omega arith);
        removals = (let e = h.removals in omega arith);
        write_queue = h.write_queue;
        read_queue = h.read_queue;
      }

  -- some records stay, each but for what was applied of it, with some of the rows
  pub inner-left : (ws : List QueuedWrite) (rs : List QueuedRead) → ((q : QueuedWrite) → Contains ws q → Contains writes.items q) → ((q : QueuedRead) → Contains rs q → Contains reads.items q) → length ws ≤ length writes.items → length rs ≤ length reads.items
      → ((k p : ℕ) → get after.places k ≡ Some p → get kept.places k ≡ Some p) → Keeps kept.records after.records → HasUse after out.items ws → IsInner after out (buffer ws writes.capacity) (buffer rs reads.capacity) t n
  inner-left ws rs in_writes in_reads few_writes few_reads fewer keeps used =
      let less = len-fewer kept.records after.records (record { key = λ k q there. (let old = keeps k q there in (old.0, old.1)) }) in
      record {
        located = record {
          given = λ k p there. h.located.given k p (fewer k p there);
          handed = λ u w there. located-less kept.places after.places n (number_of w.operation) w.place fewer (h.located.handed u w there);
          sent = λ q there. located-less kept.places after.places n (number_of q.write.operation) q.write.place fewer (h.located.sent q (in_writes q there));
          seen = λ q there. read_located-less kept.places after.places n q.place (read_of q) fewer (h.located.seen q (in_reads q there));
        };
        used = used;
        ticketed = h.ticketed;
        generations = λ k q there. (let old = keeps k q there in let e = ap (λ (q : Record K V). q.generation) old.2.1 in let low = h.generations k old.0 old.1 in omega arith);
        numbers = h.numbers;
        tickets = (let e = h.tickets in omega arith);
        removals = (let e = h.removals in omega arith);
        write_queue = (let e = h.write_queue in (e.0, omega arith));
        read_queue = (let e = h.read_queue in (e.0, omega arith));
      }

module _ {K V S : Type 0} (kept : Kept K V S) (out left : Pending PlacedWrite) (writes : Buffer QueuedWrite) (reads : Buffer QueuedRead) (t n : ℕ) (h : IsInner kept out writes reads t n) where
  -- there is more room
  pub inner-roomier : (after : Kept K V S) → after.records ≡ kept.records → after.places ≡ kept.places → left.items ≡ out.items → out.room ≤ left.room → IsInner after left writes reads t n
  inner-roomier after records places items room = record {
    located = rw (places, items) h.located;
    used = rw (places, records, items) h.used;
    ticketed = rw items h.ticketed;
    generations = rw records h.generations;
    numbers = h.numbers;
    tickets = rw records h.tickets;
    removals = rw records (let e = h.removals in omega arith);
    write_queue = h.write_queue;
    read_queue = h.read_queue;
  }

  -- an operation that is not there is taken
  pub inner-unsent : (ticket : ℕ) → get out.items ticket ≡ None → left.items ≡ remove out.items ticket → out.room ≤ left.room → IsInner kept left writes reads t n
  inner-unsent ticket none items room = inner-roomier kept refl refl (items ∙ remove_absent out.items ticket none) room

  -- an operation goes from those handed out to the back of the queue
  pub inner-sent : (ticket : ℕ) (w : PlacedWrite) → get out.items ticket ≡ Some w → left.items ≡ remove out.items ticket → out.room ≤ left.room → length writes.items < writes.capacity → IsInner kept left (buffer (writes.items ++ record { ticket = ticket; write = w } ∷ []) writes.capacity) reads t n
  inner-sent ticket w there items room fits = record {
    located = record {
      given = h.located.given;
      handed = λ u x at. h.located.handed u x (before u x at);
      sent = λ q at. elim (Contains-push_cases writes.items last q at) [
        | inl old ↦ h.located.sent q old
        | inr new ↦ subst (λ (q : QueuedWrite). IsLocated kept.places n (number_of q.write.operation) q.write.place) new (h.located.handed ticket w there)
      ];
      seen = h.located.seen;
    };
    used = λ k p row gone. (let old = h.used k p row gone in (old.0, waits (Removal k old.0) old.1));
    ticketed = λ u x at. h.ticketed u x (before u x at);
    generations = h.generations;
    numbers = h.numbers;
    tickets = h.tickets;
    removals = (let e = h.removals in omega arith);
    write_queue = (let q = h.write_queue in (q.0, omega (arith, length-append {A = QueuedWrite})));
    read_queue = h.read_queue;
  }
    where
      last : QueuedWrite
      last = record { ticket = ticket; write = w }

      before : (u : ℕ) (x : PlacedWrite) → get left.items u ≡ Some x → get out.items u ≡ Some x
      before u x at = (after_remove out.items ticket u x (sym (ap (λ is. get is u) items) ∙ at)).1

      found : get (operations_of out.items) ticket ≡ Some w.operation
      found = get-map_values (λ (w : PlacedWrite). w.operation) out.items ticket ∙ ap (λ o. option_map (λ (w : PlacedWrite). w.operation) o) there

      waits : (o : Operation) → IsWaitingIn (operations_of out.items) (writes_of writes.items) o → IsWaitingIn (operations_of left.items) (writes_of (writes.items ++ last ∷ [])) o
      waits o h =
          rw (items, map_values-remove, map-append handed_of writes.items (last ∷ [])) ((waits_sent (operations_of out.items) (writes_of writes.items) ticket w.operation found).forth o h)

  -- a read is queued where there is room
  pub inner-read : (q : QueuedRead) (result : Result (Unit {0}) QueuedRead) (after : Buffer QueuedRead) → IsReadLocated kept.places n q.place (read_of q) → (IsOk result → length reads.items < reads.capacity) → OnOk result (after ≡ buffer (reads.items ++ q ∷ []) reads.capacity) → IfErr result (λ x. (x ≡ q) × (after ≡ reads)) → IsInner kept out writes after t n
  inner-read q (Err x) after there fits ok err = rw (err.1) h
  inner-read q (Ok _) after there fits ok err = rw ok (record {
    located = record {
      given = h.located.given;
      handed = h.located.handed;
      sent = h.located.sent;
      seen = λ r at. elim (Contains-push_cases reads.items q r at) [
        | inl old ↦ h.located.seen r old
        | inr new ↦ subst (λ (r : QueuedRead). IsReadLocated kept.places n r.place (read_of r)) new there
      ];
    };
    used = h.used;
    ticketed = h.ticketed;
    generations = h.generations;
    numbers = h.numbers;
    tickets = h.tickets;
    removals = h.removals;
    write_queue = h.write_queue;
    read_queue = (let r = h.read_queue in let f = fits refl in (r.0, omega (arith, length-append {A = QueuedRead})));
  })

-- ---- both queues are applied, and passes are made

module _ {K V L S : Type 0} (tells : L → K → V → RemovalCause → L → Type 0) (kept after : Kept K V S) (out : Pending PlacedWrite) (writes : Buffer QueuedWrite) (reads : Buffer QueuedRead) (t n : ℕ) (h : IsInner kept out writes reads t n) (l m : Option L) where
  -- both queues were applied
  pub inner-applied : (capacity : Option ℕ) (policy : EvictionPolicy) (sketch : Option SketchTable) (mid : Kept K V S) → mid.records ≡ kept.records → mid.places ≡ kept.places → AreApplied tells capacity policy mid.ordered (contents_with sketch mid) (contents_with sketch after) mid.written after.written (writes_of writes.items) l m
      → AddsNoPlace mid after → LeavesNoRowBy (writes_of writes.items) mid after → IsInner after out (buffer [] writes.capacity) (buffer [] reads.capacity) t n
  inner-applied capacity policy sketch mid records places applied fewer rows =
      let keeps : Keeps mid.records after.records = subst (λ (c : Contents K V). Keeps mid.records c.records) (sym applied.led) (keeps_writes capacity policy (contents_with sketch mid) (writes_of writes.items) applied.moves) in
      let less : (k p : ℕ) → get after.places k ≡ Some p → get kept.places k ≡ Some p = λ k p there. subst (λ ps. get ps k ≡ Some p) places (fewer k p there) in
      inner-left kept after out out writes reads t n h [] [] (λ q there. absurd (nothing_there q there)) (λ q there. absurd (nothing_there q there)) (omega arith) (omega arith) less
      (subst (λ (rs : Records K V). Keeps rs after.records) records keeps)
      (λ k p row gone.
      let before = rows k p row gone in
      let waits = h.used k p (less k p row) (sym (ap (λ (rs : Records K V). get rs k) records) ∙ before.0) in
      (waits.0, still k waits.0 before.1 waits.1))
    where
      still : (k g : ℕ) → ((ticket generation : ℕ) → Contains (writes_of writes.items) (record { ticket = ticket; operation = Removal k generation }) → ⊥) → IsWaitingIn (operations_of out.items) (writes_of writes.items) (Removal k g) → IsWaitingIn (operations_of out.items) [] (Removal k g)
      still k g none (inl handed) = inl handed
      still k g none (inr queued) = absurd (none queued.0 g queued.1)

  -- passes were made
  pub inner-passed : (May : Stock K V → Choice → Type 0) → IsStepped tells May (stock_in kept) (stock_in after) l m → AddsNoPlace kept after → LeavesNoRow kept after → IsInner after out writes reads t n
  inner-passed May by fewer rows =
      inner-left kept after out out writes reads t n h writes.items reads.items (λ q there. there) (λ q there. there) (omega arith) (omega arith) fewer
      (subst (λ (c : Stock K V). Keeps kept.records c.contents.records) (sym by.led) (keeps_choices (contents_in kept) by.steps))
      (λ k p row gone. h.used k p (fewer k p row) (rows k p row gone))

-- a number without a record, no removal of which waits, has no row
pub located-nowhere : {K V S : Type 0} (kept : Kept K V S) (out : Pending PlacedWrite) (writes : Buffer QueuedWrite) (reads : Buffer QueuedRead) (t n : ℕ) → IsInner kept out writes reads t n → (number place : ℕ) → number < n → get kept.records number ≡ None → ((generation : ℕ) → IsWaitingIn (operations_of out.items) (writes_of writes.items) (Removal number generation) → ⊥) → IsLocated kept.places n number place
located-nowhere kept out writes reads t n h number place given gone stays = record {
  given = given;
  at = λ p there. (let waits = h.used number p there gone in absurd (stays waits.0 waits.1));
}

-- with no record and nothing waiting
pub inner-new : {K V S : Type 0} (kept : Kept K V S) (out : Pending PlacedWrite) (writes : Buffer QueuedWrite) (reads : Buffer QueuedRead) (t : ℕ) → kept.records ≡ empty → kept.places ≡ empty → out.items ≡ empty → writes ≡ buffer [] queue_length → reads ≡ buffer [] queue_length → 1 ≤ t → t ≤ 2 ^ 64 → IsInner kept out writes reads t 1
inner-new {K} {V} kept out writes reads t records places items no_writes no_reads first last =
    let e = ap len records ∙ len-empty nat_cmp (Record K V) in
    rw (no_writes, no_reads) (record {
      located = record {
        given = λ k p there. absurd (nothing kept.places k p places there);
        handed = λ u w there. absurd (nothing out.items u w items there);
        sent = λ q there. absurd (nothing_there q there);
        seen = λ q there. absurd (nothing_there q there);
      };
      used = λ k p there. absurd (nothing kept.places k p places there);
      ticketed = λ u w there. absurd (nothing out.items u w items there);
      generations = λ k r there. absurd (nothing kept.records k r records there);
      numbers = (omega arith, omega arith);
      tickets = omega arith;
      removals = omega arith;
      write_queue = (refl, omega arith);
      read_queue = (refl, omega arith);
    })
  where
    nothing : {X : Type 0} (m : FinMap nat_cmp X) (n : ℕ) (x : X) → m ≡ empty → get m n ≡ Some x → ⊥
    nothing {X} m n x e there = let none : get (empty {X = X} {R = nat_cmp}) n ≡ None = get-empty nat_cmp n in let same = ap (λ m. get m n) e in cc
