-- A call in the order of time leaves the write list and a state in order with it, unless it makes a run of maintenance;
-- then it ends as the run does.
use Rattle.std.proofs.Common.{◌≡◌, ℕ, ◌+◌, true, List, [], ◌∷◌, ◌++◌, Some, None, is_some, ap, sym, subst, ◌⊎◌, inl, inr}
use Rattle.moka_laws.proofs.Types.{ReadOperation, Call, Reply, Notice, State, Settings, Meaning, Events, Housekeeping, Terms, Course}
use Rattle.moka_parts.specs.State.{keeps_write_list}
use Rattle.moka_parts.specs.Settling.{IsValid}
use Rattle.moka_parts.specs.Order.{IsInOrder, IsOrderly}
use Rattle.moka_parts.specs.Runs.{CallStep}
use Rattle.moka_laws.proofs.StepsKeep.{hit_valid}
use Rattle.moka_laws.proofs.OrderedStates.{sent_in_order}
use Rattle.moka_laws.proofs.OrderedCalls.{order_with, inserted_in_order, replaced_in_order, taken_in_order, hit_in_order}
use Rattle.moka_laws.proofs.EachCall.{IsKept, each_call}

-- the state has these settings, and where they keep a write list it is in order with this one
abbrev pub IsListedIn : {K V X P W : Type 0} → Settings X W → List ℕ → State K V X P W → Type 0
IsListedIn settings ns s = (s.settings ≡ settings) × (keeps_write_list settings ≡ true → IsInOrder s ns)

module _ {K V X L P W C I : Type 0} (m : Meaning K V X L P W C I) (settings : Settings X W) (ns : List ℕ) (Runs : State K V X P W → Terms → Course → List (Notice K V) → State K V X P W → Type 0) (After : State K V X P W → Type 0)
    (run_ends : (s : State K V X P W) (terms : Terms) (course : Course) (notices : List (Notice K V)) (t : State K V X P W) → IsValid m.eq s → IsListedIn settings ns s → Runs s terms course notices t → After t)
    (moved : (t : State K V X P W) (reads : List ReadOperation) (housekeeping : Housekeeping) → After t → After (record t { reads = reads; housekeeping = housekeeping })) where
  -- a run was made, or the list is as it was
  abbrev pub EndsListed : Events K V → State K V X P W → Type 0
  EndsListed e t = After t ⊎ ((e.passes ≡ None) × IsListedIn settings ns t)

  -- what a run may begin with
  abbrev MayRun : State K V X P W → Type 0
  MayRun s = IsValid m.eq s × IsListedIn settings ns s

  stays_listed : (s : State K V X P W) (c : Call K V P) → IsValid m.eq s → IsListedIn settings ns s → IsOrderly s c → IsKept m MayRun (IsListedIn settings ns) s c
  stays_listed s c valid h orderly = record {
    begins = (valid, h);
    left = h;
    inserted = λ key hash value now w is on found. (h.0, λ kept. inserted_in_order m.eq m.created m.updated s ns key hash value now w valid (subst (IsOrderly s) is orderly) (h.1 kept));
    replaced = λ r key hash value now w is found. (h.0, λ kept. replaced_in_order m.eq m.created m.updated s ns r key hash value now w valid found (subst (IsOrderly s) is orderly) (h.1 kept));
    removed = λ key hash now r is found. (h.0, λ kept. taken_in_order s ns (h.1 kept) m.eq valid r.number (r.generation + 1));
    sent = λ ticket o is there room. (h.0, λ kept. sent_in_order s ns ticket.0 o there (subst (IsOrderly s) is orderly (ap is_some there) room) (h.1 kept));
    hit = λ key r now moment found visible.
        let after : IsListedIn settings ns _ = (h.0, λ kept. hit_in_order m.eq m.read s ns key r now valid found (h.1 kept)) in
        ((hit_valid m.eq m.says m.read s key r now found valid, after), after);
    hidden = λ now is. (h.0, λ kept. order_with s ns (h.1 kept) s.reads (Some now) s.predicates s.housekeeping s.capacity s.next_number);
    registered = λ p. (h.0, λ kept. order_with s ns (h.1 kept) s.reads s.invalid_before (s.predicates ++ p ∷ []) s.housekeeping s.capacity s.next_number);
    resized = λ capacity is on. (h.0, λ kept. order_with s ns (h.1 kept) s.reads s.invalid_before s.predicates s.housekeeping capacity s.next_number);
    aside = λ t reads housekeeping h. (h.0, λ kept. order_with t ns (h.1 kept) reads t.invalid_before t.predicates housekeeping t.capacity t.next_number);
  }

  -- any call
  pub call_ends : (s t : State K V X P W) (c : Call K V P) (r : Reply K V P) (e : Events K V) → IsValid m.eq s → IsListedIn settings ns s → IsOrderly s c → CallStep m Runs s c r e t → EndsListed e t
  call_ends s t c r e valid h orderly step = elim (each_call m Runs Runs MayRun (IsListedIn settings ns) s t c r e (stays_listed s c valid h orderly) step) [
    | inl x ↦ inl (subst After (sym x.ends) (moved x.mid x.reads x.housekeeping (run_ends x.from x.terms x.course e.notices x.mid x.begins.0 x.begins.1 x.run)))
    | inr (none, listed, again) ↦ inr (none.passes, listed)
  ]
