-- What a listener counts is the notices of a run.
use Rattle.std.proofs.Common.{◌≡◌, refl, ◌+◌, ◌≤◌, List, [], ◌∷◌, count_by, Option, Some, None, ap, sym, subst, inl, inr}
use Rattle.moka_parts.specs.declared.notification.RemovalCause.{RemovalCause}
use Rattle.moka_parts.specs.declared.notification.RemovalCause.TheVariants.{Expired, Explicit, Replaced, Size}
use Rattle.moka_parts.specs.Notices.{Notice}
use Rattle.moka_parts.specs.Runs.{notices_of}
use Rattle.moka_parts.specs.State.{Meaning}
use Rattle.moka_parts.specs.Surroundings.{Leads, Heard, NoticeStep}
use Rattle.moka_records.specs.Time.{greatest}
use Rattle.moka_calls.specs.declared.removals.Removals.{Removals}
use Rattle.moka_calls.specs.declared.removals.CountingListener.{CountingListener}
use Rattle.moka_calls.specs.Removed.{no_removals, after_removal, counting, removals_of, is_of, AreHeld, AreCounted, CountsHeard, CountsRemovals, PassesOn}
use Rattle.moka_calls.specs.Synchronous.{hears_clones}
use Rattle.moka_calls.proofs.Counting.{no_more, rises_then, within}

module _ {K V : Type 0} where
  -- one removal
  counted_once : (n : Notice K V) (s : Removals) → AreHeld s → AreCounted (n ∷ []) s (after_removal n.2 s)
  counted_once (key, value, Expired) s held = record { expired = refl; explicit = no_more greatest s.explicit held.explicit_held; replaced = no_more greatest s.replaced held.replaced_held; size = no_more greatest s.size held.size_held }
  counted_once (key, value, Explicit) s held = record { expired = no_more greatest s.expired held.expired_held; explicit = refl; replaced = no_more greatest s.replaced held.replaced_held; size = no_more greatest s.size held.size_held }
  counted_once (key, value, Replaced) s held = record { expired = no_more greatest s.expired held.expired_held; explicit = no_more greatest s.explicit held.explicit_held; replaced = refl; size = no_more greatest s.size held.size_held }
  counted_once (key, value, Size) s held = record { expired = no_more greatest s.expired held.expired_held; explicit = no_more greatest s.explicit held.explicit_held; replaced = no_more greatest s.replaced held.replaced_held; size = refl }

  -- none
  counted_none : (s : Removals) → AreHeld s → AreCounted {K = K} {V = V} [] s s
  counted_none s held = record { expired = no_more greatest s.expired held.expired_held; explicit = no_more greatest s.explicit held.explicit_held; replaced = no_more greatest s.replaced held.replaced_held; size = no_more greatest s.size held.size_held }

  -- what was counted is held
  still_held : (ns : List (Notice K V)) (s t : Removals) → AreCounted ns s t → AreHeld t
  still_held ns s t h = record {
    expired_held = subst (λ n. n ≤ greatest) (sym h.expired) (within greatest (s.expired + count_by (is_of Expired) ns));
    explicit_held = subst (λ n. n ≤ greatest) (sym h.explicit) (within greatest (s.explicit + count_by (is_of Explicit) ns));
    replaced_held = subst (λ n. n ≤ greatest) (sym h.replaced) (within greatest (s.replaced + count_by (is_of Replaced) ns));
    size_held = subst (λ n. n ≤ greatest) (sym h.size) (within greatest (s.size + count_by (is_of Size) ns));
  }

  counted_then : (n : Notice K V) (ns : List (Notice K V)) (s t u : Removals) → AreCounted (n ∷ []) s t → AreCounted ns t u → AreCounted (n ∷ ns) s u
  counted_then n ns s t u h k = record {
    expired = rises_then (is_of Expired) (n ∷ []) ns s.expired t.expired u.expired h.expired k.expired;
    explicit = rises_then (is_of Explicit) (n ∷ []) ns s.explicit t.explicit u.explicit h.explicit k.explicit;
    replaced = rises_then (is_of Replaced) (n ∷ []) ns s.replaced t.replaced u.replaced h.replaced k.replaced;
    size = rises_then (is_of Size) (n ∷ []) ns s.size t.size u.size h.size k.size;
  }

  module _ {L : Type 0} (tells : CountingListener L → K → V → RemovalCause → CountingListener L → Type 0)
      (counts : (before : CountingListener L) (key : K) (value : V) (cause : RemovalCause) (after : CountingListener L) → tells before key value cause after → after.removals ≡ after_removal cause before.removals) where
    all_counted : (before : CountingListener L) (ns : List (Notice K V)) (after : CountingListener L) → AreHeld before.removals → Leads (NoticeStep tells) before ns after → AreCounted ns before.removals after.removals
    all_counted before [] after held same = subst (λ (l : CountingListener L). AreCounted {K = K} {V = V} [] before.removals l.removals) (sym same) (counted_none before.removals held)
    all_counted before (n ∷ ns) after held (mid, step, rest) =
        let one = subst (AreCounted (n ∷ []) before.removals) (sym (counts before n.0 n.1 n.2 mid step)) (counted_once n before.removals held) in
        counted_then n ns before.removals mid.removals after.removals one (all_counted mid ns after (still_held (n ∷ []) before.removals mid.removals one) rest)

    heard_counted : (before : Option (CountingListener L)) (ns : List (Notice K V)) (after : Option (CountingListener L)) → AreHeld (removals_of before) → Heard tells before ns after → AreCounted ns (removals_of before) (removals_of after)
    heard_counted None ns None held none = subst (λ (l : List (Notice K V)). AreCounted l no_removals no_removals) (sym none) (counted_none no_removals held)
    heard_counted (Some before) ns (Some after) held heard = all_counted before ns after held heard
    heard_counted None ns (Some after) held heard = absurd heard
    heard_counted (Some before) ns None held heard = absurd heard

    pub counts_heard : CountsHeard tells
    counts_heard before after ns held heard =
        let counted = heard_counted before ns after held heard in
        (counted, still_held ns (removals_of before) (removals_of after) counted)

    pub counts_removals : {X P W C : Type 0} (S : Type 0) (m : Meaning K V X (CountingListener L) P W C (Unit {0})) → m.tells ≡ tells → CountsRemovals S m
    counts_removals S m same calls replies old new clock clock_after held made =
        counts_heard old.listener new.listener (notices_of made.steps) held (subst (λ t. Heard t old.listener (notices_of made.steps) new.listener) same made.is_run.heard)

  module _ {L : Type 0} (tells : L → K → V → RemovalCause → L → Type 0) where
    pub counting_counts : (before : CountingListener L) (key : K) (value : V) (cause : RemovalCause) (after : CountingListener L) → counting tells before key value cause after → after.removals ≡ after_removal cause before.removals
    counting_counts before key value cause after step = step.0

    pub clones_count : (is_key_clone : K → K → Type 0) (is_value_clone : V → V → Type 0) (before : CountingListener L) (key : K) (value : V) (cause : RemovalCause) (after : CountingListener L) → hears_clones is_key_clone is_value_clone (counting tells) before key value cause after →
        after.removals ≡ after_removal cause before.removals
    clones_count is_key_clone is_value_clone before key value cause after (inl step) = step.0
    clones_count is_key_clone is_value_clone before key value cause after (inr (k, v, c, d, step)) = step.0

    all_passed : (before : CountingListener L) (ns : List (Notice K V)) (after : CountingListener L) → Leads (NoticeStep (counting tells)) before ns after → Leads (NoticeStep tells) before.listener ns after.listener
    all_passed before [] after same = ap (λ (l : CountingListener L). l.listener) same
    all_passed before (n ∷ ns) after (mid, step, rest) = (mid.listener, step.1, all_passed mid ns after rest)

    pub passes_on : PassesOn tells
    passes_on None None ns none = none
    passes_on (Some before) (Some after) ns heard = all_passed before ns after heard
    passes_on None (Some after) ns heard = absurd heard
    passes_on (Some before) None ns heard = absurd heard
