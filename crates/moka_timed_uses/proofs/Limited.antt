-- What is put back leaves the capacity as it is.
use Rattle.std.proofs.Common.{◌≡◌, ℕ, List, [], ◌∷◌, Ok, ap, sym, subst, ◌∙◌, inl, inr}
use Rattle.moka_engine.specs.parts.Call.{Call}
use Rattle.moka_engine.specs.parts.Instant.{Instant}
use Rattle.moka_engine.specs.parts.Reply.{Reply}
use Rattle.moka_engine.specs.parts.Ticket.{Ticket}
use Rattle.moka_engine.specs.Runs.{Engine}
use Rattle.moka_engine.specs.State.{Meaning}
use Rattle.moka_engine.specs.parts.Restored.{Restored}
use Rattle.moka_cache.specs.Limits.{SetNoCapacity}
use Rattle.moka_cache.specs.Saves.{PutsAllBack, PutsBack}
use Rattle.moka_cache.specs.Synchronous.{Posts}
use Rattle.moka_cache.proofs.Limits.{keeps_limits}

posting_sets_none : {K V P : Type 0} (now : Instant) (ticket : Ticket) (calls : List (Call K V P)) (replies : List (Reply K V P)) → Posts now ticket calls replies → SetNoCapacity calls
posting_sets_none now ticket calls replies (inl (is, replied)) = subst SetNoCapacity (sym is) (tt, (tt, tt))
posting_sets_none now ticket calls replies (inr (more, is, replied)) = subst SetNoCapacity (sym is) (tt, (tt, (tt, (tt, tt))))

module _ {K V S X L P W C : Type 0} (m : Meaning K V X L P W C (Unit {0})) (hash_of : S → K → ℕ) (now : Instant) where
  one_back : (item : Restored K V) (old : Engine K V S X L P W) (clock : C) (new : Engine K V S X L P W) (clock_after : C) → PutsBack m hash_of now item (Ok tt) old clock new clock_after → new.state.capacity ≡ old.state.capacity
  one_back item old clock new clock_after (inl (off, same, unread)) = ap (λ e. e.state.capacity) same
  one_back item old clock new clock_after (inr (on, mid, ticket, step, befell, (calls, replies, posts, made))) =
      (keeps_limits m S calls replies mid new clock clock_after made (posting_sets_none now ticket calls replies posts)).capacity ∙ ap (λ s. s.capacity) step.6

  pub all_back : (items : List (Restored K V)) (old : Engine K V S X L P W) (clock : C) (new : Engine K V S X L P W) (clock_after : C) → PutsAllBack m hash_of now items old clock new clock_after → new.state.capacity ≡ old.state.capacity
  all_back [] old clock new clock_after (same, unread) = ap (λ e. e.state.capacity) same
  all_back (item ∷ items) old clock new clock_after (mid, between, one, rest) = all_back items mid between new clock_after rest ∙ one_back item old clock mid between one
