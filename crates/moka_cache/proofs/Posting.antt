-- A ticket is posted: the run that is due, and the send, which succeeds at once or after another run.
use Rattle.std.proofs.Common.{◌≡◌, refl, ℕ, Bool, true, false, true≢false, List, [], ◌∷◌, length, Option, None, Result, Ok, Err, ap, sym, subst, ◌∙◌, inl, inr, MatchBool}
use Rattle.std.specs.FinMap.{insert, empty}
use Rattle.moka_records.specs.declared.instant.Instant.{Instant}
use Rattle.moka_records.specs.declared.records.Operation.{Operation}
use Rattle.moka_records.specs.declared.records.Record.{Record}
use Rattle.moka_types.specs.declared.calls.Ticket.{Ticket}
use Rattle.moka_types.specs.declared.calls.Call.TheVariants as call
use Rattle.moka_types.specs.declared.calls.Reply.TheVariants as reply
use Rattle.moka_types.specs.declared.error.SendError.{SendError}
use Rattle.moka_types.specs.declared.error.SendError.TheVariants.{QueueFull}
use Rattle.moka_parts.specs.Notices.{Notice}
use Rattle.moka_parts.specs.State.{State, Meaning, Events, is_disabled}
use Rattle.moka_parts.specs.Maintenance.{Terms, Course, Freedom, DoesNothing, RunsBy, kept_by_choices}
use Rattle.moka_parts.specs.Surroundings.{Leads}
use Rattle.moka_parts.specs.Calls.{no_events, RunStep, RunsIfDue, SendStep}
use Rattle.moka_parts.specs.Runs.{Engine, Befalls}
use Rattle.moka_parts.specs.Listed.{ListedRun}
use Rattle.moka_laws.proofs.Kept.{kept_by_run, kept_by_due}
use Rattle.moka_laws.proofs.RunKeeps.{keeps_itself}
use Rattle.moka_cache.specs.Saves.{KeepsRecords, TakesOnlyExpired}
use Rattle.moka_calls.specs.Synchronous.{Made, Makes, Posts, own_run}
use Rattle.moka_cache.specs.Unsent.{IsHeld, AreOlder, HoldsUnsent, HidesNoMore}
use Rattle.moka_cache.proofs.Alike.{itself, then, none_kept, send_hides}
use Rattle.moka_cache.proofs.Keeping.{keeps_then, listed_run_keeps, send_keeps}
use Rattle.moka_cache.proofs.Lasting.{keeps_itself as lasts_itself, keeps_then as lasts_then, keeps_to as lasts_to, listed_run_lasts, send_lasts}
use Rattle.moka_calls.proofs.Made.{made_one, made_then}
use Rattle.moka_cache.proofs.Stays.{run_holds, send_holds}
use Rattle.moka_laws.proofs.Alike.{IsAlike, alike_itself, due_alike, listed_run_alike}
use Rattle.moka_cache.proofs.Waiting.{sent_alone, refused_alone, sent_when_empty, alone_in_order}

-- ---- what a run leaves

module _ {K V X P W : Type 0} (says : P → K → V → Bool → Type 0) (read : X → K → V → ℕ → Option ℕ → ℕ → Option ℕ) (before after : List ℕ)
    (s : State K V X P W) (terms : Terms) (course : Course) (notices : List (Notice K V)) (t : State K V X P W) where
  -- and empties the queue of writes of a map that is not disabled
  pub listed_run_empties : is_disabled s.capacity ≡ false → ListedRun says read before after s terms course notices t → t.writes ≡ []
  listed_run_empties on run = go _ (is_disabled s.capacity) on run.0
    where
      go : (More : Freedom → Type 0) (b : Bool) → b ≡ false → MatchBool b (DoesNothing s course notices t) ((ch : Freedom) × RunsBy says s terms ch course notices t × More ch) → t.writes ≡ []
      go More true off nothing = absurd (true≢false off)
      go More false on (ch, by, more) = ap (λ (x : State K V X P W). x.writes) by.1

  -- and holds a record of which only older operations are queued
  listed_run_holds_one : (n : ℕ) (r : Record K V) → ListedRun says read before after s terms course notices t → AreOlder n r s.writes → IsHeld n r s.records → IsHeld n r t.records × AreOlder n r t.writes
  listed_run_holds_one n r run older held = kept_by_run (λ (x : State K V X P W). IsHeld n r x.records × AreOlder n r x.writes) s t (held, older) _ says terms course notices (λ ch enabled free. (run_holds says n r s terms.now ch free older held, tt)) run.0

  pub listed_run_holds : ListedRun says read before after s terms course notices t → HoldsUnsent s t
  listed_run_holds run n r older held = (listed_run_holds_one n r run older held).0

  -- and hides no more
  listed_run_hides : ListedRun says read before after s terms course notices t → HidesNoMore s t
  listed_run_hides run = kept_by_run (HidesNoMore s) s t (itself s) _ says terms course notices
      (λ ch enabled free. record { settings = refl; bound = refl; predicates = λ none. ap (λ ps. kept_by_choices ps ch.steps) none ∙ none_kept ch.steps }) run.0

-- all that runs at a moment leave
pub record Leaves {K V X P W : Type 0} (weighs : W → K → V → ℕ → Type 0) (now : ℕ) (s t : State K V X P W) : Type 0 where
  pub alike : IsAlike s t
  pub holds : (n : ℕ) (r : Record K V) → AreOlder n r s.writes → IsHeld n r s.records → IsHeld n r t.records × AreOlder n r t.writes
  pub hides : HidesNoMore s t
  pub keeps : KeepsRecords s t
  pub lasts : TakesOnlyExpired weighs [] now s t

module _ {K V X P W : Type 0} (weighs : W → K → V → ℕ → Type 0) where
  leaves_itself : (now : ℕ) (s : State K V X P W) → Leaves weighs now s s
  leaves_itself now s = record { alike = alike_itself s; holds = λ n r older held. (held, older); hides = itself s; keeps = keeps_itself s.records; lasts = lasts_itself weighs [] now s }

  leaves_then : (now : ℕ) (s t u : State K V X P W) → Leaves weighs now s t → Leaves weighs now t u → Leaves weighs now s u
  leaves_then now s t u first second = record {
    alike = record { outstanding = second.alike.outstanding ∙ first.alike.outstanding; capacity = second.alike.capacity ∙ first.alike.capacity };
    holds = λ n r older held. (let mid = first.holds n r older held in second.holds n r mid.1 mid.0);
    hides = then s t u first.hides second.hides;
    keeps = keeps_then s.records t.records u.records first.keeps second.keeps;
    lasts = lasts_then weighs [] [] now s t u first.lasts second.lasts;
  }

  module _ (says : P → K → V → Bool → Type 0) (read : X → K → V → ℕ → Option ℕ → ℕ → Option ℕ) (before after : List ℕ) where
    leaves_run : (s : State K V X P W) (terms : Terms) (course : Course) (notices : List (Notice K V)) (t : State K V X P W) → ListedRun says read before after s terms course notices t → Leaves weighs terms.now s t
    leaves_run s terms course notices t run = record {
      alike = listed_run_alike says read before after s terms course notices t run;
      holds = λ n r older held. listed_run_holds_one says read before after s terms course notices t n r run older held;
      hides = listed_run_hides says read before after s terms course notices t run;
      keeps = listed_run_keeps says read before after s terms course notices t run;
      lasts = listed_run_lasts weighs says read before after s terms course notices t run;
    }

    -- the housekeeper's run, if one is due
    leaves_due : (s : State K V X P W) (queued now : ℕ) (e : Events K V) (t : State K V X P W) → RunsIfDue (ListedRun says read before after) s queued now e t → Leaves weighs now s t
    leaves_due s queued now e t step = kept_by_due (Leaves weighs now s) s t (leaves_itself now s) (ListedRun says read before after) queued now e
        (λ course mid housekeeping run.
        let left = leaves_run s _ course e.notices mid run in
        record {
          alike = record { outstanding = left.alike.outstanding; capacity = left.alike.capacity };
          holds = left.holds;
          hides = record { settings = left.hides.settings; bound = left.hides.bound; predicates = left.hides.predicates };
          keeps = left.keeps;
          lasts = lasts_to weighs [] now s mid (record mid { housekeeping = housekeeping }) (record { records = refl; access = refl; settings = refl; capacity = refl; bound = refl; predicates = refl; waits = λ o is. is }) left.lasts;
        }) step

-- ---- a ticket that is posted

module _ {K V S X L P W C : Type 0} (m : Meaning K V X L P W C (Unit {0})) where
  -- a send of the only operation that waits
  made_send : (mid new : Engine K V S X L P W) (clock : C) (ticket : Ticket) (o : Operation) → mid.state.outstanding ≡ insert empty ticket.0 o → (a : Result (Unit {0}) SendError) → SendStep mid.state ticket.0 a new.state → Befalls m.tells no_events mid new → Made m (call.Send ticket ∷ []) (reply.Send a ∷ []) mid clock new clock
  made_send mid new clock ticket o alone a step befell = made_one m mid new clock clock (call.Send ticket) (reply.Send a) no_events (step, refl) befell refl refl (alone_in_order mid.state ticket o alone)

  -- a run that a caller asks for
  pub made_run : (old new : Engine K V S X L P W) (clock clock_after : C) (now : Instant) (more : Bool) (e : Events K V) → RunStep (ListedRun m.says m.read old.write_list new.write_list) old.state (record { now = now.0; limit = None; batch = 384 }) more e new.state → Befalls m.tells e old new → Leads m.observes clock e.readings clock_after
      → Made m (own_run now ∷ []) (reply.Run more ∷ []) old clock new clock_after
  made_run old new clock clock_after now more e step befell read = made_one m old new clock clock_after (own_run now) (reply.Run more) e step befell read (ap (λ (x : Events K V). x.ids) step.3) tt

  -- the same of terms that turn out to be its own
  pub run_made : (old new : Engine K V S X L P W) (clock clock_after : C) (now : Instant) (terms : Terms) (more : Bool) (e : Events K V) → RunStep (ListedRun m.says m.read old.write_list new.write_list) old.state terms more e new.state → terms ≡ record { now = now.0; limit = None; batch = 384 } → Befalls m.tells e old new → Leads m.observes clock e.readings clock_after
      → Made m (own_run now ∷ []) (reply.Run more ∷ []) old clock new clock_after
  run_made old new clock clock_after now terms more e step own = made_run old new clock clock_after now more e (subst (λ t. RunStep (ListedRun m.says m.read old.write_list new.write_list) old.state t more e new.state) own step)

  module _ (now : Instant) (ticket : Ticket) (old : Engine K V S X L P W) (clock : C) where
    -- the ticket was posted: what was made, and what was left
    pub record IsPosted (new : Engine K V S X L P W) (clock_after : C) : Type 0 where
      pub made : Makes m (Posts now ticket) old clock new clock_after
      pub sent : new.state.outstanding ≡ empty
      pub holds : HoldsUnsent old.state new.state
      pub hides : HidesNoMore old.state new.state
      pub keeps : KeepsRecords old.state new.state
      pub lasts : TakesOnlyExpired m.weighs [] now.0 old.state new.state

    -- after runs comes the send that succeeds
    posted : (mid new : Engine K V S X L P W) (clock_after : C) (a : Result (Unit {0}) SendError) → Leaves m.weighs now.0 old.state mid.state → SendStep mid.state ticket.0 a new.state → new.state.outstanding ≡ empty → Makes m (Posts now ticket) old clock new clock_after → IsPosted new clock_after
    posted mid new clock_after a left step sent made = record {
      made = made;
      sent = sent;
      holds = λ n r older held. subst (IsHeld n r) (sym (send_holds mid.state ticket.0 a new.state step)) (left.holds n r older held).0;
      hides = then old.state mid.state new.state left.hides (send_hides mid.state ticket.0 a new.state step);
      keeps = keeps_then old.state.records mid.state.records new.state.records left.keeps (send_keeps mid.state ticket.0 a new.state step);
      lasts = lasts_then m.weighs [] [] now.0 old.state mid.state new.state left.lasts (send_lasts m.weighs now.0 mid.state ticket.0 a new.state step);
    }

    module _ (o : Operation) (alone : old.state.outstanding ≡ insert empty ticket.0 o) (mid : Engine K V S X L P W) (clock_mid : C)
        (e : Events K V) (due : RunsIfDue (ListedRun m.says m.read old.write_list mid.write_list) old.state (length old.state.writes) now.0 e mid.state) (befell : Befalls m.tells e old mid) (read : Leads m.observes clock e.readings clock_mid) where
      left : Leaves m.weighs now.0 old.state mid.state
      left = leaves_due m.weighs m.says m.read old.write_list mid.write_list old.state (length old.state.writes) now.0 e mid.state due

      ran : Made m (call.RunIfDue now ∷ []) (reply.RunIfDue ∷ []) old clock mid clock_mid
      ran = made_one m old mid clock clock_mid (call.RunIfDue now) reply.RunIfDue e due befell read
          (due_alike (ListedRun m.says m.read old.write_list mid.write_list) (listed_run_alike m.says m.read old.write_list mid.write_list) old.state (length old.state.writes) now.0 e mid.state due).1 tt

      still_alone : mid.state.outstanding ≡ insert empty ticket.0 o
      still_alone = left.alike.outstanding ∙ alone

      -- the queue has room
      pub posted_at_once : (u : Unit {0}) (new : Engine K V S X L P W) → SendStep mid.state ticket.0 (Ok u) new.state → Befalls m.tells no_events mid new → IsPosted new clock_mid
      posted_at_once u new step befell_send = posted mid new clock_mid (Ok u) left step (sent_alone mid.state ticket.0 o still_alone u new.state step) (
        call.RunIfDue now ∷ call.Send ticket ∷ [],
        reply.RunIfDue ∷ reply.Send (Ok tt) ∷ [],
        inl (refl, refl),
        made_then m (call.RunIfDue now ∷ []) (call.Send ticket ∷ []) (reply.RunIfDue ∷ []) (reply.Send (Ok u) ∷ []) old mid new clock clock_mid clock_mid ran (made_send mid new clock_mid ticket o still_alone (Ok u) step befell_send),
      )

      -- the queue is full, and a run empties it
      pub posted_after_run : is_disabled old.state.capacity ≡ false → (error : SendError) (full : Engine K V S X L P W) → SendStep mid.state ticket.0 (Err error) full.state → Befalls m.tells no_events mid full →
          (more : Bool) (f : Events K V) (emptied : Engine K V S X L P W) (clock_after : C) → RunStep (ListedRun m.says m.read full.write_list emptied.write_list) full.state (record { now = now.0; limit = None; batch = 384 }) more f emptied.state → Befalls m.tells f full emptied → Leads m.observes clock_mid f.readings clock_after →
          (a : Result (Unit {0}) SendError) (new : Engine K V S X L P W) → SendStep emptied.state ticket.0 a new.state → Befalls m.tells no_events emptied new → IsPosted new clock_after
      posted_after_run enabled error full refused befell_refused more f emptied clock_after run befell_run read_run a new step befell_send =
          let r = refused_alone mid.state ticket.0 o still_alone error full.state refused in
          let left_full : Leaves m.weighs now.0 old.state full.state = subst (Leaves m.weighs now.0 old.state) (sym r.2) left in
          let left_emptied : Leaves m.weighs now.0 old.state emptied.state = leaves_then m.weighs now.0 old.state full.state emptied.state left_full (leaves_run m.weighs m.says m.read full.write_list emptied.write_list full.state (record { now = now.0; limit = None; batch = 384 }) run.0 f.notices emptied.state run.1) in
          let alone_emptied : emptied.state.outstanding ≡ insert empty ticket.0 o = left_emptied.alike.outstanding ∙ alone in
          let room = listed_run_empties m.says m.read full.write_list emptied.write_list full.state (record { now = now.0; limit = None; batch = 384 }) run.0 f.notices emptied.state (ap is_disabled left_full.alike.capacity ∙ enabled) run.1 in
          let sent_step : SendStep emptied.state ticket.0 (Ok tt) new.state = subst (λ a. SendStep emptied.state ticket.0 a new.state) (sent_when_empty emptied.state ticket.0 o alone_emptied room a new.state step) step in
          let refused_step : SendStep mid.state ticket.0 (Err QueueFull) full.state = subst (λ x. SendStep mid.state ticket.0 (Err x) full.state) r.0 refused in
          let first = made_then m (call.RunIfDue now ∷ []) (call.Send ticket ∷ []) (reply.RunIfDue ∷ []) (reply.Send (Err QueueFull) ∷ []) old mid full clock clock_mid clock_mid ran (made_send mid full clock_mid ticket o still_alone (Err QueueFull) refused_step befell_refused) in
          let second = made_then m (own_run now ∷ []) (call.Send ticket ∷ []) (reply.Run more ∷ []) (reply.Send (Ok tt) ∷ []) full emptied new clock_mid clock_after clock_after (made_run full emptied clock_mid clock_after now more f run befell_run read_run) (made_send emptied new clock_after ticket o alone_emptied (Ok tt) sent_step befell_send) in
          posted emptied new clock_after (Ok tt) left_emptied sent_step (sent_alone emptied.state ticket.0 o alone_emptied tt new.state sent_step) (
            call.RunIfDue now ∷ call.Send ticket ∷ own_run now ∷ call.Send ticket ∷ [],
            reply.RunIfDue ∷ reply.Send (Err QueueFull) ∷ reply.Run more ∷ reply.Send (Ok tt) ∷ [],
            inr (more, refl, refl),
            made_then m (call.RunIfDue now ∷ call.Send ticket ∷ []) (own_run now ∷ call.Send ticket ∷ []) (reply.RunIfDue ∷ reply.Send (Err QueueFull) ∷ []) (reply.Run more ∷ reply.Send (Ok tt) ∷ []) old full new clock clock_mid clock_after first second,
          )
