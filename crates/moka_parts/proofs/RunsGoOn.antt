-- A run of the reference cache goes on by one call.
use Rattle.std.proofs.Common.{ℕ, Bool, MatchBool, true, false, ◌≡◌, refl, List, [], ◌∷◌, ◌++◌, Option, Some, None, ap, sym, ◌∙◌, append-nil, flat_map}
use Rattle.std.proofs.lemmas.List.{map_push}
use Rattle.moka_parts.proofs.Types.{Call, Reply, RemovalCause, Notice, State, Meaning, Terms, Course, Freedom, Engine, Step}
use Rattle.moka_parts.specs.State.{is_disabled}
use Rattle.moka_parts.specs.Maintenance.{RunsBy, DoesNothing, MaintenanceRun}
use Rattle.moka_parts.specs.Bounds.{HasBounds}
use Rattle.moka_parts.specs.Surroundings.{Leads, NoticeStep, Heard}
use Rattle.moka_parts.specs.Runs.{PromisedRun, Befalls, CallStep, AreSteps, MakesCalls, passes_after, last_passes, last_state, notices_of, readings_of, ids_of}
use Rattle.std.proofs.lemmas.Grind.{flat_map-append}

-- steps after steps
pub Leads-append : {S A : Type 0} (step : S → A → S → Type 0) (a b c : S) (xs ys : List A) → Leads step a xs b → Leads step b ys c → Leads step a (xs ++ ys) c
Leads-append step a b c [] ys h k = rw (← h) k
Leads-append step a b c (x ∷ xs) ys h k = (h.0, h.1, Leads-append step h.0 b c xs ys h.2 k)

-- notices after notices
pub Heard-append : {K V L : Type 0} (tells : L → K → V → RemovalCause → L → Type 0) (a b c : Option L) (xs ys : List (Notice K V)) → Heard tells a xs b → Heard tells b ys c → Heard tells a (xs ++ ys) c
Heard-append tells None None None xs ys h k = rw (h, k) refl
Heard-append tells (Some a) (Some b) (Some c) xs ys h k = Leads-append (NoticeStep tells) a b c xs ys h k
Heard-append tells None None (Some c) xs ys h k = absurd k
Heard-append tells None (Some b) c xs ys h k = absurd h
Heard-append tells (Some a) None c xs ys h k = absurd h
Heard-append tells (Some a) (Some b) None xs ys h k = absurd k

flat_map_push : {A B : Type 0} (f : A → List B) (xs : List A) (x : A) → flat_map f (xs ++ x ∷ []) ≡ flat_map f xs ++ f x
flat_map_push f xs x = flat_map-append f xs (x ∷ []) ∙ ap (λ zs. flat_map f xs ++ zs) (append-nil (f x))

module _ {K V X P W : Type 0} where
  last_state_push : (s : State K V X P W) (xs : List (Step K V X P W)) (x : Step K V X P W) → last_state s (xs ++ x ∷ []) ≡ x.after
  last_state_push s [] x = refl
  last_state_push s (y ∷ xs) x = last_state_push y.after xs x

  last_passes_push : (before : ℕ) (xs : List (Step K V X P W)) (x : Step K V X P W) → last_passes before (xs ++ x ∷ []) ≡ passes_after (last_passes before xs) x.events.passes
  last_passes_push before [] x = refl
  last_passes_push before (y ∷ xs) x = last_passes_push (passes_after before y.events.passes) xs x

module _ {K V X L P W C I : Type 0} (m : Meaning K V X L P W C I) (Runs : State K V X P W → Terms → Course → List (Notice K V) → State K V X P W → Type 0) where
  -- one more step
  pub AreSteps_push : (s : State K V X P W) (xs : List (Step K V X P W)) (x : Step K V X P W) → AreSteps m Runs s xs → CallStep m Runs (last_state s xs) x.call x.reply x.events x.after → AreSteps m Runs s (xs ++ x ∷ [])
  AreSteps_push s [] x h k = (k, tt)
  AreSteps_push s (y ∷ xs) x h k = (h.0, AreSteps_push y.after xs x h.1 k)

-- one more call
pub MakesCalls_push : {K V S X L P W C I : Type 0} (m : Meaning K V X L P W C I) (Runs : State K V X P W → Terms → Course → List (Notice K V) → State K V X P W → Type 0) (calls : List (Call K V P)) (replies : List (Reply K V P)) (steps : List (Step K V X P W)) (old mid new : Engine K V S X L P W) (c1 c2 c3 : C) (i1 i2 i3 : I) (x : Step K V X P W) →
    MakesCalls m Runs calls replies steps old c1 i1 mid c2 i2 → CallStep m Runs mid.state x.call x.reply x.events x.after → x.after ≡ new.state →
    Befalls m.tells x.events mid new → Leads m.observes c2 x.events.readings c3 → Leads m.gives i2 x.events.ids i3 →
    MakesCalls m Runs (calls ++ x.call ∷ []) (replies ++ x.reply ∷ []) (steps ++ x ∷ []) old c1 i1 new c3 i3
MakesCalls_push m Runs calls replies steps old mid new c1 c2 c3 i1 i2 i3 x h k same befalls read given =
    let state : mid.state ≡ last_state old.state steps = ap (λ c. c.state) h.ends in
    let name : mid.name ≡ old.name = ap (λ c. c.name) h.ends in
    let hasher : mid.hasher ≡ old.hasher = ap (λ c. c.hasher) h.ends in
    let passes : new.passes ≡ last_passes old.passes (steps ++ x ∷ []) = befalls.passes ∙ ap (λ p. passes_after p x.events.passes) (ap (λ c. c.passes) h.ends) ∙ sym (last_passes_push old.passes steps x) in
    let after : new.state ≡ last_state old.state (steps ++ x ∷ []) = sym same ∙ sym (last_state_push old.state steps x) in
    record {
      calls_made = map_push (λ (x : Step _ _ _ _ _). x.call) steps x ∙ ap (λ cs. cs ++ x.call ∷ []) h.calls_made;
      replies_given = map_push (λ (x : Step _ _ _ _ _). x.reply) steps x ∙ ap (λ rs. rs ++ x.reply ∷ []) h.replies_given;
      are_steps = AreSteps_push m Runs old.state steps x h.are_steps (rw (← state) k);
      ends = befalls.kept ∙ ap (λ n. record mid { name = n; state = new.state; listener = new.listener; write_list = new.write_list; passes = new.passes; room = new.room }) name ∙ ap (λ h. record old { hasher = h; state = new.state; listener = new.listener; write_list = new.write_list; passes = new.passes; room = new.room }) hasher ∙ ap (λ s. record old { state = s; listener = new.listener; write_list = new.write_list; passes = new.passes; room = new.room }) after ∙ ap (λ p. record old { state = last_state old.state (steps ++ x ∷ []); listener = new.listener; write_list = new.write_list; passes = p; room = new.room }) passes;
      heard = rw (flat_map_push (λ x. x.events.notices) steps x) (Heard-append m.tells old.listener mid.listener new.listener (notices_of steps) x.events.notices h.heard befalls.heard);
      read = rw (flat_map_push (λ x. x.events.readings) steps x) (Leads-append m.observes c1 c2 c3 (readings_of steps) x.events.readings h.read read);
      given = rw (flat_map_push (λ x. x.events.ids) steps x) (Leads-append m.gives i1 i2 i3 (ids_of steps) x.events.ids h.given given);
    }

-- a run that keeps its promises is a run of the reference cache
pub promised_is_run : {K V X P W : Type 0} (says : P → K → V → Bool → Type 0) (read : X → K → V → ℕ → Option ℕ → ℕ → Option ℕ) (s : State K V X P W) (terms : Terms) (course : Course) (ns : List (Notice K V)) (t : State K V X P W) → PromisedRun says read s terms course ns t → MaintenanceRun says s terms course ns t
promised_is_run says read s terms course ns t h = (
  elim (is_disabled s.capacity) as (λ b. MatchBool b (DoesNothing s course ns t) ((ch : Freedom) × RunsBy says s terms ch course ns t × HasBounds says read s terms ch course) → MatchBool b (DoesNothing s course ns t) ((ch : Freedom) × RunsBy says s terms ch course ns t × Unit {0})) [
    | true ↦ λ h. h
    | false ↦ λ x. (x.0, x.1, tt)
  ] h.0,
  tt,
)
