-- What was made goes on: one call, and calls after calls.
use Rattle.std.proofs.Common.{◌≡◌, refl, ℕ, List, [], ◌∷◌, ◌++◌, map, Option, Some, None, Ok, Err, ap, sym, subst, ◌∙◌}
use Rattle.std.proofs.lemmas.List.{map-append}
use Rattle.std.proofs.lemmas.Grind.{flat_map-append}
use Rattle.uuid.specs.declared.Uuid.{Uuid}
use Rattle.moka_parts.specs.declared.notification.RemovalCause.{RemovalCause}
use Rattle.moka_records.specs.declared.instant.Instant.{Instant}
use Rattle.moka_types.specs.declared.calls.Call.{Call}
use Rattle.moka_types.specs.declared.calls.Call.TheVariants as call
use Rattle.moka_types.specs.declared.calls.Reply.{Reply}
use Rattle.moka_types.specs.declared.calls.Reply.TheVariants as reply
use Rattle.moka_parts.specs.Calls.{no_events}
use Rattle.moka_parts.specs.Notices.{Notice}
use Rattle.moka_parts.specs.State.{State, Meaning, Events}
use Rattle.moka_parts.specs.Maintenance.{Terms, Course}
use Rattle.moka_parts.specs.Surroundings.{Leads, NoticeStep, Heard}
use Rattle.moka_parts.specs.Runs.{Engine, Befalls, CallStep, Step, AreSteps, MakesCalls, PromisedRun, passes_after, last_passes, last_state, notices_of, readings_of, ids_of}
use Rattle.moka_parts.specs.Listed.{ListedRun, ListedStep, AreListedSteps}
use Rattle.moka_parts.proofs.RunsGoOn.{Leads-append, Heard-append, MakesCalls_push}
use Rattle.moka_laws.proofs.OrderedDrive.{listed_call_promised}
use Rattle.moka_laws.proofs.Quiet.{no_calls}
use Rattle.moka_calls.specs.Synchronous.{Made, MadeAsking, IsSentInOrder, AreSentInOrder}

-- ---- calls

module _ {K V S X L P W C I : Type 0} (m : Meaning K V X L P W C I) where
  -- one call was made
  pub asked_one : (old new : Engine K V S X L P W) (clock clock_after : C) (ids ids_after : I) (c : Call K V P) (r : Reply K V P) (e : Events K V) → CallStep m (ListedRun m.says m.read old.write_list new.write_list) old.state c r e new.state → Befalls m.tells e old new → Leads m.observes clock e.readings clock_after → Leads m.gives ids e.ids ids_after
      → IsSentInOrder old.state c → MadeAsking m (c ∷ []) (r ∷ []) old clock ids new clock_after ids_after
  asked_one old new clock clock_after ids ids_after c r e step befalls read given sent =
      let x : Step K V X P W = record { call = c; reply = r; events = e; after = new.state } in
      let listed : ListedStep m old.state old.write_list x new.write_list = (step, befalls.listed) in
      let promised = listed_call_promised m old.state old.write_list new.write_list x listed in
      record {
        steps = x ∷ [];
        is_run = MakesCalls_push m (PromisedRun m.says m.read) [] [] [] old old new clock clock clock_after ids ids ids_after x (no_calls m (PromisedRun m.says m.read) old clock ids) promised refl befalls read given;
        listed = (new.write_list, listed, refl);
        in_order = (sent, tt);
      }

module _ {K V S X L P W C : Type 0} (m : Meaning K V X L P W C (Unit {0})) where
  -- no call was made
  pub made_nothing : (c : Engine K V S X L P W) (clock : C) → Made m [] [] c clock c clock
  made_nothing c clock = record { steps = []; is_run = no_calls m (PromisedRun m.says m.read) c clock tt; listed = refl; in_order = tt }

  -- nor if nothing befell the cache
  pub made_none : (old new : Engine K V S X L P W) (clock : C) → new.state ≡ old.state → Befalls m.tells no_events old new → Made m [] [] old clock new clock
  made_none old new clock same befalls = record {
    steps = [];
    is_run = record {
      calls_made = refl;
      replies_given = refl;
      are_steps = tt;
      ends = befalls.kept ∙ ap (λ s. record old { state = s; listener = new.listener; write_list = new.write_list; passes = new.passes; room = new.room }) same
          ∙ ap (λ p. record old { listener = new.listener; write_list = new.write_list; passes = p; room = new.room }) befalls.passes;
      heard = befalls.heard;
      read = refl;
      given = refl;
    };
    listed = befalls.listed refl;
    in_order = tt;
  }

  -- one that asks for no identifiers
  pub made_one : (old new : Engine K V S X L P W) (clock clock_after : C) (c : Call K V P) (r : Reply K V P) (e : Events K V) → CallStep m (ListedRun m.says m.read old.write_list new.write_list) old.state c r e new.state → Befalls m.tells e old new → Leads m.observes clock e.readings clock_after → e.ids ≡ [] → IsSentInOrder old.state c
      → Made m (c ∷ []) (r ∷ []) old clock new clock_after
  made_one old new clock clock_after c r e step befalls read unasked sent = asked_one m old new clock clock_after tt tt c r e step befalls read (subst (λ ids. Leads m.gives tt ids tt) (sym unasked) refl) sent

-- ---- calls after calls

module _ {K V X P W : Type 0} where
  last_state-append : (s : State K V X P W) (xs ys : List (Step K V X P W)) → last_state s (xs ++ ys) ≡ last_state (last_state s xs) ys
  last_state-append s [] ys = refl
  last_state-append s (x ∷ xs) ys = last_state-append x.after xs ys

  last_passes-append : (before : ℕ) (xs ys : List (Step K V X P W)) → last_passes before (xs ++ ys) ≡ last_passes (last_passes before xs) ys
  last_passes-append before [] ys = refl
  last_passes-append before (x ∷ xs) ys = last_passes-append (passes_after before x.events.passes) xs ys

  pub sent-append : (s : State K V X P W) (xs ys : List (Step K V X P W)) → AreSentInOrder s xs → AreSentInOrder (last_state s xs) ys → AreSentInOrder s (xs ++ ys)
  sent-append s [] ys h k = k
  sent-append s (x ∷ xs) ys h k = (h.0, sent-append x.after xs ys h.1 k)

module _ {K V X L P W C I : Type 0} (m : Meaning K V X L P W C I) where
  steps-append : (Runs : State K V X P W → Terms → Course → List (Notice K V) → State K V X P W → Type 0) (s : State K V X P W) (xs ys : List (Step K V X P W)) → AreSteps m Runs s xs → AreSteps m Runs (last_state s xs) ys → AreSteps m Runs s (xs ++ ys)
  steps-append Runs s [] ys h k = k
  steps-append Runs s (x ∷ xs) ys h k = (h.0, steps-append Runs x.after xs ys h.1 k)

  pub listed-append : (s : State K V X P W) (before mid last : List ℕ) (xs ys : List (Step K V X P W)) → AreListedSteps m s before xs mid → AreListedSteps m (last_state s xs) mid ys last → AreListedSteps m s before (xs ++ ys) last
  listed-append s before mid last [] ys same k = subst (λ ns. AreListedSteps m s ns ys last) same k
  listed-append s before mid last (x ∷ xs) ys (after, first, rest) k = (after, first, listed-append x.after after mid last xs ys rest k)

  -- calls after calls
  pub calls-append : {S : Type 0} (Runs : State K V X P W → Terms → Course → List (Notice K V) → State K V X P W → Type 0) (cs ds : List (Call K V P)) (rs ss : List (Reply K V P)) (xs ys : List (Step K V X P W)) (old mid new : Engine K V S X L P W) (c1 c2 c3 : C) (i1 i2 i3 : I) →
      MakesCalls m Runs cs rs xs old c1 i1 mid c2 i2 → MakesCalls m Runs ds ss ys mid c2 i2 new c3 i3 → MakesCalls m Runs (cs ++ ds) (rs ++ ss) (xs ++ ys) old c1 i1 new c3 i3
  calls-append Runs cs ds rs ss xs ys old mid new c1 c2 c3 i1 i2 i3 h k =
      let state : mid.state ≡ last_state old.state xs = ap (λ c. c.state) h.ends in
      let name : mid.name ≡ old.name = ap (λ c. c.name) h.ends in
      let hasher : mid.hasher ≡ old.hasher = ap (λ c. c.hasher) h.ends in
      let passes : last_passes mid.passes ys ≡ last_passes old.passes (xs ++ ys) = ap (λ p. last_passes p ys) (ap (λ c. c.passes) h.ends) ∙ sym (last_passes-append old.passes xs ys) in
      let after : last_state mid.state ys ≡ last_state old.state (xs ++ ys) = ap (λ s. last_state s ys) state ∙ sym (last_state-append old.state xs ys) in
      record {
        calls_made = map-append (λ x. x.call) xs ys ∙ ap (λ zs. zs ++ map (λ x. x.call) ys) h.calls_made ∙ ap (λ zs. cs ++ zs) k.calls_made;
        replies_given = map-append (λ x. x.reply) xs ys ∙ ap (λ zs. zs ++ map (λ x. x.reply) ys) h.replies_given ∙ ap (λ zs. rs ++ zs) k.replies_given;
        are_steps = steps-append Runs old.state xs ys h.are_steps (subst (λ s. AreSteps m Runs s ys) state k.are_steps);
        ends = k.ends ∙ ap (λ n. record mid { name = n; state = last_state mid.state ys; listener = new.listener; write_list = new.write_list; passes = last_passes mid.passes ys; room = new.room }) name
            ∙ ap (λ h. record old { hasher = h; state = last_state mid.state ys; listener = new.listener; write_list = new.write_list; passes = last_passes mid.passes ys; room = new.room }) hasher
            ∙ ap (λ s. record old { state = s; listener = new.listener; write_list = new.write_list; passes = last_passes mid.passes ys; room = new.room }) after
            ∙ ap (λ p. record old { state = last_state old.state (xs ++ ys); listener = new.listener; write_list = new.write_list; passes = p; room = new.room }) passes;
        heard = rw (flat_map-append (λ (x : Step K V X P W). x.events.notices) xs ys) (Heard-append m.tells old.listener mid.listener new.listener (notices_of xs) (notices_of ys) h.heard k.heard);
        read = rw (flat_map-append (λ (x : Step K V X P W). x.events.readings) xs ys) (Leads-append m.observes c1 c2 c3 (readings_of xs) (readings_of ys) h.read k.read);
        given = rw (flat_map-append (λ (x : Step K V X P W). x.events.ids) xs ys) (Leads-append m.gives i1 i2 i3 (ids_of xs) (ids_of ys) h.given k.given);
      }

module _ {K V S X L P W C I : Type 0} (m : Meaning K V X L P W C I) where
  -- what was made after what was made
  pub asked_then : (cs ds : List (Call K V P)) (rs ss : List (Reply K V P)) (old mid new : Engine K V S X L P W) (c1 c2 c3 : C) (i1 i2 i3 : I) → MadeAsking m cs rs old c1 i1 mid c2 i2 → MadeAsking m ds ss mid c2 i2 new c3 i3 → MadeAsking m (cs ++ ds) (rs ++ ss) old c1 i1 new c3 i3
  asked_then cs ds rs ss old mid new c1 c2 c3 i1 i2 i3 h k =
      let state : mid.state ≡ last_state old.state h.steps = ap (λ c. c.state) h.is_run.ends in
      record {
        steps = h.steps ++ k.steps;
        is_run = calls-append m (PromisedRun m.says m.read) cs ds rs ss h.steps k.steps old mid new c1 c2 c3 i1 i2 i3 h.is_run k.is_run;
        listed = listed-append m old.state old.write_list mid.write_list new.write_list h.steps k.steps h.listed (subst (λ s. AreListedSteps m s mid.write_list k.steps new.write_list) state k.listed);
        in_order = sent-append old.state h.steps k.steps h.in_order (subst (λ s. AreSentInOrder s k.steps) state k.in_order);
      }

module _ {K V S X L P W C : Type 0} (m : Meaning K V X L P W C (Unit {0})) where
  -- the same where no identifiers are asked for
  pub made_then : (cs ds : List (Call K V P)) (rs ss : List (Reply K V P)) (old mid new : Engine K V S X L P W) (c1 c2 c3 : C) → Made m cs rs old c1 mid c2 → Made m ds ss mid c2 new c3 → Made m (cs ++ ds) (rs ++ ss) old c1 new c3
  made_then cs ds rs ss old mid new c1 c2 c3 h k = asked_then m cs ds rs ss old mid new c1 c2 c3 tt tt tt h k

-- ---- another way of telling, by which a listener may hear more

module _ {K V L : Type 0} (told tells : L → K → V → RemovalCause → L → Type 0) (more : (l : L) (k : K) (v : V) (cause : RemovalCause) (after : L) → told l k v cause after → tells l k v cause after) where
  leads_more : (a b : L) (ns : List (Notice K V)) → Leads (NoticeStep told) a ns b → Leads (NoticeStep tells) a ns b
  leads_more a b [] h = h
  leads_more a b (n ∷ ns) (mid, step, rest) = (mid, more a n.0 n.1 n.2 mid step, leads_more mid b ns rest)

  heard_more : (a b : Option L) (ns : List (Notice K V)) → Heard told a ns b → Heard tells a ns b
  heard_more None None ns h = h
  heard_more (Some a) (Some b) ns h = leads_more a b ns h
  heard_more None (Some b) ns h = absurd h
  heard_more (Some a) None ns h = absurd h

module _ {K V X L P W C I D J : Type 0} (m : Meaning K V X L P W C I) (tells : L → K → V → RemovalCause → L → Type 0) (observes : D → Instant → D → Type 0) (gives : J → Uuid → J → Type 0) where
  -- the same, with another way of telling, another clock and another source of identifiers, on none of which a step
  -- depends
  abbrev pub otherwise : Meaning K V X L P W D J
  otherwise = record { eq = m.eq; tells = tells; says = m.says; weighs = m.weighs; observes = observes; gives = gives; created = m.created; read = m.read; updated = m.updated }

  step_otherwise : (Runs : State K V X P W → Terms → Course → List (Notice K V) → State K V X P W → Type 0) (s t : State K V X P W) (c : Call K V P) (r : Reply K V P) (e : Events K V) → CallStep m Runs s c r e t → CallStep otherwise Runs s c r e t
  step_otherwise Runs s t (call.Insert key hash value now) (reply.Insert a) e h = h
  step_otherwise Runs s t (call.Insert key hash value now) (reply.Disabled k v) e h = h
  step_otherwise Runs s t (call.Send ticket) (reply.Send a) e h = h
  step_otherwise Runs s t (call.Get key hash need_key now) (reply.Get a) e h = h
  step_otherwise Runs s t (call.GetUnrecorded key hash now) (reply.GetUnrecorded a) e h = h
  step_otherwise Runs s t (call.Contains key hash now) (reply.Contains shown) e h = h
  step_otherwise Runs s t (call.Key key hash) (reply.Key a) e h = h
  step_otherwise Runs s t (call.Scan key now) (reply.Scan a) e h = h
  step_otherwise Runs s t (call.Remove key hash now) (reply.Remove removed told) e h = h
  step_otherwise Runs s t (call.InvalidateAll now) reply.InvalidateAll e h = h
  step_otherwise Runs s t (call.InvalidateIf predicate now) (reply.InvalidateIf a) e h = h
  step_otherwise Runs s t (call.Run now limit repeats batch) (reply.Run left) e h = h
  step_otherwise Runs s t (call.RunIfDue now) reply.RunIfDue e h = h
  step_otherwise Runs s t call.DisableAutoRun reply.DisableAutoRun e h = h
  step_otherwise Runs s t (call.Keys segment) (reply.Keys (Ok (Some keys))) e h = h
  step_otherwise Runs s t (call.Keys segment) (reply.Keys (Ok None)) e h = h
  step_otherwise Runs s t (call.Keys segment) (reply.Keys (Err refused)) e h = h
  step_otherwise Runs s t call.Report (reply.Report count weight predicates) e h = h
  step_otherwise Runs s t call.Pending (reply.Pending handed oldest writes reads) e h = h
  step_otherwise Runs s t (call.SetCapacity capacity) (reply.SetCapacity a) e h = h
  step_otherwise Runs s t c r e h = absurd h

  steps_otherwise : (Runs : State K V X P W → Terms → Course → List (Notice K V) → State K V X P W → Type 0) (s : State K V X P W) (xs : List (Step K V X P W)) → AreSteps m Runs s xs → AreSteps otherwise Runs s xs
  steps_otherwise Runs s [] h = tt
  steps_otherwise Runs s (x ∷ xs) h = (step_otherwise Runs s x.after x.call x.reply x.events h.0, steps_otherwise Runs x.after xs h.1)

  listed_otherwise : (s : State K V X P W) (before last : List ℕ) (xs : List (Step K V X P W)) → AreListedSteps m s before xs last → AreListedSteps otherwise s before xs last
  listed_otherwise s before last [] h = h
  listed_otherwise s before last (x ∷ xs) (after, step, rest) = (after, (step_otherwise (ListedRun m.says m.read before after) s x.after x.call x.reply x.events step.0, step.1), listed_otherwise x.after after last xs rest)

  -- what was made, where this was heard, read and given otherwise
  pub made_otherwise : {S : Type 0} (calls : List (Call K V P)) (replies : List (Reply K V P)) (old new : Engine K V S X L P W) (clock clock_after : C) (ids ids_after : I) (own own_after : D) (source source_after : J) → (h : MadeAsking m calls replies old clock ids new clock_after ids_after)
      → Heard tells old.listener (notices_of h.steps) new.listener → Leads observes own (readings_of h.steps) own_after → Leads gives source (ids_of h.steps) source_after → MadeAsking otherwise calls replies old own source new own_after source_after
  made_otherwise calls replies old new clock clock_after ids ids_after own own_after source source_after h heard read given = record {
    steps = h.steps;
    is_run = record { calls_made = h.is_run.calls_made; replies_given = h.is_run.replies_given; are_steps = steps_otherwise (PromisedRun m.says m.read) old.state h.steps h.is_run.are_steps; ends = h.is_run.ends; heard = heard; read = read; given = given };
    listed = listed_otherwise old.state old.write_list new.write_list h.steps h.listed;
    in_order = h.in_order;
  }

module _ {K V S X L P W C : Type 0} (m : Meaning K V X L P W C (Unit {0})) (tells : L → K → V → RemovalCause → L → Type 0) (more : (l : L) (k : K) (v : V) (cause : RemovalCause) (after : L) → m.tells l k v cause after → tells l k v cause after) where
  -- what befalls a cache
  pub befalls_more : (e : Events K V) (old new : Engine K V S X L P W) → Befalls m.tells e old new → Befalls tells e old new
  befalls_more e old new h = record { kept = h.kept; heard = heard_more m.tells tells more old.listener new.listener e.notices h.heard; passes = h.passes; listed = h.listed }

  -- what was made
  pub made_more : (calls : List (Call K V P)) (replies : List (Reply K V P)) (old new : Engine K V S X L P W) (clock clock_after : C) → Made m calls replies old clock new clock_after → Made (record m { tells = tells }) calls replies old clock new clock_after
  made_more calls replies old new clock clock_after h = made_otherwise m tells m.observes m.gives calls replies old new clock clock_after tt tt clock clock_after tt tt h (heard_more m.tells tells more old.listener new.listener (notices_of h.steps) h.is_run.heard) h.is_run.read h.is_run.given
