-- What stays as it is: a cache to which nothing happens, one that is notified of alone, and what limits it in a removal.
use Rattle.std.proofs.Common.{◌≡◌, refl, ap, subst, ◌∙◌, Bool, List, [], Option, Some, None}
use Rattle.moka_types.specs.declared.calls.KvEntry.{KvEntry}
use Rattle.moka_types.specs.declared.calls.Ticket.{Ticket}
use Rattle.moka_parts.specs.declared.notification.RemovalCause.{RemovalCause}
use Rattle.moka_records.specs.declared.records.Record.{Record}
use Rattle.moka_parts.specs.Notices.{Notice}
use Rattle.moka_records.specs.Records.{record_of_key}
use Rattle.moka_parts.specs.State.{State, Meaning}
use Rattle.moka_parts.specs.Maintenance.{Terms, Course}
use Rattle.moka_parts.specs.Surroundings.{Heard}
use Rattle.moka_parts.specs.Calls.{no_events, only_notices, RemovesAt, RemoveStep}
use Rattle.moka_parts.specs.Runs.{Engine, Befalls, MakesCalls}

-- who is told nothing stays the same
pub nothing_heard : {K V L : Type 0} (tells : L → K → V → RemovalCause → L → Type 0) (l : Option L) → Heard tells l [] l
nothing_heard tells None = refl
nothing_heard tells (Some l) = refl

-- who is told nothing hears the same by any telling
pub unheard : {K V L : Type 0} (told tells : L → K → V → RemovalCause → L → Type 0) (a b : Option L) → Heard told a [] b → Heard tells a [] b
unheard told tells None None h = refl
unheard told tells (Some a) (Some b) h = h
unheard told tells None (Some b) h = absurd h
unheard told tells (Some a) None h = absurd h

-- where nothing happens, nobody is told
pub befalls-nothing : {K V S X L P W : Type 0} (tells : L → K → V → RemovalCause → L → Type 0) (c : Engine K V S X L P W) → Befalls tells no_events c c
befalls-nothing tells c = record { kept = refl; heard = nothing_heard tells c.listener; passes = refl; listed = λ none. refl }

module _ {K V S X L P W C I : Type 0} (m : Meaning K V X L P W C I) where
  -- before the first call
  pub no_calls : (Runs : State K V X P W → Terms → Course → List (Notice K V) → State K V X P W → Type 0) (c : Engine K V S X L P W) (clock : C) (ids : I) → MakesCalls m Runs [] [] [] c clock ids c clock ids
  no_calls Runs c clock ids = record { calls_made = refl; replies_given = refl; are_steps = tt; ends = refl; heard = nothing_heard m.tells c.listener; read = refl; given = refl }

-- who was told nothing is still the same
pub heard_nothing : {K V L : Type 0} (tells : L → K → V → RemovalCause → L → Type 0) (l m : Option L) → Heard tells l [] m → m ≡ l
heard_nothing tells None None h = refl
heard_nothing tells (Some l) (Some m) h = ap Some h
heard_nothing tells None (Some m) h = absurd h
heard_nothing tells (Some l) None h = absurd h

-- where nothing happened before the notices, they are all that befalls the cache
pub befalls_then : {K V S X L P W : Type 0} (tells : L → K → V → RemovalCause → L → Type 0) (ns : List (Notice K V)) (old mid new : Engine K V S X L P W) → Befalls tells no_events old mid → Befalls tells (only_notices ns) mid new → Befalls tells (only_notices ns) old new
befalls_then {K} {V} {S} {X} {L} {P} {W} tells ns old mid new before after =
    let name : mid.name ≡ old.name = ap (λ (c : Engine K V S X L P W). c.name) before.kept in
    let hasher : mid.hasher ≡ old.hasher = ap (λ (c : Engine K V S X L P W). c.hasher) before.kept in
    record {
      kept =
          after.kept
          ∙ ap (λ n. record mid { name = n; state = new.state; listener = new.listener; write_list = new.write_list; passes = new.passes; room = new.room }) name
          ∙ ap (λ h. record old { hasher = h; state = new.state; listener = new.listener; write_list = new.write_list; passes = new.passes; room = new.room }) hasher;
      heard = subst (λ l. Heard tells l ns new.listener) (heard_nothing tells old.listener mid.listener before.heard) after.heard;
      passes = after.passes ∙ before.passes;
      listed = λ none. after.listed none ∙ before.listed refl;
    }

-- a removal keeps the settings and the capacity
pub removal_keeps : {K V X P W : Type 0} (eq : K → K → Bool) (s t : State K V X P W) (key : K) (a : Option (KvEntry K V × Ticket)) → RemoveStep eq s key a t → (t.settings ≡ s.settings) × (t.capacity ≡ s.capacity)
removal_keeps {K} {V} {X} {P} {W} eq s t key a step = go (record_of_key eq s.records key) step
  where
    go : (o : Option (Record K V)) → RemovesAt s o a t → (t.settings ≡ s.settings) × (t.capacity ≡ s.capacity)
    go None h = (ap (λ (x : State K V X P W). x.settings) h.1, ap (λ (x : State K V X P W). x.capacity) h.1)
    go (Some r) h = (ap (λ (x : State K V X P W). x.settings) h.1, ap (λ (x : State K V X P W). x.capacity) h.1)
