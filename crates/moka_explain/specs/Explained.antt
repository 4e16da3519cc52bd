-- What explains the reply to a call.
use Rattle.std.specs.Prelude.{◌≡◌, ℕ, Bool, List, [], ◌∷◌, length, map, Contains, IsPermutation, Some, None, if◌then◌else◌}
use Rattle.std.specs.List.{AllByRecursion}
use Rattle.std.specs.List.Sorted.{IsNonDecreasing}
use Rattle.std.specs.FinMap.{get, values}
use Rattle.std.proofs.Common.{BuildHasherDefault, FoldHasher}
use Rattle.moka_types.specs.declared.calls.Call.TheVariants as call
use Rattle.moka_types.specs.declared.calls.Reply.{Reply}
use Rattle.moka_records.specs.declared.instant.Instant.{Instant}
use Rattle.moka_records.specs.declared.records.Record.{Record}
use Rattle.moka_parts.specs.Drives.{Drives}
use Rattle.moka_parts.specs.Maintenance.{Freedom, AreFree, at_end, left_in_run}
use Rattle.moka_parts.specs.Runs.{Engine}
use Rattle.moka_parts.specs.State.{State}
use Rattle.moka_parts.specs.Visibility.{IsVisible}
use Rattle.moka_parts.specs.Writes.{leaves_for_size}
use Rattle.moka_script.specs.declared.key_range.KeyRange.{KeyRange}
use Rattle.moka_script.specs.declared.rules.Rule.{Rule}
use Rattle.moka_script.specs.declared.sources.CountedIds.{CountedIds}
use Rattle.moka_script.specs.declared.weigher.NumberWeigher.{NumberWeigher}
use Rattle.moka_script.specs.declared.script.Script.{Script}
use Rattle.moka_script.specs.Calls.{CallText}
use Rattle.moka_script.specs.Ids.{first_ids}
use Rattle.moka_script.specs.Notices.{Kept}
use Rattle.moka_script.specs.Text.{IsInOrder}
use Rattle.moka_play.specs.Played.{ScriptState, first_state, script_meaning}
use Rattle.moka_explain.specs.declared.look.Look.{Look}
use Rattle.moka_explain.specs.declared.explain.Question.{Question}
use Rattle.moka_explain.specs.declared.explain.Question.TheVariants as question
use Rattle.moka_explain.specs.declared.explain.Queued.{Queued}
use Rattle.moka_explain.specs.declared.explain.Fates.{Fates}
use Rattle.moka_explain.specs.declared.explain.Answer.{Answer}
use Rattle.moka_explain.specs.declared.explain.Answer.TheVariants as answer
use Rattle.moka_explain.specs.declared.explain.Explained.{Explained}
use Rattle.moka_explain.specs.declared.explain.Surroundings.{Surroundings}
use Rattle.moka_explain.specs.Grounds.{HasGroundForRoom}
use Rattle.moka_explain.specs.Looks.{IsLook}

-- what is worth asking about a call; if runs start by themselves, a get may make one
abbrev pub question_of : Bool → CallText → Question
question_of automatic (call.Get key hash need_key now) = if automatic
    then question.Both key now else question.Key key now
question_of automatic (call.GetUnrecorded key hash now) = question.Key key now
question_of automatic (call.Contains key hash now) = question.Key key now
question_of automatic (call.Scan key now) = question.Key key now
question_of automatic (call.Run now limit repeats batch) = question.All now
question_of automatic (call.RunIfDue now) = question.All now
question_of automatic (call.InvalidateAll now) = question.All now
question_of automatic (call.InvalidateIf predicate now) = question.All now
question_of automatic c = question.Nothing

-- how many operations are queued
abbrev pub queued_in : ScriptState → Queued
queued_in s = record { writes = length s.writes; reads = length s.reads }

-- the keys of all records of the first state, each once and in rising order, and what is known of them in both
pub record Tells (s t : ScriptState) (now : ℕ) (before after : List Look) : Type 0 where
  pub keys : IsPermutation (map (λ r. r.key) (values s.records)) (map (λ (l : Look). l.key) before)
  pub rising : IsNonDecreasing (map (λ (l : Look). l.key) before)
  pub same : map (λ (l : Look). l.key) after ≡ map (λ (l : Look). l.key) before
  pub before_call : AllByRecursion (IsLook s now) before
  pub after_call : AllByRecursion (IsLook t now) after

-- what became of all keys, seen at the moment, and of the queues, under this capacity
abbrev pub AreFates : Instant → ScriptState → ScriptState → Fates → Type 0
AreFates now s t fates = (fates.now ≡ now) × (fates.capacity ≡ s.capacity)
    × Tells s t now.0 fates.before.items fates.after.items × (fates.queued_before ≡ queued_in s)
    × (fates.queued_after ≡ queued_in t)

-- what was known of the key before the call
abbrev pub IsMet : ℕ → Instant → ScriptState → Look → Type 0
IsMet key now s look = (look.key ≡ key) × IsLook s now.0 look

-- the answer to a question about a call that leads from the first state to the second
abbrev pub IsAnswer : Question → ScriptState → ScriptState → Answer → Type 0
IsAnswer (question.Key key now) s t (answer.Met look) = IsMet key now s look
IsAnswer (question.All now) s t (answer.Became fates) = AreFates now s t fates
IsAnswer (question.Both key now) s t (answer.MetAndBecame look fates) = IsMet key now s look × AreFates now s t fates
IsAnswer question.Nothing s t answer.Nothing = Unit {0}
IsAnswer q s t a = ⊥

-- ---- why an entry left that was visible

-- a run at the moment leads to these records, and the notice of the record in it says that it left to make room, on a
-- ground: by eviction, if its last write had been applied before, and else by that or as its own write was rejected
abbrev pub LeavesForRoom : {K V X P W : Type 0} → (P → K → V → Bool → Type 0) → State K V X P W → State K V X P W → ℕ →
    Record K V → Type 0
LeavesForRoom says s t now r = (ch : Freedom) × AreFree says s now ch × (t.records ≡ (at_end s ch).records)
    × Contains (left_in_run s ch) (leaves_for_size r) × HasGroundForRoom s ch r

-- each record that was visible at the moment and is gone left to make room
abbrev pub MakesRoom : ℕ → ScriptState → ScriptState → Type 0
MakesRoom now s t = (n : ℕ) (r : Record ℕ (List ℕ)) → get s.records n ≡ Some r → IsVisible script_meaning.says s r now
    → get t.records n ≡ None → LeavesForRoom script_meaning.says s t now r

-- so it is in the runs that a script asks for
abbrev pub IsMadeRoomFor : CallText → ScriptState → ScriptState → Type 0
IsMadeRoomFor (call.Run now limit repeats batch) s t = MakesRoom now.0 s t
IsMadeRoomFor (call.RunIfDue now) s t = MakesRoom now.0 s t
IsMadeRoomFor c s t = Unit {0}

-- ---- a list of calls

-- where a script stands between two calls: its cache, what its clock has left, and the identifiers that it gave
pub record Point (S : Type 0) : Type 0 where
  pub cache : Engine ℕ (List ℕ) S (List Rule) Kept KeyRange NumberWeigher
  pub clock : List ℕ
  pub ids : CountedIds

abbrev pub point_of : {S : Type 0} → Engine ℕ (List ℕ) S (List Rule) Kept KeyRange NumberWeigher → Surroundings →
    Point S
point_of cache outside = record { cache = cache; clock = outside.clock; ids = outside.ids }

module _ {S : Type 0} (automatic : Bool) where
  -- a call was made, as by `drive`, and explained
  pub record IsExplained (c : CallText) (explained : Explained) (s t : Point S) : Type 0 where
    pub given : Reply ℕ (List ℕ) KeyRange
    pub in_order : IsInOrder given explained.reply
    pub made : Drives script_meaning (c ∷ []) (given ∷ []) s.cache s.clock s.ids t.cache t.clock t.ids
    pub answer : IsAnswer (question_of automatic c) s.cache.state t.cache.state explained.answer
    pub room : IsMadeRoomFor c s.cache.state t.cache.state

  -- so was each, one after the other
  abbrev pub AreExplained : List CallText → List Explained → Point S → Point S → Type 0
  AreExplained [] [] s t = t ≡ s
  AreExplained (c ∷ calls) (x ∷ all) s t = (between : Point S) × IsExplained c x s between
      × AreExplained calls all between t
  AreExplained calls all s t = ⊥

-- the calls of a script were made and explained, one after the other, on the cache that its settings ask for
abbrev pub IsScriptExplained : Script → List Explained → Type 0
IsScriptExplained script all = (s : Point (BuildHasherDefault FoldHasher)) × (t : Point (BuildHasherDefault FoldHasher))
    × (s.cache.state ≡ first_state (record { settings = script.settings; rules = script.rules.items }))
    × (s.clock ≡ script.clock.items) × (s.ids ≡ first_ids script.settings.repeats_ids)
    × AreExplained script.settings.automatic script.calls.items all s t
