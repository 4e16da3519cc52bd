-- What stands beneath a reply, as it is printed.
use Rattle.std.specs.Prelude.{ℕ, ◌-◌, ◌==◌, Bool, true, false, not, ◌&&◌, ◌||◌, List, [], ◌++◌, Option, Some, None, Ok, is_none, codes, decimal, nat_lt, if◌then◌else◌}
use Rattle.std.specs.List.{flat_map, list_any, zip}
use Rattle.uuid.specs.Text.{lower, hyphenated_text}
use Rattle.moka_records.specs.declared.instant.Instant.{Instant}
use Rattle.moka_types.specs.declared.calls.Reply.{Reply}
use Rattle.moka_types.specs.declared.calls.Reply.TheVariants.{Get}
use Rattle.moka_types.specs.declared.policy.EvictionPolicy.{EvictionPolicy}
use Rattle.moka_types.specs.declared.policy.EvictionPolicy.TheVariants.{Lru, TinyLfu}
use Rattle.moka_engine.specs.declared.base_cache.Sight.{Sight}
use Rattle.moka_engine.specs.declared.base_cache.Sight.TheVariants.{Absent, Expired, PastTimeToLive, PastTimeToIdle, Invalidated, Covered, Visible}
use Rattle.moka_script.specs.declared.key_range.KeyRange.{KeyRange}
use Rattle.moka_script.specs.Text.{reply_text}
use Rattle.moka_explain.specs.declared.look.Look.{Look}
use Rattle.moka_explain.specs.declared.explain.Queued.{Queued}
use Rattle.moka_explain.specs.declared.explain.Fates.{Fates}
use Rattle.moka_explain.specs.declared.explain.Answer.{Answer}
use Rattle.moka_explain.specs.declared.explain.Answer.TheVariants as answer
use Rattle.moka_explain.specs.declared.explain.Explained.{Explained}
use Rattle.moka_explain.specs.declared.text.Leaving.{Leaving}
use Rattle.moka_explain.specs.declared.text.FateText.{FateText}

-- ---- what a look-up meets

abbrev pub sight_text : Sight → List ℕ
sight_text Absent = codes "no entry"
sight_text Expired = codes "expired by its own expiry"
sight_text PastTimeToLive = codes "past its time to live"
sight_text PastTimeToIdle = codes "past its time to idle"
sight_text Invalidated = codes "from before the invalidation of all"
sight_text (Covered id) = codes "covered by the predicate " ++ hyphenated_text lower id
sight_text Visible = codes "visible"

-- of a key, as a line
abbrev pub met_text : Look → List ℕ
met_text look = codes "  " ++ (decimal look.key ++ (codes ": " ++ (sight_text look.sight ++ codes "\n")))

-- ---- how many operations a call applied

-- how many reads a get that was replied to so has queued
abbrev pub reads_queued_by : Reply ℕ (List ℕ) KeyRange → ℕ
reads_queued_by (Get (Ok found)) = 1
reads_queued_by reply = 0

-- those that were queued before and are not after, but for so many reads that the call then queued
abbrev pub applied_in : Fates → ℕ → Queued
applied_in fates queued_reads = record {
  writes = fates.queued_before.writes - fates.queued_after.writes;
  reads = fates.queued_before.reads - (fates.queued_after.reads - queued_reads);
}

-- whether there are any
abbrev pub is_any : Queued → Bool
is_any applied = nat_lt 0 applied.writes || nat_lt 0 applied.reads

-- with the moment of the call, as a line
abbrev pub applied_text : Instant → Queued → List ℕ
applied_text now applied = if is_any applied
    then codes "  at " ++ (decimal now.0 ++ (codes ": writes applied " ++ (decimal applied.writes
    ++ (codes ", reads applied " ++ (decimal applied.reads ++ codes "\n")))))
    else codes "  at " ++ (decimal now.0 ++ codes ": nothing applied\n")

-- ---- what became of a key

-- a weight is greater than a bound
abbrev pub is_above : Option ℕ → Option ℕ → Bool
is_above (Some weight) (Some bound) = nat_lt bound weight
is_above weight bound = false

-- a last write that is known, and known to be applied
abbrev pub is_applied : Option Bool → Bool
is_applied (Some applied) = applied
is_applied None = false

-- why an entry of this weight left to make room whose last write had not been applied
abbrev pub admission_text : EvictionPolicy → Bool → List ℕ
admission_text Lru has_older = codes "let in, and evicted to make room"
admission_text TinyLfu has_older = if has_older
    then codes "not admitted by TinyLFU"
    else codes "not admitted by TinyLFU, or let in and evicted"

abbrev pub reason_text : Leaving → Option ℕ → List ℕ
reason_text leaving weight = if is_above weight leaving.capacity
    then codes "heavier than the capacity"
    else admission_text leaving.policy leaving.has_older

-- why a key that was visible has no record any more
abbrev pub departure_text : FateText → List ℕ
departure_text fate = if fate.is_hit
    then codes "removed, to make room, or expired or invalidated through the hit"
    else if is_none fate.leaving.capacity
    then codes "removed, expired or invalidated at the moment of the run"
    else if is_applied fate.before.applied
    then codes "evicted, to make room"
    else reason_text fate.leaving fate.before.weight

-- a key is visible as before
abbrev pub stay_text : FateText → List ℕ
stay_text fate = if is_applied fate.after.applied then codes "kept" else codes "kept, its last write is not applied"

-- a key is hidden as before
abbrev pub hidden_text : FateText → List ℕ
hidden_text fate = if is_applied fate.after.applied
    then codes "still in the map"
    else codes "still in the map until its last write is applied"

-- what was met before and what is met after tell which of these is said
abbrev pub change_text : FateText → Sight → Sight → List ℕ
change_text fate Visible Absent = departure_text fate
change_text fate Visible Visible = stay_text fate
change_text fate Visible after = codes "hidden now, " ++ sight_text after
change_text fate before Absent = codes "removed, " ++ sight_text before
change_text fate before Visible = codes "visible again"
change_text fate before after = hidden_text fate ++ (codes ", " ++ sight_text after)

abbrev pub fate_text : FateText → List ℕ
fate_text fate = change_text fate fate.before.sight fate.after.sight

-- ---- the lines beneath a reply

-- the key that a look-up may have hit
abbrev pub is_hit : Option ℕ → ℕ → Bool
is_hit (Some hit) key = hit == key
is_hit None key = false

-- of what is known of a key before and after the call
abbrev pub fate_line : Leaving → Option ℕ → Look × Look → List ℕ
fate_line leaving hit pair = codes "  " ++ (decimal pair.0.key ++ (codes ": " ++ (fate_text (record {
  before = pair.0;
  after = pair.1;
  is_hit = is_hit hit pair.0.key;
  leaving = leaving;
}) ++ codes "\n")))

-- a line for each key
abbrev pub fate_lines : Leaving → Option ℕ → List (Look × Look) → List ℕ
fate_lines leaving hit pairs = flat_map (fate_line leaving hit) pairs

-- the key has no record
abbrev pub is_none_met : Sight → Bool
is_none_met Absent = true
is_none_met sight = false

abbrev pub is_absent : Look → Bool
is_absent look = is_none_met look.sight

-- some key has no record any more
abbrev pub has_any_gone : List Look → Bool
has_any_gone after = list_any is_absent after

-- a key stays whose last write had been applied before
abbrev pub is_stayed : Look × Look → Bool
is_stayed pair = is_applied pair.0.applied && not (is_absent pair.1)

-- what was known of each key before the call, with what is known after it
abbrev pub pairs_of : Fates → List (Look × Look)
pairs_of fates = zip fates.before.items fates.after.items

-- of several writes one that came late may move an entry behind those that are let in
abbrev pub leaving_of : Fates → EvictionPolicy → Leaving
leaving_of fates policy = record {
  capacity = fates.capacity;
  policy = policy;
  has_older = (applied_in fates 0).writes == 1 && list_any is_stayed (pairs_of fates);
}

-- what a call applied, and what became of each key
abbrev pub became_text : Fates → EvictionPolicy → Queued → Option ℕ → List ℕ
became_text fates policy applied hit =
    applied_text fates.now applied ++ fate_lines (leaving_of fates policy) hit (pairs_of fates)

-- the same of a call that looked a key up first, if it applied or removed anything
abbrev pub behind_text : Look → Fates → EvictionPolicy → Queued → List ℕ
behind_text look fates policy applied = if is_any applied || has_any_gone fates.after.items
    then became_text fates policy applied (Some look.key)
    else []

-- what explains a reply
abbrev pub answer_text : Reply ℕ (List ℕ) KeyRange → Answer → EvictionPolicy → List ℕ
answer_text reply (answer.Met look) policy = met_text look
answer_text reply (answer.Became fates) policy = became_text fates policy (applied_in fates 0) None
answer_text reply (answer.MetAndBecame look fates) policy =
    met_text look ++ behind_text look fates policy (applied_in fates (reads_queued_by reply))
answer_text reply answer.Nothing policy = []

-- a reply, and beneath it what explains it
abbrev pub explained_text : Explained → EvictionPolicy → List ℕ
explained_text explained policy =
    reply_text explained.reply ++ (codes "\n" ++ answer_text explained.reply explained.answer policy)

-- the same of each, one after the other
abbrev pub explained_texts : List Explained → EvictionPolicy → List ℕ
explained_texts all policy = flat_map (λ explained. explained_text explained policy) all
