-- What comes of the calls of a script: a run of the reference cache.
use Rattle.std.specs.Prelude.{◌≡◌, ℕ, ◌&&◌, nat_eq, nat_le, List, map, Option, unwrap_or}
use Rattle.std.specs.Int.{w128, to_be_bytes}
use Rattle.moka_types.specs.declared.calls.Reply.{Reply}
use Rattle.moka_types.specs.declared.policy.EvictionPolicy.{EvictionPolicy}
use Rattle.moka_types.specs.declared.policy.EvictionPolicy.TheVariants.{TinyLfu}
use Rattle.moka_types.specs.Policy.{Expirations}
use Rattle.moka_parts.specs.State.{State, Meaning, new_state}
use Rattle.moka_parts.specs.Housekeeping.{new_housekeeping}
use Rattle.moka_parts.specs.Runs.{Step, calls_of, replies_of, notices_of, readings_of, ids_of, last_state, AreSteps, Leads, PromisedRun}
use Rattle.moka_script.specs.declared.key_range.KeyRange.{KeyRange}
use Rattle.moka_script.specs.declared.print.Total.{Total}
use Rattle.moka_script.specs.declared.script.settings.KeeperTerms.{KeeperTerms}
use Rattle.moka_script.specs.declared.rules.Rule.{Rule}
use Rattle.moka_script.specs.declared.script.settings.Settings.{Settings}
use Rattle.moka_script.specs.Rules.{created_by, read_by, updated_by, expiry_of}
use Rattle.moka_script.specs.Settings.{Chosen}
use Rattle.moka_script.specs.declared.sources.CountedIds.{CountedIds}
use Rattle.moka_script.specs.declared.weigher.NumberWeigher.{NumberWeigher}
use Rattle.moka_script.specs.Notices.{ScriptNotice, Kept, Keeps}
use Rattle.moka_script.specs.Clock.{next_reading, readings_left}
use Rattle.moka_script.specs.Ids.{first_ids, next_given}
use Rattle.moka_script.specs.Calls.{told_call}
use Rattle.moka_script.specs.Script.{ScriptText}
use Rattle.moka_script.specs.Lex.{weight_of}

-- keys are numbers, values are words
abbrev pub ScriptState : Type 0
ScriptState = State ℕ (List ℕ) (List Rule) KeyRange NumberWeigher

abbrev pub ScriptStep : Type 0
ScriptStep = Step ℕ (List ℕ) (List Rule) KeyRange NumberWeigher

-- what the parts of a script mean
abbrev pub script_meaning : Meaning ℕ (List ℕ) (List Rule) Kept KeyRange NumberWeigher (List ℕ) CountedIds
script_meaning = record {
  eq = nat_eq;
  tells = Keeps;
  says = λ range key _ answer. answer ≡ (nat_le range.low key && nat_le key range.high);
  weighs = λ _ _ value weight. weight ≡ weight_of value;
  observes = λ before moment after. (moment.0 ≡ next_reading before) × (after ≡ readings_left before);
  gives = λ before id after. (after ≡ record before { given = next_given before })
      × (id ≡ to_be_bytes w128 after.given);
  created = created_by;
  read = read_by;
  updated = updated_by;
}

-- how the cache chooses what stays
abbrev pub chosen_policy : Settings → EvictionPolicy
chosen_policy settings = unwrap_or settings.policy TinyLfu

-- when its entries expire, in nanoseconds
abbrev pub expirations_of : Option ℕ → Option ℕ → List Rule → Expirations (List Rule)
expirations_of time_to_live time_to_idle rules =
    record { time_to_live = time_to_live; time_to_idle = time_to_idle; expiry = expiry_of rules }

-- the moment at which it is made
abbrev pub start_of : Settings → ℕ
start_of settings = unwrap_or settings.start 0

-- what the housekeeper gives to its runs
abbrev pub chosen_terms : Option KeeperTerms → KeeperTerms
chosen_terms keeper = unwrap_or keeper (record { limit = 100000000; repeats = 4; batch = 384 })

-- the cache that a script begins with; runs start by themselves if the script asks for it
abbrev pub first_state : Chosen → ScriptState
first_state chosen = record (new_state (record {
  policy = chosen_policy chosen.settings;
  time_to_live = chosen.settings.time_to_live;
  time_to_idle = chosen.settings.time_to_idle;
  expiry = expiry_of chosen.rules;
  weigher = chosen.settings.weigher;
  listening = chosen.settings.listener;
  invalidator = chosen.settings.invalidator;
  run_limit = (chosen_terms chosen.settings.keeper).limit;
  run_repeats = (chosen_terms chosen.settings.keeper).repeats;
  run_batch = (chosen_terms chosen.settings.keeper).batch;
}) chosen.settings.capacity (start_of chosen.settings) (unwrap_or chosen.settings.first 1)) {
  housekeeping =
      record (new_housekeeping (start_of chosen.settings)) { automatic = chosen.settings.automatic };
}

-- count and weight of the last run
abbrev pub total_of : ScriptState → Total
total_of state = record { count = state.count; weight = state.weight }

-- the calls, made one after the other on a new reference cache by the script's clock and identifiers, give the replies,
-- tell the notices and leave that total
abbrev pub AreReplies : ScriptText → List (Reply ℕ (List ℕ) KeyRange) → List ScriptNotice → Total → Type 0
AreReplies script replies notices total =
    (steps : List ScriptStep) × (map told_call (calls_of steps) ≡ script.2) × (replies_of steps ≡ replies)
    × (notices_of steps ≡ notices)
    × AreSteps script_meaning (PromisedRun script_meaning.says script_meaning.read) (first_state script.0) steps
    × ((left : List ℕ) × Leads script_meaning.observes script.1 (readings_of steps) left)
    × ((left : CountedIds) × Leads script_meaning.gives (first_ids script.0.settings.repeats_ids) (ids_of steps) left)
    × (total ≡ total_of (last_state (first_state script.0) steps))
