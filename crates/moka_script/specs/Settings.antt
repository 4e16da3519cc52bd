-- What the settings of a script say.
use Rattle.std.specs.Prelude.{ℕ, Bool, ◌==◌, true, false, List, [], ◌∷◌, Option, Some, None, option_map, codes, if◌then◌else◌}
use Rattle.std.specs.Str.{bytes_eq}
use Rattle.moka_types.specs.declared.policy.EvictionPolicy.{EvictionPolicy}
use Rattle.moka_types.specs.declared.policy.EvictionPolicy.TheVariants.{TinyLfu, Lru}
use Rattle.moka_script.specs.declared.rules.Question.{Question}
use Rattle.moka_script.specs.declared.rules.Question.TheVariants.{Create, Read, Update}
use Rattle.moka_script.specs.declared.rules.Rule.{Rule}
use Rattle.moka_script.specs.declared.script.settings.Settings.{Settings}
use Rattle.moka_script.specs.declared.script.settings.Setting.{Setting}
use Rattle.moka_script.specs.declared.script.settings.Setting.TheVariants.{First, Capacity, Policy, TimeToLive, TimeToIdle, Weigh, Listener, Invalidator, RepeatedIds, Start, Keeper, Auto}
use Rattle.moka_script.specs.Lex.{key_at, number_of, number_or_none, lone_number, alone, ◌>>=◌}

-- the ticket of that number, which is not 0
abbrev pub ticket_of : ℕ → Option ℕ
ticket_of n = if n == 0 then None else Some n

-- the housekeeper's terms that three words say
abbrev pub keeper_terms : List ℕ → List ℕ → List ℕ → Option Setting
keeper_terms limit repeats batch = do
  l ← number_of 64 limit
  r ← number_of 32 repeats
  b ← number_of 32 batch
  Some (Keeper (record { limit = l; repeats = r; batch = b }))

-- `keeper LIMIT REPEATS BATCH`
abbrev pub keeper_of : List (List ℕ) → Option Setting
keeper_of (limit ∷ repeats ∷ batch ∷ []) = keeper_terms limit repeats batch
keeper_of _ = None

-- the policy of that name
abbrev pub policy_named : List ℕ → Option EvictionPolicy
policy_named name =
    if bytes_eq name (codes "lru") then Some Lru
    else (if bytes_eq name (codes "tinylfu") then Some TinyLfu
    else None)

-- `policy NAME`
abbrev pub policy_of : List (List ℕ) → Option Setting
policy_of (name ∷ []) = do
  policy ← policy_named name
  Some (Policy policy)
policy_of _ = None

-- how identifiers are given
abbrev pub ids_given : List ℕ → Option Setting
ids_given how = if bytes_eq how (codes "repeat") then Some RepeatedIds else None

-- `ids HOW`
abbrev pub ids_of : List (List ℕ) → Option Setting
ids_of (how ∷ []) = ids_given how
ids_of _ = None

-- the setting of that name to a number
abbrev pub numbered_setting : List ℕ → ℕ → Option Setting
numbered_setting name n =
    if bytes_eq name (codes "first") then option_map First (ticket_of n)
    else (if bytes_eq name (codes "capacity") then Some (Capacity n)
    else (if bytes_eq name (codes "ttl") then Some (TimeToLive n)
    else (if bytes_eq name (codes "tti") then Some (TimeToIdle n)
    else (if bytes_eq name (codes "start") then Some (Start n)
    else None))))

-- the setting of that name
abbrev pub setting_of : List ℕ → List (List ℕ) → Option Setting
setting_of name arguments =
    if bytes_eq name (codes "policy") then policy_of arguments
    else (if bytes_eq name (codes "weigh") then alone (Weigh (record {})) arguments
    else (if bytes_eq name (codes "listener") then alone Listener arguments
    else (if bytes_eq name (codes "invalidator") then alone Invalidator arguments
    else (if bytes_eq name (codes "ids") then ids_of arguments
    else (if bytes_eq name (codes "keeper") then keeper_of arguments
    else (if bytes_eq name (codes "auto") then alone Auto arguments
    else lone_number arguments >>= numbered_setting name))))))

-- the question of that name
abbrev pub question_named : List ℕ → Option Question
question_named name =
    if bytes_eq name (codes "create") then Some Create
    else (if bytes_eq name (codes "read") then Some Read
    else (if bytes_eq name (codes "update") then Some Update
    else None))

-- the rule that four words say
abbrev pub rule_said : List ℕ → List ℕ → List ℕ → List ℕ → Option Rule
rule_said question key moment answer = do
  q ← question_named question
  asked ← key_at key moment
  a ← number_or_none answer
  Some (record { question = q; key = asked.0; moment = asked.1.0; answer = a })

-- `expire QUESTION KEY MOMENT ANSWER`
abbrev pub rule_of : List (List ℕ) → Option Rule
rule_of (question ∷ key ∷ moment ∷ answer ∷ []) = rule_said question key moment answer
rule_of _ = None

-- the rule of a line of that name
abbrev pub rule_line : List ℕ → List (List ℕ) → Option Rule
rule_line name arguments = if bytes_eq name (codes "expire") then rule_of arguments else None

-- what a script chooses: its settings, and the rules of its expiry in order
pub record Chosen : Type 0 where
  pub settings : Settings
  pub rules : List Rule

-- nothing is set
abbrev pub no_settings : Settings
no_settings = record {
  first = None;
  capacity = None;
  policy = None;
  time_to_live = None;
  time_to_idle = None;
  weigher = None;
  listener = false;
  invalidator = false;
  repeats_ids = false;
  start = None;
  keeper = None;
  automatic = false;
}

-- a place is filled at most once
abbrev pub filled : {A : Type 0} → Option A → A → Option (Option A)
filled None value = Some (Some value)
filled (Some _) value = None

-- a flag is raised at most once
abbrev pub raised : Bool → Option Bool
raised flag = if flag then None else Some true

-- a setting stands at most once
abbrev pub put_in : Settings → Setting → Option Settings
put_in settings (First first) = option_map (λ place. record settings { first = place }) (filled settings.first first)
put_in settings (Capacity capacity) =
    option_map (λ place. record settings { capacity = place }) (filled settings.capacity capacity)
put_in settings (Policy policy) =
    option_map (λ place. record settings { policy = place }) (filled settings.policy policy)
put_in settings (TimeToLive nanos) =
    option_map (λ place. record settings { time_to_live = place }) (filled settings.time_to_live nanos)
put_in settings (TimeToIdle nanos) =
    option_map (λ place. record settings { time_to_idle = place }) (filled settings.time_to_idle nanos)
put_in settings (Weigh weigher) =
    option_map (λ place. record settings { weigher = place }) (filled settings.weigher weigher)
put_in settings Listener = option_map (λ flag. record settings { listener = flag }) (raised settings.listener)
put_in settings Invalidator = option_map (λ flag. record settings { invalidator = flag }) (raised settings.invalidator)
put_in settings RepeatedIds = option_map (λ flag. record settings { repeats_ids = flag }) (raised settings.repeats_ids)
put_in settings (Start now) = option_map (λ place. record settings { start = place }) (filled settings.start now)
put_in settings (Keeper keeper) =
    option_map (λ place. record settings { keeper = place }) (filled settings.keeper keeper)
put_in settings Auto = option_map (λ flag. record settings { automatic = flag }) (raised settings.automatic)
