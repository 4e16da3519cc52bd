-- How the engines and the caches that are driven are made.
use Rattle.std.specs.Prelude.{Bool, Some, if◌then◌else◌}
use Rattle.moka_engine.specs.parts.EvictionPolicy.TheVariants.{Lru, TinyLfu}
use Rattle.moka_parts.specs.Housekeeping.{without_automatic}
use Rattle.moka_parts.specs.State.{State}
use Rattle.moka_engine.specs.Config as engine
use Rattle.moka_engine.specs.Config.{default_config, new_engine}
use Rattle.moka_bench.specs.declared.config.Config.{Config}

-- what an engine is made with for these settings, but for an expiry, a listener and a weigher
abbrev pub plain_config : {X L W : Type 0} → Config → engine.Config X L W
plain_config c = record default_config {
  max_capacity = c.max_capacity;
  initial_capacity = Some c.initial_capacity;
  policy = if c.is_lru then Lru else TinyLfu;
  time_to_live = c.time_to_live;
  time_to_idle = c.time_to_idle;
}

-- an empty engine at the moment 0, which starts runs by itself if that is asked for
abbrev pub made_with : {K V S X L P W : Type 0} → engine.Config X L W → S → Bool → State K V X P W
made_with {K} {V} {S} {X} {L} {P} {W} given hasher is_automatic =
    let s : State K V X P W = (new_engine given hasher 0 0).state in
    if is_automatic then s else record s { housekeeping = without_automatic s.housekeeping }
