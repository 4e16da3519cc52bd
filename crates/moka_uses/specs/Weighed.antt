-- Texts weighed by their bytes.
use Rattle.std.specs.Prelude.{◌≡◌, ◌==◌, ℕ, Bool, String, min, Some, None, Ok}
use Rattle.std.specs.String.{string_len}
use Rattle.moka_engine.specs.parts.Call.TheVariants as call
use Rattle.moka_engine.specs.parts.EvictionPolicy.TheVariants.{Lru}
use Rattle.moka_engine.specs.parts.Instant.{Instant}
use Rattle.moka_engine.specs.parts.Reply.TheVariants as reply
use Rattle.moka_engine.specs.parts.Ticket.{Ticket}
use Rattle.moka_engine.specs.declared.NoExpiry.{NoExpiry}
use Rattle.moka_engine.specs.declared.NoListener.{NoListener}
use Rattle.moka_engine.specs.declared.NoPredicate.{NoPredicate}
use Rattle.moka_engine.specs.Config.{Config, chosen_settings, default_config}
use Rattle.moka_engine.specs.State.{Meaning, State, new_state}
use Rattle.moka_uses.specs.Made.{IsOneStep, engine_meaning}
use Rattle.moka_uses.specs.declared.weighed.ByLength.{ByLength}

-- what the cache is made with: room for 1,000 bytes
abbrev pub config : Config NoExpiry NoListener ByLength
config = record default_config { max_capacity = Some 1_000; policy = Lru; weigher = Some (record {}) }

-- its states
abbrev pub Texts : Type 0 → Type 0
Texts Z = State ℕ (String Z) NoExpiry NoPredicate ByLength

module _ {Z : Type 0} where
  -- what its parts mean: a text weighs its bytes
  abbrev pub meaning : Meaning ℕ (String Z) NoExpiry NoListener NoPredicate ByLength (Unit {0}) (Unit {0})
  meaning = record (engine_meaning (λ a b. a == b)) {
    weighs = λ _ _ text weight. weight ≡ min (string_len text) 4_294_967_295;
  }

  -- an insert of the text under the key, and a send of its operation
  abbrev pub Puts : ℕ → String Z → Texts Z → Texts Z → Type 0
  Puts key text s t = (mid : Texts Z) × (hash : ℕ) × (given : Ticket × Instant)
      × IsOneStep meaning s mid (call.Insert key hash text (record { 0 = 0 })) (reply.Insert (Ok given))
      × IsOneStep meaning mid t (call.Send given.0) (reply.Send (Ok tt))

  -- both texts were put into a new cache in turn, and a run made: this is the weight that it reports
  abbrev pub IsWeightKept : String Z → String Z → ℕ → Type 0
  IsWeightKept one other weight = (begun first both ran : Texts Z) × (left : Bool)
      × (begun ≡ new_state (chosen_settings config) config.max_capacity 0 config.first_ticket)
      × Puts 1 one begun first × Puts 2 other first both
      × IsOneStep meaning both ran (call.Run (record { 0 = 0 }) None 1 384) (reply.Run left)
      × (weight ≡ ran.weight)
