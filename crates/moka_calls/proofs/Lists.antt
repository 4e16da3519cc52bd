-- Lists of calls that a cache made.
use Rattle.std.proofs.Common.{refl, List, [], ◌∷◌, subst, sym, inl, inr}
use Rattle.std.specs.Cmp.{IsEquivalence}
use Rattle.moka_parts.specs.declared.notification.RemovalCause.{RemovalCause}
use Rattle.moka_types.specs.declared.calls.Call.{Call}
use Rattle.moka_types.specs.declared.calls.Call.TheVariants as call
use Rattle.moka_types.specs.declared.calls.Reply.TheVariants as reply
use Rattle.moka_parts.specs.Calls.{no_events}
use Rattle.moka_parts.specs.State.{State, Meaning}
use Rattle.moka_parts.specs.Order.{IsOrderly}
use Rattle.moka_parts.specs.Runs.{Step, AreOrderly}
use Rattle.moka_laws.proofs.OrderedDrive.{drives_in_order, empty_in_order, listed_steps_orderly}
use Rattle.moka_calls.specs.Synchronous.{IsSentInOrder, AreSentInOrder, hears_clones}
use Rattle.moka_calls.specs.Laws.{IsTimely, AreTimely, GoesOn, InsertsAreInTime, KeepsPromises, MadeRunsAgeOut, RunsAgeOutInTime, HearsClones, HearsThemselves, InvalidateAllIsMade, SetMaxCapacityIsMade}
use Rattle.moka_laws.proofs.Promises.{is_of_reference}
use Rattle.moka_calls.proofs.InTime.{are_timely, none_written}
use Rattle.moka_calls.proofs.Made.{made_one, made_then, made_more}

module _ {K V X P W : Type 0} where
  orderly : (s : State K V X P W) (c : Call K V P) → IsTimely s c → IsSentInOrder s c → IsOrderly s c
  orderly s (call.Insert key hash value now) timely sent = timely
  orderly s (call.Send ticket) timely sent = sent
  orderly s c timely sent = tt

  all_orderly : (s : State K V X P W) (xs : List (Step K V X P W)) → AreTimely s xs → AreSentInOrder s xs → AreOrderly s xs
  all_orderly s [] timely sent = tt
  all_orderly s (x ∷ xs) timely sent = (orderly s x.call timely.0 sent.0, all_orderly x.after xs timely.1 sent.1)

module _ {K V X L P W C : Type 0} (S : Type 0) (m : Meaning K V X L P W C (Unit {0})) where
  pub goes_on : GoesOn S m
  goes_on calls later replies answers old mid new c1 c2 c3 h k = made_then m calls later replies answers old mid new c1 c2 c3 h k

  pub invalidates_all : InvalidateAllIsMade S m
  invalidates_all now old new clock step befalls = made_one m old new clock clock (call.InvalidateAll now) reply.InvalidateAll no_events (step, refl) befalls refl refl tt

  pub sets_max_capacity : SetMaxCapacityIsMade S m
  sets_max_capacity capacity answer old new clock step befalls = made_one m old new clock clock (call.SetCapacity capacity) (reply.SetCapacity answer) no_events (step, refl) befalls refl refl tt

  pub keeps_promises : IsEquivalence m.eq → KeepsPromises S m
  keeps_promises laws calls replies old new clock clock_after valid listed made = drives_in_order m calls replies made.steps old new clock clock_after tt tt laws valid listed made.is_run made.listed

  pub ages_out : IsEquivalence m.eq → MadeRunsAgeOut S m
  ages_out laws calls replies old new clock clock_after valid empty listed made timely =
      listed_steps_orderly m old.state old.write_list new.write_list made.steps laws valid (λ kept. empty_in_order old.state old.write_list empty (listed kept)) (all_orderly old.state made.steps timely made.in_order) made.listed

  pub ages_out_in_time : IsEquivalence m.eq → RunsAgeOutInTime S m
  ages_out_in_time laws calls replies old new clock clock_after valid empty listed rise made =
      ages_out laws calls replies old new clock clock_after valid empty listed made (are_timely m laws old.state made.steps 0 valid (is_of_reference S m calls replies made.steps old new clock clock_after tt tt made.is_run).are_steps (subst (InsertsAreInTime 0) (sym made.is_run.calls_made) rise) (none_written old.state empty))

  module _ (is_key_clone : K → K → Type 0) (is_value_clone : V → V → Type 0) where
    pub hears_more : HearsClones S m is_key_clone is_value_clone
    hears_more calls replies old new clock clock_after made = made_more m (hears_clones is_key_clone is_value_clone m.tells) (λ l k v cause after step. inl step) calls replies old new clock clock_after made

    pub hears_themselves : HearsThemselves S m is_key_clone is_value_clone
    hears_themselves keys values calls replies old new clock clock_after made =
        made_more (record m { tells = hears_clones is_key_clone is_value_clone m.tells }) m.tells itself calls replies old new clock clock_after made
      where
        itself : (l : L) (k : K) (v : V) (cause : RemovalCause) (after : L) → hears_clones is_key_clone is_value_clone m.tells l k v cause after → m.tells l k v cause after
        itself l k v cause after (inl step) = step
        itself l k v cause after (inr (key, value, same_key, same_value, step)) = subst (λ x. m.tells l x v cause after) (keys k key same_key) (subst (λ x. m.tells l key x cause after) (values v value same_value) step)
