-- What holds of a new cache.
use Rattle.std.proofs.Common.{◌≡◌, refl, ℕ, Bool, List, [], Option, None, is_some, ap, sym, subst, ◌∙◌}
use Rattle.moka_parts.specs.declared.housekeeper.HousekeeperConfig.{HousekeeperConfig}
use Rattle.moka_types.specs.declared.policy.EvictionPolicy.{EvictionPolicy}
use Rattle.moka_parts.specs.declared.records.Registered.{Registered}
use Rattle.moka_parts.specs.Housekeeper.{Keeper, new_keeper}
use Rattle.moka_types.specs.Policy.{Expirations}
use Rattle.moka_parts.specs.State.{Settings, new_state}
use Rattle.moka_records.proofs.Maps.{nothing_at}
use Rattle.moka_laws.proofs.NewCache.{new_is_valid}
use Rattle.moka_engine.specs.BaseCache.{IsCache, settings_of, state_of}
use Rattle.moka_inner.specs.Interior.{Interior, nothing_inside}

-- it keeps nothing and listens where a listener is set
pub cache-new : {K V X L P W S : Type 0} (eq : K → K → Bool) (listener : Option L) (i : Interior K V S) (ordered timed : Bool) (first_ticket : ℕ) → i ≡ nothing_inside ordered timed first_ticket i → (predicates : List (Registered P)) → predicates ≡ []
    → (keeper : Keeper) (listening : Bool) (config : HousekeeperConfig) (now : ℕ) → keeper ≡ new_keeper listening config now → listening ≡ is_some listener
    → (capacity : Option ℕ) (policy : EvictionPolicy) (expirations : Expirations X) (weigher : Option W) (invalidator : Bool)
    → IsCache eq listener (state_of i None predicates 0 0 keeper capacity (settings_of policy expirations weigher invalidator keeper))
cache-new {K} {V} {X} {L} {P} {W} eq listener i ordered timed first_ticket empty predicates none keeper listening config now kept heard capacity policy expirations weigher invalidator =
    subst (IsCache eq listener) (sym is) (record {
      valid = new_is_valid K V P settings capacity now first_ticket eq;
      served = record {
        unsupported = λ off. refl;
        unexpiring = λ _ n r there. absurd (nothing_at n r there);
      };
      listens = heard;
    })
  where
    settings : Settings X W
    settings = settings_of policy expirations weigher invalidator (new_keeper listening config now)

    is : state_of {X = X} i None predicates 0 0 keeper capacity (settings_of policy expirations weigher invalidator keeper) ≡ new_state {K = K} {V = V} {P = P} settings capacity now first_ticket
    is =
        ap (λ (x : Interior K V _). state_of x None predicates 0 0 keeper capacity (settings_of policy expirations weigher invalidator keeper)) empty
        ∙ ap (λ ps. state_of (nothing_inside ordered timed first_ticket i) None ps 0 0 keeper capacity (settings_of policy expirations weigher invalidator keeper)) none
        ∙ ap (λ k. state_of (nothing_inside ordered timed first_ticket i) None [] 0 0 k capacity (settings_of policy expirations weigher invalidator k)) kept
