-- What is printed of errors and policies, as bytes.
use Rattle.std.specs.Prelude.{ℕ, List, codes}
use Rattle.moka_types.specs.declared.error.SendError.{SendError}
use Rattle.moka_types.specs.declared.error.SendError.TheVariants.{UnknownTicket, QueueFull}
use Rattle.moka_types.specs.declared.error.InsertError.{InsertError}
use Rattle.moka_types.specs.declared.error.InsertError.TheVariants as insert_error
use Rattle.moka_types.specs.declared.error.PredicateError.{PredicateError}
use Rattle.moka_types.specs.declared.error.PredicateError.TheVariants as predicate_error
use Rattle.moka_types.specs.declared.error.CapacityError.{CapacityError}
use Rattle.moka_types.specs.declared.error.CapacityError.TheVariants.{ZeroCapacity}
use Rattle.moka_types.specs.declared.policy.EvictionPolicy.{EvictionPolicy}
use Rattle.moka_types.specs.declared.policy.EvictionPolicy.TheVariants.{TinyLfu, Lru}

-- of a refusal of memory
abbrev pub out_of_memory_text : List ℕ
out_of_memory_text = codes "Out of memory"

-- of a refused send
abbrev pub send_text : SendError → List ℕ
send_text UnknownTicket = codes "No operation waits under this ticket"
send_text QueueFull = codes "The queue of writes is full"

-- of a refused insert
abbrev pub insert_text : InsertError → List ℕ
insert_text insert_error.OutOfMemory = codes "Out of memory"
insert_text insert_error.NumbersUsedUp = codes "All tickets are used up"

-- of a refused predicate
abbrev pub predicate_text : PredicateError → List ℕ
predicate_text predicate_error.InvalidationClosuresDisabled = codes
    "Support for invalidation closures is disabled in this cache. Please enable it by calling the support_invalidation_closures method of the builder at the cache creation time"
predicate_text predicate_error.NoFreeId = codes "Cannot assign a new PredicateId to a predicate"
predicate_text predicate_error.OutOfMemory = codes "Out of memory"

-- of a refused capacity
abbrev pub capacity_text : CapacityError → List ℕ
capacity_text ZeroCapacity = codes "A capacity cannot be changed from zero or to zero"

-- of an eviction policy
abbrev pub policy_text : EvictionPolicy → List ℕ
policy_text TinyLfu = codes "EvictionPolicy::TinyLfu"
policy_text Lru = codes "EvictionPolicy::Lru"
