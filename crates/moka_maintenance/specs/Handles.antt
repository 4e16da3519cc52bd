-- What handles lead to.
use Rattle.std.specs.Prelude.{◌≡◌, None, IsSome}
use Rattle.moka_records.specs.Records.{counted_of}
use Rattle.moka_store.specs.declared.store.Handle.{Handle}
use Rattle.moka_store.specs.Store.{Kept, IsPlaced, IsHandle}

module _ {K V S : Type 0} where
  -- the handle leads to a record that is in the map and is no member
  pub record IsOutside (k : Kept K V S) (h : Handle) : Type 0 where
    pub handle : IsHandle k h
    pub apart : counted_of h.number k.access ≡ None

  -- the handle leads to a member
  pub record IsMemberAt (k : Kept K V S) (h : Handle) : Type 0 where
    pub placed : IsPlaced k h
    pub member : IsSome (counted_of h.number k.access)
