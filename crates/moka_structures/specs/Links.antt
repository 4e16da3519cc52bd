-- How the nodes are linked. No public clause cites this module.
use Rattle.std.specs.Prelude.{◌≡◌, ◌≢◌, ℕ, zero, suc, ◌+◌, ◌<◌, ◌≤◌, ◌^◌, List, [], ◌∷◌, map, length, slice_index_or}
use Rattle.moka_links.specs.declared.Node.{Node}
use Rattle.moka_links.specs.Chains.{Frees, free_of}
use Rattle.moka_links.specs.Links as links
pub use Rattle.moka_links.specs.Links.{blank, at, befores, behinds, values, with_behind, with_value, detached}
use Rattle.moka_structures.specs.Rings.{Ring}

-- the slot at each place of the ring: the sentinel's, then the members', then the sentinel's again
abbrev pub ring_of : List ℕ → ℕ → ℕ
ring_of xs i = slice_index_or (0 ∷ xs) i 0

-- past the last node a node with this value is read, which no link leads to
module _ {T : Type 0} (past : T) where
  -- the node at the slot is put before the sentinel
  abbrev pub attached : List (Node T) → ℕ → List (Node T)
  attached ns s = links.attached past ns s 0

  -- the members' slots form one ring with the sentinel, and all other slots a chain that begins at `free`
  pub record IsOrder (ns : List (Node T)) (len free : ℕ) : Type 0 where
    pub slots : List ℕ
    pub frees : List ℕ
    pub counted : len ≡ length slots
    pub total : length slots + length frees + 1 ≡ length ns
    pub bounded : length ns ≤ 2 ^ 32
    pub ring : Ring (behinds past ns) (befores past ns) (ring_of slots) (length slots) (length ns)
    pub chain : Frees (behinds past ns) (free_of frees) (length frees) free (length ns)
    pub apart : (i j : ℕ) → i ≤ length slots → j < length frees → ring_of slots i ≢ free_of frees j

  -- so many slots, each behind the one before it
  abbrev pub walk : List (Node T) → ℕ → ℕ → List ℕ
  walk ns zero s = []
  walk ns (suc n) s = s ∷ walk ns n (at past ns s).behind

  -- what a contract sees of the node in a slot
  abbrev pub member : List (Node T) → ℕ → ℕ × T
  member ns s = (s, values past ns s)

  -- the members from the front to the back
  abbrev pub members_of : List (Node T) → ℕ → List (ℕ × T)
  members_of ns len = map (member ns) (walk ns len (at past ns 0).behind)
