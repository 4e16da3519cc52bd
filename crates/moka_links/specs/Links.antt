-- Nodes that lead from slot to slot.
use Rattle.std.specs.Prelude.{◌≡◌, ℕ, List, slice_index_or, slice_set}
use Rattle.std.specs.Global.{Vec}
use Rattle.std.specs.Vec.{vec_capacity}
use Rattle.moka_links.specs.declared.Node.{Node}

-- there is as much room for nodes as before
abbrev pub KeepsCapacity : {X : Type 0} → (old new : Vec X) → Type 0
KeepsCapacity old new = vec_capacity new ≡ vec_capacity old

-- past the last node a node with this value is read, which no link leads to
module _ {T : Type 0} (past : T) where
  abbrev pub blank : Node T
  blank = record { value = past; before = 0; behind = 0 }

  -- the node at a slot
  abbrev pub at : List (Node T) → ℕ → Node T
  at ns i = slice_index_or ns i blank

  -- the slot before each slot
  abbrev pub befores : List (Node T) → ℕ → ℕ
  befores ns i = (at ns i).before

  -- the slot behind each slot
  abbrev pub behinds : List (Node T) → ℕ → ℕ
  behinds ns i = (at ns i).behind

  -- the value at each slot
  abbrev pub values : List (Node T) → ℕ → T
  values ns i = (at ns i).value

  -- the node at a slot is given another slot before it
  abbrev pub with_before : List (Node T) → ℕ → ℕ → List (Node T)
  with_before ns i to = slice_set ns i (record (at ns i) { before = to })

  -- the node at a slot is given another slot behind it
  abbrev pub with_behind : List (Node T) → ℕ → ℕ → List (Node T)
  with_behind ns i to = slice_set ns i (record (at ns i) { behind = to })

  -- the node at a slot is given another value
  abbrev pub with_value : List (Node T) → ℕ → T → List (Node T)
  with_value ns i to = slice_set ns i (record (at ns i) { value = to })

  -- the neighbours of a slot are linked to one another
  abbrev pub detached : List (Node T) → ℕ → List (Node T)
  detached ns s = with_before (with_behind ns (befores ns s) (behinds ns s)) (behinds ns s) (befores ns s)

  -- the node at a slot is put before a head
  abbrev pub attached : List (Node T) → ℕ → ℕ → List (Node T)
  attached ns s h =
      let last = befores ns h in
      with_before (with_behind (with_behind (with_before ns s last) s h) last s) h s
