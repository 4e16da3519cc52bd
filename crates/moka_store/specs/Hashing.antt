-- The hash under which a store has a key.
use Rattle.std.specs.Prelude.{◌≡◌, ℕ, ◌*◌, ◌/◌, ◌%◌, ◌^◌}
use Rattle.std.specs.Hash.{HashWrites}
use Rattle.std.specs.declared.hash.Hasher as hasher
use Rattle.std.specs.declared.hash.BuildHasher as builder
use Rattle.moka_records.specs.Hashing.{key_hash}
use Rattle.moka_store.specs.declared.store.hashing.IndexHash.{IndexHash}

-- the 32 bits of a hash that the index keeps: the upper half of a product, so that also hashes that differ in their
-- lower bits alone are apart
unfoldable pub index_hash : ℕ → ℕ
index_hash hash = hash * 11400714819323198485 % 2 ^ 64 / 2 ^ 32

-- those of the hash that this hasher makes of the bytes that a key writes
abbrev pub IsIndexHash : {S H : Type 0} → builder.Ghosts S H → hasher.Ghosts H → S → HashWrites → IndexHash → Type 0
IsIndexHash b h hasher writes hash = hash.0 ≡ index_hash (key_hash b h hasher writes)
