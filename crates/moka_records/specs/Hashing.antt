-- The hash of a key by a cache's own hasher.
use Rattle.std.specs.Prelude.{ℕ, fold}
use Rattle.std.specs.Hash.{HashWrites}
use Rattle.std.specs.declared.hash.Hasher as hasher
use Rattle.std.specs.declared.hash.BuildHasher as builder

-- what the hasher makes of the bytes that a key writes
abbrev pub key_hash : {S H : Type 0} → builder.Ghosts S H → hasher.Ghosts H → S → HashWrites → ℕ
key_hash b h hasher writes = h.finish (fold h.write (b.build_hasher hasher) writes)
