-- Why an entry is not put back.
use Rattle.std.specs.Prelude.{ℕ, List, codes}
use Rattle.moka_types.specs.declared.error.InsertError.{InsertError}
use Rattle.moka_types.specs.declared.error.InsertError.TheVariants as insert_error
use Rattle.moka_types.specs.declared.restores.RestoreError.{RestoreError}
use Rattle.moka_types.specs.declared.restores.RestoreError.TheVariants.{KeyPresent, NoExpiry, NumbersUsedUp, OutOfMemory}

-- what is printed of a reason, as bytes
abbrev pub restore_text : RestoreError → List ℕ
restore_text KeyPresent = codes "The key has an entry"
restore_text NoExpiry = codes "The cache has no expiry for single entries"
restore_text NumbersUsedUp = codes "All tickets are used up"
restore_text OutOfMemory = codes "Out of memory"

-- the reason for which room for an insert is refused
abbrev pub restore_error : InsertError → RestoreError
restore_error insert_error.NumbersUsedUp = NumbersUsedUp
restore_error insert_error.OutOfMemory = OutOfMemory
