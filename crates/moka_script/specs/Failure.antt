-- Why a replay stops, and how it says so.
use Rattle.std.specs.Prelude.{◌≡◌, ◌≢◌, ℕ, Bool, List, ◌++◌, codes, decimal, if◌then◌else◌}
use Rattle.std.specs.IoError.{error_kind}
use Rattle.std.specs.declared.io.Error.{Error}
use Rattle.std.specs.declared.io.ErrorKind.TheVariants as kind
use Rattle.moka_script.specs.declared.failure.Failure.{Failure}
use Rattle.moka_script.specs.declared.failure.Failure.TheVariants.{Usage, BadLine, CannotRead, OutOfMemory}

-- the text, without its line feed
abbrev pub failure_text : Failure → List ℕ
failure_text Usage = codes "usage: moka-replay [file]"
failure_text (BadLine number) = codes "line " ++ (decimal number ++ codes ": bad script")
failure_text CannotRead = codes "cannot read"
failure_text OutOfMemory = codes "out of memory"

-- 2 for what the caller gave, 3 for what the system refused
abbrev pub status_of : Failure → ℕ
status_of Usage = 2
status_of (BadLine number) = 2
status_of CannotRead = 3
status_of OutOfMemory = 3

-- the line is taken and the status is the one given, or it is refused and the status is 3
abbrev pub IsWritten : {S : Type 0} → (S → List ℕ → Bool → S → Type 0) → List ℕ → ℕ → ℕ → S → S → Type 0
IsWritten takes line good status old new = (taken : Bool) × takes old line taken new
    × (status ≡ (if taken then good else 3))

-- why reading stops: for memory exactly if the system says so
abbrev pub IsReadFailure : Error → Failure → Type 0
IsReadFailure error OutOfMemory = error_kind error ≡ kind.OutOfMemory
IsReadFailure error CannotRead = error_kind error ≢ kind.OutOfMemory
IsReadFailure error failure = ⊥
