-- What a script's listener keeps, and how it is printed.
use Rattle.std.specs.Prelude.{◌≡◌, ℕ, Bool, true, false, nat_lt, List, [], ◌∷◌, ◌++◌, length, count_by, Option, Some, None, codes, decimal, if◌then◌else◌}
use Rattle.std.specs.List.{flat_map}
use Rattle.moka_types.specs.declared.calls.Call.TheVariants.{Insert, Remove}
use Rattle.moka_parts.specs.declared.notification.RemovalCause.{RemovalCause}
use Rattle.moka_parts.specs.declared.notification.RemovalCause.TheVariants.{Expired, Explicit, Replaced, Size}
use Rattle.moka_parts.specs.Notices.{Notice}
use Rattle.moka_script.specs.Calls.{CallText}

-- a key, a value and why it left
abbrev pub ScriptNotice : Type 0
ScriptNotice = Notice ℕ (List ℕ)

-- the notices in order, and how many have room
pub record Kept : Type 0 where
  pub told : List ScriptNotice
  pub room : ℕ

-- a notice is kept if there is room
abbrev pub Keeps : Kept → ℕ → List ℕ → RemovalCause → Kept → Type 0
Keeps before key value cause after = after ≡ (if nat_lt (length before.told) before.room
    then record before { told = before.told ++ (key, value, cause) ∷ [] } else before)

-- what is told, if a listener is set
abbrev pub told_of : Option Kept → List ScriptNotice
told_of None = []
told_of (Some kept) = kept.told

-- the call is an insert or a removal: room is made for one notice
abbrev pub needs_room : CallText → Bool
needs_room (Insert key hash value now) = true
needs_room (Remove key hash now) = true
needs_room call = false

-- how many notices a list of calls has room for
abbrev pub room_of : List CallText → ℕ
room_of calls = count_by needs_room calls

-- the listener of a list of calls, if one is asked for
abbrev pub listener_for : Bool → List CallText → Option Kept
listener_for is_asked calls = if is_asked then Some (record { told = []; room = room_of calls }) else None

-- the cause, in a word
abbrev pub cause_text : RemovalCause → List ℕ
cause_text Expired = codes "Expired"
cause_text Explicit = codes "Explicit"
cause_text Replaced = codes "Replaced"
cause_text Size = codes "Size"

-- a notice, without its line feed
abbrev pub notice_text : ScriptNotice → List ℕ
notice_text notice =
    codes "notice " ++ (decimal notice.0 ++ (codes " " ++ (notice.1 ++ (codes " " ++ cause_text notice.2))))

-- a line for each notice
abbrev pub notice_lines : List ScriptNotice → List ℕ
notice_lines notices = flat_map (λ notice. notice_text notice ++ codes "\n") notices
