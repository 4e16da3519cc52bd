-- What the definitions compute on worked cases.
use Rattle.std.proofs.Common.{◌≡◌, refl, ℕ, true, false, List, [], ◌∷◌, Option, Some, None, ◌^◌, ◌-◌, ◌++◌, nat_cmp}
use Rattle.std.specs.FinMap.{empty, get, get-empty, len-empty}
use Rattle.moka_parts.specs.Maintenance.{is_cut, is_sketch_due}
use Rattle.moka_parts.specs.Housekeeping.{is_due, new_housekeeping, without_automatic}
use Rattle.moka_parts.specs.Calls.{are_numbers_used_up}
use Rattle.moka_laws.proofs.Types.{Expired, Explicit, Replaced, TinyLfu, Lru, Instant, Record, Member, Terms, Course, Settings, State}
use Rattle.moka_parts.specs.State.{new_state}
use Rattle.moka_parts.specs.Visibility.{has_lapsed}
use Rattle.moka_parts.specs.Expiry.{remaining, renewed, expires_updated}
use Rattle.moka_parts.specs.Causes.{cause_of_replacement, cause_of_removal}
use Rattle.moka_parts.specs.Candidates.{prefix, has_six_unsettled}
use Rattle.moka_records.specs.Records.{member}

-- settings with these times, and without all else
abbrev times : Option ℕ → Option ℕ → Settings ℕ ℕ
times live idle = record { policy = TinyLfu; time_to_live = live; time_to_idle = idle; expiry = None; weigher = None; listening = true; invalidator = false; run_limit = 0; run_repeats = 4; run_batch = 384 }

abbrev at : ℕ → Instant
at t = record { 0 = t }

-- a record of key and hash 1
abbrev one : (written read : ℕ) → Option Instant → Record ℕ ℕ
one written read expires = record { number = 1; key = 1; hash = 1; value = 7; written = at written; read = at read; expires = expires; weight = 1; generation = 1; applied = 1 }

-- ---- visibility at its edges

-- with a time to live of 10 ms
pub live_ends : (has_lapsed (times (Some 10000000) None) None (one 0 0 None) 9999999 ≡ false) × (has_lapsed (times (Some 10000000) None) None (one 0 0 None) 10000000 ≡ true)
live_ends = (refl, refl)

-- with an expiry of its own before both times
pub own_expiry_ends : (has_lapsed (times (Some 16000000000) (Some 7000000000)) None (one 0 0 (Some (at 1000000000))) 999999999 ≡ false) × (has_lapsed (times (Some 16000000000) (Some 7000000000)) None (one 0 0 (Some (at 1000000000))) 1000000000 ≡ true)
own_expiry_ends = (refl, refl)

-- a deadline saturates at the greatest moment, and so is reached
pub deadline_is_cut : has_lapsed (times (Some 1) None) None (one (2 ^ 64 - 2) (2 ^ 64 - 2) None) (2 ^ 64 - 1) ≡ true
deadline_is_cut = refl

-- written before the invalidation of all, and written just then
pub written_before_all : (has_lapsed (times None None) (Some (at 5)) (one 4 4 None) 5 ≡ true) × (has_lapsed (times None None) (Some (at 5)) (one 5 5 None) 5 ≡ false)
written_before_all = (refl, refl)

-- a read from before it hides the record as well
pub read_before_all : has_lapsed (times None None) (Some (at 5)) (one 6 4 None) 6 ≡ true
read_before_all = refl

-- ---- expiry, at a time to live of 16 s and a time to idle of 7 s

-- the update at 6 s of a record that expires at 9 s is told 3 s; the answer of 8 s makes it 14 s
pub renewed_at_update : (remaining (times (Some 16) (Some 7)) (one 6 6 (Some (at 9))) 6 ≡ Some 3) × (renewed (times (Some 16) (Some 7)) (one 6 6 (Some (at 9))) 6 (Some 8) ≡ Some (at 14))
renewed_at_update = (refl, refl)

-- an answer equal to the time that is left changes nothing, here where the time to idle was the least; no answer takes
-- the expiry away
pub answers : (renewed (times (Some 16) (Some 7)) (one 0 0 (Some (at 9))) 5 (Some 2) ≡ Some (at 9)) × (renewed (times (Some 16) (Some 7)) (one 0 0 (Some (at 9))) 5 None ≡ None)
answers = (refl, refl)

-- an update at the old expiry asks for the expiry of a creation
pub created_anew : expires_updated (λ _ _ _ _. Some 20) (λ _ _ _ _ _. Some 5) (times None None) (Some 0) 1 8 (one 10 10 (Some (at 10))) 10 ≡ Some (at 30)
created_anew = refl

-- ---- causes

-- the time to live comes first, then the invalidation of all, then the time to idle, and an own expiry is no cause
pub causes_of_replacement :
    (cause_of_replacement (times (Some 9) (Some 5)) (Some (at 8)) (one 0 0 None) 9 ≡ Expired)
    × (cause_of_replacement (times None (Some 5)) (Some (at 8)) (one 0 0 None) 9 ≡ Explicit)
    × (cause_of_replacement (times None (Some 5)) None (one 0 0 None) 9 ≡ Expired)
    × (cause_of_replacement (times None None) None (one 0 0 (Some (at 3))) 9 ≡ Replaced)
causes_of_replacement = (refl, refl, refl, refl)

-- a removal in time, and one at the end of the time to live
pub causes_of_removal : (cause_of_removal (times (Some 5) None) 0 0 4 ≡ Explicit) × (cause_of_removal (times (Some 5) None) 4 4 9 ≡ Expired)
causes_of_removal = (refl, refl)

-- ---- prefixes

abbrev three : List Member
three = member 1 4 ∷ member 2 3 ∷ member 3 3 ∷ []

-- heavy enough, of no weight, and too short
pub prefixes : (prefix three 5 ≡ Some (member 1 4 ∷ member 2 3 ∷ [])) × (prefix three 0 ≡ Some []) × (prefix three 11 ≡ None)
prefixes = (refl, refl, refl)

-- ---- runs

abbrev unsettled : List Member
unsettled = member 1 1 ∷ member 2 1 ∷ member 3 1 ∷ member 4 1 ∷ member 5 1 ∷ []

no_record : (n : ℕ) → get (empty {X = Record ℕ ℕ} {R = nat_cmp}) n ≡ None
no_record n = get-empty nat_cmp n

-- five unsettled members in a row are skipped, and six are not
pub six_in_a_row : (has_six_unsettled (empty {X = Record ℕ ℕ}) 0 unsettled ≡ false) × (has_six_unsettled (empty {X = Record ℕ ℕ}) 0 (unsettled ++ member 6 1 ∷ []) ≡ true)
six_in_a_row = rw (no_record 1, no_record 2, no_record 3, no_record 4, no_record 5, no_record 6) (refl, refl)

abbrev within_100 : Terms
within_100 = record { now = 0; limit = Some 100; batch = 1 }

abbrev read_at : ℕ → ℕ → Course
read_at a b = record { answer = true; readings = at a ∷ at b ∷ []; passes = 1 }

-- a run is cut at its limit, and only where a listener is set
pub is_cut_at_limit : (is_cut (times None None) within_100 (read_at 7 106) ≡ false) × (is_cut (times None None) within_100 (read_at 7 107) ≡ true) × (is_cut (record (times None None) { listening = false }) within_100 (read_at 7 107) ≡ false)
is_cut_at_limit = (refl, refl, refl)

-- automatic runs begin 300 ms after the cache was made, or earlier with 64 operations, but not once they are disabled
pub is_due_in_time :
    (is_due (new_housekeeping 0) 0 299999999 ≡ false)
    × (is_due (new_housekeeping 0) 0 300000000 ≡ true)
    × (is_due (new_housekeeping 0) 64 0 ≡ true)
    × (is_due (without_automatic (new_housekeeping 0)) 64 300000000 ≡ false)
is_due_in_time = (refl, refl, refl, refl)

-- the sketch is enabled at half the capacity, by TinyLFU alone
pub sketch_at_half : (is_sketch_due (Some 5) TinyLfu None 1 ≡ false) × (is_sketch_due (Some 5) TinyLfu None 2 ≡ true) × (is_sketch_due (Some 5) Lru None 5 ≡ false)
sketch_at_half = (refl, refl, refl)

-- ---- numbers near their end

abbrev late : State ℕ ℕ ℕ ℕ ℕ
late = new_state (times None None) None 0 (2 ^ 64 - 2)

pub one_more_insert : (are_numbers_used_up late 1 ≡ false) × (are_numbers_used_up late 2 ≡ true)
one_more_insert = rw (len-empty nat_cmp (Record ℕ ℕ)) (refl, refl)
