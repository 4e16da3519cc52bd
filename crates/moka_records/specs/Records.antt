-- The records by number, the access list, the write list, and what is asked of them.
use Rattle.std.specs.Prelude.{◌≡◌, ℕ, Bool, true, false, ◌==◌, not, nat_le, ◌+◌, List, [], ◌∷◌, ◌++◌, map, filter, find, sum_by, Option, Some, None, option_map, option_to_list, is_some, if◌then◌else◌}
use Rattle.std.specs.Option.{option_map_or}
use Rattle.std.specs.List.{IsDistinct, list_any}
use Rattle.std.specs.Ordering.{nat_cmp}
use Rattle.std.specs.FinMap.{FinMap, get, insert, values}
use Rattle.moka_records.specs.declared.records.Record.{Record}
use Rattle.moka_records.specs.declared.records.Member.{Member}
use Rattle.moka_records.specs.declared.records.Operation.{Operation}

-- the records, by number
abbrev pub Records : Type 0 → Type 0 → Type 0
Records K V = FinMap nat_cmp (Record K V)

-- the operations handed out and not sent, by ticket
abbrev pub Operations : Type 0
Operations = FinMap nat_cmp Operation

-- ---- records

-- the operation of the record's present generation was applied
abbrev pub is_applied : {K V : Type 0} → Record K V → Bool
is_applied r = r.applied == r.generation

-- the record of a key, by the keys' own equality
abbrev pub record_of_key : {K V : Type 0} → (K → K → Bool) → Records K V → K → Option (Record K V)
record_of_key eq records key = find (λ r. eq key r.key) (values records)

-- the records with this one at its number
abbrev pub with_record : {K V : Type 0} → Records K V → Record K V → Records K V
with_record records r = insert records r.number r

-- ---- the access list

-- a number with the weight that is counted for it
abbrev pub member : ℕ → ℕ → Member
member n weight = record { number = n; counted = weight }

-- the weight that is counted for a number, if it stands in the list
abbrev pub counted_of : ℕ → List Member → Option ℕ
counted_of n [] = None
counted_of n (a ∷ members) = if a.number == n then Some a.counted else counted_of n members

-- the number stands in the list
abbrev pub is_member : ℕ → List Member → Bool
is_member n members = is_some (counted_of n members)

-- the numbers in the list's order
abbrev pub numbers_of : List Member → List ℕ
numbers_of members = map (λ a. a.number) members

-- the list without the number
abbrev pub without_member : ℕ → List Member → List Member
without_member n members = filter (λ a. not (a.number == n)) members

-- the member of this number, if there is one, goes to the back
abbrev pub to_back : ℕ → List Member → List Member
to_back n members = without_member n members ++ option_to_list (option_map (member n) (counted_of n members))

-- the members of these numbers go to the back, one after the other
abbrev pub all_to_back : List ℕ → List Member → List Member
all_to_back [] members = members
all_to_back (n ∷ ns) members = all_to_back ns (to_back n members)

-- the list without those members
abbrev pub without_members : List Member → List Member → List Member
without_members [] members = members
without_members (a ∷ gone) members = without_members gone (without_member a.number members)

-- the sum of the counted weights
abbrev pub total_weight : List Member → ℕ
total_weight members = sum_by (λ a. a.counted) members

-- there is no capacity, or so much more weight stays within it
abbrev pub has_room : Option ℕ → ℕ → ℕ → Bool
has_room None total weight = true
has_room (Some capacity) total weight = nat_le (total + weight) capacity

-- ---- the write list

-- the number stands in the list
abbrev pub is_listed : ℕ → List ℕ → Bool
is_listed n ns = list_any (λ m. m == n) ns

-- the list without the number
abbrev pub without_number : ℕ → List ℕ → List ℕ
without_number n ns = filter (λ m. not (m == n)) ns

-- the number, if it stands in the list, goes to the back
abbrev pub number_to_back : ℕ → List ℕ → List ℕ
number_to_back n ns = if is_listed n ns then without_number n ns ++ n ∷ [] else ns

-- the list without the members' numbers
abbrev pub without_numbers : List Member → List ℕ → List ℕ
without_numbers [] ns = ns
without_numbers (a ∷ gone) ns = without_numbers gone (without_number a.number ns)

-- the number enters at the back, where the list is kept
abbrev pub entered_by : Bool → ℕ → List ℕ → List ℕ
entered_by true n ns = ns ++ n ∷ []
entered_by false n ns = ns

-- the list has just the members' numbers, each once
abbrev pub IsListOf : List Member → List ℕ → Type 0
IsListOf access ns = IsDistinct (◌==◌) ns × ((n : ℕ) → is_listed n ns ≡ is_member n access)

-- ---- settled members

-- the record of this number is in the map, and its present operation was applied
abbrev pub is_settled : {K V : Type 0} → Records K V → ℕ → Bool
is_settled records n = option_map_or is_applied (get records n) false

-- those of the numbers whose records are settled
abbrev pub settled_numbers : {K V : Type 0} → Records K V → List ℕ → List ℕ
settled_numbers records ns = filter (λ n. is_settled records n) ns

-- the settled members, in order
abbrev pub settled_members : {K V : Type 0} → Records K V → List Member → List Member
settled_members records members = filter (λ a. is_settled records a.number) members
