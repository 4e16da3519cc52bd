-- What the rules of a script answer.
use Rattle.std.specs.Prelude.{ℕ, Bool, true, false, ◌==◌, ◌&&◌, List, [], Option, Some, None, find, option_map, unwrap_or}
use Rattle.moka_script.specs.declared.rules.Question.{Question}
use Rattle.moka_script.specs.declared.rules.Question.TheVariants.{Create, Read, Update}
use Rattle.moka_script.specs.declared.rules.Rule.{Rule}

-- both are the same question
abbrev pub is_same_question : Question → Question → Bool
is_same_question Create Create = true
is_same_question Create Read = false
is_same_question Create Update = false
is_same_question Read Create = false
is_same_question Read Read = true
is_same_question Read Update = false
is_same_question Update Create = false
is_same_question Update Read = false
is_same_question Update Update = true

-- the rule answers this question about this key at this moment
abbrev pub fits : Question → ℕ → ℕ → Rule → Bool
fits question key moment rule = is_same_question rule.question question && (rule.key == key && rule.moment == moment)

-- what the first such rule answers, in nanoseconds
abbrev pub answer_by : List Rule → Question → ℕ → ℕ → Option (Option ℕ)
answer_by rules question key moment = option_map (λ r. r.answer) (find (fits question key moment) rules)

-- what the rules answer to each question; without one that fits, a creation is answered with none and the others with
-- what is left
abbrev pub created_by : List Rule → ℕ → List ℕ → ℕ → Option ℕ
created_by rules key value now = unwrap_or (answer_by rules Create key now) None

abbrev pub read_by : List Rule → ℕ → List ℕ → ℕ → Option ℕ → ℕ → Option ℕ
read_by rules key value now left written = unwrap_or (answer_by rules Read key now) left

abbrev pub updated_by : List Rule → ℕ → List ℕ → ℕ → Option ℕ → Option ℕ
updated_by rules key value now left = unwrap_or (answer_by rules Update key now) left

-- an expiry is set exactly if there are rules
abbrev pub expiry_of : List Rule → Option (List Rule)
expiry_of [] = None
expiry_of rules = Some rules
