-- What refusals print.
use Rattle.std.specs.Prelude.{ℕ, List}
use Rattle.moka_types.specs.Texts.{out_of_memory_text, insert_text}
use Rattle.moka_calls.specs.declared.error.GetWithRefused.{GetWithRefused}
use Rattle.moka_calls.specs.declared.error.GetWithRefused.TheVariants.{Lookup, Insert}

-- what the engine prints of the same refusal
abbrev pub get_with_text : {K V : Type 0} → GetWithRefused K V → List ℕ
get_with_text (Lookup key) = out_of_memory_text
get_with_text (Insert refused) = insert_text refused.error
