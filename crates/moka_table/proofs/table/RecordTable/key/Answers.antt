use Rattle.std.proofs.Common.{sym, ap, ◌∙◌, Option}
use Rattle.std.specs.Option.{option_map, option_and_then}
use Rattle.moka_records.specs.declared.record_ref.Front.{Front}
use Rattle.moka_table.specs.RecordTable.{Row}
use Rattle.moka_table.proofs.ColdRows.{key-whole}
use Rattle.moka_table.proofs.table.RecordTable.key.Goals as goal

abbrev key_of : {K V : Type 0} → Option (Row (Front K V)) → Option K
key_of o = option_map (λ f. f.hot.key) (option_and_then (λ row. row.stored) o)

pub returns-in_err-at : goal.returns-in_err-at
returns-in_err-at g c = rw (c.from_residual.ensures, ← c.self.view_is) (ap key_of c.in_err-at.ensures ∙ sym (key-whole _ _ _))

pub returns : goal.returns
returns g c = rw (← c.self.view_is) (c.key.ensures ∙ ap key_of c.in_ok-at.ensures ∙ sym (key-whole _ _ _))
