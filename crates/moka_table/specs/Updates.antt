-- What an update makes of a record.
use Rattle.std.specs.Prelude.{◌+◌}
use Rattle.moka_table.specs.declared.table.Update.{Update}
use Rattle.moka_records.specs.declared.records.Record.{Record}

-- number, key, hash and applied generation stay, and one more generation is counted
abbrev pub updated : {K V : Type 0} → Update V → Record K V → Record K V
updated update r = record r {
  value = update.value;
  written = update.now;
  read = update.now;
  expires = update.expires;
  weight = update.weight;
  generation = r.generation + 1;
}
