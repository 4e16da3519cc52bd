-- What was counted under a policy.
use Rattle.std.specs.Prelude.{Option, Some}
use Rattle.moka_hit_ratio.specs.declared.tally.Tally.{Tally}
use Rattle.moka_hit_ratio.specs.declared.row.Policy.{Policy}
use Rattle.moka_hit_ratio.specs.declared.row.Policy.TheVariants.{Optimum, TinyLfu, Lru, Fifo}
use Rattle.moka_hit_ratio.specs.declared.row.Row.{Row}

abbrev pub tally_of : Policy → Row → Option Tally
tally_of Optimum row = row.optimum
tally_of TinyLfu row = Some row.tiny_lfu
tally_of Lru row = Some row.lru
tally_of Fifo row = Some row.fifo
