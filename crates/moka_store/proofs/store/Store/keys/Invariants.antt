use Rattle.std.specs.Prelude.{List, IsPermutation}
use Rattle.std.specs.List.{AllZip}
use Rattle.moka_store.proofs.Listed.{keys_before}
use Rattle.moka_store.proofs.store.Store.keys.Given as goal

abbrev pub invariant-loop-place : goal.invariant-loop-place
invariant-loop-place g l = (own : List g.row.K.Denot) × IsPermutation (keys_before l.self-inside.table.rows l.place) own × AllZip g.K.Clone.is_clone own l.keys.items
