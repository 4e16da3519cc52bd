use Rattle.std.proofs.Common.{refl}
use Rattle.moka_cache.proofs.each.insert_into_own.Goals as goal

pub select_mut-requires : goal.select_mut-requires
select_mut-requires g c = record { as_many = c.requires.as_many }

pub returns-clause-step : goal.returns-clause-step
returns-clause-step g c = record { before = c.select_mut.result.now; after = c.insert.new.self; there = c.select_mut.ensures.is; step = c.insert.ensures; others = refl }
