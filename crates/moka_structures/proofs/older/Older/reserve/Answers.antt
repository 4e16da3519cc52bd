use Rattle.std.proofs.Common.{refl}
use Rattle.moka_structures.proofs.older.Older.reserve.Goals as goal

pub returns-then-additional-room-clause-succeeds : goal.returns-then-additional-room-clause-succeeds
returns-then-additional-room-clause-succeeds g c = λ _. refl
