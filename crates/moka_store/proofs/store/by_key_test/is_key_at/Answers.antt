use Rattle.std.proofs.Common.{rules}
use Rattle.moka_store.proofs.store.by_key_test.is_key_at.Goals as goal

pub returns-in-Some : goal.returns-in-Some
returns-in-Some g c = search rules
