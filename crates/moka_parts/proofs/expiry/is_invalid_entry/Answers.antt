use Rattle.std.proofs.Common.{rules}
use Rattle.moka_parts.proofs.expiry.is_invalid_entry.Goals as goal

pub returns-in-Some : goal.returns-in-Some
returns-in-Some c = search rules
