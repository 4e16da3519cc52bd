use Rattle.std.proofs.Common.{rules}
use Rattle.moka_parts.proofs.expiry.is_expired_by_per_entry_ttl.Goals as goal

pub returns-in_default : goal.returns-in_default
returns-in_default c = search rules
