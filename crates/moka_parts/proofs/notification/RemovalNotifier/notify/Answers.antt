use Rattle.std.proofs.Common.{rules}
use Rattle.moka_parts.proofs.notification.RemovalNotifier.notify.Goals as goal

pub returns : goal.returns
returns g c = search rules
