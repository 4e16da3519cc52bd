use Rattle.std.proofs.Common.{rules}
use Rattle.moka_router.specs.Routing.{share}
use Rattle.moka_router.proofs.router.Router.share.Goals as goal

pub returns : goal.returns
unfolding share
returns g c = search rules
