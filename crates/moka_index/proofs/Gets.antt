-- Look-ups in a map after it was changed.
use Rattle.std.specs.FinMap.{gets}

pub ruleset map_calls = (gets)
