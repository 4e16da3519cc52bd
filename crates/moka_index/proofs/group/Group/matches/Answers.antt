use Rattle.moka_index.proofs.Bits.{bit_of_match, match_of_bit}
use Rattle.moka_index.proofs.group.Group.matches.Goals as goal

pub returns-clause-set : goal.returns-clause-set
returns-clause-set c k l e = bit_of_match c.args.self.now.hashes c.args.self.now.reach c.args.hash k l e

pub returns-clause-only : goal.returns-clause-only
returns-clause-only c k l s = match_of_bit c.args.self.now.hashes c.args.self.now.reach c.args.hash k l s
