use Rattle.std.proofs.Common.{rules, ◌≡◌}
use Rattle.moka_types.specs.declared.calls.Reply.TheVariants.{Report}
use Rattle.moka_script.proofs.print.ReplyTextDisplay.fmt.Goals as goal

pub returns-in-Report-clause-writes : goal.returns-in-Report-clause-writes
returns-in-Report-clause-writes g c = let h : c.args.self.now.0.now ≡ Report c.in-Report.count c.in-Report.weight c.in-Report.predicates = c.in-Report.is in rw h (search rules)
