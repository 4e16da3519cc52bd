use Rattle.std.proofs.Common.{arith}
use Rattle.std.proofs.Math.Bool.{and-false}
use Rattle.moka_uses.proofs.ordered.age_out.Goals as goal

pub returns : goal.returns
returns c =
    let called = c.run_pending_tasks.ensures.step in
    let s = c.args.cache.now.state in
    record {
      aged = λ kept sent order n r there. (c.runs_age_out.ensures c.args.cache.now.write_list c.run_pending_tasks.new.self.write_list s _ called.1.0 called.0.notices c.run_pending_tasks.new.self.state c.invariant_holds.ensures.valid called.1.1 order).live
          (and-false s.settings.listening, omega arith) sent kept n r there;
      ran = (called.0, called.1, called.2, tt);
    }
