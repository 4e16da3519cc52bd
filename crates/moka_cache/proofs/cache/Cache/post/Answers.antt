use Rattle.moka_parts.specs.State.{Meaning}
use Rattle.moka_calls.specs.Synchronous.{meaning_of}
use Rattle.moka_cache.proofs.Posting.{posted_at_once, posted_after_run}
use Rattle.moka_cache.proofs.cache.Cache.post.Goals as goal

pub returns-in-Ok : goal.returns-in-Ok
returns-in-Ok g c =
    let m : Meaning g.row.K.Denot g.row.V.Denot g.row.X.Denot g.row.L.Denot g.row.P.Denot g.row.W.Denot g.row.C.Denot (Unit {0}) = meaning_of g.K.PartialEq.eq g.L.Listener.tells g.P.PredicateFn.says g.W.Weigher.weighs g.C.Clock.reads g.X.Expiry.created g.X.Expiry.read g.X.Expiry.updated in
    let waiting = c.requires.waiting in
    let due = c.apply_reads_writes_if_needed.ensures in
    let posted = posted_at_once m c.args.now c.args.ticket c.args.engine.now c.args.clock.now waiting.0 waiting.1 c.apply_reads_writes_if_needed.new.self c.apply_reads_writes_if_needed.new.clock due.0 due.1 due.2 due.3
    c.in-Ok.field-0 c.send.new.self c.in-Ok.ensures.step c.send.ensures.events in
    record { made = posted.made; sent = posted.sent; holds = posted.holds; hides = posted.hides; keeps = posted.keeps; lasts = posted.lasts }

pub returns-in-Err : goal.returns-in-Err
returns-in-Err g c =
    let m : Meaning g.row.K.Denot g.row.V.Denot g.row.X.Denot g.row.L.Denot g.row.P.Denot g.row.W.Denot g.row.C.Denot (Unit {0}) = meaning_of g.K.PartialEq.eq g.L.Listener.tells g.P.PredicateFn.says g.W.Weigher.weighs g.C.Clock.reads g.X.Expiry.created g.X.Expiry.read g.X.Expiry.updated in
    let waiting = c.requires.waiting in
    let due = c.apply_reads_writes_if_needed.ensures in
    let run = c.run_pending_tasks.ensures.step in
    let posted = posted_after_run m c.args.now c.args.ticket c.args.engine.now c.args.clock.now waiting.0 waiting.1 c.apply_reads_writes_if_needed.new.self c.apply_reads_writes_if_needed.new.clock due.0 due.1 due.2 due.3 c.requires.enabled
    c.in-Err.field-0 c.send.new.self c.in-Err.ensures.step c.send.ensures.events
    c.run_pending_tasks.result run.0 c.run_pending_tasks.new.self c.run_pending_tasks.new.clock run.1 run.2 run.3
    c.send-sent.result c.send-sent.new.self c.send-sent.ensures.step c.send-sent.ensures.events in
    record { made = posted.made; sent = posted.sent; holds = posted.holds; hides = posted.hides; keeps = posted.keeps; lasts = posted.lasts }
