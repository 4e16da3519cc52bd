use Rattle.moka_parts.proofs.housekeeper.Housekeeper.run_pending_tasks.Goals as goal

pub returns-else-self : goal.returns-else-self
returns-else-self g c =
    let run = c.run_pending_tasks-more_to_evict.ensures in
    rw (← c.self.view_is, c.if-self.false) (run.0, c.run_pending_tasks-more_to_evict.result, run.1, simp (c.then_some-timeout.ensures, c.if-self.false) at run.2, cc)

pub returns-after-more_to_evict : goal.returns-after-more_to_evict
returns-after-more_to_evict g c =
    let run = c.run_pending_tasks-more_to_evict.ensures in
    rw (← c.self.view_is, c.if-self.true) (run.0, c.run_pending_tasks-more_to_evict.result, run.1, simp (c.then_some-timeout.ensures, c.if-self.true) at run.2, cc)
