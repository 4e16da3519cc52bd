use Rattle.moka_store.proofs.write_list.WriteList.reserve.Goals as goal

pub invariant_of-self-2 : goal.invariant_of-self-2
invariant_of-self-2 c m e = rw c.reserve.ensures.members ((rw c.in-Some.is at c.self.invariant) m e)
