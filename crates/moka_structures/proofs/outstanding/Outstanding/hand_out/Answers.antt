use Rattle.std.proofs.Common.{sym, ◌∙◌}
use Rattle.moka_structures.specs.Newest.{with_newest}
use Rattle.moka_structures.proofs.Newest.{joined, joined-none, put-newest, older-put, gets-put, newest-put, len-put}
use Rattle.moka_structures.proofs.outstanding.Outstanding.hand_out.Goals as goal

-- ---- the first item

pub invariant_of-self : goal.invariant_of-self
invariant_of-self g c =
    let o = c.self.inside in
    let all = joined-none o.newest o.older.items (sym c.replace.ensures.value ∙ c.in_default.is) in
    older-put c.replace.new.self o.older.items (with_newest o.newest o.older.items) _ c.replace.ensures.after all (rw (← c.self.view_is) at c.requires.newest)

pub returns-in_default-clause-items : goal.returns-in_default-clause-items
returns-in_default-clause-items g c =
    let o = c.self.inside in
    let all = joined-none o.newest o.older.items (sym c.replace.ensures.value ∙ c.in_default.is) in
    rw (← c.self.view_is) (put-newest c.replace.new.self o.older.items (with_newest o.newest o.older.items) _ c.replace.ensures.after all)

pub returns-in_default-clause-gets : goal.returns-in_default-clause-gets
returns-in_default-clause-gets g c = gets-put _ _ _ _ (returns-in_default-clause-items g c)

pub returns-in_default-clause-newest : goal.returns-in_default-clause-newest
returns-in_default-clause-newest g c = newest-put _ _ _ _ (returns-in_default-clause-items g c) c.requires.newest

pub returns-in_default-clause-len : goal.returns-in_default-clause-len
returns-in_default-clause-len g c = len-put _ _ _ _ (returns-in_default-clause-items g c) c.requires.newest

-- ---- one more

pub invariant_of-self-2 : goal.invariant_of-self-2
invariant_of-self-2 g c =
    let o = c.self.inside in
    let all = joined o.newest o.older.items c.in-Some.before (sym c.replace.ensures.value ∙ c.in-Some.is) c.hand_out.new.self.items c.hand_out.ensures.items in
    older-put c.replace.new.self c.hand_out.new.self.items (with_newest o.newest o.older.items) _ c.replace.ensures.after all (rw (← c.self.view_is) at c.requires.newest)

pub returns-clause-items : goal.returns-clause-items
returns-clause-items g c =
    let o = c.self.inside in
    let all = joined o.newest o.older.items c.in-Some.before (sym c.replace.ensures.value ∙ c.in-Some.is) c.hand_out.new.self.items c.hand_out.ensures.items in
    rw (← c.self.view_is) (put-newest c.replace.new.self c.hand_out.new.self.items (with_newest o.newest o.older.items) _ c.replace.ensures.after all)

pub returns-clause-gets : goal.returns-clause-gets
returns-clause-gets g c = gets-put _ _ _ _ (returns-clause-items g c)

pub returns-clause-newest : goal.returns-clause-newest
returns-clause-newest g c = newest-put _ _ _ _ (returns-clause-items g c) c.requires.newest

pub returns-clause-len : goal.returns-clause-len
returns-clause-len g c = len-put _ _ _ _ (returns-clause-items g c) c.requires.newest
