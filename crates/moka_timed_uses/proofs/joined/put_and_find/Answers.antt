use Rattle.std.proofs.Common.{◌≡◌, true, ◌++◌, subst}
use Rattle.moka_engine.specs.Order.{IsWriteList}
use Rattle.moka_engine.specs.Settling.{IsValid}
use Rattle.moka_engine.specs.State.{keeps_write_list}
use Rattle.moka_timed_uses.proofs.joined.put_and_find.Goals as goal

pub returns-clause-made : goal.returns-clause-made
returns-clause-made g c =
    let laws = c.made_anytime.ensures.themselves in
    let old = c.args.cache.now.cache.engine in
    let mid = c.insert-put.new.self.cache.engine in
    let new = c.get-found.new.self.cache.engine in
    let valid = subst (λ e. IsValid g.K.PartialEq.eq e.state) c.engine.ensures c.invariant_holds.ensures.valid in
    let listed = subst (λ e. keeps_write_list e.state.settings ≡ true → IsWriteList e.state e.write_list) c.engine.ensures c.invariant_holds.ensures.listed in
    let (first, read, told, stored) = c.insert-put.ensures.made in
    let (inserting, inserted, inserts, put) = stored.made in
    let (later, read_again, told_again, handed_out) = c.get-found.ensures.made in
    let (own, copied, (getting, got, gets, found)) = handed_out.made in
    let made = laws.goes_on inserting getting inserted got old mid new tt tt tt
    (laws.made inserting inserted old mid read c.insert-put.new.self.clock put)
    (laws.made getting got mid new read_again c.get-found.new.self.clock found) in (
      _,
      _,
      first,
      later,
      read,
      c.insert-put.new.self.clock,
      read_again,
      mid,
      told,
      told_again,
      own,
      copied,
      inserting,
      getting,
      inserted,
      got,
      inserts,
      put,
      gets,
      found,
      laws.keeps_promises (inserting ++ getting) (inserted ++ got) old new tt tt valid listed made,
    )

pub returns-clause-found : goal.returns-clause-found
returns-clause-found g c = λ granted. c.get-found.ensures.succeeds (λ r there. granted r.value)
