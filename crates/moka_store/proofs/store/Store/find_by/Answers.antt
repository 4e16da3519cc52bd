use Rattle.std.proofs.Common.{◌≡◌, true, rules, refl, sym, ◌∙◌}
use Rattle.moka_records.proofs.Lookup.{present_key}
use Rattle.moka_records.proofs.Tested.{record_by_key}
use Rattle.moka_table.proofs.TableCalls.{get-records, get-places}
use Rattle.moka_table.specs.RecordTable.{records_of, stored_at}
use Rattle.moka_store.specs.Rows.{passes_at}
use Rattle.moka_store.proofs.Steps.{record-of-absent, one-each}
use Rattle.moka_store.proofs.Looked.{live-row, stored_passes}
use Rattle.moka_store.proofs.store.Store.find_by.Goals as goal

pub returns-in_err-place-clause-value : goal.returns-in_err-place-clause-value
returns-in_err-place-clause-value g c =
    let hashed = rw (← c.self.view_is) at c.requires.hashed in
    rw (c.from_residual.ensures, ← c.self.view_is) (sym (record-of-absent _ _ _ _ c.self.invariant.tied (g.T.KeyTest.passes c.args.test.now) c.args.hash.0 hashed
    (λ p h. let e = c.in_err-place.ensures.absent p h in search (rules, e))))

pub returns-in_err-place-clause-one_each : goal.returns-in_err-place-clause-one_each
returns-in_err-place-clause-one_each g c =
    rw (← c.self.view_is) (one-each _ _ _ _ c.self.invariant.tied g.met.K.Eq.laws)

pub live_at-requires : goal.live_at-requires
live_at-requires g c =
    let passes = g.T.KeyTest.passes c.args.test.now in
    let passing : passes_at passes c.self.inside.table.rows c.in_ok-place.place ≡ true = search (rules, c.in_ok-place.ensures.passes) in
    stored_passes (λ r. passes r.key) (stored_at c.self.inside.table.rows c.in_ok-place.place) passing

pub returns : goal.returns
returns g c =
    let f = c.live_at.result in
    let e = c.live_at.ensures in
    let key = f.1.key in
    let laws = g.met.K.Eq.laws in
    let passing : g.T.KeyTest.passes c.args.test.now key ≡ true = search (rules, c.in_ok-place.ensures.passes, e.stored) in
    let w = live-row c.self.inside.table.rows c.in_ok-place.place f.0.number f.1 e.number e.stored in
    let there = get-records _ c.self.invariant.tied.numbered _ _ w.at_is ∙ w.stored_is in
    let one = one-each _ _ _ _ c.self.invariant.tied laws in
    let own = present_key g.K.PartialEq.eq (records_of c.self.inside.table.rows) key laws one.one_each _ _ there (laws.refl key) in
    record {
      handle = rw (w.number_is, e.place, ← c.self.view_is) (record { placed = get-places _ c.self.invariant.tied.numbered _ _ w.at_is; stored = rw there refl });
      found = rw (w.number_is, ← c.self.view_is) there;
      passes = passing;
      value = rw (← c.self.view_is) (sym (record_by_key g.K.PartialEq.eq (g.T.KeyTest.passes c.args.test.now) (g.met.T.KeyTest.one_key c.args.test.now) (records_of c.self.inside.table.rows) key passing ∙ own));
      one_each = rw (← c.self.view_is) one;
    }
