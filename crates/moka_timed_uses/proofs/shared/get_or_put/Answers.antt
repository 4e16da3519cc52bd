use Rattle.std.proofs.Common.{refl, [], ◌∷◌}
use Rattle.moka_segments.specs.Laws.{Move}
use Rattle.moka_timed_uses.proofs.shared.get_or_put.Goals as goal

pub returns-clause-made : goal.returns-clause-made
returns-clause-made g c = rw (← c.segment_of-own.ensures.place) (record {
  routing = refl;
  one = record { before = c.segment_mut.result.now; after = c.put_if_absent.new.cache; there = c.segment_mut.ensures.is; step = c.put_if_absent.ensures.made; others = refl };
})

pub returns-clause-moves : goal.returns-clause-moves
returns-clause-moves g c =
    let (put, own, is, hands, entry, (calls, replies, fit, made), counted, given, back) = c.put_if_absent.ensures.made in
    let v : Move g.row.K.Denot g.row.V.Denot g.row.P.Denot = record { index = c.segment_of-own.result; calls = calls; replies = replies } in
    rw (← c.segment_of-own.ensures.place) (
      put,
      own,
      (
        v ∷ [],
        (v, c.segment_mut.result.now, refl, refl, c.segment_mut.ensures.is, fit),
        c.lent_calls_are_moves.ensures.of_entries v c.args.clock.now c.put_if_absent.new.clock c.args.cache.now _ (record {
          routing = refl;
          one = record { before = c.segment_mut.result.now; after = c.put_if_absent.new.cache; there = c.segment_mut.ensures.is; step = made; others = refl };
        }),
      ),
    )

pub returns-clause-succeeds : goal.returns-clause-succeeds
returns-clause-succeeds g c = rw (← c.segment_of-own.ensures.place) (record {
  routing = refl;
  one = record { before = c.segment_mut.result.now; after = c.put_if_absent.new.cache; there = c.segment_mut.ensures.is; step = c.put_if_absent.ensures.succeeds; others = refl };
})
