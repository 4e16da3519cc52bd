use Rattle.std.proofs.Common.{◌+◌, ◌<◌, length, sym, ap, ◌∙◌, arith}
use Rattle.std.proofs.lemmas.List.{length_push, length-set}
use Rattle.moka_table.proofs.ColdRows.{count-whole, none_whole, inserted-last, inserted-within}
use Rattle.moka_table.proofs.WholeMaps.{whole-inserted_last, whole-inserted_within}
use Rattle.moka_table.proofs.table.RecordTable.insert.Goals as goal

pub invariant_of-self : goal.invariant_of-self
invariant_of-self g c =
    let s = whole-inserted_last c.self.inside.rows c.self.inside.cold.items _ _ c.self.invariant c.insert-place.new.self.rows c.insert-place.result c.args.stored c.split-front.result.0 c.split-front.result.1 c.split-front.ensures c.insert-place.ensures.changes c.insert-place.ensures.vacant (rw (← c.self.view_is) at c.requires.fresh) (omega arith) in
    let grown = c.insert-place.ensures.pushed (omega (arith, c.self.invariant.beside)) in
    let room = rw (← c.self.view_is) at c.requires.room in
    let longer = length_push c.self.inside.cold.items c.split-front.result.1 in
    rw c.push_reserved.ensures.items (record {
      beside = omega (arith, grown.0, longer, c.self.invariant.beside);
      places = omega (arith, grown.1, longer, room, c.self.invariant.beside);
      rows_fit = omega (arith, c.insert-place.ensures.len, c.insert-place.ensures.room, c.self.invariant.rows_fit);
      colds_fit = omega (arith, c.push_reserved.ensures.capacity, c.self.invariant.colds_fit);
      numbered = s.numbered;
    })

pub invariant_of-self-else-place-len : goal.invariant_of-self-else-place-len
invariant_of-self-else-place-len g c =
    let s = whole-inserted_within c.self.inside.rows c.self.inside.cold.items _ _ c.self.invariant c.insert-place.new.self.rows c.insert-place.result c.args.stored c.split-front.result.0 c.split-front.result.1 c.split-front.ensures c.insert-place.ensures.changes c.insert-place.ensures.vacant (rw (← c.self.view_is) at c.requires.fresh) (omega (arith, (c.insert-place.ensures.filled (λ e. omega (arith, c.self.invariant.beside))).1, c.self.invariant.beside)) in
    let same = c.insert-place.ensures.filled (λ e. omega (arith, c.self.invariant.beside)) in
    let many = length-set c.self.inside.cold.items c.insert-place.result c.split-front.result.1 in
    record {
      beside = omega (arith, same.0, many, c.self.invariant.beside);
      places = omega (arith, many, c.self.invariant.places);
      rows_fit = omega (arith, c.insert-place.ensures.len, c.insert-place.ensures.room, c.self.invariant.rows_fit);
      colds_fit = c.self.invariant.colds_fit;
      numbered = s.numbered;
    }

pub returns-then-place-len : goal.returns-then-place-len
returns-then-place-len g c =
    let s = whole-inserted_last c.self.inside.rows c.self.inside.cold.items _ _ c.self.invariant c.insert-place.new.self.rows c.insert-place.result c.args.stored c.split-front.result.0 c.split-front.result.1 c.split-front.ensures c.insert-place.ensures.changes c.insert-place.ensures.vacant (rw (← c.self.view_is) at c.requires.fresh) (omega arith) in
    record {
      vacant = rw (← c.self.view_is) (none_whole _ _ _ c.insert-place.ensures.vacant);
      changes = rw (c.push_reserved.ensures.items, ← c.self.view_is) (inserted-last c.self.inside.rows.rows c.insert-place.new.self.rows c.self.inside.cold.items c.insert-place.result c.args.stored c.split-front.result.0 c.split-front.result.1 c.split-front.ensures c.insert-place.ensures.changes (omega arith));
      records = rw (c.push_reserved.ensures.items, ← c.self.view_is) s.records_is;
      counted = rw (c.push_reserved.ensures.items, ← c.self.view_is) s.counted_is;
      places = rw (c.push_reserved.ensures.items, ← c.self.view_is) s.places_is;
      len = rw (← c.self.view_is) (count-whole _ _ ∙ c.insert-place.ensures.len ∙ ap (λ n. n + 1) (sym (count-whole c.self.inside.rows.rows c.self.inside.cold.items)));
      room = (let room = rw (← c.self.view_is) at c.requires.room in rw (← c.self.view_is) (omega (arith, room, c.insert-place.ensures.len)));
    }

pub returns-else-place-len : goal.returns-else-place-len
returns-else-place-len g c =
    let within : c.insert-place.result < length c.self.inside.cold.items = (let f = c.insert-place.ensures.filled (λ e. omega (arith, c.self.invariant.beside)) in omega (arith, f.1, c.self.invariant.beside)) in
    let s = whole-inserted_within c.self.inside.rows c.self.inside.cold.items _ _ c.self.invariant c.insert-place.new.self.rows c.insert-place.result c.args.stored c.split-front.result.0 c.split-front.result.1 c.split-front.ensures c.insert-place.ensures.changes c.insert-place.ensures.vacant (rw (← c.self.view_is) at c.requires.fresh) within in
    record {
      vacant = rw (← c.self.view_is) (none_whole _ _ _ c.insert-place.ensures.vacant);
      changes = rw (← c.self.view_is) (inserted-within c.self.inside.rows.rows c.insert-place.new.self.rows c.self.inside.cold.items c.insert-place.result c.args.stored c.split-front.result.0 c.split-front.result.1 c.split-front.ensures c.insert-place.ensures.changes within);
      records = rw (← c.self.view_is) s.records_is;
      counted = rw (← c.self.view_is) s.counted_is;
      places = rw (← c.self.view_is) s.places_is;
      len = rw (← c.self.view_is) (count-whole _ _ ∙ c.insert-place.ensures.len ∙ ap (λ n. n + 1) (sym (count-whole c.self.inside.rows.rows c.self.inside.cold.items)));
      room = (let room = rw (← c.self.view_is) at c.requires.room in rw (← c.self.view_is) (omega (arith, room, c.insert-place.ensures.len)));
    }
