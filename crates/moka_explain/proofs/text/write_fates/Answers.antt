use Rattle.std.proofs.Common.{◌≡◌, length, take, ap, sym, ◌∙◌, rules}
use Rattle.std.specs.Iterator.Adapters.{zip_first, zip_second}
use Rattle.std.specs.Slice.Iter.{iter_rest}
use Rattle.std.specs.List.{zip}
use Rattle.std.proofs.lemmas.List.{length_push}
use Rattle.std.proofs.lemmas.Slice.Zip.{zip_turn, zip_end}
use Rattle.std.proofs.lemmas.Grind.{put_two}
use Rattle.moka_explain.specs.Text.{fate_lines}
use Rattle.moka_explain.proofs.Lines.{lines_more, lines_all}
use Rattle.moka_explain.proofs.text.write_fates.Goals as goal

pub loop-before-preserved : goal.loop-before-preserved
loop-before-preserved g c = λ plain.
    let before = c.args.before.now in
    let after = c.args.after.now in
    let so_far = c.loop-before.yielded in
    let start = c.into_iter-before-iterator.result in
    let first : iter_rest (zip_first start) ≡ before = cc in
    let second : iter_rest (zip_second start) ≡ after = cc in
    let turn = zip_turn before after so_far start c.loop-before.before-iterator c.next.new.self c.next.result first second c.loop-before.yielded_by (c.in-Some.before, c.in-Some.after) c.in-Some.is c.next.ensures.steps in
    let written = c.loop-before.invariant plain in
    let line = c.write_fate.ensures written.plain (search rules) in
    let more = lines_more c.args.leaving c.args.hit before after (length so_far) c.in-Some.before.now c.in-Some.after.now turn.0 turn.1 turn.2 turn.3 in
    let one = ap (λ n. fate_lines c.args.leaving c.args.hit (take n (zip before after))) (sym (length_push so_far (c.in-Some.before, c.in-Some.after))) in
    put_two _ _ _ _ _ _ _ written line (more ∙ one)

pub returns : goal.returns
returns g c = λ plain ok.
    let before = c.args.before.now in
    let after = c.args.after.now in
    let so_far = c.loop-before.yielded in
    let start = c.into_iter-before-iterator.result in
    let first : iter_rest (zip_first start) ≡ before = cc in
    let second : iter_rest (zip_second start) ≡ after = cc in
    let end = zip_end before after so_far start c.loop-before.before-iterator c.next.new.self c.next.result first second c.loop-before.yielded_by c.in-None.is c.next.ensures.steps in
    let all = lines_all c.args.leaving c.args.hit before after (length so_far) end in
    rw (sym all) (c.loop-before.invariant plain)
