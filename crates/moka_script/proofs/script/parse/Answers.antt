use Rattle.std.proofs.Common.{◌==◌, ◌∙◌, sym, subst, rules, tests, arith}
use Rattle.std.proofs.lemmas.Iterator.Splits.{YieldsList-from_slice_split}
use Rattle.std.proofs.lemmas.Iterator.Consumers.{YieldsList-turn, YieldsList-end}
use Rattle.std.proofs.lemmas.List.{length_push}
use Rattle.moka_script.specs.Script.{lines_of, text_of}
use Rattle.moka_script.proofs.Lines.{IsLineAt, lines_read_more, lines_read_all, keeps_some_more, stops_at, passed_on, length-lines_of-le}
use Rattle.moka_script.proofs.script.parse.Goals as goal

pub overflow_add-number : goal.overflow_add-number
overflow_add-number c =
    let t = YieldsList-turn (YieldsList-from_slice_split _ (λ byte. byte == 10) c.args.text.now (cc) (cc) (cc) (λ x b q k. search (rules, tests))) c.loop-line.yielded _ c.loop-line.yielded_by _ _ c.in-Some.line c.in-Some.is c.next.ensures.steps in
    omega (arith, t.0, length-lines_of-le c.args.text.now)

pub loop-line-preserved : goal.loop-line-preserved
loop-line-preserved c =
    let t = YieldsList-turn (YieldsList-from_slice_split _ (λ byte. byte == 10) c.args.text.now (cc) (cc) (cc) (λ x b q k. search (rules, tests))) c.loop-line.yielded _ c.loop-line.yielded_by _ _ c.in-Some.line c.in-Some.is c.next.ensures.steps in
    let here = subst (IsLineAt (lines_of c.args.text.now) c.in-Some.line.now) (sym c.loop-line.invariant.counted) t in
    record {
      counted = omega (arith, length_push c.loop-line.yielded c.in-Some.line);
      left = sym (lines_read_more _ _ _ _ _ here c.in_ok-read.ensures) ∙ c.loop-line.invariant.left;
      asks = λ later. c.loop-line.invariant.asks (keeps_some_more _ _ _ _ here _ c.in_ok-read.ensures later);
    }

pub returns-in_err-read : goal.returns-in_err-read
returns-in_err-read c =
    let t = YieldsList-turn (YieldsList-from_slice_split _ (λ byte. byte == 10) c.args.text.now (cc) (cc) (cc) (λ x b q k. search (rules, tests))) c.loop-line.yielded _ c.loop-line.yielded_by _ _ c.in-Some.line c.in-Some.is c.next.ensures.steps in
    let here = subst (IsLineAt (lines_of c.args.text.now) c.in-Some.line.now) (sym c.loop-line.invariant.counted) t in
    passed_on c.args.text.now _ _ c.from_residual.ensures.1 (stops_at _ _ c.args.text.now _ _ _ here c.in_err-read.ensures c.loop-line.invariant.left c.loop-line.invariant.asks)

pub returns : goal.returns
returns c =
    let t = YieldsList-end (YieldsList-from_slice_split _ (λ byte. byte == 10) c.args.text.now (cc) (cc) (cc) (λ x b q k. search (rules, tests))) c.loop-line.yielded _ c.loop-line.yielded_by _ _ c.in-None.is c.next.ensures.steps in
    sym c.loop-line.invariant.left ∙ lines_read_all c.loop-line.number (text_of c.loop-line.script) (lines_of c.args.text.now) (omega (arith, t.1))
