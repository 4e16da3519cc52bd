use Rattle.std.proofs.Common.{◌≡◌, suc, ◌+◌, ◌-◌, ◌<◌, ◌≤◌, length, drop, refl, sym, ap, ◌∙◌, arith}
use Rattle.moka_bench.specs.Phases.{is_known, is_stream, number_at}
use Rattle.moka_bench.proofs.FirstPhase.{short, no-words, not-known, goes-on}
use Rattle.moka_bench.proofs.phases.drive.Goals as goal

pub returns-then-rest-lt-HEADER : goal.returns-then-rest-lt-HEADER
returns-then-rest-lt-HEADER g c =
    let size = length c.args.stream.now in
    let at = c.loop.counter in
    let rest = c.loop.rest.now in
    c.is_empty.ensures ∙ sym (c.loop.invariant.2 ∙ short (size - at) rest c.if-rest-lt-HEADER.true)

pub returns-then-n-body : goal.returns-then-n-body
returns-then-n-body g c =
    let size = length c.args.stream.now in
    let at = c.loop.counter in
    let rest = c.loop.rest.now in
    let k = size - (at + 1) in
    let more : size - at ≡ suc k = omega (arith, c.loop-test.true) in
    let header : 4 ≤ length rest = c.if-rest-lt-HEADER.false in
    let back : length c.split_at.result.1.now + 4 ≡ length rest = c.split_at.ensures.back_len in
    let says : c.number-n.result ≡ number_at rest 1 = c.number-n.ensures in
    let words : length rest - 4 < number_at rest 1 = omega (arith, back, says, c.if-n-body.true) in
    sym (c.loop.invariant.2 ∙ ap (λ n. is_stream n rest) more ∙ no-words k rest header words)

pub returns-then-not-make : goal.returns-then-not-make
returns-then-not-make g c =
    let size = length c.args.stream.now in
    let at = c.loop.counter in
    let rest = c.loop.rest.now in
    let k = size - (at + 1) in
    let more : size - at ≡ suc k = omega (arith, c.loop-test.true) in
    let header : 4 ≤ length rest = c.if-rest-lt-HEADER.false in
    let back : length c.split_at.result.1.now + 4 ≡ length rest = c.split_at.ensures.back_len in
    let says : c.number-n.result ≡ number_at rest 1 = c.number-n.ensures in
    let words : number_at rest 1 ≤ length rest - 4 = omega (arith, back, says, c.if-n-body.false) in
    let known = sym (c.make.ensures ∙ ap is_known c.number-operation.ensures) ∙ c.if-not-make.true in
    sym (c.loop.invariant.2 ∙ ap (λ n. is_stream n rest) more ∙ not-known k rest header words known)

pub loop-preserved : goal.loop-preserved
loop-preserved g c =
    let size = length c.args.stream.now in
    let at = c.loop.counter in
    let rest = c.loop.rest.now in
    let k = size - (at + 1) in
    let more : size - at ≡ suc k = omega (arith, c.loop-test.true) in
    let header : 4 ≤ length rest = c.if-rest-lt-HEADER.false in
    let back : length c.split_at.result.1.now + 4 ≡ length rest = c.split_at.ensures.back_len in
    let says : c.number-n.result ≡ number_at rest 1 = c.number-n.ensures in
    let words : number_at rest 1 ≤ length rest - 4 = omega (arith, back, says, c.if-n-body.false) in
    let known = sym (c.make.ensures ∙ ap is_known c.number-operation.ensures) ∙ c.if-not-make.false in
    let behind = c.split_at-in-loop.ensures.back ∙ ap (λ n. drop n c.split_at.result.1.now) says ∙ ap (drop (number_at rest 1)) c.split_at.ensures.back in
    (refl, omega (arith, c.loop-test.true), c.loop.invariant.2 ∙ ap (λ n. is_stream n rest) more ∙ goes-on k rest header words known ∙ ap (is_stream k) (sym behind))

pub returns : goal.returns
returns g c =
    let size = length c.args.stream.now in
    let at = c.loop.counter in
    let rest = c.loop.rest.now in
    let none : size - at ≡ 0 = omega (arith, c.loop-test.false) in
    c.is_empty-2.ensures ∙ sym (c.loop.invariant.2 ∙ ap (λ n. is_stream n rest) none)
