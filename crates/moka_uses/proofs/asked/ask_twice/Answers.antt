use Rattle.std.proofs.Common.{◌≡◌, ◌==◌, refl, Option, Some, None, Result, Ok, is_some, ap, sym, ◌∙◌, false, subst, true≢false}
use Rattle.moka_engine.specs.parts.Entry.{Entry}
use Rattle.moka_engine.specs.parts.OutOfMemory.{OutOfMemory}
use Rattle.moka_engine.specs.parts.Call.TheVariants as call
use Rattle.moka_engine.specs.parts.Reply.TheVariants as reply
use Rattle.moka_engine.specs.Copies.{IsCopiedAnswer, IsEntryCopy}
use Rattle.moka_engine.specs.Laws.{is_found, is_answered}
use Rattle.moka_engine.proofs.Copies.{answer-same, entry-same}
use Rattle.moka_uses.specs.Made.{IsOneCall, engine_meaning}
use Rattle.moka_uses.proofs.asked.ask_twice.Goals as goal

-- where clones are equal, what was got is what is handed out
got_itself : {K V : Type 0} (own : Result (Option (Entry K V)) OutOfMemory) (found : Option (Entry K V)) → IsCopiedAnswer (IsEntryCopy {K = K} {V = V} (λ a b. b ≡ a) (λ a b. b ≡ a)) own (Ok found) → own ≡ Ok found
got_itself {K} {V} own found copied = sym (answer-same (IsEntryCopy {K = K} {V = V} (λ a b. b ≡ a) (λ a b. b ≡ a)) (entry-same (λ a b. b ≡ a) (λ a b. b ≡ a) (λ x y same. same) (λ x y same. same)) own (Ok found) copied)

found_some : {A : Type 0} (found : Option A) → is_found {E = OutOfMemory} (Ok found) ≡ is_some found
found_some (Some x) = refl
found_some None = refl

pub returns-clause-got : goal.returns-clause-got
returns-clause-got c =
    let (own, made, copied) = c.in-Ok.ensures.step in
    (c.hash-hash.result, c.in-Ok.found, c.is_some.ensures, subst (λ a. IsOneCall (engine_meaning (λ a b. a == b)) c.args.cache.now c.get_with_hash.new.self (call.Get c.args.key c.hash-hash.result false c.args.now) (reply.Get a)) (got_itself own c.in-Ok.found copied) (made.0, made.1, made.2, tt))

pub returns-clause-alike : goal.returns-clause-alike
returns-clause-alike c =
    let (own, made, copied) = c.in-Ok.ensures.step in
    let itself = got_itself own c.in-Ok.found copied in
    let agrees = c.gets_what_is_contained.ensures.listed c.args.cache.now.write_list c.get_with_hash.new.self.write_list c.args.cache.now.state c.args.key c.hash-hash.result false c.args.now.0 own made.0 c.get_with_hash.new.self.state c.contains_key_with_hash-is_contained.result
    c.invariant_holds.ensures.valid.numbered made.1 c.contains_key_with_hash-is_contained.ensures (ap is_answered itself) in
    sym agrees ∙ ap is_found itself ∙ found_some c.in-Ok.found ∙ sym c.is_some.ensures

pub unreachable-requires : goal.unreachable-requires
unreachable-requires c = true≢false (sym (c.in-Err.ensures.succeeds (λ r there. (tt, λ asked. tt))))
