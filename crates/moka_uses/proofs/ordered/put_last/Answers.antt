use Rattle.std.proofs.Common.{◌==◌, ◌≡◌, None}
use Rattle.moka_engine.specs.parts.Call.TheVariants as call
use Rattle.moka_engine.specs.parts.Reply.TheVariants as reply
use Rattle.moka_uses.proofs.HandedBack.{handed_back}
use Rattle.moka_uses.proofs.ordered.put_last.Goals as goal

pub returns : goal.returns
returns c =
    let called = c.do_insert_with_hash.ensures in
    let s = c.args.cache.now.state in
    let t = c.do_insert_with_hash.new.self.state in
    let back = handed_back (λ _ _ _ _. None) (λ _ _ _ _ left. left) (λ _ _ _ weight. weight ≡ 1) (λ a b. a == b) s c.args.key c.hash-hash.result c.args.value c.args.now called.0 t c.do_insert_with_hash.result called.1.1 in
    record {
      in_order = λ kept latest order. c.calls_keep_order.ensures s c.args.cache.now.write_list
          (record { call = call.Insert c.args.key c.hash-hash.result c.args.value c.args.now; reply = reply.Insert c.do_insert_with_hash.result; events = called.0; after = t })
          c.do_insert_with_hash.new.self.write_list c.invariant_holds.ensures.valid (called.1, called.2.listed) kept latest order;
      put = (c.hash-hash.result, (called.0, called.1, called.2, tt));
      back = back.0;
      unchanged = back.1;
    }
