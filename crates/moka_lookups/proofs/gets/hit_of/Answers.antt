use Rattle.std.proofs.Common.{rules, refl, ◌∙◌}
use Rattle.moka_lookups.proofs.gets.hit_of.Goals as goal

pub returns : goal.returns
returns g c =
    let set = c.in-Some.ensures in
    record {
      moment = search rules;
      expiry = rw (← set) (c.renewed-expires.ensures.expires ∙ rw (c.renewed-expires.ensures.changed, c.expire_after_read-answer.ensures, c.left_at-left.ensures, c.expires-2.ensures, c.written-written.ensures, c.key.ensures, c.value.ensures) refl);
      renewal = rw (← set) (c.renewed-expires.ensures.changed ∙ rw (c.expire_after_read-answer.ensures, c.left_at-left.ensures, c.written-written.ensures, c.key.ensures, c.value.ensures) refl);
    }
