use Rattle.std.proofs.Common.{refl, sym, ap, ◌∙◌}
use Rattle.moka_records.specs.Time.{has_passed, moment_of}
use Rattle.moka_lookups.proofs.inserts.expires_at_update.Goals as goal

pub returns-then-is_expired_by_per_entry_ttl : goal.returns-then-is_expired_by_per_entry_ttl
returns-then-is_expired_by_per_entry_ttl g c =
    let passed = ap (λ e. has_passed (moment_of e) c.args.now.0) (sym c.expires-expires.ensures) ∙ sym c.is_expired_by_per_entry_ttl.ensures ∙ c.if-is_expired_by_per_entry_ttl.true in
    rw (← c.in-Some.ensures, passed) (c.deadline_of.ensures ∙ rw c.expire_after_create.ensures refl)

pub returns : goal.returns
returns g c =
    let lasts = ap (λ e. has_passed (moment_of e) c.args.now.0) (sym c.expires-expires.ensures) ∙ sym c.is_expired_by_per_entry_ttl.ensures ∙ c.if-is_expired_by_per_entry_ttl.false in
    rw (← c.in-Some.ensures, lasts) (c.renewed.ensures.expires ∙ rw (c.renewed.ensures.changed, c.expire_after_update-answer.ensures, c.remaining-left.ensures, c.time_to_live-live.ensures, c.time_to_idle-idle.ensures, c.expires-expires.ensures) refl)
