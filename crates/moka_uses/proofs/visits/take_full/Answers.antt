use Rattle.std.proofs.Common.{arith, ◌≡◌, ℕ, Option, option_copied, Bor, ap, ◌∙◌}
use Rattle.moka_uses.specs.Visits.{meaning, op_for}
use Rattle.moka_uses.proofs.Visited.{IsTaken, not_removed, renamed, taken_out}
use Rattle.moka_uses.proofs.visits.take_full.Goals as goal

pub returns-in-Removed : goal.returns-in-Removed
returns-in-Removed g c =
    let made = c.and_compute_with.ensures.step in
    let old = c.entry.result.cache.now.engine in
    let new = c.and_compute_with.new.self.0.engine in
    let told = made.6 in
    let all = taken_out g.C.Clock.reads c.entry.result.key _ c.args.now old c.args.clock.now new c.and_compute_with.new.clock (λ a b. b ≡ a) made.0 made.1 made.2 made.8 c.args.limit (λ seen op. (x : Option (Bor ℕ)) × (option_copied x ≡ seen) × (Option (Bor ℕ) × (op ≡ op_for c.args.limit (option_copied x)))) (λ seen op told. told.2.1 ∙ ap (op_for c.args.limit) told.1) made.3 made.4 c.and_compute_with.result made.5 (told.0, told.1, told.2, c.hears_themselves.ensures (λ x y e. e) (λ x y e. e) told.0 told.1 old new c.args.clock.now c.and_compute_with.new.clock told.3) made.9 in
    let here = renamed _ new (grind (arith, c.entry.ensures.same_cache)) (λ e. IsTaken (meaning g.C.Clock.reads) c.args.page c.args.now c.args.visits.now.engine c.args.clock.now e c.and_compute_with.new.clock c.args.limit) _ (rw (c.entry.ensures.key, c.entry.ensures.unchanged) at (rw c.in-Removed.is at (rw c.in-Ok.is at all))) in
    record { full = here.full; left = here.left; removed = here.removed; looked_up = here.looked_up }

pub returns-in_default : goal.returns-in_default
returns-in_default g c =
    let made = c.and_compute_with.ensures.step in
    let old = c.entry.result.cache.now.engine in
    let new = c.and_compute_with.new.self.0.engine in
    let told = made.6 in
    let all = taken_out g.C.Clock.reads c.entry.result.key _ c.args.now old c.args.clock.now new c.and_compute_with.new.clock (λ a b. b ≡ a) made.0 made.1 made.2 made.8 c.args.limit (λ seen op. (x : Option (Bor ℕ)) × (option_copied x ≡ seen) × (Option (Bor ℕ) × (op ≡ op_for c.args.limit (option_copied x)))) (λ seen op told. told.2.1 ∙ ap (op_for c.args.limit) told.1) made.3 made.4 c.and_compute_with.result made.5 (told.0, told.1, told.2, c.hears_themselves.ensures (λ x y e. e) (λ x y e. e) told.0 told.1 old new c.args.clock.now c.and_compute_with.new.clock told.3) made.9 in
    let here = renamed _ new (grind (arith, c.entry.ensures.same_cache)) (λ e. IsTaken (meaning g.C.Clock.reads) c.args.page c.args.now c.args.visits.now.engine c.args.clock.now e c.and_compute_with.new.clock c.args.limit) _ (rw (c.entry.ensures.key, c.entry.ensures.unchanged) at (rw (not_removed c.in-Ok.done c.in_default.not-Removed) at (rw c.in-Ok.is at all))) in
    record { full = tt; left = here.left; removed = here.removed; looked_up = here.looked_up }
