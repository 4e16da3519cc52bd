use Rattle.std.proofs.Common.{◌≡◌, ◌==◌, rules, ap, Some, None, false}
use Rattle.moka_engine.specs.Listed.{ListedRun}
use Rattle.moka_engine.proofs.Copies.{copy-same}
use Rattle.std.specs.Cmp.{nat_eq_equiv}
use Rattle.moka_uses.proofs.Found.{finds_what_was_put, hands_no_key, value_alone}
use Rattle.moka_uses.proofs.bounded.put_and_get.Goals as goal

pub returns : goal.returns
returns c =
    let put = c.in_ok-ticket.ensures in
    let get = c.in_ok-found.ensures.step in
    let found = finds_what_was_put _ (λ _ _ _ answer. answer ≡ false) (λ _ _ _ _ left _. left) (ListedRun (λ _ _ _ answer. answer ≡ false) (λ _ _ _ _ left _. left) c.send.new.self.write_list c.get_with_hash.new.self.write_list) (λ _ _ _ _. None) (λ _ _ _ _ left. left) (λ _ _ _ weight. weight ≡ 1)
    (λ x y. y ≡ x) (λ x y. y ≡ x) nat_eq_equiv _ _ _ c.in_ok-cache.cache.state (ap (λ x. x.state) c.in_ok-cache.ensures.empty) (search rules) (search rules) (search rules) (search rules)
    c.args.key c.hash-hash.result c.args.value (record { 0 = 0 }) (c.in_ok-ticket.ticket, c.in_ok-ticket.field-0-1) put.0 c.do_insert_with_hash.new.self.state put.1.1
    _ _ c.send.new.self.state c.in_ok-send.ensures.step
    c.args.key (nat_eq_equiv.refl c.args.key) c.hash-hash.result false 0 c.in_ok-found.found get.1.0 c.get_with_hash.new.self.state (get.0, get.1.1, get.2) in
    let keyless = hands_no_key (λ a b. a == b) (λ _ _ _ answer. answer ≡ false) (λ _ _ _ _ left _. left) (ListedRun (λ _ _ _ answer. answer ≡ false) (λ _ _ _ _ left _. left) c.send.new.self.write_list c.get_with_hash.new.self.write_list) (λ x y. y ≡ x) (λ x y. y ≡ x) c.send.new.self.state c.args.key c.hash-hash.result 0 c.in_ok-found.found get.1.0 c.get_with_hash.new.self.state (get.0, get.1.1, get.2) in
    value_alone c.args.value c.in_ok-found.found (copy-same (λ x y. y ≡ x) (λ x y same. same) (Some c.args.value) _ found) keyless
