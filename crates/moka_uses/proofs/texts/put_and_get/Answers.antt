use Rattle.std.proofs.Common.{◌≡◌, rules, ap, None, false}
use Rattle.std.specs.String.{string_bytes, string_eq, string_eq_equiv}
use Rattle.moka_engine.specs.Listed.{ListedRun}
use Rattle.moka_uses.proofs.Found.{finds_what_was_put, hands_no_key, seen_alike}
use Rattle.moka_uses.proofs.texts.put_and_get.Goals as goal

pub returns-clause-text : goal.returns-clause-text
returns-clause-text c =
    let put = c.in_ok-ticket.ensures in
    let get = c.in_ok-found.ensures.step in
    let found = finds_what_was_put _ (λ _ _ _ answer. answer ≡ false) (λ _ _ _ _ left _. left) (ListedRun (λ _ _ _ answer. answer ≡ false) (λ _ _ _ _ left _. left) c.send.new.self.write_list c.get_with_hash.new.self.write_list) (λ _ _ _ _. None) (λ _ _ _ _ left. left) (λ _ _ _ weight. weight ≡ 1)
    (λ s t. string_bytes t ≡ string_bytes s) (λ s t. string_bytes t ≡ string_bytes s) string_eq_equiv _ _ _ c.in_ok-cache.cache.state (ap (λ x. x.state) c.in_ok-cache.ensures.empty) (search rules) (search rules) (search rules) (search rules)
    c.args.key c.hash-hash.result c.args.text (record { 0 = 0 }) (c.in_ok-ticket.ticket, c.in_ok-ticket.field-0-1) put.0 c.do_insert_with_hash.new.self.state put.1.1
    _ _ c.send.new.self.state c.in_ok-send.ensures.step
    c.in_ok-asked.asked (rw c.in_ok-asked.ensures.cases (string_eq_equiv.refl c.args.key)) c.hash-hash.result false 0 c.in_ok-found.found get.1.0 c.get_with_hash.new.self.state (get.0, get.1.1, get.2) in
    seen_alike string_bytes c.args.text c.in_ok-found.found found

pub returns-clause-no_key : goal.returns-clause-no_key
returns-clause-no_key c =
    let get = c.in_ok-found.ensures.step in
    hands_no_key string_eq (λ _ _ _ answer. answer ≡ false) (λ _ _ _ _ left _. left) (ListedRun (λ _ _ _ answer. answer ≡ false) (λ _ _ _ _ left _. left) c.send.new.self.write_list c.get_with_hash.new.self.write_list) (λ s t. string_bytes t ≡ string_bytes s) (λ s t. string_bytes t ≡ string_bytes s) c.send.new.self.state c.in_ok-asked.asked c.hash-hash.result 0 c.in_ok-found.found get.1.0 c.get_with_hash.new.self.state (get.0, get.1.1, get.2)
