use Rattle.std.proofs.Common.{refl, ◌≡◌, ◌==◌, ◌+◌, ◌≤◌, ◌++◌, ◌∷◌, ℕ, Option, Some, [], min, rules, ap, sym, subst, ◌∙◌, None, Ok, false, arith}
use Rattle.std.specs.String.{string_len}
use Rattle.moka_engine.specs.State.{is_disabled}
use Rattle.std.specs.Prelude.{String}
use Rattle.moka_engine.specs.parts.Operation.TheVariants.{Upsert}
use Rattle.moka_engine.specs.parts.Ticketed.{Ticketed}
use Rattle.moka_engine.specs.Calls.{InsertsAt, Weighs, no_events}
use Rattle.moka_engine.specs.Config.{chosen_settings}
use Rattle.moka_engine.specs.Records.{record_of_key}
use Rattle.moka_uses.specs.declared.weighed.ByLength.{ByLength}
use Rattle.moka_engine.specs.Time.{greatest}
use Rattle.moka_engine.proofs.Lookup.{record_of_key_empty}
use Rattle.moka_uses.proofs.Both.{AreBoth, both_stay, never_lapses, put_both, reports_both}
use Rattle.moka_uses.proofs.Room.{has_room, queued}
use Rattle.moka_uses.proofs.Sent.{hands_out, sends, put_and_sent, alike_then, weight_within}
use Rattle.moka_uses.proofs.weighed.keep_two.Goals as goal

pub do_insert_with_hash-requires-2 : goal.do_insert_with_hash-requires-2
do_insert_with_hash-requires-2 c =
    let s = c.in_ok-cache.cache.state in
    let t = c.do_insert_with_hash.new.self.state in
    let put = hands_out (λ _ _ _ _. None) (λ _ _ _ _ left. left) (λ _ _ text weight. weight ≡ min (string_len text) 4294967295) (λ a b. a == b) s 1 c.hash-one_hash.result c.args.one (record { 0 = 0 }) (c.in_ok-first.first, c.in_ok-first.field-0-1) c.in_ok-first.ensures.0 t c.in_ok-first.ensures.1.1 in
    let sent = sends t _ _ c.send.new.self.state c.in_ok-send.ensures.step in
    record { enabled = ap is_disabled (sent.alike.capacity ∙ put.alike.capacity ∙ ap (λ x. x.state.capacity) c.in_ok-cache.ensures.empty) ∙ search rules }

-- a short text weighs its bytes
bytes_of : (n : ℕ) → n ≤ 1000 → min n 4294967295 ≡ n
bytes_of n few = grind (arith, few)

within_limits : (n : ℕ) → n ≤ 1000 → min n greatest ≡ n
within_limits n few = grind (arith, few)

module _ {Z : Type 0} where
  weighs_bytes : (weigher : Option ByLength) (key : ℕ) (text : String Z) (weight : ℕ) → weigher ≡ Some (record {}) → Weighs (λ _ _ text weight. weight ≡ min (string_len text) 4294967295) weigher key text weight → weight ≡ min (string_len text) 4294967295
  weighs_bytes None key text weight set is = cc
  weighs_bytes (Some x) key text weight set is = is

pub returns : goal.returns
returns c =
    let one = c.in_ok-first.ensures in
    let other = c.in_ok-second.ensures in
    let s = c.in_ok-cache.cache.state in
    let t = c.do_insert_with_hash.new.self.state in
    let v = c.send.new.self.state in
    let x = c.do_insert_with_hash-2.new.self.state in
    let y = c.send-2.new.self.state in
    let z = c.run_pending_tasks.new.self.state in
    let run = c.run_pending_tasks.ensures.step in
    let first = hands_out (λ _ _ _ _. None) (λ _ _ _ _ left. left) (λ _ _ text weight. weight ≡ min (string_len text) 4294967295) (λ a b. a == b) s 1 c.hash-one_hash.result c.args.one (record { 0 = 0 }) (c.in_ok-first.first, c.in_ok-first.field-0-1) one.0 t one.1.1 in
    let sent = sends t _ _ v c.in_ok-send.ensures.step in
    let second = hands_out (λ _ _ _ _. None) (λ _ _ _ _ left. left) (λ _ _ text weight. weight ≡ min (string_len text) 4294967295) (λ a b. a == b) v 2 c.hash-other_hash.result c.args.other (record { 0 = 0 }) (c.in_ok-second.second, c.in_ok-second.field-0-1) other.0 x other.1.1 in
    let last = sends x _ _ y c.in_ok-send-2.ensures.step in
    let new = ap (λ x. x.state) c.in_ok-cache.ensures.empty in
    let alike = alike_then s v y (alike_then s t v first.alike sent.alike) (alike_then v x y second.alike last.alike) in
    let none = put_and_sent v x y _ second last (put_and_sent s t v _ first sent (ap (λ x. x.outstanding) new)) in
    record {
      within = rw c.weighted_size.ensures (weight_within (λ _ _ _ answer. answer ≡ false) (λ _ _ _ _ left _. left) c.send-2.new.self.write_list c.run_pending_tasks.new.self.write_list y (record { now = 0; limit = None; batch = 384 }) c.run_pending_tasks.result run.0 z run.1
          1000 (alike.capacity ∙ ap (λ x. x.capacity) new ∙ search rules) (ap is_disabled (alike.capacity ∙ ap (λ x. x.capacity) new) ∙ search rules) refl (omega arith) none);
      made = (
        c.in_ok-cache.cache.state,
        c.send.new.self.state,
        c.send-2.new.self.state,
        c.run_pending_tasks.new.self.state,
        c.run_pending_tasks.result,
        rw (c.weigher-config.ensures, c.eviction_policy.ensures, c.max_capacity.ensures, c.default.ensures, c.lru-policy.ensures) at (ap (λ x. x.state) c.in_ok-cache.ensures.empty),
        (c.do_insert_with_hash.new.self.state, c.hash-one_hash.result, (c.in_ok-first.first, c.in_ok-first.field-0-1), ([], [], one.0, one.1), ([], [], no_events, (c.in_ok-send.ensures.step, refl))),
        (c.do_insert_with_hash-2.new.self.state, c.hash-other_hash.result, (c.in_ok-second.second, c.in_ok-second.field-0-1), ([], [], other.0, other.1), ([], [], no_events, (c.in_ok-send-2.ensures.step, refl))),
        (c.send-2.new.self.write_list, c.run_pending_tasks.new.self.write_list, run.0, run.1),
        c.weighted_size.ensures,
      );
      both = λ fits. (
          let put = put_both (λ a b. a == b) (λ _ _ _ _. None) (λ _ _ _ _ left. left) (λ _ _ text weight. weight ≡ min (string_len text) 4294967295) _ _ _ s new (search rules)
          1 c.hash-one_hash.result c.args.one (record { 0 = 0 }) (c.in_ok-first.first, c.in_ok-first.field-0-1) one.0 t one.1.1 v sent.records sent.next_number sent.alike.settings
          2 c.hash-other_hash.result c.args.other (record { 0 = 0 }) (c.in_ok-second.second, c.in_ok-second.field-0-1) other.0 x other.1.1 refl in
          let settings = chosen_settings c.weigher-config.result in
          let by_length : settings.weigher ≡ Some (record {}) = search rules in
          let few : string_len c.args.one ≤ 1000 = omega (arith, fits) in
          let other_few : string_len c.args.other ≤ 1000 = omega (arith, fits) in
          let weight_p = weighs_bytes settings.weigher 1 c.args.one put.p.weight by_length put.weight_p in
          let weight_q = weighs_bytes settings.weigher 2 c.args.other put.q.weight by_length put.weight_q in
          let step : InsertsAt (λ _ _ _ _. None) (λ _ _ _ _ left. left) (λ _ _ text weight. weight ≡ min (string_len text) 4294967295) s None 1 c.hash-one_hash.result c.args.one (record { 0 = 0 }) (Ok (c.in_ok-first.first, c.in_ok-first.field-0-1)) one.0 t =
          subst (λ o. InsertsAt (λ _ _ _ _. None) (λ _ _ _ _ left. left) (λ _ _ text weight. weight ≡ min (string_len text) 4294967295) s o 1 c.hash-one_hash.result c.args.one (record { 0 = 0 }) (Ok (c.in_ok-first.first, c.in_ok-first.field-0-1)) one.0 t)
          (ap (λ x. record_of_key (λ a b. a == b) x.records 1) new ∙ record_of_key_empty (λ a b. a == b) 1) one.1.1 in
          let next : InsertsAt (λ _ _ _ _. None) (λ _ _ _ _ left. left) (λ _ _ text weight. weight ≡ min (string_len text) 4294967295) v None 2 c.hash-other_hash.result c.args.other (record { 0 = 0 }) (Ok (c.in_ok-second.second, c.in_ok-second.field-0-1)) other.0 x =
          subst (λ o. InsertsAt (λ _ _ _ _. None) (λ _ _ _ _ left. left) (λ _ _ text weight. weight ≡ min (string_len text) 4294967295) v o 2 c.hash-other_hash.result c.args.other (record { 0 = 0 }) (Ok (c.in_ok-second.second, c.in_ok-second.field-0-1)) other.0 x)
          put.missed other.1.1 in
          let first_queued = queued (λ _ _ _ _. None) (λ _ _ _ _ left. left) (λ _ _ text weight. weight ≡ min (string_len text) 4294967295) s 1 c.hash-one_hash.result c.args.one (record { 0 = 0 }) (c.in_ok-first.first, c.in_ok-first.field-0-1) one.0 t step _ v c.in_ok-send.ensures.step in
          let second_queued = queued (λ _ _ _ _. None) (λ _ _ _ _ left. left) (λ _ _ text weight. weight ≡ min (string_len text) 4294967295) v 2 c.hash-other_hash.result c.args.other (record { 0 = 0 }) (c.in_ok-second.second, c.in_ok-second.field-0-1) other.0 x next _ y c.in_ok-send-2.ensures.step in
          let h : Ticketed = record { ticket = c.in_ok-first.first.0; operation = Upsert s.next_number 1 step.0 c.hash-one_hash.result } in
          let k : Ticketed = record { ticket = c.in_ok-second.second.0; operation = Upsert v.next_number 1 next.0 c.hash-other_hash.result } in
          let number_one : s.next_number ≡ 1 = ap (λ x. x.next_number) new in
          let number_two : v.next_number ≡ 2 = sent.next_number ∙ ap (λ x. x.next_number) step.5 ∙ ap (λ n. n + 1) number_one in
          let weight_h = weighs_bytes s.settings.weigher 1 c.args.one step.0 (ap (λ x. x.settings.weigher) new ∙ by_length) step.1 in
          let weight_k = weighs_bytes v.settings.weigher 2 c.args.other next.0 (ap (λ x. x.weigher) (sent.alike.settings ∙ first.alike.settings ∙ ap (λ x. x.settings) new) ∙ by_length) next.1 in
          let both = subst (λ m. AreBoth m 1 2 put.p put.q) (sym last.records) put.both in
          let access : y.access ≡ [] = last.access ∙ ap (λ x. x.access) next.5 ∙ sent.access ∙ ap (λ x. x.access) step.5 ∙ ap (λ x. x.access) new in
          let writes : y.writes ≡ ([] ++ h ∷ []) ++ k ∷ [] = second_queued ∙ ap (λ ws. ws ++ k ∷ []) (first_queued ∙ ap (λ ws. ws ++ h ∷ []) (ap (λ x. x.writes) new)) in
          let capacity : y.capacity ≡ Some 1000 = alike.capacity ∙ ap (λ x. x.capacity) new ∙ search rules in
          let bytes_p : put.p.weight ≡ string_len c.args.one = weight_p ∙ bytes_of (string_len c.args.one) few in
          let bytes_q : put.q.weight ≡ string_len c.args.other = weight_q ∙ bytes_of (string_len c.args.other) other_few in
          let bound : y.invalid_before ≡ None = alike.bound ∙ ap (λ x. x.invalid_before) new in
          let live : y.settings.time_to_live ≡ None = ap (λ s. s.time_to_live) (alike.settings ∙ ap (λ x. x.settings) new) ∙ search rules in
          let idle : y.settings.time_to_idle ≡ None = ap (λ s. s.time_to_idle) (alike.settings ∙ ap (λ x. x.settings) new) ∙ search rules in
          let room = has_room (λ (_ : ByLength) (_ : ℕ) text weight. weight ≡ min (string_len text) 4294967295) y put.p put.q both h k number_one number_two (weight_h ∙ sym weight_p) (weight_k ∙ sym weight_q) none access writes 1000 capacity refl (omega (arith, bytes_p, bytes_q, fits)) in
          let stay = both_stay (λ (_ : ByLength) (_ : ℕ) text weight. weight ≡ min (string_len text) 4294967295) (λ _ _ _ answer. answer ≡ false) (λ _ _ _ _ left _. left) c.send-2.new.self.write_list c.run_pending_tasks.new.self.write_list y _ c.run_pending_tasks.result run.0 z run.1
          (record { room = room; bound = bound; predicates = alike.predicates ∙ ap (λ x. x.predicates) new })
          1 2 put.p put.q both (never_lapses y.settings y.invalid_before put.p 0 live idle bound put.unexpiring_p) (never_lapses y.settings y.invalid_before put.q 0 live idle bound put.unexpiring_q) in
          let told = reports_both z 1 2 _ _ (c.run_pending_tasks.ensures.exact none) stay.2 in
          rw c.weighted_size.ensures (told.1 ∙ rw (bytes_p, bytes_q) (within_limits (string_len c.args.one + string_len c.args.other) fits))
          );
    }
