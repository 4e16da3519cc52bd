-- A record in its parts.
use Rattle.std.specs.Prelude.{ℕ, Bool, Option, Some, None, if◌then◌else◌, refl}
use Rattle.std.specs.Coded.{Coded, code_by, coded×, coded_ℕ, coded_bool, coded_option}
use Rattle.moka_records.specs.declared.instant.Instant.{Instant}
use Rattle.moka_records.specs.declared.records.Record.{Record}
use Rattle.moka_records.specs.declared.record_ref.Hot.{Hot}
use Rattle.moka_records.specs.declared.record_ref.Front.{Front}
use Rattle.moka_records.specs.declared.record_ref.Cold.{Cold}

-- a moment is stored as its number
abbrev pub instant_code : Coded Instant
instant_code = code_by ℕ coded_ℕ (λ i. i.0) (λ n. record { 0 = n }) (λ _. refl)

-- the hot part of a record is stored as the tuple of its fields
abbrev pub hot_code : {K V : Type 0} → Coded K → Coded V → Coded (Hot K V)
hot_code {K} {V} k v =
    code_by
    (K × (ℕ × (V × (Instant × Instant))))
    (coded× k (coded× coded_ℕ (coded× v (coded× instant_code instant_code))))
    (λ h. (h.key, (h.hash, (h.value, (h.read, h.written)))))
    (λ p. record { key = p.0; hash = p.1.0; value = p.1.1.0; read = p.1.1.1.0; written = p.1.1.1.1 })
    (λ _. refl)

-- the front of a record is stored as the tuple of its fields
abbrev pub front_code : {K V : Type 0} → Coded K → Coded V → Coded (Front K V)
front_code {K} {V} k v =
    code_by
    (Hot K V × Bool)
    (coded× (hot_code k v) coded_bool)
    (λ f. (f.hot, f.expiring))
    (λ p. record { hot = p.0; expiring = p.1 })
    (λ _. refl)

-- a record is stored as the tuple of its fields
abbrev pub record_code : {K V : Type 0} → Coded K → Coded V → Coded (Record K V)
record_code {K} {V} k v =
    code_by
    (ℕ × (K × (ℕ × (V × (Instant × (Instant × (Option Instant × (ℕ × (ℕ × ℕ)))))))))
    (coded× coded_ℕ
    (coded× k
    (coded× coded_ℕ (coded× v (coded× instant_code
    (coded× instant_code (coded× (coded_option instant_code) (coded× coded_ℕ (coded× coded_ℕ coded_ℕ)))))))))
    (λ r. (
      r.number,
      (r.key, (r.hash, (r.value, (r.written, (r.read, (r.expires, (r.weight, (r.generation, r.applied)))))))),
    ))
    (λ p. record {
      number = p.0;
      key = p.1.0;
      hash = p.1.1.0;
      value = p.1.1.1.0;
      written = p.1.1.1.1.0;
      read = p.1.1.1.1.1.0;
      expires = p.1.1.1.1.1.1.0;
      weight = p.1.1.1.1.1.1.1.0;
      generation = p.1.1.1.1.1.1.1.1.0;
      applied = p.1.1.1.1.1.1.1.1.1;
    })
    (λ _. refl)

-- the moment at which a record expires, if it does
abbrev pub expiry_of : Bool → Instant → Option Instant
expiry_of expiring moment = if expiring then Some moment else None

-- the record of a number and two parts
abbrev pub joined : {K V : Type 0} → ℕ → Front K V → Cold → Record K V
joined number front cold = record {
  key = front.hot.key;
  hash = front.hot.hash;
  value = front.hot.value;
  read = front.hot.read;
  expires = expiry_of front.expiring cold.expires;
  number = number;
  written = front.hot.written;
  generation = cold.generation;
  applied = cold.applied;
  weight = cold.weight;
}
