-- Records of two caches that are alike, what hits make of them, and when they have expired.
use Rattle.std.proofs.Common.{◌≡◌, refl, ℕ, ◌≤◌, false, Option, Some, None, ap, sym, ◌∙◌, ◌⊎◌, inl, inr, arith}
use Rattle.std.specs.FinMap.{get}
use Rattle.moka_records.specs.declared.records.Record.{Record}
use Rattle.moka_parts.specs.Calls.{hit_at, answer_at, hit_record}
use Rattle.moka_parts.specs.Expiry.{moment_of_hit, renewed, answer_to_hit}
use Rattle.moka_parts.specs.State.{State}
use Rattle.moka_records.specs.Time.{deadline, moment_of}
use Rattle.moka_parts.specs.Visibility.{has_lapsed, is_expired, is_past_live, is_past_idle, is_written_before, is_read_before}
use Rattle.moka_laws.proofs.Surplus.{none_of_five}
use Rattle.moka_restore_laws.specs.Looks.{AreWrittenBy}
use Rattle.moka_restore_laws.proofs.MadeAgain.{IsCloneOf, not_passed_before}

-- the second record is the first but for number, hash, weight and generations
abbrev pub IsTwin : {K V : Type 0} → Record K V → Record K V → Type 0
IsTwin {K} {V} r q = IsCloneOf (λ (a b : K). b ≡ a) (λ (a b : V). b ≡ a) r q

module _ {K V : Type 0} where
  pub turned : (r q : Record K V) → IsTwin r q → IsTwin q r
  turned r q twin = record { key = sym twin.key; value = sym twin.value; written = sym twin.written; read = sym twin.read; expires = sym twin.expires }

  -- the applied generation does not matter
  pub twin_applied : (r q : Record K V) (g h : ℕ) → IsTwin r q → IsTwin (record r { applied = g }) (record q { applied = h })
  twin_applied r q g h twin = record { key = twin.key; value = twin.value; written = twin.written; read = twin.read; expires = twin.expires }

module _ {K V X P W : Type 0} where
  -- the times by which records expire are the same
  pub record HasSameTimes (s t : State K V X P W) : Type 0 where
    pub live : t.settings.time_to_live ≡ s.settings.time_to_live
    pub idle : t.settings.time_to_idle ≡ s.settings.time_to_idle
    pub expiry : t.settings.expiry ≡ s.settings.expiry

  pub times_turned : (s t : State K V X P W) → HasSameTimes s t → HasSameTimes t s
  times_turned s t times = record { live = sym times.live; idle = sym times.idle; expiry = sym times.expiry }

  -- it has not expired at the moment
  abbrev pub IsFresh : State K V X P W → Record K V → ℕ → Type 0
  IsFresh s r now = has_lapsed s.settings None r now ≡ false

  pub fresh_before : (s : State K V X P W) (r : Record K V) (t u : ℕ) → t ≤ u → IsFresh s r u → IsFresh s r t
  fresh_before s r t u le fresh =
      let none = none_of_five (is_expired r u) (is_past_live s.settings r u) (is_past_idle s.settings r u) (is_written_before None r) (is_read_before None r) fresh in
      rw (not_passed_before (moment_of r.expires) t u le none.0, not_passed_before (deadline s.settings.time_to_live r.written.0) t u le none.1, not_passed_before (deadline s.settings.time_to_idle r.read.0) t u le none.2) refl

  -- a twin has expired just when the record has
  pub fresh_twin : (s t : State K V X P W) (r q : Record K V) (now : ℕ) → HasSameTimes s t → IsTwin r q → IsFresh s r now → IsFresh t q now
  fresh_twin s t r q now times twin fresh = rw (twin.expires, times.live, twin.written, times.idle, twin.read) fresh

  -- a hit counts as its own moment, where nothing was written later or no expiry is set
  pub hit_now : (s : State K V X P W) (r : Record K V) (now : ℕ) → (s.settings.expiry ≡ None) ⊎ (r.written.0 ≤ now) → moment_of_hit s.settings.expiry r now ≡ now
  hit_now s r now by = go s.settings.expiry by
    where
      go : (x : Option X) → (x ≡ None) ⊎ (r.written.0 ≤ now) → moment_of_hit x r now ≡ now
      go None by = refl
      go (Some x) (inl none) = cc
      go (Some x) (inr early) = omega (arith, early)

  module _ (read : X → K → V → ℕ → Option ℕ → ℕ → Option ℕ) (s t : State K V X P W) (r q : Record K V) (now : ℕ) (times : HasSameTimes s t) (twin : IsTwin r q) where
    at_alike : hit_at read t q now ≡ hit_at read s r now
    at_alike = rw times.expiry (go s.settings.expiry)
      where
        go : (x : Option X) → moment_of_hit x q now ≡ moment_of_hit x r now
        go None = refl
        go (Some x) = rw twin.written refl

    answer_alike : (at : ℕ) → answer_to_hit read t.settings t.settings.expiry q at ≡ answer_to_hit read s.settings s.settings.expiry r at
    answer_alike at = rw times.expiry (go s.settings.expiry)
      where
        go : (x : Option X) → answer_to_hit read t.settings x q at ≡ answer_to_hit read s.settings x r at
        go None = rw (times.live, times.idle, twin.expires, twin.written, twin.read) refl
        go (Some x) = rw (times.live, times.idle, twin.key, twin.value, twin.expires, twin.written, twin.read) refl

    renewed_alike : (at : ℕ) (answer : Option ℕ) → renewed t.settings q at answer ≡ renewed s.settings r at answer
    renewed_alike at answer = rw (times.live, times.idle, twin.expires, twin.written, twin.read) refl

    -- what a hit makes of both is alike
    pub hit_twins : IsTwin (hit_record read s r now) (hit_record read t q now)
    hit_twins = record {
      key = twin.key;
      value = twin.value;
      written = twin.written;
      read = ap (λ at. record { 0 = at }) at_alike;
      expires = ap (λ at. renewed t.settings q at (answer_at read t q now)) at_alike
          ∙ renewed_alike (hit_at read s r now) (answer_at read t q now)
          ∙ ap (λ answer. renewed s.settings r (hit_at read s r now) answer) (ap (λ at. answer_to_hit read t.settings t.settings.expiry q at) at_alike ∙ answer_alike (hit_at read s r now));
    }

  -- each record that has not expired has a twin in the other cache
  abbrev pub IsReflected : ℕ → State K V X P W → State K V X P W → Type 0
  IsReflected now s t = (n : ℕ) (r : Record K V) → get s.records n ≡ Some r → IsFresh s r now → (k : ℕ) × (q : Record K V) × (get t.records k ≡ Some q) × IsTwin r q

  pub reflected_later : (now later : ℕ) (s t : State K V X P W) → now ≤ later → IsReflected now s t → IsReflected later s t
  reflected_later now later s t le reflected n r there fresh = reflected n r there (fresh_before s r now later le fresh)

  -- no expiry is set, or nothing was written after the moment
  abbrev pub IsTimely : ℕ → State K V X P W → Type 0
  IsTimely now s = (s.settings.expiry ≡ None) ⊎ AreWrittenBy s now

  pub timely_later : (now later : ℕ) (s : State K V X P W) → now ≤ later → IsTimely now s → IsTimely later s
  timely_later now later s le (inl none) = inl none
  timely_later now later s le (inr early) = inr (λ n r there. let before = early n r there in omega (arith, before, le))
