-- Where clones equal what was cloned, what is handed out is the answer itself.
use Rattle.std.proofs.Common.{◌≡◌, Bool, true, false, List, [], ◌∷◌, Option, Some, None, Result, Ok, Err, inl, inr, ap, sym, subst, ◌∙◌}
use Rattle.moka_laws.proofs.Types.{KvEntry, OutOfMemory, Instant, Notice, Settings}
use Rattle.moka_parts.specs.Calls.{NotifyStep}
use Rattle.moka_parts.specs.Copies.{ClonesAreEqual, IsCopy, IsCopiedAnswer, IsEntryCopy, IsKvEntryCopy, NotifiesOfCopy}
use Rattle.moka_parts.specs.Notices.{when_listening}

module _ {A : Type 0} (is_clone : A → A → Type 0) (equal : ClonesAreEqual is_clone) where
  pub copy-same : (a b : Option A) → IsCopy is_clone a b → b ≡ a
  copy-same None b copied = copied
  copy-same (Some x) (Some y) copied = ap Some (equal x y copied)
  copy-same (Some x) None copied = absurd copied

  pub answer-same : (a b : Result (Option A) OutOfMemory) → IsCopiedAnswer is_clone a b → b ≡ a
  answer-same (Err e) b copied = copied
  answer-same (Ok a) (Ok b) copied = ap Ok (copy-same a b copied)
  answer-same (Ok a) (Err e) copied = absurd copied

module _ {K V : Type 0} (is_key_clone : K → K → Type 0) (is_value_clone : V → V → Type 0) (keys : ClonesAreEqual is_key_clone) (values : ClonesAreEqual is_value_clone) where
  pub entry-same : ClonesAreEqual (IsEntryCopy is_key_clone is_value_clone)
  entry-same e f copied =
      ap (λ (k : Option K). record { key = k; value = f.value }) (copy-same is_key_clone keys e.key f.key copied.key)
      ∙ ap (λ (v : V). record { key = e.key; value = v }) (values e.value f.value copied.value)

  pub kv_entry-same : ClonesAreEqual (IsKvEntryCopy is_key_clone is_value_clone)
  kv_entry-same e f copied =
      ap (λ (k : K). record f { key = k }) (keys e.key f.key copied.key)
      ∙ ap (λ (v : V). record f { key = e.key; value = v }) (values e.value f.value copied.value)
      ∙ ap (λ at. record e { last_modified = at; last_accessed = f.last_accessed }) copied.last_modified
      ∙ ap (λ at. record e { last_accessed = at }) copied.last_accessed

  -- the notice is of the entry itself
  pub notified-same : {X W : Type 0} (settings : Settings X W) (entry : KvEntry K V) (now : Instant) (a : Result (Unit {0}) OutOfMemory) (notices : List (Notice K V)) → NotifiesOfCopy is_key_clone is_value_clone settings entry now a notices → NotifyStep settings entry now a notices
  notified-same settings entry now a notices (copy, step, inr copied) = subst (λ e. NotifyStep settings e now a notices) (kv_entry-same entry copy copied) step
  notified-same settings entry now (Err e) notices (copy, step, inl none) = step
  notified-same settings entry now (Ok u) notices (copy, step, inl none) = go settings.listening _ _ step
    where
      go : (b : Bool) (x y : Notice K V) → notices ≡ when_listening b (x ∷ []) → notices ≡ when_listening b (y ∷ [])
      go true x y h = (let impossible : [] ≡ x ∷ [] = sym none ∙ h in absurd (cc))
      go false x y h = h
