-- A run keeps every field of the records that stay, except the applied generation.
use Rattle.std.proofs.Common.{◌≡◌, refl, ℕ, true, false, List, [], ◌∷◌, Option, Some, None, ap, sym, ◌∙◌, subst, inl, inr, ◌==◌, if◌then◌else◌, ◌++◌}
use Rattle.std.specs.Option.{option_map_or}
use Rattle.std.specs.FinMap.{get, remove}
use Rattle.moka_laws.proofs.Types.{EvictionPolicy, Record, Member, Ticketed, Operation, Upsert, Removal, ReadOperation, Hit, Miss, Records, State, Contents, Fate, Ignored, Overtaken, Counted, Admitted, TooHeavy, Preferred, Refused, Choice, Removes, MovesToBack, Drops, Freedom}
use Rattle.moka_parts.specs.State.{contents}
use Rattle.moka_parts.specs.Reads.{after_read, after_reads}
use Rattle.moka_parts.specs.Writes.{fate, with_applied, without_records, rejected, after_fate, after_write, after_writes}
use Rattle.moka_parts.specs.Maintenance.{after_choice, after_choices, at_end, before_steps, after_queued_reads}
use Rattle.moka_records.proofs.Maps.{found_inserted, found_removed}

-- each new record is an old one but for the applied generation
abbrev pub Keeps : {K V : Type 0} → Records K V → Records K V → Type 0
Keeps {K} {V} old new = (n : ℕ) (q : Record K V) → get new n ≡ Some q → (r : Record K V) × (get old n ≡ Some r) × ((g : ℕ) × (q ≡ record r { applied = g }))

module _ {K V : Type 0} where
  pub keeps_itself : (old : Records K V) → Keeps old old
  keeps_itself old n q e = (q, e, (q.applied, refl))

  keeps_on : (a b c : Records K V) → Keeps a b → Keeps b c → Keeps a c
  keeps_on a b c h k n q e =
      let l = k n q e in
      let m = h n l.0 l.1 in
      (m.0, m.1, (l.2.0, l.2.1 ∙ ap (λ (x : Record K V). record x { applied = l.2.0 }) m.2.1))

  pub keeps_remove : (old : Records K V) (k : ℕ) → Keeps old (remove old k)
  keeps_remove old k n q e = (q, (found_removed old k n q e).1, (q.applied, refl))

  keeps_put : (old mid : Records K V) (n : ℕ) (r : Record K V) (g : ℕ) → get old n ≡ Some r → Keeps old mid → Keeps old (with_applied mid n r g)
  keeps_put old mid n r g there h k q e = elim (found_inserted mid n (record r { applied = g }) k q e) [
    | inl (same, one) ↦ (r, ap (get old) same ∙ there, (g, sym one))
    | inr (apart, before) ↦ h k q before
  ]

  keeps_without : (old : Records K V) (gone : List Member) → Keeps old (without_records gone old)
  keeps_without old [] = keeps_itself old
  keeps_without old (a ∷ gone) = keeps_on old (remove old a.number) _ (keeps_remove old a.number) (keeps_without (remove old a.number) gone)

module _ {K V : Type 0} where
  keeps_rejected : (c : Contents K V) (n g : ℕ) (r : Record K V) → get c.records n ≡ Some r → Keeps c.records (rejected n g r c).records
  keeps_rejected c n g r there =
      elim (r.generation == g) as (λ b. Keeps c.records (if b then remove c.records n else with_applied c.records n r g)) [
        | true ↦ keeps_remove c.records n
        | false ↦ keeps_put c.records c.records n r g there (keeps_itself c.records)
      ]

  pub keeps_fate : (c : Contents K V) (n g w : ℕ) (moved : List ℕ) (r : Record K V) (f : Fate) → get c.records n ≡ Some r → Keeps c.records (after_fate c n g w moved r f).records
  keeps_fate c n g w moved r Ignored there = keeps_itself c.records
  keeps_fate c n g w moved r Overtaken there = keeps_itself c.records
  keeps_fate c n g w moved r Counted there = keeps_put c.records c.records n r g there (keeps_itself c.records)
  keeps_fate c n g w moved r Admitted there = keeps_put c.records c.records n r g there (keeps_itself c.records)
  keeps_fate c n g w moved r TooHeavy there = keeps_rejected c n g r there
  keeps_fate c n g w moved r (Preferred victims) there = keeps_put c.records _ n r g there (keeps_without c.records victims)
  keeps_fate c n g w moved r Refused there = keeps_rejected c n g r there

  keeps_found : (c : Contents K V) (n g w : ℕ) (moved : List ℕ) (f : Fate) (o : Option (Record K V)) → get c.records n ≡ o → Keeps c.records (option_map_or (λ r. after_fate c n g w moved r f) o c).records
  keeps_found c n g w moved f None there = keeps_itself c.records
  keeps_found c n g w moved f (Some r) there = keeps_fate c n g w moved r f there

  pub keeps_write : (capacity : Option ℕ) (policy : EvictionPolicy) (c : Contents K V) (o : Operation) (moved : List ℕ) → Keeps c.records (after_write capacity policy c o moved).records
  keeps_write capacity policy c (Removal n g) moved = keeps_itself c.records
  keeps_write capacity policy c (Upsert n g w h) moved = keeps_found c n g w moved (fate capacity policy c (Upsert n g w h)) (get c.records n) refl

  -- all writes
  pub keeps_writes : (capacity : Option ℕ) (policy : EvictionPolicy) (c : Contents K V) (hs : List Ticketed) (ms : List (List ℕ)) → Keeps c.records (after_writes capacity policy c hs ms).records
  keeps_writes capacity policy c [] ms = keeps_itself c.records
  keeps_writes capacity policy c (h ∷ hs) [] = keeps_on c.records _ _ (keeps_write capacity policy c h.operation []) (keeps_writes capacity policy (after_write capacity policy c h.operation []) hs [])
  keeps_writes capacity policy c (h ∷ hs) (m ∷ ms) = keeps_on c.records _ _ (keeps_write capacity policy c h.operation m) (keeps_writes capacity policy (after_write capacity policy c h.operation m) hs ms)

  -- reads change no record
  pub reads_keep : (c : Contents K V) (rs : List ReadOperation) → (after_reads c rs).records ≡ c.records
  reads_keep c [] = refl
  reads_keep c (Hit n h renewed ∷ rs) = reads_keep (after_read c (Hit n h renewed)) rs
  reads_keep c (Miss h ∷ rs) = reads_keep (after_read c (Miss h)) rs

  -- one step
  pub keeps_choice : (c : Contents K V) (x : Choice) → Keeps c.records (after_choice c x).records
  keeps_choice c (Removes n cause) = keeps_remove c.records n
  keeps_choice c (MovesToBack n) = keeps_itself c.records
  keeps_choice c (Drops i) = keeps_itself c.records

  -- all steps
  pub keeps_choices : (c : Contents K V) (xs : List Choice) → Keeps c.records (after_choices c xs).records
  keeps_choices c [] = keeps_itself c.records
  keeps_choices c (x ∷ xs) = keeps_on c.records _ _ (keeps_choice c x) (keeps_choices (after_choice c x) xs)

  -- further steps keep what they leave
  pub keeps_second : (c : Contents K V) (xs ys : List Choice) → Keeps (after_choices c xs).records (after_choices c (xs ++ ys)).records
  keeps_second c [] ys = keeps_choices c ys
  keeps_second c (x ∷ xs) ys = keeps_second (after_choice c x) xs ys

-- whatever a run chooses
pub run_keeps : {K V X P W : Type 0} (s : State K V X P W) (ch : Freedom) → Keeps s.records (at_end s ch).records
run_keeps s ch =
    let same : (after_queued_reads s).records ≡ s.records = reads_keep (contents s) s.reads in
    let writes = keeps_writes s.capacity s.settings.policy (after_queued_reads s) s.writes ch.moves in
    let all = keeps_on _ _ _ writes (keeps_choices (before_steps s ch) ch.steps) in
    subst (λ x. Keeps x (at_end s ch).records) same all
