-- Saving the visible entries, one after the other.
use Rattle.std.proofs.Common.{◌≡◌, refl, Bool, List, [], ◌∷◌, ◌++◌, append_assoc, append-nil, inl, inr, Some, None, ap, sym, subst, ◌∙◌}
use Rattle.moka_records.specs.declared.records.Member.{Member}
use Rattle.moka_engine.specs.parts.Restored.{Restored}
use Rattle.moka_engine.specs.Snapshot.{Scene, Seen, IsListed, ArePassed, ListsNext}
use Rattle.moka_cache.specs.Saves.{AreSaved, IsSaved}

module _ {K V X P : Type 0} (says : P → K → V → Bool → Type 0) (is_key_clone : K → K → Type 0) (is_value_clone : V → V → Type 0) (c : Scene K V X P) where
  -- these members' entries
  abbrev Saved : List Member → List (Restored K V) → Type 0
  Saved members items = AreSaved says is_key_clone is_value_clone c members items

  append : (first second : List Member) (items more : List (Restored K V)) → Saved first items → Saved second more → Saved (first ++ second) (items ++ more)
  append [] second items more none all = subst (λ xs. Saved second (xs ++ more)) (sym none) all
  append (a ∷ first) second items more (inl (passed, rest)) all = inl (passed, append first second items more rest all)
  append (a ∷ first) second items more (inr (seen, item, rest, is, listed, saved, later)) all = inr (seen, item, rest ++ more, ap (λ xs. xs ++ more) is, listed, saved, append first second rest more later all)

  none_of : (hidden : List Member) → ArePassed says c hidden → Saved hidden []
  none_of [] passed = refl
  none_of (a ∷ hidden) passed = inl (passed.0, none_of hidden passed.1)

  one_of : (hidden : List Member) (a : Member) (seen : Seen K V) (item : Restored K V) → ArePassed says c hidden → IsListed says c a seen → IsSaved is_key_clone is_value_clone seen item → Saved (hidden ++ a ∷ []) (item ∷ [])
  one_of [] a seen item passed listed saved = inr (seen, item, [], refl, listed, saved, refl)
  one_of (b ∷ hidden) a seen item passed listed saved = inl (passed.0, one_of hidden a seen item passed.1 listed saved)

  -- the members before those that are left are saved
  abbrev pub SavesTo : Scene K V X P → List (Restored K V) → Type 0
  SavesTo d items = (first : List Member) × (c.members ≡ first ++ d.members) × (d ≡ record c { members = d.members }) × Saved first items

  -- none before the first
  pub saves_first : SavesTo c []
  saves_first = ([], refl, refl, refl)

  -- one more
  pub saves_one : (d e : Scene K V X P) (items : List (Restored K V)) (seen : Seen K V) (item : Restored K V) → SavesTo d items → ListsNext says d (Some seen) e → IsSaved is_key_clone is_value_clone seen item → SavesTo e (items ++ item ∷ [])
  saves_one d e items seen item (first, so, same, all) next saved =
      let n = subst (λ (x : Scene K V X P). ListsNext says x (Some seen) e) same next in (
        first ++ (n.0 ++ n.1 ∷ []),
        so ∙ ap (λ ms. first ++ ms) (n.2 ∙ sym (append_assoc n.0 (n.1 ∷ []) e.members)) ∙ sym (append_assoc first (n.0 ++ n.1 ∷ []) e.members),
        n.3,
        append first (n.0 ++ n.1 ∷ []) items (item ∷ []) all (one_of n.0 n.1 seen item n.4 (record { kept = n.5.kept; there = n.5.there; shown = n.5.shown; same = n.5.same }) saved),
      )

  -- all
  pub saves_all : (d e : Scene K V X P) (items : List (Restored K V)) → SavesTo d items → ListsNext says d None e → Saved c.members items
  saves_all d e items (first, so, same, all) next =
      let n = subst (λ (x : Scene K V X P). ListsNext says x None e) same next in
      subst (λ ms. Saved ms items) (sym so) (subst (λ xs. Saved (first ++ d.members) xs) (append-nil items) (append first d.members items [] all (none_of d.members n.0)))
