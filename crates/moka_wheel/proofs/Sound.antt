-- What each step leaves of the wheel's lists.
use Rattle.std.proofs.Common.{◌≡◌, ◌≢◌, ℕ, ◌+◌, ◌*◌, ◌/◌, ◌%◌, ◌^◌, ◌<◌, ◌≤◌, cond, nat_eq, List, length, get_or, inl, inr, refl, sym, ap, ◌∙◌, subst, arith}
use Rattle.std.proofs.lemmas.Bool.{cases_eq, cases_order, cond-true, cond-false, eq-eqb, ne_eqb}
use Rattle.std.proofs.lemmas.List.{get_or_read}
use Rattle.moka_links.specs.Links as links
use Rattle.moka_links.proofs.Nodes.{Detached, Detached-detached, Detached-valued, Attached, Attached-attached, Attached-valued}
use Rattle.moka_wheel.specs.declared.nodes.Entry.{Entry}
use Rattle.moka_wheel.specs.Nodes.{Node, nothing, blank, at, befores, behinds, buckets, moments, detached, attached, Links}
use Rattle.moka_wheel.specs.Levels.{part, FallsIn, IsAhead, IsHome, bit_of}
use Rattle.moka_wheel.specs.Buckets.{IsTimer, IsFiled}
use Rattle.moka_wheel.proofs.Rings.{Links-detach, Links-attach, no-timer, first-timer}
use Rattle.moka_wheel.proofs.Moves.{start, stays-while, near-along, past-first, reach, before-first, near-later}

-- the parts of an entry
abbrev pub bucket : Entry → ℕ
bucket e = e.bucket

-- an entry in another bucket
abbrev put_in : ℕ → Entry → Entry
put_in k e = record e { bucket = k }

-- ---- what holds of each timer

-- an entry is in the list where its moment belongs, and the bucket is marked
pub record Belongs (ws : List ℕ) (w : ℕ) (e : Entry) : Type 0 where
  pub due : e.bucket ≡ 2048 → e.at ≤ w
  pub marked : e.bucket < 2048 → bit_of ws e.bucket ≡ 1
  pub near : e.bucket < 2048 → FallsIn w e.at e.bucket

-- so does the entry of each timer, also where it is kept
pub kept : (ns ms : List Node) (ws : List ℕ) (w r i : ℕ) → IsFiled ns ws w r → IsTimer ms i → i < length ns → (at ms i).value ≡ (at ns i).value → Belongs ws w (at ms i).value
kept ns ms ws w r i placed t inside e =
    let was : IsTimer ns i = record { past = t.past; within = inside; held = omega (arith, t.held, ap bucket e) } in
    subst (Belongs ws w) (sym e) (record { due = placed.due i was; marked = placed.marked i was; near = placed.near i was })

pub placed-from : (ms : List Node) (vs : List ℕ) (w r : ℕ) (rank : ℕ → ℕ) → Links (length ms) (behinds ms) (befores ms) (buckets ms) rank
    → ((i : ℕ) → IsTimer ms i → Belongs vs w (at ms i).value) → ((k : ℕ) → k < 2048 → k ≢ r → bit_of vs k ≡ 1 → IsAhead w k)
    → (r < 2048 → part w (r / 256) % 256 ≡ r % 256) → IsFiled ms vs w r
placed-from ms vs w r rank links each ahead here = record {
  rank = rank;
  links = links;
  due = λ i t. (each i t).due;
  marked = λ i t. (each i t).marked;
  near = λ i t. (each i t).near;
  ahead = ahead;
  here = here;
}

-- ---- a timer leaves its list

pub detached-fields : (ns : List Node) (ws : List ℕ) (w r s : ℕ) → IsFiled ns ws w r → IsTimer ns s → Detached nothing ns (detached ns s) s (put_in 2049 (at ns s).value) (befores ns s) (behinds ns s)
detached-fields ns ws w r s placed t =
    let d = Detached-detached nothing ns s (placed.links.back s t.within t.held).within (placed.links.on s t.within t.held).within in
    Detached-valued nothing ns (links.detached nothing ns s) s (at ns s).value (befores ns s) (behinds ns s) (put_in 2049) (omega (arith, d.size, t.within)) d

pub detach-placed : (ns : List Node) (ws : List ℕ) (w r s : ℕ) → IsFiled ns ws w r → IsTimer ns s → IsFiled (detached ns s) ws w r
detach-placed ns ws w r s placed t =
    let d = detached-fields ns ws w r s placed t in
    let ms = detached ns s in
    let links : Links (length ns) (behinds ms) (befores ms) (buckets ms) placed.rank =
    Links-detach (length ns) s (behinds ns) (befores ns) (buckets ns) placed.rank (behinds ms) (befores ms) (buckets ms) placed.links t.past t.within t.held
    d.behind d.behind_at d.before d.before_at (λ i ne. ap bucket (d.value i ne)) (ap bucket d.value_at) in
    placed-from ms ws w r placed.rank (subst (λ n. Links n (behinds ms) (befores ms) (buckets ms) placed.rank) (sym d.size) links) (λ i q.
    let other : i ≢ s = λ e. omega (arith, ap (buckets ms) e, ap bucket d.value_at, q.held) in
    kept ns ms ws w r i placed q (omega (arith, q.within, d.size)) (d.value i other)) placed.ahead placed.here

-- ---- a free node comes to the list where its moment belongs

pub attached-fields : (ns : List Node) (ws : List ℕ) (w r s h : ℕ) → IsFiled ns ws w r → s < length ns → h < 2049 → Attached nothing ns (attached ns s h) s (put_in h (at ns s).value) h (befores ns h)
attached-fields ns ws w r s h placed inside low =
    let kh = placed.links.head h low in
    let h_in : h < length ns = omega (arith, placed.links.sized) in
    let a = Attached-attached nothing ns s h inside h_in (placed.links.back h h_in (omega (arith, kh))).within in
    Attached-valued nothing ns (links.attached nothing ns s h) s (at ns s).value h (befores ns h) (put_in h) (omega (arith, a.size)) a

pub attach-placed : (ns : List Node) (ws vs : List ℕ) (w r s h : ℕ) → IsFiled ns ws w r → 2049 ≤ s → s < length ns → 2049 ≤ buckets ns s → IsHome w (moments ns s) h
    → (h < 2048 → bit_of vs h ≡ 1) → ((k : ℕ) → k ≢ h → bit_of vs k ≡ bit_of ws k)
    → IsFiled (attached ns s h) vs w r
attach-placed ns ws vs w r s h placed past inside free home here others =
    let ms = attached ns s h in
    let a = attached-fields ns ws w r s h placed inside home.within in
    let kh = placed.links.head h home.within in
    let h_in : h < length ns = omega (arith, placed.links.sized) in
    let last_same = (placed.links.back h h_in (omega (arith, kh))).same in
    let not_last : s ≢ befores ns h = λ e. omega (arith, ap (buckets ns) e, last_same, kh, free, home.within) in
    let not_head : s ≢ h = λ e. omega (arith, home.within) in
    let top = placed.rank (befores ns h) + 1 in
    let rank : ℕ → ℕ = λ i. cond (nat_eq i s) top (placed.rank i) in
    let links : Links (length ns) (behinds ms) (befores ms) (buckets ms) rank =
    Links-attach (length ns) s h (behinds ns) (befores ns) (buckets ns) placed.rank (behinds ms) (befores ms) (buckets ms) rank placed.links past inside free home.within
    a.behind a.behind_last (a.behind_at not_last) a.before a.before_head (a.before_at not_head) (λ i ne. ap bucket (a.value i ne)) (ap bucket a.value_at)
    (λ i ne. cond-false (nat_eq i s) top (placed.rank i) (ne_eqb i s ne))
    (cond-true (nat_eq s s) top (placed.rank s) (eq-eqb s s refl)) in
    let stays : (k : ℕ) → bit_of ws k ≡ 1 → k < 2048 → bit_of vs k ≡ 1 = λ k e l. grind (arith, here, others k) in
    placed-from ms vs w r rank (subst (λ n. Links n (behinds ms) (befores ms) (buckets ms) rank) (sym a.size) links)
    (λ i q. elim (cases_eq i s) as (λ _. Belongs vs w (at ms i).value) [
      | inl same ↦ subst (λ j. Belongs vs w (at ms j).value) (sym same) (subst (Belongs vs w) (sym a.value_at) (record { due = home.due; marked = here; near = home.near }))
      | inr ne ↦
          let was = kept ns ms ws w r i placed q (omega (arith, q.within, a.size)) (a.value i ne) in
          record { due = was.due; marked = λ l. stays (buckets ms i) (was.marked l) l; near = was.near }
    ])
    (λ k l ne on. elim (cases_eq k h) as (λ _. IsAhead w k) [
      | inl same ↦ subst (λ x. IsAhead w x) (sym same) (home.ahead (omega arith))
      | inr other ↦ placed.ahead k l ne (sym (others k other) ∙ on)
    ])
    placed.here

-- ---- the wheel's moment moves

-- up to a moment before which no marked bucket starts but one that is reached
pub move-placed : (ns : List Node) (ws : List ℕ) (w u r : ℕ) → IsFiled ns ws w 2048 → w ≤ u
    → ((k : ℕ) → k < 2048 → k ≢ r → bit_of ws k ≡ 1 → part u (k / 256) < start w k)
    → (r < 2048 → part u (r / 256) % 256 ≡ r % 256) → (r < 2048 → part u (r / 256) / 256 ≡ part w (r / 256) / 256)
    → IsFiled ns ws u r
move-placed ns ws w u r placed le early here same = record {
  rank = placed.rank;
  links = placed.links;
  due = λ i t e. omega (arith, placed.due i t e);
  marked = placed.marked;
  near = λ i t l.
      let k = buckets ns i in
      let on = placed.marked i t l in
      near-along w u (moments ns i) k (elim (cases_eq k r) as (λ _. part u (k / 256) / 256 ≡ part w (k / 256) / 256) [
        | inl e ↦ subst (λ x. part u (x / 256) / 256 ≡ part w (x / 256) / 256) (sym e) (same (omega arith))
        | inr ne ↦ (stays-while w u k le (early k l ne on)).same
      ]) (placed.near i t l);
  ahead = λ k l ne on. (stays-while w u k le (early k l ne on)).ahead;
  here = here;
}

-- to a moment in the first marked bucket
pub reach-placed : (ns : List Node) (ws : List ℕ) (w u b : ℕ) → IsFiled ns ws w 2048 → b < 2048 → bit_of ws b ≡ 1 → ((k : ℕ) → k < b → bit_of ws k ≡ 0)
    → part u (b / 256) ≡ start w b → IsFiled ns ws u b
reach-placed ns ws w u b placed low on first is =
    let r = reach w u b (placed.ahead b low (λ e. omega arith) on) is in
    move-placed ns ws w u b placed (omega (arith, r.later))
    (λ k l ne marked. elim (cases_order b k) as (λ _. part u (k / 256) < start w k) [
      | inl e ↦ absurd (ne (sym e))
      | inr (inl later) ↦ past-first w u b k (omega (arith, is)) later r.same (placed.ahead k l (λ e. omega arith) marked)
      | inr (inr earlier) ↦ absurd (omega (arith, first k earlier, marked))
    ])
    (λ _. r.here) (λ _. r.same)

-- to a moment before the start of the first marked bucket
pub early-placed : (ns : List Node) (ws : List ℕ) (w u b : ℕ) → IsFiled ns ws w 2048 → w ≤ u → b < 2048 → bit_of ws b ≡ 1 → ((k : ℕ) → k < b → bit_of ws k ≡ 0)
    → u < start w b * 2 ^ (8 * (b / 256)) → IsFiled ns ws u 2048
early-placed ns ws w u b placed le low on first early =
    let ahead = placed.ahead b low (λ e. omega arith) on in
    move-placed ns ws w u 2048 placed le
    (λ k l ne marked. before-first w u b k le early (grind (arith, first k, marked)) ahead (placed.ahead k l ne marked))
    (λ l. absurd (omega arith)) (λ l. absurd (omega arith))

-- ---- the bucket that was reached is empty

pub empty-placed : (ns : List Node) (ws vs : List ℕ) (w r : ℕ) → IsFiled ns ws w r → r < 2048 → behinds ns r ≡ r
    → bit_of vs r ≡ 0 → ((k : ℕ) → k ≢ r → bit_of vs k ≡ bit_of ws k) → IsFiled ns vs w 2048
empty-placed ns ws vs w r placed low own off others =
    let none : (i : ℕ) → IsTimer ns i → buckets ns i ≢ r = λ i t e.
    no-timer (length ns) r (behinds ns) (befores ns) (buckets ns) placed.rank placed.links (omega arith) own (placed.rank i + 1) i (omega arith) t.past t.within e in
    placed-from ns vs w 2048 placed.rank placed.links
    (λ i t. record { due = placed.due i t; marked = λ l. others (buckets ns i) (none i t) ∙ placed.marked i t l; near = placed.near i t })
    (λ k l ne on.
    let other : k ≢ r = λ e. omega (arith, ap (bit_of vs) e, off, on) in
    placed.ahead k l other (sym (others k other) ∙ on))
    (λ l. absurd (omega arith))

-- ---- which timers are due

-- a timer in a bucket is later than the wheel
pub bucket-later : (ns : List Node) (ws : List ℕ) (w i : ℕ) → IsFiled ns ws w 2048 → IsTimer ns i → buckets ns i < 2048 → w < moments ns i
bucket-later ns ws w i placed t l =
    near-later w (moments ns i) (buckets ns i) (placed.near i t l) (placed.ahead (buckets ns i) l (λ e. omega arith) (placed.marked i t l))

-- where the due list is empty, every timer is later than the wheel
pub all-later : (ns : List Node) (ws : List ℕ) (w i : ℕ) → IsFiled ns ws w 2048 → behinds ns 2048 ≡ 2048 → IsTimer ns i → w < moments ns i
all-later ns ws w i placed own t = elim (cases_eq (buckets ns i) 2048) as (λ _. w < moments ns i) [
  | inl e ↦ absurd (no-timer (length ns) 2048 (behinds ns) (befores ns) (buckets ns) placed.rank placed.links (omega arith) own (placed.rank i + 1) i (omega arith) t.past t.within e)
  | inr ne ↦ bucket-later ns ws w i placed t (omega (arith, t.held))
]

-- the first behind a head, by what is read of it: a test that it is not the head, and the slot
pub behind-read : (ns : List Node) (ws : List ℕ) (w r h : ℕ) (tested read : Node) → IsFiled ns ws w r → h < 2049
    → tested ≡ get_or ns h tested → read ≡ get_or ns h read → tested.behind ≢ h → IsTimer ns read.behind × (buckets ns read.behind ≡ h)
behind-read ns ws w r h tested read placed low is_tested is_read ne =
    let inside : h < length ns = omega (arith, placed.links.sized) in
    let e : tested.behind ≡ behinds ns h = ap (λ (n : Node). n.behind) (get_or_read ns h tested inside is_tested blank) in
    let t = first-timer (length ns) h (behinds ns) (befores ns) (buckets ns) placed.rank placed.links low (λ own. ne (e ∙ own)) in
    rw (get_or_read ns h read inside is_read blank) (record { past = t.past; within = t.within; held = omega (arith, t.bucket) }, t.bucket)

-- before the wheel's moment only the due list has timers that may be due
pub any-later : (ns : List Node) (ws : List ℕ) (w now i : ℕ) → IsFiled ns ws w 2048 → IsTimer ns i → now < w → (buckets ns i ≡ 2048 → now < moments ns i) → now < moments ns i
any-later ns ws w now i placed t early due = elim (cases_eq (buckets ns i) 2048) as (λ _. now < moments ns i) [
  | inl e ↦ due e
  | inr ne ↦ omega (arith, early, bucket-later ns ws w i placed t (omega (arith, t.held)))
]
