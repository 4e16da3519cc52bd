-- What the calls that change one timer leave of the wheel's lists.
use Rattle.std.proofs.Common.{◌≡◌, ◌≢◌, ℕ, ◌+◌, ◌<◌, ◌≤◌, cond, nat_lt, List, [], ◌∷◌, ◌++◌, Some, None, length, get_or, set, length-set, refl, sym, ap, ◌∙◌, subst, arith}
use Rattle.std.proofs.lemmas.List.{length_push, get_or_append_left, get_or_push, get_or_past, get_or_read}
use Rattle.moka_links.proofs.Nodes.{set-other, set-same}
use Rattle.moka_wheel.specs.TimerWheel.{Timer}
use Rattle.moka_wheel.specs.Nodes.{Node, nothing, blank, at, befores, behinds, buckets, moments, numbers, detached, attached, held, timer_at}
use Rattle.moka_wheel.specs.Levels.{IsHome, bit_of}
use Rattle.moka_wheel.specs.Buckets.{IsTimer, IsFiled, Puts, Takes}
use Rattle.moka_wheel.proofs.Rings.{Links-same}
use Rattle.moka_wheel.proofs.Sound.{kept, placed-from, attach-placed}
use Rattle.moka_wheel.proofs.Frames.{attach-adds, held-none}
use Rattle.moka_wheel.proofs.Turns.{leaves}

timer-same : (ns ms : List Node) (i : ℕ) → at ms i ≡ at ns i → timer_at ms i ≡ timer_at ns i
timer-same ns ms i e = ap (λ n. cond (nat_lt i 2049) None (held n)) e

-- the slot s has a free node v, and the other nodes stay
pub record FreeNode (ns ms : List Node) (ws : List ℕ) (w s : ℕ) (v : Node) : Type 0 where
  pub past : 2049 ≤ s
  pub within : s < length ms
  pub here : at ms s ≡ v
  pub free : 2049 ≤ buckets ms s
  pub others : (i : ℕ) → i ≢ s → at ms i ≡ at ns i
  pub placed : IsFiled ms ws w 2048

-- a write of a free node, or a new free node, changes no list
free-node : (ns ms : List Node) (ws : List ℕ) (w s : ℕ) (v : Node) → IsFiled ns ws w 2048 → 2049 ≤ s → s < length ms → 2049 ≤ buckets ns s → 2049 ≤ v.value.bucket
    → length ns ≤ length ms → ((i : ℕ) → i ≢ s → i < length ms → i < length ns) → at ms s ≡ v → ((i : ℕ) → i ≢ s → at ms i ≡ at ns i) → FreeNode ns ms ws w s v
free-node ns ms ws w s v placed past inside free free_v grown old here same =
    let now : 2049 ≤ buckets ms s = omega (arith, ap (λ (n : Node). n.value.bucket) here, free_v) in
    record {
      past = past;
      within = inside;
      here = here;
      free = now;
      others = same;
      placed = placed-from ms ws w 2048 placed.rank (Links-same (length ns) (length ms) s (behinds ns) (befores ns) (buckets ns) placed.rank (behinds ms) (befores ms) (buckets ms) placed.links past free now grown old
          (λ i ne. ap (λ n. n.behind) (same i ne)) (λ i ne. ap (λ n. n.before) (same i ne)) (λ i ne. ap (λ n. n.value.bucket) (same i ne))) (λ i t.
          let other : i ≢ s = λ e. omega (arith, ap (buckets ms) e, now, t.held) in
          kept ns ms ws w 2048 i placed t (old i other t.within) (ap (λ n. n.value) (same i other))) placed.ahead placed.here;
    }

written : (ns : List Node) (ws : List ℕ) (w s : ℕ) (v : Node) → IsFiled ns ws w 2048 → 2049 ≤ s → s < length ns → 2049 ≤ buckets ns s → 2049 ≤ v.value.bucket → FreeNode ns (set ns s v) ws w s v
written ns ws w s v placed past inside free free_v =
    let size : length (set ns s v) ≡ length ns = length-set ns s v in
    free-node ns (set ns s v) ws w s v placed past (omega (arith, size)) free free_v (omega (arith, size)) (λ i ne l. omega (arith, size))
    (set-same nothing ns s v inside) (set-other nothing ns s v)

grown : (ns : List Node) (ws : List ℕ) (w : ℕ) (v : Node) → IsFiled ns ws w 2048 → 2049 ≤ v.value.bucket → FreeNode ns (ns ++ v ∷ []) ws w (length ns) v
grown ns ws w v placed free_v =
    let s = length ns in
    let size : length (ns ++ v ∷ []) ≡ s + 1 = length_push ns v in
    let free : 2049 ≤ buckets ns s = omega (arith, ap (λ (n : Node). n.value.bucket) (get_or_past ns s blank (omega arith))) in
    let same : (i : ℕ) → i ≢ s → at (ns ++ v ∷ []) i ≡ at ns i = λ i ne.
    grind (arith, size, get_or_append_left ns (v ∷ []) blank i, get_or_past (ns ++ v ∷ []) i blank, get_or_past ns i blank) in
    free-node ns (ns ++ v ∷ []) ws w s v placed placed.links.sized (omega (arith, size)) free free_v (omega (arith, size)) (λ i ne l. omega (arith, size))
    (get_or_push ns v blank s refl) same

-- a free node comes to the list where its moment belongs
pub record Put (ns os : List Node) (vs : List ℕ) (w s : ℕ) (t : Timer) : Type 0 where
  pub placed : IsFiled os vs w 2048
  pub puts : Puts ns os s t

put : (ns ds ms : List Node) (ws vs : List ℕ) (w s h : ℕ) (v : Node) (t : Timer) → FreeNode ds ms ws w s v → v.value.number ≡ t.number → v.value.at ≡ t.at
    → ((i : ℕ) → i ≢ s → timer_at ds i ≡ timer_at ns i) → ((i : ℕ) → i ≢ s → 2049 ≤ buckets ns i → at ds i ≡ at ns i)
    → IsHome w (moments ms s) h → (h < 2048 → bit_of vs h ≡ 1) → ((k : ℕ) → k ≢ h → bit_of vs k ≡ bit_of ws k)
    → Put ns (attached ms s h) vs w s t
put ns ds ms ws vs w s h v t f is_n is_a others frees home here bits =
    let a = attach-adds ms ws w 2048 s h f.placed f.past f.within home.within in
    record {
      placed = attach-placed ms ws vs w 2048 s h f.placed f.past f.within f.free home here bits;
      puts = record {
        here = a.here ∙ ap (λ (n : Node). Some (record { number = n.value.number; at = n.value.at })) f.here
            ∙ ap (λ n. Some (record { number = n; at = v.value.at })) is_n ∙ ap (λ x. Some (record { number = t.number; at = x })) is_a;
        others = λ i ne. a.others i ne ∙ timer-same ds ms i (f.others i ne) ∙ others i ne;
        free = λ i ne l. let same = f.others i ne ∙ frees i ne l in a.free i ne (subst (λ n. 2049 ≤ n.value.bucket) (sym same) l) ∙ same;
      };
    }

-- a timer comes into a free node
pub reused : (ns : List Node) (ws vs : List ℕ) (w s h : ℕ) (v : Node) → IsFiled ns ws w 2048 → 2049 ≤ s → s < length ns → 2049 ≤ buckets ns s → v.value.bucket ≡ 2049
    → IsHome w (moments (set ns s v) s) h → (h < 2048 → bit_of vs h ≡ 1) → ((k : ℕ) → k ≢ h → bit_of vs k ≡ bit_of ws k)
    → Put ns (attached (set ns s v) s h) vs w s (record { number = v.value.number; at = v.value.at })
reused ns ws vs w s h v placed past inside free e home here bits =
    put ns ns (set ns s v) ws vs w s h v _ (written ns ws w s v placed past inside free (omega (arith, e))) refl refl (λ i ne. refl) (λ i ne l. refl) home here bits

-- a timer comes into a new node
pub appended : (ns : List Node) (ws vs : List ℕ) (w h : ℕ) (v : Node) → IsFiled ns ws w 2048 → v.value.bucket ≡ 2049
    → IsHome w (moments (ns ++ v ∷ []) (length ns)) h → (h < 2048 → bit_of vs h ≡ 1) → ((k : ℕ) → k ≢ h → bit_of vs k ≡ bit_of ws k)
    → Put ns (attached (ns ++ v ∷ []) (length ns) h) vs w (length ns) (record { number = v.value.number; at = v.value.at })
appended ns ws vs w h v placed e home here bits =
    put ns ns (ns ++ v ∷ []) ws vs w (length ns) h v _ (grown ns ws w v placed (omega (arith, e))) refl refl (λ i ne. refl) (λ i ne l. refl) home here bits

-- the node of a timer that left its list is written, by what is read of it
pub unlisted : (ns : List Node) (ws : List ℕ) (w s : ℕ) (read v : Node) → IsFiled ns ws w 2048 → IsTimer ns s → read ≡ get_or (detached ns s) s read
    → v.value.bucket ≡ read.value.bucket → FreeNode (detached ns s) (set (detached ns s) s v) ws w s v
unlisted ns ws w s read v placed t is e =
    let l = leaves ns ws w 2048 s placed t in
    let here = get_or_read (detached ns s) s read l.slot_in is blank in
    written (detached ns s) ws w s v l.placed t.past l.slot_in l.free (omega (arith, l.free, e, ap (λ (n : Node). n.value.bucket) here))

-- a timer is given another moment
pub timed : (ns : List Node) (ws vs : List ℕ) (w s h a : ℕ) (read : Node) → IsFiled ns ws w 2048 → IsTimer ns s → read ≡ get_or (detached ns s) s read
    → let v : Node = record read { value = record read.value { at = a } } in
    IsHome w (moments (set (detached ns s) s v) s) h → (h < 2048 → bit_of vs h ≡ 1) → ((k : ℕ) → k ≢ h → bit_of vs k ≡ bit_of ws k)
    → Put ns (attached (set (detached ns s) s v) s h) vs w s (record { number = numbers ns s; at = a })
timed ns ws vs w s h a read placed t is home here bits =
    let l = leaves ns ws w 2048 s placed t in
    let ds = detached ns s in
    let v : Node = record read { value = record read.value { at = a } } in
    let number = ap (λ (n : Node). n.value.number) (get_or_read ds s read l.slot_in is blank) ∙ l.removes.number in
    put ns ds (set ds s v) ws vs w s h v _ (unlisted ns ws w s read v placed t is refl) number refl l.removes.others (λ i ne k. l.removes.free i k) home here bits

-- a timer is taken out, and its node leads to the next free one
pub record Taken (ns os : List Node) (ws : List ℕ) (w s next : ℕ) : Type 0 where
  pub placed : IsFiled os ws w 2048
  pub takes : Takes ns os s next

pub taken : (ns : List Node) (ws : List ℕ) (w s next : ℕ) (read : Node) → IsFiled ns ws w 2048 → IsTimer ns s → read ≡ get_or (detached ns s) s read
    → Taken ns (set (detached ns s) s (record read { behind = next })) ws w s next
taken ns ws w s next read placed t is =
    let l = leaves ns ws w 2048 s placed t in
    let ds = detached ns s in
    let v : Node = record read { behind = next } in
    let f = unlisted ns ws w s read v placed t is refl in
    record {
      placed = f.placed;
      takes = record {
        here = held-none (set ds s v) s f.free;
        unused = f.free;
        leads = ap (λ (n : Node). n.behind) f.here;
        others = λ i ne. timer-same ds (set ds s v) i (f.others i ne) ∙ l.removes.others i ne;
        free = λ i k ne. f.others i ne ∙ l.removes.free i k;
      };
    }
