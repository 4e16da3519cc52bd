-- One turn of the loop that empties the bucket that was reached.
use Rattle.std.proofs.Common.{◌≡◌, ◌≢◌, ℕ, ◌<◌, ◌≤◌, List, length, get_or, nat_eq, sym, ap, ◌∙◌, subst, arith}
use Rattle.std.proofs.lemmas.Bool.{eq-eqb, ne_eqb}
use Rattle.moka_wheel.specs.Nodes.{Node, befores, behinds, buckets, moments, detached, attached}
use Rattle.moka_wheel.specs.Levels.{FallsIn, IsHome, bit_of}
use Rattle.moka_wheel.specs.declared.nodes.Entry.{Entry}
use Rattle.moka_wheel.specs.Buckets.{IsTimer, IsFiled, Keeps}
use Rattle.moka_wheel.proofs.Moves.{home-lower}
use Rattle.moka_wheel.proofs.Sound.{bucket, detached-fields, attached-fields, detach-placed, attach-placed, behind-read}
use Rattle.moka_wheel.proofs.Frames.{Removes, detach-removes, attach-adds, move-keeps}
use Rattle.moka_wheel.proofs.Counts.{count_to, count-more}

-- the head of each list has a last node
pub last-within : (ns : List Node) (ws : List ℕ) (w r h : ℕ) → IsFiled ns ws w r → h < 2049 → befores ns h < length ns
last-within ns ws w r h placed low = (placed.links.back h (omega (arith, placed.links.sized)) (omega (arith, placed.links.head h low))).within

-- a timer that is to leave its list
pub record Leaves (ns : List Node) (ws : List ℕ) (w r s : ℕ) : Type 0 where
  pub timer : IsTimer ns s
  pub before_in : befores ns s < length ns
  pub behind_in : behinds ns s < length ns
  pub placed : IsFiled (detached ns s) ws w r
  pub removes : Removes ns (detached ns s) s
  pub slot_in : s < length (detached ns s)
  pub last_in : (h : ℕ) → h < 2049 → befores (detached ns s) h < length (detached ns s)
  pub free : 2049 ≤ buckets (detached ns s) s
  pub heads : 2049 ≤ length (detached ns s)

pub leaves : (ns : List Node) (ws : List ℕ) (w r s : ℕ) → IsFiled ns ws w r → IsTimer ns s → Leaves ns ws w r s
leaves ns ws w r s placed t =
    let gone = detach-placed ns ws w r s placed t in
    let rem = detach-removes ns ws w r s placed t in
    record {
      timer = t;
      before_in = (placed.links.back s t.within t.held).within;
      behind_in = (placed.links.on s t.within t.held).within;
      placed = gone;
      removes = rem;
      slot_in = omega (arith, rem.size, t.within);
      last_in = λ h low. last-within (detached ns s) ws w r h gone low;
      free = omega (arith, rem.bucket);
      heads = gone.links.sized;
    }

-- the first timer of the bucket
pub record First (ns : List Node) (ws : List ℕ) (w r s : ℕ) : Type 0 where
  pub leaves : Leaves ns ws w r s
  pub bucket : buckets ns s ≡ r

-- by what the loop reads: its test and the slot behind the head
pub first-read : (ns : List Node) (ws : List ℕ) (w r : ℕ) (tested read : Node) → IsFiled ns ws w r → r < 2048
    → tested ≡ get_or ns r tested → read ≡ get_or ns r read → tested.behind ≢ r → First ns ws w r read.behind
first-read ns ws w r tested read placed low t u ne =
    let f = behind-read ns ws w r r tested read placed (omega arith) t u ne in
    record { leaves = leaves ns ws w r read.behind placed f.0; bucket = f.1 }

-- the timer comes to the list where its moment belongs now
pub record Moved (ns os : List Node) (vs : List ℕ) (w r : ℕ) : Type 0 where
  pub placed : IsFiled os vs w r
  pub keeps : Keeps ns os

pub moved : (ns : List Node) (ws vs : List ℕ) (w r s h : ℕ) → Leaves ns ws w r s → IsHome w (moments (detached ns s) s) h
    → (h < 2048 → bit_of vs h ≡ 1) → ((k : ℕ) → k ≢ h → bit_of vs k ≡ bit_of ws k)
    → Moved ns (attached (detached ns s) s h) vs w r
moved ns ws vs w r s h l home here others =
    let ms = detached ns s in
    record {
      placed = attach-placed ms ws vs w r s h l.placed l.timer.past l.slot_in l.free home here others;
      keeps = move-keeps ns ms (attached ms s h) s l.timer l.removes (attach-adds ms ws w r s h l.placed l.timer.past l.slot_in home.within);
    }

-- how many nodes name a bucket
abbrev pub count : ℕ → List Node → ℕ
count k ns = count_to (λ i. nat_eq (buckets ns i) k) (length ns)

-- and the bucket has one less
pub fewer : (ns : List Node) (ws : List ℕ) (w r s h : ℕ) → IsFiled ns ws w r → r < 2048 → First ns ws w r s → IsHome w (moments (detached ns s) s) h
    → count r (attached (detached ns s) s h) < count r ns
fewer ns ws w r s h placed low first home =
    let ms = detached ns s in
    let os = attached ms s h in
    let l = first.leaves in
    let d = detached-fields ns ws w r s placed l.timer in
    let a = attached-fields ms ws w r s h l.placed l.slot_in home.within in
    let near = subst (λ k. FallsIn w (moments ns s) k) first.bucket (placed.near s l.timer (omega (arith, first.bucket))) in
    let home_was : IsHome w (moments ns s) h = subst (λ a. IsHome w a h) l.removes.moment home in
    let other : buckets os s ≢ r = λ e. home-lower w (moments ns s) r h (placed.here low) near home_was (omega (arith, e, ap bucket a.value_at)) (sym (ap bucket a.value_at) ∙ e) in
    let one = count-more (λ i. nat_eq (buckets os i) r) (λ i. nat_eq (buckets ns i) r) s (length ns) l.timer.within
    (ne_eqb _ _ other) (eq-eqb _ _ first.bucket) (λ i ne. ap (λ (e : Entry). nat_eq e.bucket r) (sym (a.value i ne ∙ d.value i ne))) in
    omega (arith, one, ap (count_to (λ i. nat_eq (buckets os i) r)) (a.size ∙ d.size))
