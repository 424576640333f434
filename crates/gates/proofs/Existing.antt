-- What can be worked out of slots that are finitely many, each of which keeps its window, however long it takes: their cycle, when they hold the link, and a right list. Assumes nothing.
use Prim.Native.Nat.{ℕ, zero, suc, ◌+◌, ◌*◌, ◌-◌, ◌%◌, ◌/◌, ◌≤◌, ◌<◌}
use mathlib.Core.Path.{◌≡◌, refl, subst}
use mathlib.Core.List.{List}
use mathlib.Core.Logic.{◌⊎◌, inl, inr, ⊎_elim}
use lib.ListN.{length, replicate, length-replicate, length-set}
use native.Mathlib.Nat.{dvd-mod_iff, mod-lt}
use native.Mathlib.Omega.{arith}
use Rattle.basics.proofs.Splits.{lt_or_ge, eq_or_ne}
use Rattle.overlap.specs.Meeting.{HoldsLink}
use Rattle.overlap.specs.Divisor.{IsGcd}
use Rattle.overlap.specs.declared.Slot.{Slot}
use Rattle.overlap.proofs.Euclid.{ends}
use Rattle.gates.specs.Holding.{Held, Right, held, idle, held_mask, idle_mask}
use Rattle.gates.specs.Pairs.{mask_of, ListRight}
use Rattle.gates.specs.Cycle.{IsCycle}
use Rattle.gates.specs.Steps.{Kept, HeldBy, IsLcm}
use Rattle.gates.proofs.Begins.{begin_none}
use Rattle.gates.proofs.Masks.{held_also, held_back}
use Rattle.gates.proofs.Growing.{pairs_none, grown_longer, grown_next}
use Rattle.gates.proofs.Seeing.{not_begun, holds_on, idles_on}
use Rattle.gates.proofs.Cycles.{lcm_is, cycle_empty, OneMore, cycle_one_more, cycle_also}

-- Any two numbers have a greatest common divisor: that of the second and the remainder by it.
gcd_below : (n a b : ℕ) → b < n → (g : ℕ) × IsGcd a b g
gcd_below zero a b h = absurd (omega arith)
gcd_below (suc n) a b h =
    ⊎_elim
    (λ (z : b < 1). let e : b ≡ 0 = omega arith in (a, rw e (ends a)))
    (λ (z : 1 ≤ b).
    let g = gcd_below n b (a % b) (omega (arith, mod-lt a z)) in
    (g.0, record { left = (dvd-mod_iff g.0 g.1.left).0 g.1.right; right = g.1.left; greatest = λ d p q. g.1.greatest d q ((dvd-mod_iff d q).1 p) }))
    (lt_or_ge b 1)

some_lcm : (a b : ℕ) → 1 ≤ a → 1 ≤ b → (m : ℕ) × IsLcm a b m
some_lcm a b p q = let g = gcd_below (b + 1) a b (omega arith) in (a / g.0 * b, lcm_is a b g.0 p q g.1)

-- A slot holds its link at an instant, or it does not.
holds_or_not : (s : Slot) (x : ℕ) → Kept s → HeldBy s x ⊎ (HeldBy s x → ⊥)
holds_or_not s x k =
    ⊎_elim
    (λ (h : x < s.offset). inr ((not_begun s x h).all x (omega arith) h))
    (λ (h : s.offset ≤ x).
    ⊎_elim
    (λ (r : (x - s.offset) % s.period < s.hold). let on = holds_on s x h r in inl (on.all x (omega arith) on.some))
    (λ (r : s.hold ≤ (x - s.offset) % s.period). let off = idles_on s x h (omega (arith, k.hold, k.window)) r in inr (off.all x (omega arith) off.some))
    (lt_or_ge ((x - s.offset) % s.period) s.hold))
    (lt_or_ge x s.offset)

-- The slots of a link are known: whether there is one, their cycle, and whether they hold the link at an instant.
pub record Known (S : Slot → Type 0) : Type 0 where
  pub some : ((s : Slot) × S s) ⊎ ((s : Slot) → S s → ⊥)
  pub cycle : (c : ℕ) × IsCycle S c
  pub at : (x : ℕ) → Held S x ⊎ (Held S x → ⊥)

pub known_none : (S : Slot → Type 0) → ((s : Slot) → S s → ⊥) → Known S
known_none S none = record { some = inr none; cycle = (1, cycle_empty S none); at = λ x. inr (λ h. none h.slot h.on) }

-- The same slots.
pub known_also : (S Q : Slot → Type 0) → ((s : Slot) → S s → Q s) → ((s : Slot) → Q s → S s) → Known S → Known Q
known_also S Q to from k = record {
  some = ⊎_elim (λ (h : (s : Slot) × S s). inl (h.0, to h.0 h.1)) (λ (h : (s : Slot) → S s → ⊥). inr (λ s q. h s (from s q))) k.some;
  cycle = (k.cycle.0, cycle_also S Q k.cycle.0 to from k.cycle.1);
  at = λ x. ⊎_elim (λ (h : Held S x). inl (held_also S Q to from x h)) (λ (h : Held S x → ⊥). inr (λ q. h (held_back S Q to from x q))) (k.at x);
}

-- One slot more.
module _ (S : Slot → Type 0) (s : Slot) (Q : Slot → Type 0) (w : OneMore S s Q) where
  held_one_more : (x : ℕ) → HeldBy s x ⊎ (HeldBy s x → ⊥) → Held S x ⊎ (Held S x → ⊥) → Held Q x ⊎ (Held Q x → ⊥)
  held_one_more x (inl h) o = inl (record { slot = s; on = w.new; turn = h.turn; holds = h.holds })
  held_one_more x (inr n) (inl o) = inl (record { slot = o.slot; on = w.old o.slot o.on; turn = o.turn; holds = o.holds })
  held_one_more x (inr n) (inr o) =
      inr
      (λ h.
      ⊎_elim
      (λ (e : h.slot ≡ s). n (record { turn = h.turn; holds = subst (λ (r : Slot). HoldsLink r h.turn x) e h.holds }))
      (λ (b : S h.slot). o (record { slot = h.slot; on = b; turn = h.turn; holds = h.holds }))
      (w.no_other h.slot h.on))

  pub known_one_more : Kept s → Known S → Known Q
  known_one_more kept k =
      let m = some_lcm k.cycle.0 s.period k.cycle.1.positive (omega (arith, kept.hold, kept.window)) in
      record {
        some = inl (s, w.new);
        cycle = (m.0, cycle_one_more S s Q w k.cycle.0 m.0 k.cycle.1 m.1);
        at = λ x. held_one_more x (holds_or_not s x kept) (k.at x);
      }

pub known_mask : (S : Slot → Type 0) → Known S → (x : ℕ) → (m : ℕ) × Right S x m
known_mask S k x = ⊎_elim (λ (h : Held S x). (held_mask, held h refl)) (λ (h : Held S x → ⊥). (idle_mask, idle h refl)) (k.at x)

-- A right list for a cycle, in so many words.
pub record ListIn (R : ℕ → ℕ → Type 0) (cycle room : ℕ) : Type 0 where
  pub words : List ℕ
  pub count : ℕ
  pub list : ListRight R cycle words count
  pub few : count ≤ cycle
  pub long : length words ≡ room

-- Where a right mask is known for each instant there is a list for each cycle, one nanosecond after the other.
module _ (R : ℕ → ℕ → Type 0) (mask : (x : ℕ) → (m : ℕ) × R x m) (room : ℕ) where
  here : (c y : ℕ) → c ≤ y → y < c + 1 → R y (mask c).0
  here c y from to = let e : y ≡ c = omega arith in rw e (mask c).1

  longer : (c j : ℕ) (l : ListIn R c room) → 2 * (c + 1) ≤ room → l.count ≡ j + 1 → mask_of l.words j ≡ (mask c).0 → ListIn R (c + 1) room
  longer c j l h e same =
      let k = grown_longer R l.words c (c + 1) (mask c).0 (omega arith) (here c) j (omega (arith, l.few, l.long)) (rw e at l.list.pairs) (rw e at l.list.adds_up) same _ refl in
      record { words = _; count = j + 1; list = record { pairs = k.0; adds_up = k.1 }; few = omega (arith, l.few); long = simp length-set l.long }

  next : (c : ℕ) (l : ListIn R c room) → 2 * (c + 1) ≤ room → ((j : ℕ) → l.count ≡ j + 1 → mask_of l.words j ≡ (mask c).0 → ⊥) → ListIn R (c + 1) room
  next c l h other =
      let k = grown_next R l.words c (c + 1) (mask c).0 (omega arith) (here c) l.count (omega (arith, l.few, l.long)) l.list.pairs l.list.adds_up other _ refl in
      record { words = _; count = l.count + 1; list = record { pairs = k.0; adds_up = k.1 }; few = omega (arith, l.few); long = simp length-set l.long }

  one_instant : (c : ℕ) (l : ListIn R c room) → 2 * (c + 1) ≤ room → (n : ℕ) → l.count ≡ n → ListIn R (c + 1) room
  one_instant c l h zero e = next c l h (λ j z. absurd (omega arith))
  one_instant c l h (suc j) e =
      ⊎_elim
      (λ (same : mask_of l.words j ≡ (mask c).0). longer c j l h (omega arith) same)
      (λ (other : mask_of l.words j ≡ (mask c).0 → ⊥). next c l h (λ i z. let f : i ≡ j = omega arith in rw f other))
      (eq_or_ne (mask_of l.words j) (mask c).0)

  list_up_to : (c : ℕ) → 2 * c ≤ room → ListIn R c room
  list_up_to zero h = record {
    words = replicate room 0;
    count = 0;
    list = record { pairs = pairs_none R (replicate room 0); adds_up = begin_none (replicate room 0) };
    few = omega arith;
    long = length-replicate room 0;
  }
  list_up_to (suc c) h =
      let e : suc c ≡ c + 1 = omega arith in
      let l = list_up_to c (omega arith) in
      rw e (one_instant c l (omega arith) l.count refl)

pub some_list : (R : ℕ → ℕ → Type 0) → ((x : ℕ) → (m : ℕ) × R x m) → (c : ℕ) → ListIn R c (2 * c)
some_list R mask c = list_up_to R mask (2 * c) c (omega arith)
