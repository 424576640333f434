-- What one slot shows from an instant on, and what all of them show. Assumes nothing.
use Prim.Native.Nat.{ℕ, ◌+◌, ◌*◌, ◌-◌, ◌%◌, ◌/◌, ◌≤◌, ◌<◌, min}
use mathlib.Core.Path.{◌≡◌, refl, subst}
use mathlib.Core.List.{List}
use mathlib.Core.Logic.{⊎_elim}
use native.Mathlib.Nat.{div-add-mod', mod-lt, mul-le-mul_right, suc-mul}
use native.Mathlib.Omega.{arith}
use Rattle.basics.proofs.Splits.{lt_or_ge}
use Rattle.overlap.specs.Meeting.{HoldsLink}
use Rattle.overlap.specs.declared.Slot.{Slot}
use Rattle.gates.specs.Holding.{Held}
use Rattle.gates.specs.declared.slots.StoredSlot.{StoredSlot}
use Rattle.gates.specs.Steps.{slot_in, InSlots, HeldBy, Stretch, Least, Looked}
use Rattle.gates.specs.declared.runs.Look.{Look}

-- Before its first repeat a slot holds nothing.
pub not_begun : (s : Slot) (x : ℕ) → x < s.offset → Stretch (λ (y : ℕ). HeldBy s y → ⊥) x s.offset
not_begun s x h = record { some = h; all = λ y a b w. let p = w.holds.begun in omega arith }

module _ (s : Slot) (x : ℕ) (begun : s.offset ≤ x) where
  -- The present repeat.
  present : s.offset + (x - s.offset) / s.period * s.period + (x - s.offset) % s.period ≡ x
  present = let d = div-add-mod' (x - s.offset) s.period in omega arith

  pub holds_on : (x - s.offset) % s.period < s.hold → Stretch (HeldBy s) x (x + (s.hold - (x - s.offset) % s.period))
  holds_on h = record {
    some = omega arith;
    all = λ y a b. let p = present in record { turn = (x - s.offset) / s.period; holds = record { begun = omega arith; not_ended = omega arith } };
  }

  pub idles_on : 1 ≤ s.period → s.hold ≤ (x - s.offset) % s.period
      → Stretch (λ (y : ℕ). HeldBy s y → ⊥) x (x + (s.period - (x - s.offset) % s.period))
  idles_on t h =
      let l = mod-lt (x - s.offset) t in
      record {
        some = omega arith;
        all = λ y a b w.
            let p = present in
            let begun = w.holds.begun in
            let not_ended = w.holds.not_ended in
            let k = (x - s.offset) / s.period in
            ⊎_elim
            (λ (q : k < w.turn). let m = mul-le-mul_right s.period q in let e = suc-mul k s.period in omega arith)
            (λ (q : w.turn ≤ k). let m = mul-le-mul_right s.period q in omega arith)
            (lt_or_ge k w.turn);
      }

module _ (slots : List StoredSlot) (n x limit : ℕ) where
  -- A slot that holds the link is one of the list.
  held_by : (i y : ℕ) → i < n → HeldBy (slot_in slots i) y → Held (InSlots slots n) y
  held_by i y h w = record { slot = slot_in slots i; on = record { which = i; there = h; is = refl }; turn = w.turn; holds = w.holds }

  pub looked_none : x < limit → Looked slots n x limit 0 (record { end = x; until = limit })
  looked_none h = record {
    to = omega arith;
    on = omega arith;
    short = omega arith;
    held = λ y a b. absurd (omega arith);
    some = h;
    within = omega arith;
    idle = λ e j y b. absurd (omega arith);
  }

  module _ (i : ℕ) (look : Look) (l : Looked slots n x limit i look) (h : i < n) where
    -- Slot i holds the link from the look's end on.
    pub looked_held : (s : Slot) (e r : ℕ) → s ≡ slot_in slots i → Stretch (HeldBy s) look.end e → Least e limit r → Looked slots n x limit (i + 1) (record { end = r; until = look.until })
    looked_held s e r is t m =
        let b : x < limit = omega (arith, l.some, l.within) in
        let t' = subst (λ (z : Slot). Stretch (HeldBy z) look.end e) is t in
        record {
          to = omega arith;
          on =
              ⊎_elim
              (λ (k : r < x). absurd (omega (arith, m.greatest r (omega (arith, l.on, t.some)) (omega arith))))
              (λ (k : x ≤ r). k)
              (lt_or_ge r x);
          short = m.second;
          held = λ y a k.
              ⊎_elim (λ (q : y < look.end). l.held y a q) (λ (q : look.end ≤ y). held_by i y h (t'.all y q (omega (arith, m.first)))) (lt_or_ge y look.end);
          some = l.some;
          within = l.within;
          idle = λ z. absurd (omega (arith, m.greatest x (omega (arith, l.on, t.some)) b));
        }

    -- It does not, up to an instant.
    pub looked_idle : (s : Slot) (e r : ℕ) → s ≡ slot_in slots i → Stretch (λ (y : ℕ). HeldBy s y → ⊥) look.end e → Least e look.until r
        → Looked slots n x limit (i + 1) (record { end = look.end; until = r })
    looked_idle s e r is t m =
        let t' = subst (λ (z : Slot). Stretch (λ (y : ℕ). HeldBy z y → ⊥) look.end e) is t in
        record {
          to = omega arith;
          on = l.on;
          short = l.short;
          held = l.held;
          some = m.greatest x (omega (arith, l.on, t.some)) l.some;
          within = omega (arith, m.second, l.within);
          idle = λ z j y b from to.
              ⊎_elim
              (λ (q : j < i). l.idle z j y q from (omega (arith, m.second)))
              (λ (q : i ≤ j). let e : i ≡ j = omega arith in rw e at (t'.all y (omega arith) (omega (arith, m.first))))
              (lt_or_ge j i);
        }

  module _ (i : ℕ) (look : Look) (l : Looked slots n x limit i look) (h : n ≤ i) where
    pub seen_idle : look.end ≤ x → Stretch (λ (y : ℕ). Held (InSlots slots n) y → ⊥) x look.until × (look.until ≤ limit)
    seen_idle b = (
      record {
        some = l.some;
        all = λ y from to w.
            let q : HoldsLink (slot_in slots w.on.which) w.turn y = subst (λ (s : Slot). HoldsLink s w.turn y) w.on.is w.holds in
            l.idle (omega (arith, l.on)) w.on.which y (omega (arith, w.on.there)) from to (record { turn = w.turn; holds = q });
      },
      l.within,
    )

-- The lesser of two numbers.
pub is_least : {a b r : ℕ} → r ≡ min a b → Least a b r
is_least e = record { first = omega (arith, e); second = omega (arith, e); greatest = λ k h l. omega (arith, e) }
