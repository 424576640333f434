-- The slots of the legs on a link, gathered leg by leg. Assumes nothing.
use Prim.Native.Nat.{ℕ, ◌+◌, ◌≤◌, ◌<◌}
use mathlib.Core.Path.{◌≡◌, refl, sym, ◌∙◌, ap, subst}
use mathlib.Core.List.{List}
use mathlib.Core.Logic.{◌⊎◌, inl, inr, ⊎_elim}
use lib.ListN.{length, take}
use lib.Seq.{get_or-take, length-take-le}
use native.Mathlib.Omega.{arith}
use Rattle.basics.proofs.Splits.{lt_or_ge}
use Rattle.table.specs.Layout.{leg_count}
use Rattle.table.specs.Records.{leg_at}
use Rattle.shape.proofs.Placed.{well_formed_guarantees}
use Rattle.overlap.specs.declared.Slot.{Slot}
use Rattle.rules.specs.Times.{slot_of}
use Rattle.rules.specs.Steps.{LegIn, FrameOf}
use Rattle.rules.specs.declared.Frame.{Frame}
use Rattle.rules.proofs.Said.{window_says}
use Rattle.gates.specs.Steps.{Kept, slot_in, no_slot, widened, InSlots, Added}
use Rattle.gates.specs.declared.slots.StoredSlot.{StoredSlot}
use Rattle.gates.proofs.Cycles.{OneMore}
use Rattle.gate_lists.specs.GateList.{SlotOn}
use Rattle.gate_lists.specs.Lists.{MayList}
use Rattle.gate_lists.specs.Steps.{SlotBelow, Gathered}

pub leg_in_lem : {t : List ℕ} {l a legs : ℕ} → MayList t l → legs ≡ leg_count t → a < legs → LegIn t a
leg_in_lem m e h = record { table = well_formed_guarantees _ m.shape; leg = omega arith }

-- A leg's slot, as it is read.
abbrev slot_from : Frame → Slot
slot_from f = record { offset = f.offset; period = f.period; hold = f.hold }

pub is_slot : {t : List ℕ} {a : ℕ} {f : Frame} → FrameOf t a f → slot_from f ≡ slot_of t a
is_slot {f = f} o = λ i. record { offset = o.offset i; period = o.period i; hold = o.hold.same i }

-- In an accepted table it keeps its window.
pub is_kept : {t : List ℕ} {l a legs : ℕ} {f : Frame} → MayList t l → legs ≡ leg_count t → a < legs → FrameOf t a f → Kept (slot_from f)
is_kept {t = t} {a = a} m e h o = record {
  period = o.repeats.1;
  hold = o.hold.from;
  window = omega (arith, (window_says t a).0 (m.rules.window a (omega arith)), o.offset, o.period, o.hold.same);
}

module _ (t : List ℕ) (l : ℕ) where
  -- The slots of all legs are those on the link.
  pub slot_on : (s : Slot) → SlotBelow t l (leg_count t) s → SlotOn t l s
  slot_on s b = record { leg = b.leg; there = b.below; on = b.on; is = b.is }

  pub slot_below : (s : Slot) → SlotOn t l s → SlotBelow t l (leg_count t) s
  slot_below s o = record { leg = o.leg; below = o.there; on = o.on; is = o.is }

  pub gathered_none : (slots : List StoredSlot) → Gathered t l 0 slots 0
  gathered_none slots = record {
    kept = record { room = omega arith; kept = λ i h. absurd (omega arith) };
    few = omega arith;
    from = λ s b. absurd (omega (arith, b.below));
    to = λ s w. absurd (omega (arith, w.there));
  }

  -- Leg a besides those before it.
  module _ (a : ℕ) where
    pub below_more : (s : Slot) → SlotBelow t l a s → SlotBelow t l (a + 1) s
    below_more s b = record { leg = b.leg; below = omega (arith, b.below); on = b.on; is = b.is }

    last_leg : (s : Slot) → SlotBelow t l (a + 1) s → (((leg_at t a).link ≡ l) × (s ≡ slot_of t a)) ⊎ SlotBelow t l a s
    last_leg s b =
        ⊎_elim
        (λ (k : b.leg < a). inr (record { leg = b.leg; below = k; on = b.on; is = b.is }))
        (λ (k : a ≤ b.leg). let e : b.leg ≡ a = omega (arith, b.below) in inl (ap (λ (i : ℕ). (leg_at t i).link) (sym e) ∙ b.on, b.is ∙ ap (slot_of t) e))
        (lt_or_ge b.leg a)

    -- It is on another link: the same slots.
    pub below_other : ((leg_at t a).link ≡ l → ⊥) → (s : Slot) → SlotBelow t l (a + 1) s → SlotBelow t l a s
    below_other no_such s b =
        ⊎_elim (λ (e : ((leg_at t a).link ≡ l) × (s ≡ slot_of t a)). absurd (no_such e.0)) (λ (k : SlotBelow t l a s). k) (last_leg s b)

    -- It is on this one: one slot more.
    pub below_one : (leg_at t a).link ≡ l → OneMore (SlotBelow t l a) (slot_of t a) (SlotBelow t l (a + 1))
    below_one here = record {
      old = below_more;
      new = record { leg = a; below = omega arith; on = here; is = refl };
      no_other = λ s b. ⊎_elim (λ (e : ((leg_at t a).link ≡ l) × (s ≡ slot_of t a)). inl e.1) (λ (k : SlotBelow t l a s). inr k) (last_leg s b);
    }

  module _ (a : ℕ) (slots : List StoredSlot) (n : ℕ) (g : Gathered t l a slots n) where
    -- Leg a is on another link.
    pub gathered_other : (link : ℕ) → link ≡ (leg_at t a).link → (link ≡ l → ⊥) → Gathered t l (a + 1) slots n
    gathered_other link is no_such = record {
      kept = g.kept;
      few = omega (arith, g.few);
      from = λ s b. g.from s (below_other a (λ e. no_such (is ∙ e)) s b);
      to = λ s w. below_more a s (g.to s w);
    }

    -- All legs are passed.
    pub gathered_all : (legs : ℕ) → legs ≡ leg_count t → a ≤ legs → legs ≤ a → Gathered t l (leg_count t) slots n
    gathered_all legs e b k = let same : a ≡ leg_count t = omega arith in subst (λ (i : ℕ). Gathered t l i slots n) same g

    -- Leg a is on this one, and its slot was added.
    pub gathered_one : (link : ℕ) (s : Slot) (after : List StoredSlot) → link ≡ (leg_at t a).link → link ≡ l → s ≡ slot_of t a → Kept s → n < length slots → Added slots n s after
        → Gathered t l (a + 1) after (n + 1)
    gathered_one link s after is here same kept room d =
        let m = below_one a (sym is ∙ here) in
        record {
          kept = record {
            room = omega (arith, d.size);
            kept = λ i h.
                ⊎_elim
                (λ (e : slot_in after i ≡ s). subst Kept (sym e) kept)
                (λ (v : InSlots slots n (slot_in after i)). subst Kept (sym v.is) (g.kept.kept v.which v.there))
                (d.no_other (slot_in after i) (record { which = i; there = h; is = refl }));
          };
          few = omega (arith, g.few);
          from = λ r b.
              ⊎_elim (λ (e : r ≡ slot_of t a). subst (InSlots after (n + 1)) (sym (e ∙ sym same)) d.new) (λ (k : SlotBelow t l a r). d.old r (g.from r k)) (m.no_other r b);
          to = λ r w.
              ⊎_elim (λ (e : r ≡ s). subst (SlotBelow t l (a + 1)) (sym (e ∙ same)) m.new) (λ (v : InSlots slots n r). m.old r (g.to r v)) (d.no_other r w);
        }

  -- The slots in front, without what lies behind them.
  module _ (legs : ℕ) (slots : List StoredSlot) (n : ℕ) (g : Gathered t l legs slots n) where
    front : (i : ℕ) → i < n → slot_in (take n slots) i ≡ slot_in slots i
    front i h = ap widened (get_or-take n slots i no_slot h)

    front_size : length (take n slots) ≡ n
    front_size = length-take-le n slots g.kept.room

    pub gathered_front : Gathered t l legs (take n slots) (length (take n slots))
    gathered_front = record {
      kept = record { room = omega arith; kept = λ i h. let k : i < n = omega (arith, front_size) in subst Kept (sym (front i k)) (g.kept.kept i k) };
      few = omega (arith, front_size, g.few);
      from = λ s b. let w = g.from s b in record { which = w.which; there = omega (arith, front_size, w.there); is = w.is ∙ sym (front w.which w.there) };
      to = λ s w.
          let k : w.which < n = omega (arith, front_size, w.there) in
          g.to s (record { which = w.which; there = k; is = w.is ∙ front w.which k });
    }
