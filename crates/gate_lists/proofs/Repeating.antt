-- The list of a link of an accepted table, repeated for ever: what it shows, and to whom its gate is open. Assumes nothing.
use Prim.Native.Nat.{ℕ, ◌%◌, ◌/◌, ◌<◌}
use mathlib.Core.Path.{◌≡◌, refl, sym, ap, subst}
use mathlib.Core.List.{List}
use mathlib.Core.Logic.{⊎_elim}
use lib.ListN.{length}
use native.Mathlib.Nat.{div-add-mod', mod-lt}
use native.Mathlib.Omega.{arith}
use Rattle.basics.proofs.Splits.{eq_or_ne}
use Rattle.table.specs.Layout.{leg_count}
use Rattle.table.specs.Records.{leg_at}
use Rattle.shape.proofs.Placed.{well_formed_guarantees}
use Rattle.overlap.specs.Meeting.{HoldsLink}
use Rattle.overlap.specs.declared.Slot.{Slot}
use Rattle.overlap.proofs.Law.{shared_instant}
use Rattle.rules.specs.Times.{slot_of}
use Rattle.rules.proofs.Said.{window_says, overlap_says}
use Rattle.rules.proofs.Covering.{own_repeats_never_meet}
use Rattle.rules.proofs.Gap.{holds_some}
use Rattle.checker.specs.Accepted.{Accepted}
use Rattle.gates.specs.Holding.{held}
use Rattle.gates.specs.Pairs.{mask_of, ListRight}
use Rattle.gates.specs.Steps.{Kept}
use Rattle.gates.specs.Theorems.{AllKept}
use Rattle.gates.proofs.Masks.{one_mask_is_right}
use Rattle.gates.proofs.Cycles.{one_cycle, right_for_ever}
use Rattle.gates.proofs.Showing.{some_pair_shows}
use Rattle.gate_lists.specs.GateList.{SlotOn, CycleOf, RightMask, IsGateList, without_legs, with_legs}
use Rattle.gate_lists.specs.Theorems.{GateListsRepeat, ShowsEver, GatesOpenForFrames, OneLegAtATime}

-- Every slot on a link of an accepted table keeps its window.
pub all_kept : (t : List ℕ) (l : ℕ) → Accepted t → AllKept (SlotOn t l)
all_kept t l acc s o =
    let g = well_formed_guarantees t acc.shape in
    subst Kept (sym o.is)
    (record {
      period = omega (arith, (g.stream (leg_at t o.leg).stream (g.leg o.leg o.there).stream).small.period_to);
      hold = holds_some t o.leg acc.shape o.there;
      window = (window_says t o.leg).0 (acc.rules.window o.leg o.there);
    })

pub gate_lists_repeat : GateListsRepeat
gate_lists_repeat t l c ws acc is (without_legs n e) pass i y h s = absurd (omega (arith, ap length e))
gate_lists_repeat t l c ws acc is (with_legs r on d n k p long) pass i y h s =
    let e : d ≡ c = one_cycle (SlotOn t l) d c k is in
    right_for_ever (SlotOn t l) c ws n (all_kept t l acc) is.common (subst (λ (z : ℕ). ListRight (RightMask t l) z ws n) e p) pass i y (omega arith) s

-- Instant x is instant x % c of pass x / c.
shows_ever : (t : List ℕ) (l c : ℕ) (ws : List ℕ) (s : Slot) → SlotOn t l s → CycleOf t l c → IsGateList t l ws → (x : ℕ) → (i : ℕ) × ShowsEver ws c i x
shows_ever t l c ws s on is (without_legs n e) x = absurd (n s on)
shows_ever t l c ws s on is (with_legs r ron d n k p long) x =
    let e : d ≡ c = one_cycle (SlotOn t l) d c k is in
    let shown = some_pair_shows (RightMask t l) c ws n (x % c) (subst (λ (z : ℕ). ListRight (RightMask t l) z ws n) e p) (mod-lt x is.positive) in (
      shown.pair,
      record {
        pass = x / c;
        instant = x % c;
        is = omega (arith, div-add-mod' x c);
        there = omega (arith, shown.there);
        shows = shown.shows;
      },
    )

own_slot : (t : List ℕ) (a : ℕ) → a < leg_count t → SlotOn t (leg_at t a).link (slot_of t a)
own_slot t a h = record { leg = a; there = h; on = refl; is = refl }

pub gates_open_for_frames : GatesOpenForFrames
gates_open_for_frames = record {
  some_shows = λ t a c ws acc h is p x. shows_ever t (leg_at t a).link c ws (slot_of t a) (own_slot t a h) is p x;
  is_open = λ t a k x c i ws acc h is p holds s.
      let right = gate_lists_repeat t (leg_at t a).link c ws acc is p s.pass i s.instant s.there s.shows in
      one_mask_is_right (SlotOn t (leg_at t a).link) x _ _ (subst (λ (z : ℕ). RightMask t (leg_at t a).link z (mask_of ws i)) (sym s.is) right)
      (held (record { slot = slot_of t a; on = own_slot t a h; turn = k; holds = holds }) refl);
}

pub one_leg_at_a_time : OneLegAtATime
one_leg_at_a_time t a b k m x acc ha hb same p q =
    ⊎_elim
    (λ (e : a ≡ b).
    ⊎_elim
    (λ (f : k ≡ m). (e, f))
    (λ (f : k ≡ m → ⊥).
    absurd (own_repeats_never_meet t a k m x (acc.rules.window a ha) f p (subst (λ (z : ℕ). HoldsLink (slot_of t z) m x) (sym e) q)))
    (eq_or_ne k m))
    (λ (e : a ≡ b → ⊥). absurd (shared_instant (slot_of t a) (slot_of t b) k m x p q ((overlap_says t a b).0 (acc.rules.overlap a b ha hb e) same)))
    (eq_or_ne a b)
