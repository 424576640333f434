-- Cycles about the limit: one of just a second, one that is a nanosecond longer, and a plan that is not accepted besides. Assumes nothing.
use Prim.Native.Nat.{ℕ, ◌≤◌, ◌<◌}
use mathlib.Core.Path.{refl}
use mathlib.Core.List.{[], ◌∷◌}
use mathlib.Core.Logic.{⊎_elim}
use native.Mathlib.Nat.{dvd-sub, dvd-mul_left_of_dvd}
use native.Mathlib.Omega.{arith}
use Rattle.basics.proofs.Splits.{lt_or_ge}
use Rattle.overlap.specs.Divisor.{IsGcd}
use Rattle.overlap.proofs.Law.{shared_instant}
use Rattle.rules.specs.Rules.{RulesHold}
use Rattle.gates.proofs.Cycles.{lcm_is, one_cycle}
use Rattle.gate_lists.specs.GateList.{SlotOn, CycleOf, RightMask, IsGateList, with_legs}
use Rattle.gate_lists.specs.Lists.{MayList, ShortCycle}
use Rattle.gate_lists.specs.AtNumbers.{with_periods, second_a, just_past_a}
use Rattle.gate_lists.proofs.Stretches.{RightFrom, no_pairs, in_front, from_start}
use Rattle.gate_lists.proofs.TwoSlots.{Two, first_holds, second_holds, none_holds, cycle_is}
use Rattle.gate_lists.proofs.ShortFrames.{slot}
use Rattle.gate_lists.proofs.LikeA as like
use Rattle.gate_lists.proofs.RulesLikeA as rules-like

second : Two (SlotOn second_a 0) (slot 0 1000000000) (slot 672 1000000000)
second = like.link_0 1000000000 1000000000 0 672

cycle : CycleOf second_a 0 1000000000
cycle = cycle_is second 1000000000 (omega arith) ∣ (1, refl) ∣₁ ∣ (1, refl) ∣₁ (λ m p q. p)

pub short_second : ShortCycle second_a 0
short_second = record { cycle = 1000000000; is = cycle; short = omega arith }

both : (y : ℕ) → 0 ≤ y → y < 1344 → RightMask second_a 0 y 128
both y f t =
    ⊎_elim (λ (h : y < 672). first_holds second 0 0 672 (omega arith) (omega arith) y f h) (λ (h : 672 ≤ y). second_holds second 0 672 1344 (omega arith) (omega arith) y h t) (lt_or_ge y 672)

pairs : RightFrom (RightMask second_a 0) 0 (128 ∷ 1344 ∷ 127 ∷ 999998656 ∷ []) 2 1000000000
pairs =
    in_front 1 (omega arith) both (λ h e. omega (arith, e))
    (in_front 0 (omega arith) (none_holds second _ _ (λ y f t k h. omega arith) (λ y f t k h. omega arith)) (λ h e. absurd (omega arith)) (no_pairs 1000000000 []))

pub list_second : IsGateList second_a 0 (128 ∷ 1344 ∷ 127 ∷ 999998656 ∷ [])
list_second = with_legs _ second.first 1000000000 2 cycle (from_start pairs) refl

pub may_second : MayList second_a 0
may_second =
    rules-like.may_list 1000000000 1000000000 0 1000000000 (record { left = ∣ (1, refl) ∣₁; right = ∣ (1, refl) ∣₁; greatest = λ e p q. p }) (omega arith)
    (omega arith, omega arith) (omega arith, omega arith) 0 (omega arith)

-- 1,463 is twice the one period less 8,089 times the other.
divisor : IsGcd 76923077 19019 1463
divisor = record {
  left = ∣ (52579, refl) ∣₁;
  right = ∣ (13, refl) ∣₁;
  greatest = λ e p q. dvd-sub e (dvd-mul_left_of_dvd e p 2) (dvd-mul_left_of_dvd e q 8089);
}

pub may_past : MayList just_past_a 0
may_past = rules-like.may_list 76923077 19019 0 1463 divisor (omega arith) (omega arith, omega arith) (omega arith, omega arith) 0 (omega arith)

pub past : Two (SlotOn just_past_a 0) (slot 0 76923077) (slot 672 19019)
past = like.link_0 76923077 19019 0 672

pub cycle_past : CycleOf just_past_a 0 1000000001
cycle_past = let lcm = lcm_is 76923077 19019 1463 (omega arith) (omega arith) divisor in cycle_is past 1000000001 (omega arith) lcm.left lcm.right lcm.least

pub not_short : ShortCycle just_past_a 0 → ⊥
not_short s = omega (arith, s.short, one_cycle (SlotOn just_past_a 0) s.cycle 1000000001 s.is cycle_past)

-- With leg 2 at 0, legs 0 and 2 hold link 0 at instant 0.
pub not_accepted_lem : (p q : ℕ) → RulesHold (with_periods p q 0) → ⊥
not_accepted_lem p q r =
    shared_instant (slot 0 p) (slot 0 q) 0 0 0 (record { begun = omega arith; not_ended = omega arith }) (record { begun = omega arith; not_ended = omega arith })
    (rules-like.legs_apart p q 0 0 r)
