-- The comb has 1,024 pairs, its teeth being right one behind the other, and more where all its legs lie 1 ns later. Assumes nothing.
use Prim.Native.Nat.{ℕ, zero, suc, ◌+◌, ◌*◌, ◌-◌, ◌≤◌, ◌<◌}
use mathlib.Core.Path.{◌≡◌, refl}
use mathlib.Core.List.{List, []}
use mathlib.Core.Logic.{⊎_elim}
use lib.ListN.{length}
use native.Mathlib.Omega.{arith}
use Rattle.basics.proofs.Splits.{lt_or_ge}
use Rattle.gates.specs.Pairs.{mask_of}
use Rattle.gate_lists.specs.GateList.{SlotOn, CycleOf, RightMask, IsGateList, with_legs}
use Rattle.gate_lists.specs.AtNumbers.{comb, teeth, list_of_comb}
use Rattle.gate_lists.proofs.Stretches.{RightFrom, no_pairs, in_front, from_start}
use Rattle.gate_lists.proofs.TwoSlots.{Two, first_holds, second_holds, none_holds, cycle_is}
use Rattle.gate_lists.proofs.ManyPairs as many
use Rattle.gate_lists.proofs.ShortFrames.{slot}
use Rattle.gate_lists.proofs.LikeA as like

slots : (later : ℕ) → Two (SlotOn (comb later) 0) (slot later 2000) (slot (672 + later) 1024000)
slots later = like.link_0 2000 1024000 later (672 + later)

pub cycle : (later : ℕ) → CycleOf (comb later) 0 1024000
cycle later = cycle_is (slots later) 1024000 (omega arith) ∣ (512, refl) ∣₁ ∣ (1, refl) ∣₁ (λ m p q. q)

-- A pair with mask 127 differs from the tooth after it.
next_tooth : (n : ℕ) → 1 ≤ 2 * n → 127 ≡ mask_of (teeth n) 0 → ⊥
unfolding teeth
next_tooth zero h e = omega arith
next_tooth (suc n) h e = omega (arith, e)

abbrev R : ℕ → ℕ → Type 0
R = RightMask (comb 0) 0

-- The last n of 512 holds of leg 0, beginning with hold j, which is not the first: leg 2 follows that one.
teeth_right : (n j : ℕ) → j + n ≡ 512 → 1 ≤ j → RightFrom R (2000 * j) (teeth n) (2 * n) 1024000
unfolding teeth
teeth_right zero j all some = let e : 2000 * j ≡ 1024000 = omega arith in rw e (no_pairs _ [])
teeth_right (suc n) j all some =
    let rest = teeth_right n (j + 1) (omega arith) (omega arith) in
    let count : 2 * suc n ≡ 2 * n + 1 + 1 = omega arith in
    let on : 2000 * (j + 1) ≡ 2000 * j + 672 + 1328 = omega arith in
    rw count
    (in_front (2 * n + 1) (omega arith) (first_holds (slots 0) j _ _ (omega arith) (omega arith)) (λ h e. omega (arith, e))
    (in_front (2 * n) (omega arith) (none_holds (slots 0) _ _ (λ y f t k h. omega arith) (λ y f t k h. omega arith)) (next_tooth n)
    (rw on at rest)))

-- The first hold and that of leg 2.
both : (y : ℕ) → 0 ≤ y → y < 1344 → R y 128
both y f t =
    ⊎_elim
    (λ (h : y < 672). first_holds (slots 0) 0 0 672 (omega arith) (omega arith) y f h)
    (λ (h : 672 ≤ y). second_holds (slots 0) 0 672 1344 (omega arith) (omega arith) y h t)
    (lt_or_ge y 672)

pairs : RightFrom R 0 list_of_comb 1024 1024000
pairs =
    in_front 1023 (omega arith) both (λ h e. omega (arith, e))
    (in_front 1022 (omega arith) (none_holds (slots 0) _ _ (λ y f t k h. omega arith) (λ y f t k h. omega arith)) (next_tooth 511)
    (teeth_right 511 1 (omega arith) (omega arith)))

pub words : length list_of_comb ≡ 2048
unfolding teeth
words = refl

pub list : IsGateList (comb 0) 0 list_of_comb
list = with_legs _ (slots 0).first 1024000 1024 (cycle 0) (from_start pairs) words

-- One nanosecond later: hold k of leg 0 begins at 2,000k + 1, and the link is idle at 2,000k - 1, or at 0 before the first. These are 1,025 turns.
abbrev idle : ℕ → ℕ
idle k = 2000 * k - 1

abbrev held : ℕ → ℕ
held k = 2000 * k + 1

in_turn : many.InTurn (comb 1) 0 1024000 512 idle held
in_turn = record {
  is_idle = λ k h. none_holds (slots 1) (idle k) (idle k + 1) (λ y f t j o. omega arith) (λ y f t j o. omega arith) (idle k) (omega arith) (omega arith);
  is_held = λ k h. first_holds (slots 1) k (held k) (held k + 1) (omega arith) (omega arith) (held k) (omega arith) (omega arith);
  then_held = λ k h. omega arith;
  then_idle = λ k h. omega arith;
  before = λ k h. omega arith;
}

pub no_few : (ws : List ℕ) → IsGateList (comb 1) 0 ws → length ws ≤ 2048 → ⊥
no_few = many.no_few (comb 1) 0 1024000 512 idle held _ (slots 1).first (cycle 1) in_turn
