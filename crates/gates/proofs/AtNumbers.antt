-- Masks, cycles and gate lists at numbers. Assumes nothing.
use Prim.Native.Nat.{ℕ, zero, suc, ◌+◌, ◌*◌, ◌∣◌, ◌≤◌, ◌<◌}
use mathlib.Core.Path.{◌≡◌, refl, sym, subst}
use mathlib.Core.Logic.{inl, inr}
use native.Mathlib.Nat.{dvd_refl, dvd-sub}
use native.Mathlib.Omega.{arith}
use Rattle.overlap.specs.Meeting.{HoldsLink}
use Rattle.overlap.specs.declared.Slot.{Slot}
use Rattle.gates.specs.Holding.{Right, held, idle}
use Rattle.gates.specs.Pairs.{mask_of, duration_of, begin_of, ShowsAt}
use Rattle.gates.specs.Cycle.{IsCycle}
use Rattle.gates.specs.AtNumbers.{in5, One, list_of_one, in4, in6, Two, GatesAtNumbers}
use Rattle.gates.proofs.Cycles.{lcm_is, cycle_one_more}

-- The one slot holds its link in repeat k, or in none.
held_in : (k y : ℕ) → 1 + k * 5 ≤ y → y < 3 + k * 5 → Right One y 128
held_in k y from to = held (record { slot = in5; on = refl; turn = k; holds = record { begun = from; not_ended = omega arith } }) refl

held_in_none : (y : ℕ) → ((k : ℕ) → 1 + k * 5 ≤ y → y < 3 + k * 5 → ⊥) → Right One y 127
held_in_none y none = idle (λ h. let w = subst (λ (s : Slot). HoldsLink s h.turn y) h.on h.holds in none h.turn w.begun (omega (arith, w.not_ended))) refl

begins : (begin_of list_of_one 0 ≡ 0) × (begin_of list_of_one 1 ≡ 1) × (begin_of list_of_one 2 ≡ 3) × (begin_of list_of_one 3 ≡ 5)
unfolding begin_of
begins = (refl, refl, refl, refl)

differ : (i : ℕ) → i + 1 < 3 → mask_of list_of_one i ≡ mask_of list_of_one (i + 1) → ⊥
differ zero h e = omega (arith, e)
differ (suc zero) h e = omega (arith, e)
differ (suc (suc i)) h e = omega (arith, h)

pair : (i : ℕ) → i < 3 → (1 ≤ duration_of list_of_one i) × ((y : ℕ) → ShowsAt list_of_one i y → Right One y (mask_of list_of_one i))
pair zero h = (omega arith, λ y s. held_in_none y (λ k from to. omega (arith, begins, s.not_ended)))
pair (suc zero) h = (omega arith, λ y s. held_in 0 y (omega (arith, begins, s.begun)) (omega (arith, begins, s.not_ended)))
pair (suc (suc zero)) h = (omega arith, λ y s. held_in_none y (λ k from to. omega (arith, begins, s.begun, s.not_ended)))
pair (suc (suc (suc i))) h = absurd (omega arith)

-- The cycle of one slot is its period.
cycle_alone : (s : Slot) → 1 ≤ s.period → IsCycle (λ (r : Slot). r ≡ s) s.period
cycle_alone s some = record {
  positive = some;
  common = record { divides = λ r e. subst (λ (z : Slot). z.period ∣ s.period) (sym e) (dvd_refl s.period) };
  least = λ m h. h.divides s refl;
}

pub gates_at_numbers : GatesAtNumbers
gates_at_numbers = record {
  at_0 = held_in_none 0 (λ k from to. omega arith);
  at_1 = held_in 0 1 (omega arith) (omega arith);
  at_2 = held_in 0 2 (omega arith) (omega arith);
  at_3 = held_in_none 3 (λ k from to. omega arith);
  at_6 = held_in 1 6 (omega arith) (omega arith);
  cycle_of_one = cycle_alone in5 (omega arith);
  list_of_one_is = record { pairs = record { lasts = λ i h. (pair i h).0; differ = differ; right = λ i y h. (pair i h).1 y }; adds_up = begins.3 };
  cycle_of_two = cycle_one_more (λ (r : Slot). r ≡ in6) in4 Two (record { old = λ r e. inr e; new = inl refl; no_other = λ r h. h }) 6 12 (cycle_alone in6 (omega arith))
      (lcm_is 6 4 2 (omega arith) (omega arith) (record { left = ∣ (3, refl) ∣₁; right = ∣ (2, refl) ∣₁; greatest = λ d p q. dvd-sub d p q }));
  longest = refl;
  most = refl;
}
