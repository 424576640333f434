-- Lists of conditions: one kept, one more held, and what a list that holds conditions allows. Assumes nothing.
use Prim.Native.Nat.{ℕ, ◌+◌, ◌<◌}
use mathlib.Core.Path.{◌≡◌, sym, ap, subst}
use mathlib.Core.List.{List}
use lib.ListN.{length, set, take, length-set}
use lib.Seq.{get_or-set_same, get_or-set_other, get_or-take, length-take-le}
use native.Mathlib.Omega.{arith}
use borrow.Author.Count.{below_more}
use Rattle.offsets.specs.declared.Condition.{Condition}
use Rattle.offsets.specs.declared.StoredCondition.{StoredCondition}
use Rattle.offsets.specs.Conditions.{Allow, Allows, AllSound, condition_at, Holding, Keeps, no_condition, Says, Sound, widened}

-- Condition i laid down.
pub keeps : (s : List StoredCondition) (i : ℕ) (q : StoredCondition) → i < length s → Keeps s i (widened q) (set s i q)
keeps s i q room = record {
  size = length-set s i q;
  room = room;
  there = ap widened (get_or-set_same s i q no_condition room);
  others = λ j apart. ap widened (get_or-set_other s i j q no_condition apart);
}

-- One condition more.
pub holding_more : {s s' : List StoredCondition} {i : ℕ} {q : Condition} {P : ℕ → ℕ → Type 0} → Holding s i P → Says (P i) q → Keeps s i q s' → Holding s' (i + 1) P
holding_more {s} {s'} {i} {q} {P} held says kept = record {
  room = omega (arith, kept.size, kept.room);
  each = below_more (λ (j : ℕ). Says (P j) (condition_at s' j)) i
      (λ j l. rw (kept.others j (λ e. omega arith)) (held.each j l))
      (rw kept.there says);
}

-- None yet.
pub holding_none : (s : List StoredCondition) (P : ℕ → ℕ → Type 0) → Holding s 0 P
holding_none s P = record { room = omega arith; each = λ i l. absurd (omega arith) }

module _ {s : List StoredCondition} {n : ℕ} {P : ℕ → ℕ → Type 0} (held : Holding s n P) where
  -- They are the first of the list.
  front : (i : ℕ) → i < n → condition_at (take n s) i ≡ condition_at s i
  front i l = ap widened (get_or-take n s i no_condition l)

  front_size : length (take n s) ≡ n
  front_size = length-take-le n s held.room

  pub holding_sound : AllSound (take n s)
  holding_sound = record { each = λ i l. let k : i < n = omega (arith, front_size) in subst Sound (sym (front i k)) (held.each i k).sound }

  -- Numbers that the list allows have what its conditions say.
  pub holding_to : {x : ℕ} → Allow (take n s) x → (i : ℕ) → i < n → P i x
  holding_to {x} allow i l = (held.each i l).to x (subst (λ (q : Condition). Allows q x) (front i l) (allow.each i (omega (arith, front_size))))

  pub holding_from : {x : ℕ} → ((i : ℕ) → i < n → P i x) → Allow (take n s) x
  holding_from {x} all = record { each = λ i l. let k : i < n = omega (arith, front_size) in subst (λ (q : Condition). Allows q x) (sym (front i k)) ((held.each i k).from x (all i k)) }

-- A condition of the list.
module _ {s : List StoredCondition} {i : ℕ} {q : Condition} (sound : AllSound s) (is : q ≡ condition_at s i) (inside : i < length s) where
  pub condition_sound : Sound q
  condition_sound = subst Sound (sym is) (sound.each i inside)
