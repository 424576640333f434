-- Steps of the search one after the other: by one condition of the list, by all of them, and to the answer. Assumes nothing.
use Prim.Native.Nat.{ℕ, ◌+◌, ◌≤◌, ◌<◌}
use mathlib.Core.Path.{◌≡◌, sym, subst}
use mathlib.Core.List.{List}
use lib.ListN.{length}
use mathlib.Core.Logic.{⊎_elim}
use native.Mathlib.Omega.{arith}
use borrow.Author.Count.{below_more}
use Rattle.basics.proofs.Splits.{lt_or_ge}
use Rattle.numbers.specs.Number.{max_word}
use Rattle.offsets.specs.declared.Condition.{Condition}
use Rattle.offsets.specs.declared.StoredCondition.{StoredCondition}
use Rattle.offsets.specs.Conditions.{Allow, Allows, AllSound, condition_at}
use Rattle.offsets.specs.Search.{LeastFrom, NoneFrom}
use Rattle.offsets.specs.Steps.{Passes, Skips}

-- What has P neither up to y nor from there on.
pub none_joined : (P : ℕ → Type 0) (x y z : ℕ) → NoneFrom P x y → NoneFrom P y z → NoneFrom P x z
none_joined P x y z a b n from below h = ⊎_elim (λ (l : n < y). a n from l h) (λ (l : y ≤ n). b n l below h) (lt_or_ge n y)

module _ {P : ℕ → Type 0} {limit : ℕ} where
  pub passes_none : {x : ℕ} → x ≤ limit → Passes P limit x x
  passes_none h = record { up = omega arith; to = h; none = λ z from below p. omega arith }

  pub passes_on : {x y z : ℕ} → Passes P limit x y → Passes P limit y z → Passes P limit x z
  passes_on {x} {y} {z} a b = record { up = omega (arith, a.up, b.up); to = b.to; none = none_joined P x y z a.none b.none }

  -- A step that went on needs no test where it came to.
  pub skips_moved : {x y z : ℕ} → Passes P limit x y → (y ≡ x → ⊥) → Passes P limit y z → Skips P limit x z
  skips_moved a away b = record { passes = passes_on a b; stays = λ e l. absurd (away (omega (arith, a.up, b.up))) }

-- One condition of the list.
pub passes_by : {s : List StoredCondition} {i limit x y : ℕ} {q : Condition} → q ≡ condition_at s i → i < length s → Skips (Allows q) limit x y → Passes (Allow s) limit x y
passes_by {s} {i} {limit} {x} {y} {q} is inside skips = record {
  up = skips.passes.up;
  to = skips.passes.to;
  none = λ z from below a. skips.passes.none z from below (subst (λ (c : Condition). Allows c z) (sym is) (a.each i inside));
}

-- From x the search came to y by some conditions of the list, in any order.
pub record Passing (s : List StoredCondition) (limit x y : ℕ) : Type 0 where
  pub sound : AllSound s
  pub small : limit ≤ max_word
  pub passes : Passes (Allow s) limit x y

module _ {s : List StoredCondition} {limit x : ℕ} where
  pub passing_none : AllSound s → limit ≤ max_word → x ≤ limit → Passing s limit x x
  passing_none sound small inside = record { sound = sound; small = small; passes = passes_none inside }

  pub passing_on : {y z w : ℕ} → Passing s limit x y → Passes (Allow s) limit y z → w ≡ z → Passing s limit x w
  passing_on {y} {z} {w} p q e = record { sound = p.sound; small = p.small; passes = subst (Passes (Allow s) limit x) (sym e) (passes_on p.passes q) }

-- The first n conditions of the list allow x.
pub record AllowFirst (s : List StoredCondition) (n x : ℕ) : Type 0 where
  pub each : (i : ℕ) → i < n → Allows (condition_at s i) x

-- From x the search came to y by the conditions before i, each of them once.
pub record Sweeping (s : List StoredCondition) (limit x i y : ℕ) : Type 0 where
  pub sound : AllSound s
  pub small : limit ≤ max_word
  pub to : i ≤ length s
  pub skips : Skips (AllowFirst s i) limit x y

module _ {s : List StoredCondition} {limit x : ℕ} where
  pub sweeping_none : AllSound s → limit ≤ max_word → x ≤ limit → Sweeping s limit x 0 x
  sweeping_none sound small inside = record {
    sound = sound;
    small = small;
    to = omega arith;
    skips = record { passes = passes_none inside; stays = λ e l. record { each = λ k m. absurd (omega arith) } };
  }

  -- Condition i, from where those before it led.
  pub sweeping_on : {i y z : ℕ} {q : Condition} → Sweeping s limit x i y → i < length s → q ≡ condition_at s i → Skips (Allows q) limit y z
      → Sweeping s limit x (i + 1) z
  sweeping_on {i} {y} {z} {q} swept inside is step =
      let first = swept.skips in
      let before : Passes (AllowFirst s (i + 1)) limit x y = record {
        up = first.passes.up;
        to = first.passes.to;
        none = λ v from below a. first.passes.none v from below (record { each = λ k l. a.each k (omega arith) });
      } in
      let here : Passes (AllowFirst s (i + 1)) limit y z = record {
        up = step.passes.up;
        to = step.passes.to;
        none = λ v from below a. step.passes.none v from below (subst (λ (c : Condition). Allows c v) (sym is) (a.each i (omega arith)));
      } in
      record {
        sound = swept.sound;
        small = swept.small;
        to = omega arith;
        skips = record {
          passes = passes_on before here;
          stays = λ e l.
              let same : y ≡ x = omega (arith, first.passes.up, step.passes.up) in
              let here : Allows q y = step.stays (omega (arith, first.passes.up, step.passes.up)) (omega arith) in
              let too : Allows (condition_at s i) x = subst (Allows (condition_at s i)) same (subst (λ (c : Condition). Allows c y) is here) in
              record { each = below_more (λ (k : ℕ). Allows (condition_at s k) x) i (first.stays same l).each too };
        };
      }

  pub sweeping_all : {i y : ℕ} → Sweeping s limit x i y → length s ≤ i → Skips (Allow s) limit x y
  sweeping_all {i} {y} swept done =
      let first = swept.skips in
      let same : i ≡ length s = omega (arith, swept.to) in
      record {
        passes = record {
          up = first.passes.up;
          to = first.passes.to;
          none = λ v from below a. first.passes.none v from below (record { each = λ k l. a.each k (omega arith) });
        };
        stays = λ e l. record { each = λ k m. (first.stays e l).each k (omega arith) };
      }

-- Nothing from `from` up to but without x has what is looked for.
pub record Searching (s : List StoredCondition) (limit from x : ℕ) : Type 0 where
  pub sound : AllSound s
  pub small : limit ≤ max_word
  pub above : from ≤ x
  pub none : NoneFrom (Allow s) from x

module _ {s : List StoredCondition} {limit from : ℕ} where
  pub searching_none : AllSound s → limit ≤ max_word → Searching s limit from from
  searching_none sound small = record { sound = sound; small = small; above = omega arith; none = λ z f below a. omega arith }

  pub searching_on : {x y : ℕ} → Searching s limit from x → Skips (Allow s) limit x y → Searching s limit from y
  searching_on {x} {y} so step = record {
    sound = so.sound;
    small = so.small;
    above = omega (arith, so.above, step.passes.up);
    none = none_joined (Allow s) from x y so.none step.passes.none;
  }

  -- A step that stays found the least.
  pub searching_found : {x y : ℕ} → Searching s limit from x → x < limit → Skips (Allow s) limit x y → y ≡ x → LeastFrom (Allow s) limit from x
  searching_found so inside step e = record { above = so.above; below = inside; has = step.stays e inside; least = so.none }

  pub searching_over : {x : ℕ} → Searching s limit from x → limit ≤ x → NoneFrom (Allow s) from limit
  searching_over {x} so over z f below a = so.none z f (omega arith) a
