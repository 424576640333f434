-- Window and overlap as conditions on the first offset, overlap by the divisor law; and what a condition that allows everything says. Assumes nothing.
use Prim.Native.Nat.{ℕ, ◌+◌, ◌-◌, ◌*◌, ◌/◌, ◌%◌, ◌≤◌, ◌<◌}
use mathlib.Core.Path.{◌≡◌, ◌∙◌, sym, ap}
use native.Mathlib.Nat.{add-mod-mod, add-mod_right, add-mul-mod_self_left, div-add-mod, mod-lt, mod-mod_of_dvd}
use native.Mathlib.Omega.{arith}
use Rattle.numbers.specs.Number.{max_word}
use Rattle.overlap.specs.Meeting.{NeverMeet}
use Rattle.overlap.specs.Divisor.{Apart, IsGcd, IsRemainder, Repeats}
use Rattle.overlap.specs.declared.Slot.{Slot}
use Rattle.overlap.proofs.Law.{divisor_law, meeting_is_symmetric}
use Rattle.overlap.proofs.Euclid.{gcd_positive}
use Rattle.offsets.specs.declared.Condition.{Condition}
use Rattle.offsets.specs.Conditions.{AllowsAll, ClearOf, EndsWithin, Says, Starts, slot_from}

-- A condition that allows everything says whatever always holds.
pub free_says : (P : ℕ → Type 0) {q : Condition} → ((x : ℕ) → P x) → AllowsAll q → Says P q
free_says P always free = record { sound = free.sound; to = λ x h. always x; from = λ x h. free.all x }

-- The same condition says the same in other words.
pub says_in_words : {P : ℕ → Type 0} {q : Condition} (Q : ℕ → Type 0) → ((x : ℕ) → P x → Q x) → ((x : ℕ) → Q x → P x) → Says P q → Says Q q
says_in_words Q to from says = record { sound = says.sound; to = λ x h. to x (says.to x h); from = λ x h. says.from x (from x h) }

pub free_allows : AllowsAll (record { modulus = 1; shift = 0; before = 0; after = 0 })
free_allows = record {
  sound = record { some = omega arith; modulus = omega arith; shift = omega arith; before = omega arith; after = omega arith };
  all = λ x. record { apart = record { first = omega arith; second = let l : (x + 0) % 1 < 1 = mod-lt (x + 0) (omega arith) in omega arith } };
}

module _ {after period hold : ℕ} (leg : Starts after period hold) where
  -- A window: the leg may lie anywhere that leaves room for its hold time.
  pub window_says : Says (EndsWithin after period hold) (record { modulus = period; shift = after % period; before = 0; after = hold })
  window_says =
      let same : (x : ℕ) → (x + after % period) % period ≡ (x + after) % period = λ x. add-mod-mod x after period in
      record {
        sound = record {
          some = leg.period_from;
          modulus = leg.period_to;
          shift = mod-lt after leg.period_from;
          before = omega arith;
          after = leg.hold_to;
        };
        to = λ x h. omega (arith, same x, h.apart.second);
        from = λ x h. record { apart = record { first = omega arith; second = omega (arith, same x, h) } };
      }

  module _ {other : Slot} {g : ℕ} (repeats : Repeats other) (gcd : IsGcd other.period period g) where
    pub divisor_some : 0 < g
    divisor_some = (gcd_positive other.period period g repeats.period_from gcd).0

    pub divisor_word : g ≤ max_word
    divisor_word = omega (arith, (gcd_positive other.period period g repeats.period_from gcd).1, repeats.period_to)

    pub offset_below : other.offset % g ≤ g
    offset_below = omega (arith, mod-lt other.offset divisor_some)

    -- How far the new leg lies after the other, by the divisor.
    abbrev shift : ℕ
    shift = (after + (g - other.offset % g)) % g

    behind : (x : ℕ) → IsRemainder other.offset ((x + after) % period) g ((x + shift) % g)
    behind x =
        let l = offset_below in
        let v = div-add-mod other.offset g in
        let s = x + (after + (g - other.offset % g)) in
        let e : other.offset + s ≡ x + after + g * (other.offset / g) + g = omega arith in
        let same : (other.offset + s) % g ≡ (x + after) % g
        = ap (λ (z : ℕ). z % g) e ∙ add-mod_right (x + after + g * (other.offset / g)) g ∙ add-mul-mod_self_left (x + after) g (other.offset / g) in
        let whole : (x + shift) % g ≡ s % g = add-mod-mod x (after + (g - other.offset % g)) g in
        record {
          below = mod-lt (x + shift) divisor_some;
          same = ap (λ (z : ℕ). (other.offset + z) % g) whole ∙ add-mod-mod other.offset s g ∙ same ∙ sym (mod-mod_of_dvd g (x + after) gcd.right);
        }

    law : (x : ℕ)
        → (NeverMeet other (slot_from after period hold x) → Apart other.hold hold g ((x + shift) % g))
        × (Apart other.hold hold g ((x + shift) % g) → NeverMeet other (slot_from after period hold x))
    law x =
        divisor_law other (slot_from after period hold x) g _ repeats.period_from leg.period_from repeats.hold leg.hold_from gcd (behind x)

    pub pair_says : other.hold ≤ max_word → Says (ClearOf after period hold other) (record { modulus = g; shift = shift; before = other.hold; after = hold })
    pair_says small = record {
      sound = record { some = divisor_some; modulus = divisor_word; shift = mod-lt _ divisor_some; before = small; after = leg.hold_to };
      to = λ x h. meeting_is_symmetric other (slot_from after period hold x) ((law x).1 h.apart);
      from = λ x h. record { apart = (law x).0 (meeting_is_symmetric (slot_from after period hold x) other h) };
    }
