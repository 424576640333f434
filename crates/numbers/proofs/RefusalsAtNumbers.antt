-- The refusals 12, 13 and 15 of one number, at numbers: the bytes from the position on are computed. Assumes nothing.
use Prim.Native.Nat.{ℕ, ◌≤◌, ◌<◌}
use mathlib.Core.Path.{◌≡◌, refl, ap}
use mathlib.Core.List.{List, [], ◌∷◌}
use mathlib.Core.Logic.{inl, inr}
use lib.ListN.{length, drop}
use native.Mathlib.Omega.{arith}
use Rattle.basics.specs.declared.Cause.TheVariants as cause
use Rattle.numbers.specs.Number.{group_values, byte_values, max_go_on, max_fifth, bytes_of, groups_of, GoOn, NoNumber}
use Rattle.numbers.specs.RefusalsAtNumbers.{NumberRefusalsAtNumbers}
use Rattle.numbers.proofs.OneNumber.{numbers_of_the_paper}

four : (b : ℕ) → (group_values ≤ b) × (b < byte_values) → GoOn (b ∷ b ∷ b ∷ b ∷ [])
four b h = (h.0, h.1, (h.0, h.1, (h.0, h.1, (h.0, h.1, tt))))

module _ (s : List ℕ) (at : ℕ) where
  -- The bytes end.
  pub cut_short : GoOn (drop at s) → length (drop at s) ≤ max_go_on → NoNumber s at cause.BytesEnd
  cut_short g l = inl (refl, record { go_on = g; no_fifth = l })

  -- A byte that goes on, and then 0.
  pub zero_second : (b : ℕ) (rest : List ℕ) → drop at s ≡ b ∷ 0 ∷ rest → (group_values ≤ b) × (b < byte_values) → NoNumber s at cause.UnfitNumber
  zero_second b rest e h = inr (
    refl,
    record { before = b ∷ []; byte = 0; stands = record { rest = rest; there = e }; go_on = (h.0, h.1, tt); why = inl (omega arith, refl) },
  )

  -- Four bytes b that go on, and a fifth above 0F.
  fifth : (b last : ℕ) → drop at s ≡ b ∷ b ∷ b ∷ b ∷ last ∷ [] → (group_values ≤ b) × (b < byte_values) → max_fifth < last → NoNumber s at cause.UnfitNumber
  fifth b last e h a = inr (
    refl,
    record {
      before = b ∷ b ∷ b ∷ b ∷ [];
      byte = last;
      stands = record { rest = []; there = e };
      go_on = four b h;
      why = inr (refl, a);
    },
  )

pub number_refusals_at_numbers : NumberRefusalsAtNumbers
unfolding bytes_of groups_of
number_refusals_at_numbers = record {
  none_left = (refl, cut_short _ 1 tt (omega arith));
  one_goes_on = (refl, cut_short _ 1 (omega arith, omega arith, tt) (omega arith));
  four_go_on = (refl, cut_short _ 1 (four 0xFF (omega arith, omega arith)) (omega arith));
  last_zero = (refl, zero_second _ 1 0x80 [] refl (omega arith, omega arith));
  lone_zero = record { word = omega arith; stands = record { rest = []; there = refl }; ends = refl };
  fifth_above = (refl, fifth _ 1 0xFF 0x10 refl (omega arith, omega arith) (omega arith));
  fifth_goes_on = (refl, fifth _ 1 0x80 0x80 refl (omega arith, omega arith) (omega arith));
  largest = record { word = omega arith; stands = record { rest = []; there = refl }; ends = refl };
  no_room_lem = record { number = refl; position = refl; small = omega (arith, ap length numbers_of_the_paper.0); kept = refl };
}
