-- Files of the first layout at numbers: the numbers in front are computed, and what follows them is due. Assumes nothing.
use Prim.Native.Nat.{ℕ, ◌≤◌}
use mathlib.Core.Path.{◌≡◌, refl, sym, ap}
use mathlib.Core.List.{List, [], ◌∷◌, ◌++◌}
use mathlib.Core.Logic.{inl, inr}
use lib.ListN.{length}
use native.Mathlib.Omega.{arith}
use Rattle.basics.specs.declared.Cause.{Cause}
use Rattle.basics.specs.declared.Cause.TheVariants as cause
use Rattle.numbers.specs.Number.{max_word, NoNumber}
use Rattle.numbers.proofs.Computed.{file_bytes, file_is, total, small_words, row_in_front}
use Rattle.numbers.proofs.Overlay.{overlaid_front}
use Rattle.numbers.proofs.RefusalsAtNumbers.{cut_short, zero_second}
use Rattle.table.specs.Layout.{first_layout, LimitsIn, SizedIn}
use Rattle.files.specs.Plan.{PlanDueIn}
use Rattle.files.specs.Reading.{IsFile}
use Rattle.editions.specs.Converted.{wider, converted}
use Rattle.editions.specs.AtNumbers.{first_plan_a, FirstRefused, one_leg, FirstLayoutAtNumbers}

-- A header of legs alone.
limits : (n : ℕ) (ws : List ℕ) → n ≤ first_layout.legs → LimitsIn first_layout (0 ∷ 0 ∷ 0 ∷ n ∷ 0 ∷ ws)
limits n ws h = record { links = omega arith; streams = omega arith; legs = h; precision = omega arith }

-- The table of one leg.
abbrev leg789 : List ℕ
leg789 = 0 ∷ 0 ∷ 0 ∷ 1 ∷ 0 ∷ 7 ∷ 8 ∷ 9 ∷ []

sized : SizedIn first_layout leg789
sized = record { head = omega arith; limits = limits 1 (7 ∷ 8 ∷ 9 ∷ []) (omega arith); exact = refl }

file : IsFile (SizedIn first_layout) one_leg leg789
file = record { complete = sized; words = small_words leg789 (omega arith); bytes = sym (file_is leg789) }

becomes : converted first_layout leg789 ≡ 0 ∷ 0 ∷ 0 ∷ 1 ∷ 0 ∷ 7 ∷ 8 ∷ 9 ∷ 0 ∷ []
unfolding converted wider
becomes = refl

-- The words ws stand in front, and the number after them, which is due, is refused with k.
cut : (ws rest : List ℕ) (k : Cause) → total ws ≤ max_word → PlanDueIn first_layout ws → NoNumber (file_bytes ws ++ rest) (length (file_bytes ws)) k
    → FirstRefused (file_bytes ws ++ rest) k (length (file_bytes ws))
cut ws rest k h d n b = (inl (inl (record { ws = ws; row = row_in_front ws rest h; due = d; no_number = n })), refl)

-- The offset of the leg is due.
due : PlanDueIn first_layout (0 ∷ 0 ∷ 0 ∷ 1 ∷ 0 ∷ 7 ∷ 8 ∷ [])
due = inr (limits 1 (7 ∷ 8 ∷ []) (omega arith), omega arith)

pub first_layout_at_numbers : FirstLayoutAtNumbers
unfolding converted wider
first_layout_at_numbers = record {
  plan_a_is = refl;
  plan_a_file_lem = file_is first_plan_a;
  cut_short = cut (0 ∷ 0 ∷ []) (0x80 ∷ []) cause.BytesEnd (omega arith) (inl (omega arith)) (cut_short _ 2 (omega arith, omega arith, tt) (omega arith));
  leg_cut = cut (0 ∷ 0 ∷ 0 ∷ 1 ∷ 0 ∷ 7 ∷ 8 ∷ []) [] cause.BytesEnd (omega arith) due (cut_short _ 7 tt (omega arith));
  leg_unfit = cut (0 ∷ 0 ∷ 0 ∷ 1 ∷ 0 ∷ 7 ∷ 8 ∷ []) (0x89 ∷ 0 ∷ []) cause.UnfitNumber (omega arith) due (zero_second _ 7 0x89 [] refl (omega arith, omega arith));
  above = λ b. (
    inl
        (inr
        (inl (
          refl,
          refl,
          record {
            head = 0 ∷ 257 ∷ 0 ∷ 0 ∷ 0 ∷ [];
            next = 6;
            row = row_in_front (0 ∷ 257 ∷ 0 ∷ 0 ∷ 0 ∷ []) (0x80 ∷ 0 ∷ []) (omega arith);
            five = refl;
            above = λ h. omega (arith, h.links);
          },
        ))),
    refl,
  );
  left_over_lem = λ b. (inl (inr (inr (refl, record { ws = leg789; row = row_in_front leg789 (0 ∷ []) (omega arith); complete = sized; left_over_lem = omega arith }))), refl);
  no_room_lem = (inr (refl, refl, record { table = leg789; file = file; long = omega (arith, ap length becomes) }), refl);
  room = (leg789, file, record { count = refl; room = omega arith; after = sym (overlaid_front _ _) });
}
