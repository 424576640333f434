-- Files of the first layout at numbers: Plan A, and each refusal.
use Rattle.std.specs.Prelude.{ℕ, ◌≡◌, List, [], ◌∷◌, Ok}
use Rattle.numbers.specs.Series.{file_of}
use Rattle.table.specs.Layout.{first_layout}
use Rattle.table.specs.PlanA.{plan_a}
use Rattle.basics.specs.Cause.{refused}
use Rattle.basics.specs.declared.Cause.{Cause}
use Rattle.basics.specs.declared.Cause.TheVariants as cause
use Rattle.editions.specs.Converted.{converted}
use Rattle.editions.specs.Reading.{ReadsFirst}

-- Plan A in the first layout, 32 words.
abbrev pub first_plan_a : List ℕ
first_plan_a =
    0 ∷ 2 ∷ 2 ∷ 3 ∷ 100 ∷
    1 ∷ 2 ∷ 8 ∷ 500 ∷
    2 ∷ 3 ∷ 8 ∷ 500 ∷
    100000 ∷ 2352 ∷ 64 ∷ 0 ∷ 2 ∷
    150000 ∷ 2000 ∷ 64 ∷ 2 ∷ 1 ∷
    0 ∷ 0 ∷ 0 ∷
    0 ∷ 1 ∷ 1176 ∷
    1 ∷ 0 ∷ 0 ∷ []

-- Its file, 41 bytes.
abbrev pub first_plan_a_file : List ℕ
first_plan_a_file =
    0x00 ∷ 0x02 ∷ 0x02 ∷ 0x03 ∷ 0x64 ∷
    0x01 ∷ 0x02 ∷ 0x08 ∷ 0xF4 ∷ 0x03 ∷
    0x02 ∷ 0x03 ∷ 0x08 ∷ 0xF4 ∷ 0x03 ∷
    0xA0 ∷ 0x8D ∷ 0x06 ∷ 0xB0 ∷ 0x12 ∷ 0x40 ∷ 0x00 ∷ 0x02 ∷
    0xF0 ∷ 0x93 ∷ 0x09 ∷ 0xD0 ∷ 0x0F ∷ 0x40 ∷ 0x02 ∷ 0x01 ∷
    0x00 ∷ 0x00 ∷ 0x00 ∷
    0x00 ∷ 0x01 ∷ 0x98 ∷ 0x09 ∷
    0x01 ∷ 0x00 ∷ 0x00 ∷ []

-- The file s of the first layout is refused with k at p, whatever buffer is lent, and the buffer stays.
abbrev pub FirstRefused : List ℕ → Cause → ℕ → Type 0
FirstRefused s k p = (b : List ℕ) → ReadsFirst s b (refused k p) b

-- The file of a table with one leg, of stream 7, on link 8, at 9.
abbrev pub one_leg : List ℕ
one_leg = 0x00 ∷ 0x00 ∷ 0x00 ∷ 0x01 ∷ 0x00 ∷ 0x07 ∷ 0x08 ∷ 0x09 ∷ []

pub record FirstLayoutAtNumbers : Type 0 where
  -- Plan A becomes Plan A.
  pub plan_a_is : converted first_layout first_plan_a ≡ plan_a
  pub plan_a_file_lem : file_of first_plan_a ≡ first_plan_a_file
  -- 12: the header is cut short, and the offset of a leg is missing.
  pub cut_short : FirstRefused (0x00 ∷ 0x00 ∷ 0x80 ∷ []) cause.BytesEnd 2
  pub leg_cut : FirstRefused (0x00 ∷ 0x00 ∷ 0x00 ∷ 0x01 ∷ 0x00 ∷ 0x07 ∷ 0x08 ∷ []) cause.BytesEnd 7
  -- 13: the offset of a leg is not in the shortest form.
  pub leg_unfit : FirstRefused (0x00 ∷ 0x00 ∷ 0x00 ∷ 0x01 ∷ 0x00 ∷ 0x07 ∷ 0x08 ∷ 0x89 ∷ 0x00 ∷ []) cause.UnfitNumber 7
  -- 257 links: 2, whatever follows the fifth number.
  pub above : FirstRefused (0x00 ∷ 0x81 ∷ 0x02 ∷ 0x00 ∷ 0x00 ∷ 0x00 ∷ 0x80 ∷ 0x00 ∷ []) cause.AboveLimit 0
  -- 14: a leg of today's layout has a number too many.
  pub left_over_lem : FirstRefused (0x00 ∷ 0x00 ∷ 0x00 ∷ 0x01 ∷ 0x00 ∷ 0x07 ∷ 0x08 ∷ 0x09 ∷ 0x00 ∷ []) cause.LeftOver 8
  -- 15 by the length of today: eight words would hold the old table, and nine hold the new one.
  pub no_room_lem : ReadsFirst one_leg (1 ∷ 2 ∷ 3 ∷ 4 ∷ 5 ∷ 6 ∷ 7 ∷ 8 ∷ []) (refused cause.NoRoom 0) (1 ∷ 2 ∷ 3 ∷ 4 ∷ 5 ∷ 6 ∷ 7 ∷ 8 ∷ [])
  pub room : ReadsFirst one_leg (1 ∷ 2 ∷ 3 ∷ 4 ∷ 5 ∷ 6 ∷ 7 ∷ 8 ∷ 9 ∷ 10 ∷ []) (Ok 9) (0 ∷ 0 ∷ 0 ∷ 1 ∷ 0 ∷ 7 ∷ 8 ∷ 9 ∷ 0 ∷ 10 ∷ [])
