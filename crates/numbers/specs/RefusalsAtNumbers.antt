-- The refusals 12, 13 and 15 of one number, at numbers. The byte 05 stands in front of each, so that no number starts at 0.
use Rattle.std.specs.Prelude.{[], ◌∷◌, Ok}
use Rattle.basics.specs.Cause.{refused}
use Rattle.basics.specs.declared.Cause.TheVariants as cause
use Rattle.numbers.specs.Calls.{ReadsNumber, WritesNumber}

pub record NumberRefusalsAtNumbers : Type 0 where
  -- 12: no byte is left, or one to four that go on.
  pub none_left : ReadsNumber (0x05 ∷ []) 1 (refused cause.BytesEnd 1)
  pub one_goes_on : ReadsNumber (0x05 ∷ 0x80 ∷ []) 1 (refused cause.BytesEnd 1)
  pub four_go_on : ReadsNumber (0x05 ∷ 0xFF ∷ 0xFF ∷ 0xFF ∷ 0xFF ∷ []) 1 (refused cause.BytesEnd 1)
  -- 13: a last byte 0, unless it stands alone.
  pub last_zero : ReadsNumber (0x05 ∷ 0x80 ∷ 0x00 ∷ []) 1 (refused cause.UnfitNumber 1)
  pub lone_zero : ReadsNumber (0x05 ∷ 0x00 ∷ []) 1 (Ok (record { value = 0; next = 2 }))
  -- 13: a fifth byte above 0F, even where it goes on.
  pub fifth_above : ReadsNumber (0x05 ∷ 0xFF ∷ 0xFF ∷ 0xFF ∷ 0xFF ∷ 0x10 ∷ []) 1 (refused cause.UnfitNumber 1)
  pub fifth_goes_on : ReadsNumber (0x05 ∷ 0x80 ∷ 0x80 ∷ 0x80 ∷ 0x80 ∷ 0x80 ∷ []) 1 (refused cause.UnfitNumber 1)
  pub largest : ReadsNumber (0x05 ∷ 0xFF ∷ 0xFF ∷ 0xFF ∷ 0xFF ∷ 0x0F ∷ []) 1 (Ok (record { value = 4294967295; next = 6 }))
  -- 15: 300 has two bytes, and after position 1 there is one.
  pub no_room_lem : WritesNumber 300 1 (0x05 ∷ 0x06 ∷ []) (refused cause.NoRoom 0) (0x05 ∷ 0x06 ∷ [])
