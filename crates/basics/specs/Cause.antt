-- The causes of refusals and their numbers.
use Rattle.std.specs.Prelude.{ℕ, Result, Err}
use Rattle.basics.specs.declared.Cause.{Cause}
use Rattle.basics.specs.declared.Cause.TheVariants as cause
use Rattle.basics.specs.declared.Refusal.{Refusal}

abbrev pub number_of : Cause → ℕ
number_of cause.NoHeader = 1
number_of cause.AboveLimit = 2
number_of cause.WrongLength = 3
number_of cause.BadLink = 4
number_of cause.DoubleLink = 5
number_of cause.BadStream = 6
number_of cause.BadLeg = 7
number_of cause.StaleCursor = 8
number_of cause.NoPlace = 9
number_of cause.NoLeg = 10
number_of cause.CannotRise = 11
number_of cause.BytesEnd = 12
number_of cause.UnfitNumber = 13
number_of cause.LeftOver = 14
number_of cause.NoRoom = 15
number_of cause.OutOfRange = 16
number_of cause.TooLate = 17
number_of cause.NoOffset = 18
number_of cause.NotAccepted = 19
number_of cause.CannotAdd = 20
number_of cause.LongCycle = 21
number_of cause.TooManyPairs = 22
number_of cause.NoLink = 23
number_of cause.TooLarge = 27

-- Refused for a cause at a position.
abbrev pub refused : {T : Type 0} → Cause → ℕ → Result T Refusal
refused k p = Err (record { cause = k; at = p })
