-- The number of each cause of a refusal, as the customer's table of refusals has it. In theorems at numbers a refusal is named by its cause.
use Rattle.std.specs.Prelude.{◌≡◌}
use Rattle.basics.specs.Cause.{number_of}
use Rattle.basics.specs.declared.Cause.TheVariants as cause

pub record CausesAtNumbers : Type 0 where
  pub no_header_is : number_of cause.NoHeader ≡ 1
  pub above_limit_is : number_of cause.AboveLimit ≡ 2
  pub wrong_length_is : number_of cause.WrongLength ≡ 3
  pub bad_link_is : number_of cause.BadLink ≡ 4
  pub double_link_is : number_of cause.DoubleLink ≡ 5
  pub bad_stream_is : number_of cause.BadStream ≡ 6
  pub bad_leg_is : number_of cause.BadLeg ≡ 7
  pub stale_cursor_is : number_of cause.StaleCursor ≡ 8
  pub no_place_is : number_of cause.NoPlace ≡ 9
  pub no_leg_is : number_of cause.NoLeg ≡ 10
  pub cannot_rise_is : number_of cause.CannotRise ≡ 11
  pub bytes_end_is : number_of cause.BytesEnd ≡ 12
  pub unfit_number_is : number_of cause.UnfitNumber ≡ 13
  pub left_over_is : number_of cause.LeftOver ≡ 14
  pub no_room_is : number_of cause.NoRoom ≡ 15
  pub out_of_range_is : number_of cause.OutOfRange ≡ 16
  pub too_late_is : number_of cause.TooLate ≡ 17
  pub no_offset_is : number_of cause.NoOffset ≡ 18
  pub not_accepted_is : number_of cause.NotAccepted ≡ 19
  pub cannot_add_is : number_of cause.CannotAdd ≡ 20
  pub long_cycle_is : number_of cause.LongCycle ≡ 21
  pub too_many_pairs_is : number_of cause.TooManyPairs ≡ 22
  pub no_link_is : number_of cause.NoLink ≡ 23
  pub too_large_is : number_of cause.TooLarge ≡ 27
