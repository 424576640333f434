-- Each number is computed. Assumes nothing.
use mathlib.Core.Path.{refl}
use Rattle.demands.specs.Causes.{CausesAtNumbers}

pub causes_at_numbers : CausesAtNumbers
causes_at_numbers = record {
  no_header_is = refl;
  above_limit_is = refl;
  wrong_length_is = refl;
  bad_link_is = refl;
  double_link_is = refl;
  bad_stream_is = refl;
  bad_leg_is = refl;
  stale_cursor_is = refl;
  no_place_is = refl;
  no_leg_is = refl;
  cannot_rise_is = refl;
  bytes_end_is = refl;
  unfit_number_is = refl;
  left_over_is = refl;
  no_room_is = refl;
  out_of_range_is = refl;
  too_late_is = refl;
  no_offset_is = refl;
  not_accepted_is = refl;
  cannot_add_is = refl;
  long_cycle_is = refl;
  too_many_pairs_is = refl;
  no_link_is = refl;
  too_large_is = refl;
}
