-- `desk::tour::part_from` is safe: a survey begins at a right cursor. Assumes nothing.
use Rattle.survey.proofs.Stepping.{clear_right}
use Rattle.desk.proofs.tour.part_from.Goals as goal

pub surveyed-requires : goal.surveyed-requires
surveyed-requires g c = search clear_right
