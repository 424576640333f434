-- `desk::tour::all` is safe: a survey begins at a right cursor. Assumes nothing.
use Rattle.survey.proofs.Stepping.{granted_right}
use Rattle.desk.proofs.tour.all.Goals as goal

pub surveyed-requires : goal.surveyed-requires
surveyed-requires g c = search granted_right
