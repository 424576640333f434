-- `host::admit::conepalhui_admit_3` meets its contract: a piece of all first offsets. Assumes nothing.
use Rattle.host.proofs.Admissions.{period_ends, host_pieces_make_the_whole}
use Rattle.host.proofs.admit.conepalhui_admit_3.Goals as goal

pub returns : goal.returns
returns c =
    host_pieces_make_the_whole.whole _ _ _ _ _ _ _ (period_ends _ _ _ _ _ _ c.conepalhui_admit_between_3.ensures) c.conepalhui_admit_between_3.ensures
