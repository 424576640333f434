-- `overlap::remainder` meets its contract: it is the turn between the two offsets by g. Assumes nothing.
use Rattle.overlap.proofs.Euclid.{turn_is}
use Rattle.overlap.proofs.remainder.Goals as goal

pub returns : goal.returns
returns c =
    let t = c.turn.ensures in
    turn_is _ _ _ _ c.requires.g_nonzero (rw (c.reduced.ensures, c.reduced-2.ensures) at t)
