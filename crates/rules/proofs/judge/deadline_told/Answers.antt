-- `rules::judge::deadline_told` meets its contract. Assumes nothing.
use Rattle.shape.proofs.Tests.{is_true}
use Rattle.rules.proofs.Judging.{told_le, not_last_has_no_deadline, deadline_kept, deadline_broken}
use Rattle.rules.proofs.judge.deadline_told.Goals as goal

pub returns-then-a-f : goal.returns-then-a-f
returns-then-a-f c = is_true (not_last_has_no_deadline _ _ _ c.requires.frame_of c.if-a-f.true)

pub returns : goal.returns
returns c =
    told_le _ _
    (deadline_kept _ _ _ _ _ c.requires.frame_of c.frame-first.ensures c.ready.ensures)
    (deadline_broken _ _ _ _ _ c.requires.leg_in c.requires.frame_of c.frame-first.ensures c.ready.ensures c.if-a-f.false)
