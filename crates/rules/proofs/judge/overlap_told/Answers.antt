-- `rules::judge::overlap_told` meets its contract. Assumes nothing.
use Rattle.std.proofs.Common.{refl, ne_eqb}
use Rattle.shape.proofs.Tests.{told_as}
use Rattle.rules.proofs.Judging.{other_links_never_meet, overlap_says_of, slot_of_frame}
use Rattle.rules.proofs.judge.overlap_told.Goals as goal

pub returns-then-f-link : goal.returns-then-f-link
returns-then-f-link c = (
  λ e. other_links_never_meet _ _ _ _ _ c.requires.frame_of c.link.ensures c.if-f-link.true,
  λ o. rw (ne_eqb c.args.f.link c.link.result c.if-f-link.true) refl,
)

pub returns-else-f-link : goal.returns-else-f-link
returns-else-f-link c =
    let says = overlap_says_of _ _ _ _ _ _ _ c.requires.frame_of c.link.ensures c.if-f-link.false (slot_of_frame c.requires.frame_of c.slot.ensures) c.slot_at.ensures in
    told_as says.0 says.1 c.never_meet.ensures
