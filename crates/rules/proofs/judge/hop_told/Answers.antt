-- `rules::judge::hop_told` meets its contract. Assumes nothing.
use Rattle.std.proofs.Common.{◌+◌, ◌-◌, ◌≡◌, arith}
use Rattle.shape.proofs.Tests.{is_true}
use Rattle.rules.proofs.Judging.{told_le, first_has_no_hop, hop_kept, hop_broken}
use Rattle.rules.proofs.judge.hop_told.Goals as goal

pub returns-then-a-f : goal.returns-then-a-f
returns-then-a-f c = is_true (first_has_no_hop _ _ _ c.requires.frame_of c.if-a-f.true)

pub returns : goal.returns
returns c =
    let next : c.args.a ≡ c.args.a - 1 + 1 = omega arith in
    told_le _ _
    (hop_kept _ _ _ _ _ c.requires.frame_of next c.ready.ensures)
    (hop_broken _ _ _ _ _ c.requires.frame_of c.if-a-f.false next c.ready.ensures)
