-- `desk::tour::surveyed` is safe and ends: each step takes some of the budget. Assumes nothing.
use Rattle.std.proofs.Common.{arith}
use Rattle.survey.proofs.Stepping.{advances}
use Rattle.desk.proofs.tour.surveyed.Goals as goal

pub overflow_sub-left : goal.overflow_sub-left
overflow_sub-left g c =
    let on = advances c.loop-left.c c.in-Violated.is c.step-found.ensures in
    on.within

pub loop-left-smaller : goal.loop-left-smaller
loop-left-smaller g c =
    let on = advances c.loop-left.c c.in-Violated.is c.step-found.ensures in
    omega (arith, on.some, on.within)

pub loop-left-preserved : goal.loop-left-preserved
loop-left-preserved g c =
    let on = advances c.loop-left.c c.in-Violated.is c.step-found.ensures in
    on.right
