-- Words have one answer as a plan, since their shape has. Assumes nothing.
use Rattle.std.specs.Prelude.{Ok, Err}
use mathlib.Core.Path.{◌∙◌, sym, ap}
use Rattle.basics.proofs.Refusals.{same_refusal}
use Rattle.shape.specs.Plans.{PlanOneAnswer}
use Rattle.shape.proofs.OneShape.{shape_one}

pub plan_one_answer : PlanOneAnswer
plan_one_answer t (Ok p) (Ok q) c d = ap Ok (c.1 ∙ sym d.1)
plan_one_answer t (Ok p) (Err f) c d = absurd ((shape_one t).none c.0 d)
plan_one_answer t (Err e) (Ok q) c d = absurd ((shape_one t).none d.0 c)
plan_one_answer t (Err e) (Err f) c d = same_refusal ((shape_one t).one c d).0 ((shape_one t).one c d).1
