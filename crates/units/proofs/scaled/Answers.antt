-- `units::scaled` meets its contract: the parts are whole ns exactly when nothing is left over of their quotient. Assumes nothing.
use mathlib.Core.Path.{sym}
use Rattle.std.proofs.Common.{arith}
use Rattle.units.proofs.Scaling.{not_whole, worth_is, worth_one}
use Rattle.units.proofs.scaled.Goals as goal

pub returns-then-part-scale-ne0 : goal.returns-then-part-scale-ne0
returns-then-part-scale-ne0 c = rw (sym c.ns-size.ensures.exact) (not_whole c.args.a c.args.b c.args.scale c.ns-size.result (search))

pub returns-then-ns : goal.returns-then-ns
returns-then-ns c =
    rw (sym c.ns-size.ensures.exact)
    (λ v w.
    let same = worth_one c.args.a c.args.b c.args.scale c.ns-size.result (search) w (worth_is c.args.a c.args.b c.args.scale c.ns-size.result (search)) in
    omega (arith, same))
