-- `signed::within` meets its contract: the numbers and their difference fit 128 bits. Assumes nothing.
use Rattle.std.proofs.Common.{◌∙◌, to_z-of_z}
use Rattle.signed.proofs.Ranges.{wide_test}
use Rattle.signed.proofs.within.Goals as goal

pub returns : goal.returns
returns c =
    wide_test (c.from.ensures ∙ to_z-of_z c.ranges.y) (c.from-2.ensures ∙ to_z-of_z c.ranges.x) (c.from-3.ensures ∙ to_z-of_z c.ranges.c) c.ranges.x c.ranges.y c.ranges.c
