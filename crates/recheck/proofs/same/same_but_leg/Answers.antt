-- `recheck::same::same_but_leg` meets its contract: each of the two comparisons tells of its part of the words.
-- Assumes nothing.
use native.Mathlib.Omega.{arith}
use Rattle.std.proofs.Common.{rules}
use Rattle.recheck.proofs.Comparing.{told_front, told_back}
use Rattle.recheck.proofs.same.same_but_leg.Goals as goal

pub returns-then-eq : goal.returns-then-eq
returns-then-eq c = told_back c.requires.0 c.requires.1 (search rules) c.offset_at-offset.ensures _ _ c.eq.ensures (omega arith) c.if-eq.true c.eq-then-eq.ensures

pub returns-else-eq : goal.returns-else-eq
returns-else-eq c = told_front c.requires.0 c.requires.1 (search rules) c.offset_at-offset.ensures _ c.eq.ensures (omega arith) c.if-eq.false
