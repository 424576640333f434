-- `gates::runs::link_seen` meets its contract: the slots before the present one were asked. Assumes nothing.
use Rattle.gates.proofs.Seeing.{is_least, looked_held, looked_idle, seen_idle}
use Rattle.gates.proofs.runs.link_seen.Goals.{in-Held, in-Idle}
use Rattle.gates.proofs.runs.link_seen.Goals as goal

pub loop-s-preserved : goal.loop-s-preserved
loop-s-preserved c = elim c.match-slot_seen.branch [
  | in-Held w ↦ rw w.look-is (looked_held _ _ _ _ _ _ c.loop-s.invariant c.loop-s-test.true _ _ _ c.from.ensures (rw w.in-Held.is at c.slot_seen.ensures) (is_least w.min.ensures))
  | in-Idle w ↦ rw w.look-is (looked_idle _ _ _ _ _ _ c.loop-s.invariant c.loop-s-test.true _ _ _ c.from.ensures (rw w.in-Idle.is at c.slot_seen.ensures) (is_least w.min-in-Idle.ensures))
]

pub returns : goal.returns
returns c =
    seen_idle _ _ _ _ _ _ c.loop-s.invariant c.loop-s-test.false c.if-x-look.false
