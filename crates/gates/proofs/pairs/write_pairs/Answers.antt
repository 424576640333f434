-- `gates::pairs::write_pairs` meets its contract: the pairs up to the present instant lie in the words. Assumes nothing.
use Rattle.std.proofs.Common.{arith}
use Rattle.gates.proofs.Masks.{one_mask_is_right}
use Rattle.gates.proofs.Growing.{writing_start, writing_room, written}
use Rattle.gates.proofs.pairs.write_pairs.Goals as goal

pub loop-x-init : goal.loop-x-init
loop-x-init c = writing_start _ _ _ c.requires.out_len

pub grow-requires : goal.grow-requires
grow-requires c =
    writing_room _ c.args.cycle _ _ _ _ c.loop-x.invariant (omega (arith, c.run_from-run.ensures.some, c.run_from-run.ensures.within)) c.requires.cycle_le_max_cycle

pub returns-in_err-n : goal.returns-in_err-n
returns-in_err-n c =
    let full = c.in_err-n.was in
    rw c.from_residual.ensures (rw full at (written _ (one_mask_is_right _) _ _ _ _ _ _ _ c.loop-x.invariant c.run_from-run.ensures c.grow.ensures))

pub loop-x-preserved : goal.loop-x-preserved
loop-x-preserved c =
    let more = c.in_ok-n.was in
    rw more at (written _ (one_mask_is_right _) _ _ _ _ _ _ _ c.loop-x.invariant c.run_from-run.ensures c.grow.ensures)
