-- `gate_files::count` meets its contract: the numbers passed are a row, and each that is read is one more, up to the end of the bytes. Assumes nothing.
use Rattle.std.proofs.Common.{◌-◌, length}
use Rattle.gate_files.proofs.Counting.{Counting}
use Rattle.gate_files.proofs.count.Given as goal

abbrev pub invariant-loop-at : goal.invariant-loop-at
invariant-loop-at l = Counting l.bytes l.n l.at

abbrev pub decreases-loop-at : goal.decreases-loop-at
decreases-loop-at l = length l.bytes - l.at
