-- `gate_lists::AskedLink::gather` meets its contract. Assumes nothing.
use Rattle.std.proofs.Common.{◌≡◌, length}
use Rattle.table.specs.Layout.{max_legs}
use Rattle.gate_lists.specs.Steps.{Gathered}
use Rattle.gate_lists.proofs.AskedLink.gather.Given as goal

abbrev pub invariant-loop-a : goal.invariant-loop-a
invariant-loop-a l = Gathered l.self.0 l.self.1 l.a l.slots l.n × (length l.slots ≡ max_legs)
