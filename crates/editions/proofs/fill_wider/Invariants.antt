-- `editions::fill_wider` meets its contract: the records done lie in the buffer, each made longer, and the rest is to come. Assumes nothing.
use Rattle.std.proofs.Common.{◌-◌}
use Rattle.editions.specs.Converted.{new_word}
use Rattle.editions.proofs.Filling.{Widening}
use Rattle.editions.proofs.fill_wider.Given as goal

abbrev pub invariant-loop : goal.invariant-loop
invariant-loop l = Widening l.bytes l.from l.records l.width l.wide new_word l.initial.out l.to l.out l.at l.next (l.records - l.counter)
