-- `numbers::series::look_through` meets its contract: as many numbers as were read stand up to here. Assumes nothing.
use Rattle.numbers.specs.Steps.{Numbers}
use Rattle.numbers.proofs.series.look_through.Given as goal

abbrev pub invariant-loop : goal.invariant-loop
invariant-loop l = Numbers l.bytes l.from l.counter l.at
