-- The refusals of solving at numbers: 15 where times exist and one word is missing for a chain; 16 and 27 before it.
use Rattle.std.specs.Prelude.{◌≡◌, pos}
use Rattle.basics.specs.Cause.{number_of}
use Rattle.basics.specs.declared.Cause.TheVariants as cause
use Rattle.network.specs.AtNumbers.{minus, three_events}
use Rattle.solver.specs.Solving.{solve_refusals}

pub record SolvingAtNumbers : Type 0 where
  pub enough : (solve_refusals 3 (three_events (minus 6)) 3).Clear
  pub one_missing : (solve_refusals 3 (three_events (minus 6)) 2).Fault cause.NoRoom 0
  pub range_first : (solve_refusals 2 (three_events (pos 0)) 0).Fault cause.OutOfRange 1
  pub size_first : (solve_refusals 129 (three_events (pos 0)) 0).Fault cause.TooLarge 0
  pub number : number_of cause.NoRoom ≡ 15
