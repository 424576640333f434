-- The refusals of solving at numbers. Assumes nothing.
use mathlib.Core.Path.{refl}
use mathlib.Core.Logic.{inl, inr}
use native.Mathlib.Omega.{arith}
use Rattle.network.proofs.AtNumbers.{ranges_at_numbers}
use Rattle.solver.specs.AtNumbers.{SolvingAtNumbers}

pub solving_at_numbers : SolvingAtNumbers
solving_at_numbers =
    record {
      enough = (ranges_at_numbers.example, omega arith);
      one_missing = inr (ranges_at_numbers.example, (refl, refl, λ h. omega arith));
      range_first = inl ranges_at_numbers.lowest_first;
      size_first = inl (inl (refl, refl, λ s. omega (arith, s.events)));
      number = refl;
    }
