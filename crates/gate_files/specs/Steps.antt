-- What the inner functions of this crate tell.
use Rattle.std.specs.Prelude.{ℕ, ◌<◌, List, length, Result, Ok, Err}
use Rattle.basics.specs.declared.Cause.{Cause}
use Rattle.basics.specs.declared.Refusal.{Refusal}
use Rattle.numbers.specs.Number.{NoNumber}
use Rattle.numbers.specs.Series.{Row}
use Rattle.numbers.specs.Steps.{Numbers}

-- Some numbers stand in s from its start up to but without p, which is not its end, and there none stands: k is the refusal.
pub record Halted (s : List ℕ) (k : Cause) (p : ℕ) : Type 0 where
  pub ws : List ℕ
  pub row : Row s 0 ws p
  pub on : p < length s
  pub no_number : NoNumber s p k

-- All bytes counted as numbers: how many they are, or the first that is refused, with its number and its start.
abbrev pub CountTold : List ℕ → Result ℕ Refusal → Type 0
CountTold s (Ok n) = Numbers s 0 n (length s)
CountTold s (Err e) = Halted s e.cause e.at
