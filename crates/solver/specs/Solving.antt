-- What solving a network promises (document 02, L2): the latest times, or a closed chain with a negative sum, or a refusal; and every lent word.
use Rattle.std.specs.Prelude.{ℕ, ◌≤◌, ◌≡◌, List, ℤ, pos, length, replicate, Option, Some, None, Result, Ok, Err}
use Rattle.basics.specs.Refusals.{Refusals, unless, ◌then◌}
use Rattle.basics.specs.declared.Cause.TheVariants as cause
use Rattle.basics.specs.declared.Refusal.{Refusal}
use Rattle.network.specs.Network.{Latest, Chain}
use Rattle.network.specs.Constraints.{max_events, times_of, numbers_of, network_of, network_refusals}
use Rattle.solver.specs.declared.Solved.{Solved}

-- The refusals: those of the network, then 15 where fewer words are lent for a chain than there are events, also where times exist.
abbrev pub solve_refusals : ℕ → List ℤ → ℕ → Refusals
solve_refusals n ws room = network_refusals n ws then unless cause.NoRoom (n ≤ room)

-- 128 times of 0: what is given with a chain and with a refusal.
abbrev pub no_times : List ℤ
no_times = replicate max_events (pos 0)

-- 128 times: those of the n events are the latest, the others 0.
pub record GivesTimes (n : ℕ) (ws times : List ℤ) : Type 0 where
  pub latest : Latest n (network_of ws) (times_of times)
  pub unused : (v : ℕ) → n ≤ v → times_of times v ≡ pos 0
  pub long : length times ≡ max_events

-- A chain of l constraints lies in the first of the lent words, and every other word is as it was before. A chain has no more constraints than there are events.
pub record GivesChain (n : ℕ) (ws : List ℤ) (l : ℕ) (before after : List ℕ) : Type 0 where
  pub chain : Chain (network_of ws) l (numbers_of after)
  pub short : l ≤ n
  pub rest : (a : ℕ) → l ≤ a → numbers_of after a ≡ numbers_of before a
  pub long : length after ≡ length before

-- Solving a network of n events with the constraints ws. The words lent for a chain were before, and are after.
abbrev pub SolvesWith : ℕ → List ℤ → List ℕ → Result (Option ℕ) Refusal → List ℤ → List ℕ → Type 0
SolvesWith n ws before (Ok None) times after = (solve_refusals n ws (length before)).Clear × GivesTimes n ws times × (after ≡ before)
SolvesWith n ws before (Ok (Some l)) times after = (solve_refusals n ws (length before)).Clear × GivesChain n ws l before after × (times ≡ no_times)
SolvesWith n ws before (Err e) times after = (solve_refusals n ws (length before)).Fault e.cause e.at × (times ≡ no_times) × (after ≡ before)

abbrev pub Solves : ℕ → List ℤ → List ℕ → Solved → List ℕ → Type 0
Solves n ws before s after = SolvesWith n ws before s.outcome s.times after
