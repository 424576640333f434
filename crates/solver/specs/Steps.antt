-- What inner functions promise: the rounds and the walk, on the lists that the arrays hold.
use Rattle.std.specs.Prelude.{ℕ, ◌+◌, ◌*◌, ◌-◌, ◌≤◌, ◌<◌, ◌≡◌, List, ℤ, length, get_or, replicate, Option, Some, None, Result, Ok, Err}
use Rattle.basics.specs.declared.Refusal.{Refusal}
use Rattle.network.specs.declared.Network.{Network}
use Rattle.network.specs.Network.{Chain}
use Rattle.network.specs.Constraints.{max_events, max_constraints, times_of, numbers_of, network_of, constraint_count}
use Rattle.solver.specs.Solving.{solve_refusals, GivesTimes}
use Rattle.solver.specs.Rounds.{Kept}
use Rattle.solver.specs.Walks.{Walked}

-- The network of what was given, where so many words are enough for a chain; or the refusal that is due.
abbrev pub SolvableTold : ℕ → List ℤ → ℕ → Result Network Refusal → Type 0
SolvableTold n ws room (Ok w) = (solve_refusals n ws room).Clear × (w.events ≡ n) × (w.constraints.now ≡ ws)
SolvableTold n ws room (Err e) = (solve_refusals n ws room).Fault e.cause e.at

-- The last tick there can be: every round looks at every constraint.
abbrev pub max_ticks : ℕ
max_ticks = max_events * max_constraints

-- The last event lowered after tick b, if any.
abbrev pub Last : Option ℕ → ℕ → ℕ → (ℕ → ℕ) → Type 0
Last None n b tick = (v : ℕ) → v < n → tick v ≤ b
Last (Some v) n b tick = (v < n) × (b < tick v)

-- The three arrays of the rounds.
pub record Stands (n : ℕ) (ws : List ℤ) (b k : ℕ) (t : List ℤ) (tick by : List ℕ) : Type 0 where
  pub times : length t ≡ max_events
  pub ticks : length tick ≡ max_events
  pub bys : length by ≡ max_events
  pub kept : Kept n (network_of ws) b k (times_of t) (numbers_of tick) (numbers_of by)

-- After as many rounds as there are events: event v was lowered in the last one.
pub record Restless (n : ℕ) (ws : List ℤ) (v : ℕ) (t : List ℤ) (tick by : List ℕ) : Type 0 where
  pub base : ℕ
  pub stands : Stands n ws base 0 t tick by
  pub event : v < n
  pub late : n * constraint_count ws < numbers_of tick v + constraint_count ws

-- The rounds end with the latest times, or with an event that was lowered in the last one.
abbrev pub Ended : Option ℕ → ℕ → List ℤ → List ℤ → List ℕ → List ℕ → Type 0
Ended None n ws t tick by = GivesTimes n ws t
Ended (Some v) n ws t tick by = Restless n ws v t tick by

-- k steps back from an event that was lowered in the last round, the walk stands at x; step a is written at 127 - a.
pub record Walking (n : ℕ) (ws : List ℤ) (by : List ℕ) (k x : ℕ) (path seen : List ℕ) : Type 0 where
  pub t : List ℤ
  pub tick : List ℕ
  pub base : ℕ
  pub stands : Stands n ws base 0 t tick by
  pub paths : length path ≡ max_events
  pub seens : length seen ≡ max_events
  pub walked : Walked n (network_of ws) (numbers_of tick) (numbers_of by) k x (λ a. get_or path (127 - a) 0) (numbers_of seen)

-- The path and the marks before the first step.
abbrev pub no_path : List ℕ
no_path = replicate max_events 0

-- Where in the path a chain stands.
pub record Turned (n : ℕ) (ws : List ℤ) (path : List ℕ) (start len : ℕ) : Type 0 where
  pub chain : Chain (network_of ws) len (λ a. get_or path (start + a) 0)
  pub short : len ≤ n
  pub within : start + len ≤ max_events
  pub long : length path ≡ max_events
