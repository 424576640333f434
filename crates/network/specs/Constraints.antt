-- A network as it is handed in: how many events it has, and three signed words for each constraint: from, to and most. When it is refused.
use Rattle.std.specs.Prelude.{ℕ, ◌+◌, ◌*◌, ◌/◌, ◌≤◌, ◌<◌, List, ℤ, pos, nat_abs, length, get_or, ◌≤ℤ◌, ◌<ℤ◌}
use Rattle.basics.specs.declared.Cause.TheVariants as cause
use Rattle.basics.specs.Lowest.{All}
use Rattle.basics.specs.Refusals.{Refusals, unless, lowest, ◌then◌, ◌called◌}
use Rattle.network.specs.Network.{Network, Times}

-- How many events and constraints there may be, and how far from 0 the most of a constraint may be.
abbrev pub max_events : ℕ
max_events = 128

abbrev pub max_constraints : ℕ
max_constraints = 2048

abbrev pub max_most : ℕ
max_most = 1000000000

-- Word i, counted from 0.
abbrev pub word_at : List ℤ → ℕ → ℤ
word_at ws i = get_or ws i (pos 0)

-- The times in a list, word v being the time of event v; and the constraint numbers in a list.
abbrev pub times_of : List ℤ → Times
times_of l v = get_or l v (pos 0)

abbrev pub numbers_of : List ℕ → ℕ → ℕ
numbers_of l a = get_or l a 0

-- How many constraints the words are. A last one of which words are missing counts.
abbrev pub constraint_count : List ℤ → ℕ
constraint_count ws = (length ws + 2) / 3

-- The network of the words. The words of events are not negative where a constraint is in range, so nothing is lost by leaving their sign out.
abbrev pub network_of : List ℤ → Network
network_of ws =
    record {
      size = constraint_count ws;
      from = λ k. nat_abs (word_at ws (3 * k));
      to = λ k. nat_abs (word_at ws (3 * k + 1));
      most = λ k. word_at ws (3 * k + 2);
    }

-- z is the number of one of n events.
pub record IsEvent (n : ℕ) (z : ℤ) : Type 0 where
  pub least : pos 0 ≤ℤ z
  pub below : z <ℤ pos n

-- Constraint k is in range: none of its words is missing, it names two of n events, which may be one, and its most is -1,000,000,000 to 1,000,000,000.
pub record InRange (n : ℕ) (ws : List ℤ) (k : ℕ) : Type 0 where
  pub whole : 3 * k + 2 < length ws
  pub from : IsEvent n (word_at ws (3 * k))
  pub to : IsEvent n (word_at ws (3 * k + 1))
  pub most : nat_abs (word_at ws (3 * k + 2)) ≤ max_most

-- No more events and constraints than are allowed.
pub record SizeAllowed (n : ℕ) (ws : List ℤ) : Type 0 where
  pub events : n ≤ max_events
  pub constraints : constraint_count ws ≤ max_constraints

-- A network that is not refused.
pub record NetworkInRange (n : ℕ) (ws : List ℤ) : Type 0 where
  pub size : SizeAllowed n ws
  pub each : All (InRange n ws) (constraint_count ws)

-- The refusals of a network: 27, then 16 at the lowest constraint that is out of range.
abbrev pub network_refusals : ℕ → List ℤ → Refusals
network_refusals n ws =
    unless cause.TooLarge (SizeAllowed n ws)
    then lowest cause.OutOfRange (InRange n ws) (constraint_count ws)
    called NetworkInRange n ws
