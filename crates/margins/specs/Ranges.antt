-- Offsets from one number up to but without another, of which a condition of remainders allows some.
use Rattle.std.specs.Prelude.{ℕ, ◌+◌, ◌%◌, ◌≤◌, ◌<◌, ◌≡◌, List}
use Rattle.numbers.specs.Number.{max_word}
use Rattle.shape.specs.Legs.{stream_of, first_of}
use Rattle.offsets.specs.Conditions.{Allows, Sound}
use Rattle.offsets.specs.Search.{NoneFrom}
use Rattle.offsets.specs.declared.Condition.{Condition}
use Rattle.rules.specs.Times.{max_ready, offset_of, start_of, ready_of}
use Rattle.rules.specs.Rules.{Window}
use Rattle.rules.specs.Places.{AskedHolds}
use Rattle.rules.specs.declared.Asked.{Asked}
use Rattle.margins.specs.Nearest.{with_offset}
use Rattle.margins.specs.declared.Range.{Range}

-- x lies between and is allowed.
pub record Among (from end : ℕ) (q : Condition) (x : ℕ) : Type 0 where
  pub above : from ≤ x
  pub below : x < end
  pub allowed : Allows q x

-- x lies between.
pub record Between (from end x : ℕ) : Type 0 where
  pub above : from ≤ x
  pub below : x < end

abbrev pub Within : Range → ℕ → Type 0
Within r x = Among r.from r.end r.turn x

-- A condition whose remainders end before the modulus.
pub record Turning (q : Condition) : Type 0 where
  pub sound : Sound q
  pub some : 1 ≤ q.after

-- The same in numbers that fit the code.
pub record Fits (r : Range) : Type 0 where
  pub turn : Turning r.turn
  pub from : r.from ≤ max_ready
  pub end : r.end ≤ max_word

-- A range in which just the numbers with P are.
pub record RangeFor (P : ℕ → Type 0) (r : Range) : Type 0 where
  pub fits : Fits r
  pub to : (x : ℕ) → Within r x → P x
  pub from : (x : ℕ) → P x → Within r x

-- A condition q' that says what q says, and whose remainders end before the modulus.
pub record TurnedFrom (q q' : Condition) : Type 0 where
  pub turning : Turning q'
  pub to : (x : ℕ) → Allows q' x → Allows q x
  pub from : (x : ℕ) → Allows q x → Allows q' x

-- The remainder of x, as the condition sees it.
abbrev pub rest : Condition → ℕ → ℕ
rest q x = (x + q.shift) % q.modulus

pub record RestOf (q : Condition) (x r : ℕ) : Type 0 where
  pub same : r ≡ rest q x
  pub below : r < q.modulus

-- The next number that is allowed, from x on, is x + w; and the last one up to x is x − w.
pub record Ahead (q : Condition) (x w : ℕ) : Type 0 where
  pub small : w ≤ max_word
  pub there : Allows q (x + w)
  pub none : NoneFrom (Allows q) x (x + w)

pub record Behind (q : Condition) (x w : ℕ) : Type 0 where
  pub small : w ≤ max_word
  pub there : (z : ℕ) → z + w ≡ x → Allows q z
  pub none : (z : ℕ) → z ≤ x → x < z + w → Allows q z → ⊥

-- From offset r on leg a is late: it is then ready after its deadline, counted from the first leg of its stream, where that is another.
pub record LateFrom (t : List ℕ) (a r : ℕ) : Type 0 where
  pub in_time : (x : ℕ) → x < r → ready_of t a + x ≤ (stream_of t a).deadline + start_of t (first_of t a) + offset_of t a
  pub before : (x : ℕ) → ready_of t a + x ≤ (stream_of t a).deadline + start_of t (first_of t a) + offset_of t a → x < r

-- At offset x leg a keeps its window.
pub record InWindow (t : List ℕ) (a x : ℕ) : Type 0 where
  pub window : Window (with_offset t a x) a

-- At offset x leg a keeps its window, and what is asked of it holds.
pub record StandsAt (t : List ℕ) (a : ℕ) (q : Asked) (x : ℕ) : Type 0 where
  pub window : Window (with_offset t a x) a
  pub asked : AskedHolds (with_offset t a x) a q
