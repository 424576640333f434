-- What the inner functions of this crate tell: when a first offset fits, leg by leg of the enlarged table.
use Rattle.std.specs.Prelude.{ℕ, ◌+◌, ◌*◌, ◌≤◌, ◌<◌, ◌≡◌, List, length, get_or, Option, Some, None}
use Rattle.numbers.specs.Number.{max_word}
use Rattle.table.specs.Layout.{revision_of, leg_count}
use Rattle.table.specs.Records.{link_at, leg_at}
use Rattle.shape.specs.Shape.{WellFormedTable}
use Rattle.shape.specs.Streams.{max_route, max_periods_due}
use Rattle.overlap.specs.Meeting.{NeverMeet}
use Rattle.rules.specs.Times.{hold_time, slot_of}
use Rattle.rules.specs.Rules.{RulesHold}
use Rattle.offsets.specs.Conditions.{slot_from, EndsWithin}
use Rattle.enlarge.specs.Reads.{start_at}
use Rattle.enlarge.specs.Steps.{max_hop}
use Rattle.enlarge.specs.declared.Wanted.{Wanted}
use Rattle.admission.specs.Admits.{CanAdd}

-- What is known where an offset is looked for.
pub record Ready (t : List ℕ) (w : Wanted) (route : List ℕ) : Type 0 where
  pub shape : WellFormedTable t
  pub can_add : CanAdd t w route
  pub rules : RulesHold t

-- What is asked: a table, what is wanted of the new stream, and its route.
pub record Asked : Type 0 where
  pub table : List ℕ
  pub wanted : Wanted
  pub route : List ℕ

-- Leg j of the new stream starts so long after the first one, and holds its link so long.
abbrev pub after_of : List ℕ → Wanted → List ℕ → ℕ → ℕ
after_of t w route j = start_at t w 0 route j

abbrev pub new_hold : List ℕ → Wanted → List ℕ → ℕ → ℕ
new_hold t w route j = hold_time w.octets (link_at t (get_or route j 0)).rate

-- What leg a of the enlarged table asks of a first offset x: an old leg, that no new leg on its link ever meets it; a new leg, that it ends within its period.
pub record Asks (t : List ℕ) (w : Wanted) (route : List ℕ) (a x : ℕ) : Type 0 where
  pub beside : a < leg_count t → (j : ℕ) → j < length route → get_or route j 0 ≡ (leg_at t a).link
      → NeverMeet (slot_from (after_of t w route j) w.period (new_hold t w route j) x) (slot_of t a)
  pub window : (j : ℕ) → j < length route → a ≡ leg_count t + j → EndsWithin (after_of t w route j) w.period (new_hold t w route j) x

-- x fits exactly where no leg lies 8 periods late, the last frame arrives by the deadline, and each leg has what it asks.
pub record FitsByLegs (t : List ℕ) (w : Wanted) (route : List ℕ) (x : ℕ) : Type 0 where
  pub soon : (j : ℕ) → j < length route → x + after_of t w route j < max_periods_due * w.period
  pub in_time : start_at t w 0 route (length route) ≤ w.deadline
  pub asked : (a : ℕ) → a < leg_count t + length route → Asks t w route a x

-- The most that a leg starts after the first one, and that the last frame arrives after it.
abbrev pub max_reach : ℕ
max_reach = max_route * max_hop

-- r is how long after the first leg leg j starts, or where j is the route's length, when the last frame has arrived.
pub record AfterIs (t : List ℕ) (w : Wanted) (route : List ℕ) (j r : ℕ) : Type 0 where
  pub is : r ≡ after_of t w route j
  pub small : r ≤ max_reach

-- The link l is first met at j on the route.
pub record FirstMet (route : List ℕ) (l j : ℕ) : Type 0 where
  pub within : j < length route
  pub there : get_or route j 0 ≡ l
  pub before : (i : ℕ) → i < j → get_or route i 0 ≡ l → ⊥

-- Where it is first met, or that it is not met.
abbrev pub MetAt : List ℕ → ℕ → Option ℕ → Type 0
MetAt route l (Some j) = FirstMet route l j
MetAt route l None = (i : ℕ) → i < length route → get_or route i 0 ≡ l → ⊥

-- Each leg of the enlarged table has what it asks.
pub record AllAsked (t : List ℕ) (w : Wanted) (route : List ℕ) (x : ℕ) : Type 0 where
  pub each : (a : ℕ) → a < leg_count t + length route → Asks t w route a x

-- The first offsets below r are those below the limit with which a leg that starts so long after the first one lies less than 8 periods late.
pub record EndOf (period last limit r : ℕ) : Type 0 where
  pub to : r ≤ limit
  pub soon : (x : ℕ) → x < r → x + last < max_periods_due * period
  pub all : (x : ℕ) → x < limit → x + last < max_periods_due * period → x < r

-- The table is well-formed and its revision can rise.
pub record CanRise (t : List ℕ) : Type 0 where
  pub shape : WellFormedTable t
  pub rises : revision_of t < max_word
