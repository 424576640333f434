-- The numbers of a rule at a place: what it needs and what it has.
use Rattle.std.specs.Prelude.{ℕ, ◌+◌, ◌≤◌, ◌≡◌, List, Result, Ok, Err}
use Rattle.basics.specs.declared.Refusal.{Refusal}
use Rattle.table.specs.Records.{leg_at}
use Rattle.shape.specs.Legs.{stream_of, first_of, end_of}
use Rattle.overlap.specs.Divisor.{IsGcd, IsRemainder}
use Rattle.rules.specs.Times.{hold_of, offset_of, start_of, ready_of}
use Rattle.rules.specs.Places.{asked_at}
use Rattle.rules.specs.declared.Asked.{Asked}
use Rattle.rules.specs.declared.Asked.TheVariants as asked
use Rattle.margins.specs.Asking.{CanAsk, ask_refusals}
use Rattle.margins.specs.Spares.{IsSpare}
use Rattle.margins.specs.declared.Sides.{Sides}
use Rattle.margins.specs.declared.Turns.{Turns}
use Rattle.margins.specs.declared.Margin.{Margin}
use Rattle.margins.specs.declared.Margin.TheVariants as margin
use Rattle.margins.specs.declared.At.{At}

-- Window: a leg needs its offset and its hold time, and has its period.
pub record WindowSides (t : List ℕ) (a : ℕ) (s : Sides) : Type 0 where
  pub needs : s.needs ≡ offset_of t a + hold_of t a
  pub has : s.has ≡ (stream_of t a).period

-- Hop: it needs the time at which the stream's previous leg is ready, and has its own start.
pub record HopSides (t : List ℕ) (a : ℕ) (s : Sides) : Type 0 where
  pub previous : ℕ
  pub in_stream : first_of t a ≤ previous
  pub next : a ≡ previous + 1
  pub needs : s.needs ≡ ready_of t previous
  pub has : s.has ≡ start_of t a

-- Deadline: the last leg of a stream needs the time at which it is ready, and has the deadline, counted from the start of the stream's first leg.
pub record DeadlineSides (t : List ℕ) (a : ℕ) (s : Sides) : Type 0 where
  pub last : a + 1 ≡ end_of t a
  pub needs : s.needs ≡ ready_of t a
  pub has : s.has ≡ (stream_of t a).deadline + start_of t (first_of t a)

-- Overlap of legs a and b of one link: the greatest common divisor of their periods, how far the offset of b lies after that of a by this divisor, and how long
-- each of them holds the link.
pub record OverlapTurns (t : List ℕ) (a b : ℕ) (s : Turns) : Type 0 where
  pub same_link : (leg_at t a).link ≡ (leg_at t b).link
  pub divisor : IsGcd (stream_of t a).period (stream_of t b).period s.divisor
  pub after : IsRemainder (offset_of t a) (offset_of t b) s.divisor s.after
  pub hold : s.hold ≡ hold_of t a
  pub other : s.other ≡ hold_of t b

-- The numbers at what is asked of leg a. Nothing is asked by the hop of a first leg, by the deadline of a leg that is not the last, and by the overlap of legs on different links.
abbrev pub AskedMargin : List ℕ → ℕ → Asked → Margin → Type 0
AskedMargin t a asked.Window margin.Free = ⊥
AskedMargin t a asked.Window (margin.Sides s) = WindowSides t a s
AskedMargin t a asked.Window (margin.Turns s) = ⊥
AskedMargin t a asked.Hop margin.Free = a ≡ first_of t a
AskedMargin t a asked.Hop (margin.Sides s) = HopSides t a s
AskedMargin t a asked.Hop (margin.Turns s) = ⊥
AskedMargin t a asked.Deadline margin.Free = a + 1 ≡ end_of t a → ⊥
AskedMargin t a asked.Deadline (margin.Sides s) = DeadlineSides t a s
AskedMargin t a asked.Deadline (margin.Turns s) = ⊥
AskedMargin t a (asked.Overlap b) margin.Free = (leg_at t a).link ≡ (leg_at t b).link → ⊥
AskedMargin t a (asked.Overlap b) (margin.Sides s) = ⊥
AskedMargin t a (asked.Overlap b) (margin.Turns s) = OverlapTurns t a b s

-- The numbers at place p of leg a.
unfoldable pub MarginOf : List ℕ → ℕ → ℕ → Margin → Type 0
MarginOf t a p m = AskedMargin t a (asked_at p) m

-- What is answered of place (a,p) of table t: the numbers of its rule, and by how much it is kept or missed.
abbrev pub Margins : List ℕ → ℕ → ℕ → Result At Refusal → Type 0
Margins t a p (Ok r) = CanAsk t a p × MarginOf t a p r.margin × IsSpare r.margin r.spare
Margins t a p (Err e) = (ask_refusals t a p).Fault e.cause e.at
