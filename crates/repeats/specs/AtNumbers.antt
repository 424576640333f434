-- First meetings at numbers.
use Rattle.std.specs.Prelude.{ℕ, Option, Some, None}
use Rattle.overlap.specs.Theorems.{in100000, in150000, in10}
use Rattle.overlap.specs.declared.Slot.{Slot}
use Rattle.repeats.specs.declared.Meeting.{Meeting}
use Rattle.repeats.specs.Meetings.{MeetsFirst}

-- From offset o on, every t ns, for h ns.
abbrev pub slot_for : ℕ → ℕ → ℕ → Slot
slot_for o t h = record { offset = o; period = t; hold = h }

-- They meet in repeat k of the first and repeat m of the second, at instant x.
abbrev pub met_at : ℕ → ℕ → ℕ → Option Meeting
met_at k m x = Some (record { first = k; second = m; instant = x })

pub record FirstMeetingsAtNumbers : Type 0 where
  -- Frames of 672 ns in periods of 100,000 and 150,000 ns. Both at 0; with the second at 50,000 their first frames lie far apart, and the third of the first leg meets the second of the other;
  -- at 671 they share one nanosecond; at 672 they never meet.
  pub at_0 : MeetsFirst (in100000 0 672) (in150000 0 672) (met_at 0 0 0)
  pub at_50000 : MeetsFirst (in100000 0 672) (in150000 50000 672) (met_at 2 1 200000)
  pub at_671 : MeetsFirst (in100000 0 672) (in150000 671 672) (met_at 0 0 671)
  pub at_672 : MeetsFirst (in100000 0 672) (in150000 672 672) None
  -- The other way round.
  pub the_other_first : MeetsFirst (in150000 50000 672) (in100000 0 672) (met_at 1 2 200000)
  -- An offset beyond the period: nothing is held before it.
  pub late : MeetsFirst (in100000 250000 672) (in150000 0 672) (met_at 2 3 450000)
  -- Periods that differ by 1 ns: after nearly 5 s.
  pub one_apart : MeetsFirst (in100000 0 672) (slot_for 50000 100001 672) (met_at 49330 49329 4933000000)
  -- The longest periods, and slots of 1 ns: after 31 years.
  pub longest : MeetsFirst (slot_for 0 1000000000 1) (slot_for 999999999 999999999 1) (met_at 999999999 999999999 999999999000000000)
  -- No two of the offsets, the periods and the hold times can be exchanged.
  pub all_differ : MeetsFirst (slot_for 4 10 1) (slot_for 1 14 2) (met_at 4 3 44)
  pub offsets_exchanged : MeetsFirst (slot_for 1 10 1) (slot_for 4 14 2) (met_at 6 4 61)
  pub holds_exchanged : MeetsFirst (slot_for 4 10 2) (slot_for 1 14 1) (met_at 1 1 15)
  pub periods_exchanged : MeetsFirst (slot_for 4 14 1) (slot_for 1 10 2) (met_at 2 3 32)
  -- Held longer than its period: at 33 the repeats 1, 2 and 3 of the first all hold the link, and 3 is the last that has begun.
  pub longer_than_its_period : MeetsFirst (in10 0 25) (slot_for 33 100 1) (met_at 3 0 33)
