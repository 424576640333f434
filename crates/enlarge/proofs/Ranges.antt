-- What is wanted is in range where the table with it, at zero times, is well-formed: its new stream and its new legs are records of that table. Assumes nothing.
use Prim.Native.Nat.{ℕ, ◌+◌, ◌*◌, ◌≤◌, ◌<◌}
use mathlib.Core.Path.{◌∙◌, ap}
use mathlib.Core.List.{List}
use lib.ListN.{length, get_or}
use native.Mathlib.Omega.{arith}
use Rattle.numbers.specs.Number.{max_word}
use Rattle.table.specs.Layout.{revision_of, stream_count, leg_count, Sized}
use Rattle.table.specs.declared.Leg.{Leg}
use Rattle.shape.specs.Shape.{WellFormedTable}
use Rattle.shape.specs.Streams.{max_periods_due}
use Rattle.shape.specs.Guarantees.{Guarantees}
use Rattle.enlarge.specs.Enlarged.{legs_at_zero, without_times, enlarged_words}
use Rattle.enlarge.specs.Reads.{Grown, start_at}
use Rattle.enlarge.specs.Steps.{WantedInRange, Addable, instants, Sendable, Sends}
use Rattle.enlarge.specs.declared.Wanted.{Wanted}
use Rattle.enlarge.proofs.Grown.{grown_limits, grown_reads}
use Rattle.enlarge.proofs.NewLegs.{zero_length, zero_leg_is}

pub wanted_in_range : (t : List ℕ) (w : Wanted) (route : List ℕ) → Sized t → WellFormedTable (without_times t w route) → WantedInRange t w route
wanted_in_range t w route s z =
    let k = length route in
    let legs = legs_at_zero t route in
    let u = without_times t w route in
    let r : Grown t w k legs u = grown_reads t w k legs s (zero_length t route) in
    let few = grown_limits t w k legs z.sized in
    record {
      streams = few.0;
      legs = few.1;
      stream = rw r.new_stream_is at (z.streams (stream_count t) (omega (arith, r.stream_count_is))).in_range;
      links = λ j h.
          let l = ap (λ (x : Leg). x.link) (r.new_leg j h ∙ zero_leg_is t route j h) in
          omega (arith, (z.legs (leg_count t + j) (omega (arith, r.leg_count_is))).in_range.link, r.link_count_is);
    }

-- So the functions may be called.
module _ {t : List ℕ} {w : Wanted} {route : List ℕ} (r : WantedInRange t w route) where
  pub addable : {words : ℕ} → Sized t → revision_of t < max_word → enlarged_words t route ≤ words → Addable t (length route) words
  addable s v h = record { sized = s; rises = v; streams = r.streams; legs = r.legs; room = h }

  module _ (g : Guarantees t) where
    pub wanted_sendable : {start : ℕ} (j : ℕ) → j < length route → start < instants → Sendable t w start (get_or route j 0)
    wanted_sendable j h e = record { table = g; octets = r.stream.octets_to; early = e; link = r.links j h }

    pub wanted_sends : {x : ℕ} → ((j : ℕ) → j < length route → start_at t w x route j < max_periods_due * w.period) → Sends t w route x
    wanted_sends h = record { table = g; repeats = r.stream.period_from; octets = r.stream.octets_to; links = r.links; starts = h }
