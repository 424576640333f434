-- Turn by turn over the streams: which legs were passed. Assumes nothing.
use Rattle.std.specs.Prelude.{ℕ, ◌+◌, ◌≤◌, ◌<◌, ◌≡◌, List}
use mathlib.Core.Path.{◌∙◌, sym, ap}
use mathlib.Core.Logic.{⊎_elim}
use native.Mathlib.Omega.{arith}
use borrow.Author.Count.{below_none}
use Rattle.basics.specs.Lowest.{All, AllFrom, Lowest}
use Rattle.basics.proofs.Splits.{lt_or_ge}
use Rattle.basics.proofs.Lowest.{lowest_of_all}
use Rattle.table.specs.Layout.{stream_count, leg_count}
use Rattle.table.specs.Records.{stream_part, stream_in, stream_at}
use Rattle.table.specs.declared.Stream.{Stream}
use Rattle.table.proofs.PartLaws.{stream_of_part}
use Rattle.shape.specs.Streams.{legs_before}
use Rattle.shape.specs.Legs.{LegRight}
use Rattle.shape.specs.Routes.{BeforeLegs}
use Rattle.shape.proofs.StreamLaws.{legs_none, legs_more}
use Rattle.shape.proofs.LegLaws.{within_legs}

-- The legs of one stream more.
all_join : {P : ℕ → Type 0} (from to : ℕ) → All P from → AllFrom P from to → All P to
all_join {P} from to a b j l = ⊎_elim (λ (h : j < from). a j h) (λ (h : from ≤ j). b j h l) (lt_or_ge j from)

-- Each turn over the streams: next is the first leg of stream s, and the legs below it are right.
pub record LegTurn (t : List ℕ) (next s : ℕ) : Type 0 where
  pub next_is : next ≡ legs_before t s
  pub right : All (LegRight t) next

pub legs_begin : (t : List ℕ) → LegTurn t 0 0
legs_begin t = record { next_is = sym (legs_none t); right = below_none _ }

module _ {t : List ℕ} {next s : ℕ} (turn : LegTurn t next s) (known : BeforeLegs t) where
  pub legs_end : stream_count t ≤ s → s ≤ stream_count t → AllFrom (LegRight t) 0 (leg_count t)
  legs_end past passed a z l =
      let e : s ≡ stream_count t = omega arith in
      let n = turn.next_is ∙ ap (legs_before t) e ∙ known.counts in
      turn.right a (omega arith)

  module _ {streams : List ℕ} (below : s < stream_count t) (are : streams ≡ stream_part t) where
    pub many_is : (stream_in streams s).count ≡ (stream_at t s).count
    many_is = let read : stream_in streams s ≡ stream_at t s = rw are (stream_of_part t s) in ap (λ (z : Stream). z.count) read

    module _ {stream : Stream} (is : stream ≡ stream_in streams s) where
      count_is : stream.count ≡ (stream_at t s).count
      count_is = ap (λ (z : Stream). z.count) is ∙ many_is

      pub its_end : next + stream.count ≡ next + (stream_at t s).count
      its_end = ap (λ (m : ℕ). next + m) count_is

      pub its_legs : next + stream.count ≤ leg_count t
      its_legs = omega (arith, count_is, turn.next_is, within_legs t known s below)

      pub stream_has_wrong : {p : ℕ} → Lowest (LegRight t) next (next + stream.count) p → Lowest (LegRight t) 0 (leg_count t) p
      stream_has_wrong l = lowest_of_all (omega (arith, l.inside, its_legs)) l.bad (all_join _ _ turn.right l.before)

      pub stream_is_right : AllFrom (LegRight t) next (next + stream.count) → LegTurn t (next + stream.count) (s + 1)
      stream_is_right f = record {
        next_is = omega (arith, turn.next_is, count_is, legs_more t s);
        right = all_join _ _ turn.right f;
      }
