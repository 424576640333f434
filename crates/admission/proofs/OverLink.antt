-- A stream of 64 octets over link 0 of a small table, where that link is of 1 Gb/s and 500 ns: it can be added, and when it starts, holds the link and has arrived. Assumes nothing.
use Prim.Native.Nat.{ℕ, zero, suc, ◌+◌, ◌*◌, ◌≤◌, ◌<◌}
use mathlib.Core.Path.{◌≡◌, ◌∙◌, ap}
use mathlib.Core.List.{List}
use lib.ListN.{get_or}
use native.Mathlib.Omega.{arith}
use Rattle.table.specs.Layout.{link_count, stream_count, leg_count, precision_of}
use Rattle.table.specs.Records.{link_at}
use Rattle.table.specs.declared.Link.{Link}
use Rattle.shape.specs.Streams.{max_period, max_periods_due}
use Rattle.shape.specs.Shape.{WellFormedTable}
use Rattle.rules.specs.Times.{wire_time, hold_time}
use Rattle.rules.proofs.AtNumbers.{gap_cases, starred_cases}
use Rattle.enlarge.specs.Reads.{start_at}
use Rattle.enlarge.proofs.NewLegs.{start_first, start_next, sent_on_is}
use Rattle.admission.specs.Admits.{CanAdd}
use Rattle.admission.specs.AtNumbers.{third, over_link0}
use Rattle.admission.specs.Steps.{after_of, new_hold}
use Rattle.admission.proofs.Adding.{can_add_in_words}

abbrev pub InRange : ℕ → ℕ → Type 0
InRange p d = (1 ≤ p) × (p ≤ max_period) × (1 ≤ d) × (d ≤ max_periods_due * p)

-- The table is well-formed and small, and has that link.
pub record HasLink (t : List ℕ) : Type 0 where
  pub shape : WellFormedTable t
  pub link : link_at t 0 ≡ record { from = 1; to = 2; rate = 8; propagation = 500 }
  pub some : 1 ≤ link_count t
  pub few : stream_count t + leg_count t ≤ 8

module _ (t : List ℕ) (has : HasLink t) (p d : ℕ) (range : InRange p d) where
  links : (j : ℕ) → j < 1 → get_or over_link0 j 0 < link_count t
  links zero h = omega (arith, has.some)
  links (suc j) h = absurd (omega arith)

  not_start : (j : ℕ) → j < 1 → (link_at t (get_or over_link0 j 0)).to ≡ (link_at t 0).from → ⊥
  not_start zero h e = omega (arith, e, ap (λ (l : Link). l.to) has.link, ap (λ (l : Link). l.from) has.link)
  not_start (suc j) h e = omega arith

  pub can_add : CanAdd t (third p d) over_link0
  can_add =
      (can_add_in_words t (third p d) over_link0 has.shape).1
      (record {
        streams = omega (arith, has.few);
        legs = omega (arith, has.few);
        stream = record {
          period_from = range.0;
          period_to = range.1;
          deadline_from = range.2;
          deadline_to = range.3;
          octets_from = omega arith;
          octets_to = omega arith;
          count_from = omega arith;
          count_to = omega arith;
        };
        links = links;
        joined = λ j h. absurd (omega arith);
        not_start = not_start;
        new_node = λ i j l h e. omega arith;
      })

  pub starts : after_of t (third p d) over_link0 0 ≡ 0
  starts = start_first t (third p d) 0 over_link0

  pub holds : new_hold t (third p d) over_link0 0 ≡ 672
  holds = ap (λ (l : Link). hold_time 64 l.rate) has.link ∙ gap_cases.held.0

  pub arrives : start_at t (third p d) 0 over_link0 1 ≡ 1076 + precision_of t
  arrives =
      omega (
        arith,
        start_next t (third p d) 0 over_link0 0 (omega arith),
        sent_on_is t (third p d) (after_of t (third p d) over_link0 0) 0,
        starts,
        ap (λ (l : Link). wire_time 64 l.rate) has.link ∙ starred_cases.case_1.0,
        ap (λ (l : Link). l.propagation) has.link,
      )
