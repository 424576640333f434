-- Tables that are given word by word: their records compute from the words, and what is to be shown of them is shown of the records. Assumes nothing.
use Prim.Native.Nat.{ℕ, ◌+◌, ◌*◌, ◌≤◌, ◌<◌}
use mathlib.Core.Path.{◌≡◌, ◌∙◌, sym, ap, subst}
use mathlib.Core.List.{List}
use native.Mathlib.Omega.{arith}
use Rattle.table.specs.Layout.{link_count, stream_count, leg_count}
use Rattle.table.specs.Records.{link_part, stream_part, link_in, stream_in}
use Rattle.table.specs.declared.Link.{Link}
use Rattle.table.specs.declared.Stream.{Stream}
use Rattle.table.specs.declared.Leg.{Leg}
use Rattle.table.proofs.PartLaws.{link_of_part, stream_of_part, leg_of_part}
use Rattle.shape.specs.Links.{max_node, max_propagation, IsRate, LinkInRange}
use Rattle.shape.specs.Streams.{legs_before, min_octets, max_octets, max_period, max_periods, max_periods_due, max_route, StreamInRange, StreamRight}
use Rattle.shape.specs.Legs.{link_of, LegRight}
use Rattle.shape.specs.Routes.{GoesOn}
use Rattle.shape.specs.Shape.{LinkRight}
use Rattle.shape.proofs.StreamLaws.{legs_more}
use Rattle.shape.proofs.Reading.{leg_on, stream_on, link_on, stream_on_is, link_on_is}

-- Of any table: a leg is right where its stream and its link are there, it lies among the legs of its stream, and its link goes on.
pub leg_on_lem : (t : List ℕ) (a : ℕ) → (leg_on t a).stream < stream_count t → (leg_on t a).link < link_count t → (leg_on t a).periods ≤ max_periods → (stream_on t a).first ≤ a
    → a < (stream_on t a).first + (stream_on t a).count → GoesOn t (stream_on t a).first a (link_of t a) → LegRight t a
leg_on_lem t a stream link periods from to goes =
    let first = ap (λ (s : Stream). s.first) (stream_on_is t a) in
    record {
      stream = omega (arith, ap (λ (l : Leg). l.stream) (leg_of_part t a));
      from_first = omega arith;
      to_last = omega (arith, ap (λ (s : Stream). s.count) (stream_on_is t a));
      in_range = record {
        link = omega (arith, ap (λ (l : Leg). l.link) (leg_of_part t a));
        periods = omega (arith, ap (λ (l : Leg). l.periods) (leg_of_part t a));
      };
      joined = λ b h e. goes.joined b (omega arith) e;
      not_start = λ e. goes.not_start (e ∙ ap (λ (b : ℕ). (link_of t b).from) first);
      new_node = λ b h l e. goes.new_node b (omega arith) l e;
    }

-- The only leg of a stream goes on from nothing.
pub only_leg : (t : List ℕ) (a : ℕ) → ((link_on t a).from ≡ (link_on t a).to → ⊥) → GoesOn t a a (link_of t a)
only_leg t a different = record {
  joined = λ b h e. absurd (omega arith);
  not_start = λ e. different (sym (ap (λ (l : Link). l.from) (link_on_is t a)) ∙ sym e ∙ ap (λ (l : Link). l.to) (link_on_is t a));
  new_node = λ b h l e. absurd (omega arith);
}

-- A route whose legs lead each from the node of its own number to the next one goes on.
pub goes_up : (t : List ℕ) (first end : ℕ) → ((a : ℕ) → first ≤ a → a < end → ((link_of t a).from ≡ a) × ((link_of t a).to ≡ a + 1))
    → (a : ℕ) → first ≤ a → a < end → GoesOn t first a (link_of t a)
goes_up t first end leads a l h = record {
  joined = λ b f e. omega (arith, leads a l h, leads b f (omega arith));
  not_start = λ e. absurd (omega (arith, e, leads a l h, leads first (omega arith) (omega arith)));
  new_node = λ b f below e. absurd (omega (arith, e, leads a l h, leads b f (omega arith)));
}

pub in_range : (s : Stream) → (1 ≤ s.deadline) × (s.deadline ≤ max_periods_due * s.period) × (s.period ≤ max_period) → (min_octets ≤ s.octets) × (s.octets ≤ max_octets)
    → (1 ≤ s.count) × (s.count ≤ max_route) → StreamInRange s
in_range s time octets count = record {
  period_from = omega (arith, time);
  period_to = omega (arith, time);
  deadline_from = omega (arith, time);
  deadline_to = omega (arith, time);
  octets_from = octets.0;
  octets_to = octets.1;
  count_from = count.0;
  count_to = count.1;
}

module _ (t : List ℕ) where
  abbrev pub link_here : ℕ → Link
  link_here i = link_in (link_part t) i

  abbrev pub stream_here : ℕ → Stream
  stream_here i = stream_in (stream_part t) i

  pub link_in_range : (i : ℕ) → (link_here i).from ≤ max_node → (link_here i).to ≤ max_node → ((link_here i).from ≡ (link_here i).to → ⊥) → IsRate (link_here i).rate → (link_here i).propagation ≤ max_propagation
      → LinkRight t i
  link_in_range i from to different rate propagation =
      subst LinkInRange (link_of_part t i)
      (record { from_node = omega arith; to_node = omega arith; different = different; rate = rate; propagation = omega arith })

  -- The legs before the next stream are the legs up to this one's end.
  pub before_next : (i : ℕ) → legs_before t i ≡ (stream_here i).first → legs_before t (i + 1) ≡ (stream_here i).first + (stream_here i).count
  before_next i e = omega (arith, e, legs_more t i, ap (λ (s : Stream). s.count) (stream_of_part t i))

  pub stream_placed : (i : ℕ) → legs_before t i ≡ (stream_here i).first → StreamInRange (stream_here i) → (stream_here i).first + (stream_here i).count ≤ leg_count t → StreamRight t i
  stream_placed i before r w =
      let is = stream_of_part t i in
      record {
        in_range = subst StreamInRange is r;
        first = sym (ap (λ (s : Stream). s.first) is) ∙ sym before;
        within = omega (arith, before, ap (λ (s : Stream). s.count) is);
      }
