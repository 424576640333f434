-- The numbers of each rule, over a leg's frame. Assumes nothing.
use Prim.Native.Nat.{ℕ, ◌+◌, ◌≤◌, ◌<◌}
use mathlib.Core.Path.{◌≡◌, ◌∙◌, sym, ap, subst}
use mathlib.Core.List.{List}
use native.Mathlib.Omega.{arith}
use Rattle.numbers.specs.Number.{max_word}
use Rattle.shape.proofs.Placed.{well_formed_guarantees}
use Rattle.overlap.specs.Divisor.{IsGcd, IsRemainder}
use Rattle.overlap.proofs.Euclid.{gcd_positive}
use Rattle.rules.specs.Times.{start_of}
use Rattle.rules.specs.Places.{asked_at}
use Rattle.rules.specs.Steps.{LegIn, FrameOf, ReadyOf}
use Rattle.rules.specs.declared.Asked.{Asked}
use Rattle.rules.specs.declared.Asked.TheVariants as asked
use Rattle.rules.specs.declared.Frame.{Frame}
use Rattle.margins.specs.Asking.{CanAsk}
use Rattle.margins.specs.Margins.{MarginOf}
use Rattle.margins.specs.Moving.{Moving}
use Rattle.margins.specs.Steps.{AskedTold, MarginTold, LegThere}
use Rattle.margins.specs.declared.Margin.{Margin}
use Rattle.margins.specs.declared.Margin.TheVariants as margin

pub first_is_free : (t : List ℕ) (a : ℕ) (f : Frame) → LegIn t a → FrameOf t a f → a ≤ f.first → AskedTold t a asked.Hop margin.Free
first_is_free t a f l is le = record { numbers = omega (arith, is.first, (l.table.leg a l.leg).from_first); turn = tt }

pub hop_sides : (t : List ℕ) (a b r : ℕ) (f : Frame) → FrameOf t a f → f.first < a → a ≡ b + 1 → ReadyOf t b r
    → AskedTold t a asked.Hop (margin.Sides (record { needs = r; has = f.start }))
hop_sides t a b r f is later next at = record {
  numbers = record { previous = b; in_stream = omega (arith, is.first); next = next; needs = at.same; has = is.start };
  turn = tt;
}

pub deadline_sides : (t : List ℕ) (a r : ℕ) (f g : Frame) → LegIn t a → FrameOf t a f → FrameOf t f.first g → ReadyOf t a r → f.end ≤ a + 1
    → AskedTold t a asked.Deadline (margin.Sides (record { needs = r; has = f.deadline + g.start }))
deadline_sides t a r f g l is first at last = record {
  numbers = record {
    last = omega (arith, is.end, (l.table.leg a l.leg).to_last);
    needs = at.same;
    has = omega (arith, is.deadline, first.start, ap (start_of t) is.first);
  };
  turn = tt;
}

pub divisor_some : (t : List ℕ) (a g : ℕ) (f o : Frame) → FrameOf t a f → IsGcd f.period o.period g → 0 < g
divisor_some t a g f o is gcd = (gcd_positive f.period o.period g is.repeats.0 gcd).0

pub divisor_word : (t : List ℕ) (a g : ℕ) (f o : Frame) → FrameOf t a f → IsGcd f.period o.period g → g ≤ max_word
divisor_word t a g f o is gcd = omega (arith, (gcd_positive f.period o.period g is.repeats.0 gcd).1, is.repeats.1)

pub overlap_turns : (t : List ℕ) (a b g r : ℕ) (f o : Frame) → FrameOf t a f → FrameOf t b o → f.link ≡ o.link → IsGcd f.period o.period g
    → IsRemainder f.offset o.offset g r
    → AskedTold t a (asked.Overlap b) (margin.Turns (record { divisor = g; after = r; hold = f.hold; other = o.hold }))
overlap_turns t a b g r f o is so same gcd rest = record {
  numbers = record {
    same_link = sym is.link ∙ same ∙ so.link;
    divisor = rw (is.period, so.period) at gcd;
    after = rw (is.offset, so.offset) at rest;
    hold = is.hold.same;
    other = so.hold.same;
  };
  turn = rest.below;
}

-- A place that can be asked of is one of a leg.
pub asked_leg : (t : List ℕ) (a p : ℕ) → CanAsk t a p → LegIn t a
asked_leg t a p c = record { table = well_formed_guarantees t c.shape; leg = c.place.leg }

pub leg_there : {t : List ℕ} {a : ℕ} → LegThere t a → LegIn t a
leg_there {t} h = record { table = well_formed_guarantees t h.shape; leg = h.leg }

pub there_moving : {t : List ℕ} {a : ℕ} {f : Frame} → LegThere t a → FrameOf t a f → Moving t a f
there_moving h is = record { shape = h.shape; leg = leg_there h; frame = is }

pub told_there : (t : List ℕ) (a p : ℕ) (q : Asked) (m : Margin) → q ≡ asked_at p → AskedTold t a q m → MarginTold t a p m
unfolding MarginOf
told_there t a p q m e told =
    let there : AskedTold t a (asked_at p) m = subst (λ (z : Asked). AskedTold t a z m) e told in
    record { numbers = there.numbers; turn = there.turn }
