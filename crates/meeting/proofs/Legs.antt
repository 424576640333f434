-- The slots of two legs, and what their first meeting tells of the legs. Assumes nothing.
use Rattle.std.specs.Prelude.{Option, Some, None, Ok}
use Prim.Native.Nat.{ℕ, ◌≤◌}
use mathlib.Core.Path.{◌≡◌, ◌∙◌, sym, subst}
use mathlib.Core.List.{List}
use native.Mathlib.Omega.{arith}
use Rattle.shape.specs.Streams.{max_period}
use Rattle.shape.specs.Legs.{stream_of}
use Rattle.overlap.specs.declared.Slot.{Slot}
use Rattle.rules.specs.Times.{slot_of}
use Rattle.rules.specs.Steps.{LegIn, FrameOf}
use Rattle.rules.specs.declared.Frame.{Frame}
use Rattle.rules.proofs.Judging.{other_links}
use Rattle.rules.proofs.Said.{overlap_says}
use Rattle.repeats.specs.Meetings.{MeetsFirst}
use Rattle.repeats.specs.declared.Meeting.{Meeting}
use Rattle.repeats.specs.Steps.{Brief}
use Rattle.meeting.specs.Meets.{CanMeet, Meets}

-- The slot of leg a, with which a first meeting can be told.
pub record SlotIs (t : List ℕ) (a : ℕ) (s : Slot) : Type 0 where
  pub is : s ≡ slot_of t a
  pub brief : Brief s

-- A leg's period is at most 1 s.
period_to : {t : List ℕ} {a : ℕ} → LegIn t a → (stream_of t a).period ≤ max_period
period_to {t} {a} l = (l.table.stream _ (l.table.leg a l.leg).stream).small.period_to

abbrev pub slot_from : Frame → Slot
slot_from f = record { offset = f.offset; period = f.period; hold = f.hold }

pub slot_is : {t : List ℕ} {a : ℕ} {f : Frame} {s : Slot} → LegIn t a → FrameOf t a f → s ≡ slot_from f → SlotIs t a s
slot_is {t} {a} {f} {s} l o e = rw e (record {
  is = λ i. record { offset = o.offset i; period = o.period i; hold = o.hold.same i };
  brief = record {
    period_from = o.repeats.0;
    period_to = omega (arith, o.period, period_to l);
    hold_from = o.hold.from;
    hold_to = omega (arith, o.hold.to);
    offset_to = o.near;
  };
})

-- Two legs that can be asked for, and what is read of them.
module _ {t : List ℕ} {leg other : ℕ} {f g : Frame} (can : CanMeet t leg other) (of-leg : FrameOf t leg f) (of-other : FrameOf t other g) where
  -- On different links they never meet.
  pub meets_none : (f.link ≡ g.link → ⊥) → Meets t leg other (Ok None)
  meets_none apart = (can, other_links t leg other (λ e. apart (of-leg.link ∙ sym e ∙ sym of-other.link)))

  -- On one link their slots tell.
  module _ {s u : Slot} (one : f.link ≡ g.link) (first : SlotIs t leg s) (second : SlotIs t other u) where
    told_of : (w : Option Meeting) → MeetsFirst s u w → MeetsFirst (slot_of t leg) (slot_of t other) w
    told_of w told =
        subst (λ (z : Slot). MeetsFirst z (slot_of t other) w) first.is
        (subst (λ (z : Slot). MeetsFirst s z w) second.is told)

    pub meets_told : (w : Option Meeting) → MeetsFirst s u w → Meets t leg other (Ok w)
    meets_told (Some m) told = (can, record { one_link = sym of-leg.link ∙ one ∙ of-other.link; meeting = told_of (Some m) told })
    meets_told None told = (can, (overlap_says t leg other).1 (λ l. told_of None told))
