-- Ranges of offsets: what each rule allows, over a leg's frame. Assumes nothing.
use Prim.Native.Nat.{ℕ, ◌+◌, ◌-◌, ◌%◌, ◌≤◌, ◌<◌}
use mathlib.Core.Path.{◌≡◌, ◌∙◌, sym, ap}
use mathlib.Core.List.{List}
use native.Mathlib.Nat.{mod-eq_of_lt}
use native.Mathlib.Omega.{arith}
use Rattle.std.specs.Prelude.{min}
use Rattle.numbers.specs.Number.{max_word}
use Rattle.shape.specs.Legs.{first_of, end_of}
use Rattle.overlap.specs.Meeting.{NeverMeet}
use Rattle.overlap.specs.Divisor.{Repeats}
use Rattle.overlap.specs.declared.Slot.{Slot}
use Rattle.offsets.specs.Conditions.{AllowsAll, ClearOf, Says, Starts, slot_from}
use Rattle.offsets.specs.declared.Condition.{Condition}
use Rattle.rules.specs.Times.{max_ready, start_of, slot_of}
use Rattle.rules.specs.Steps.{FrameOf, ReadyOf}
use Rattle.rules.specs.declared.Asked.{Asked}
use Rattle.rules.specs.declared.Asked.TheVariants as asked
use Rattle.rules.specs.declared.Frame.{Frame}
use Rattle.margins.specs.Moving.{Moving}
use Rattle.margins.specs.Ranges.{Among, Between, InWindow, LateFrom, RangeFor, StandsAt, TurnedFrom}
use Rattle.margins.specs.declared.Range.{Range}
use Rattle.margins.proofs.Standing.{starts_late, window_to, window_from, hop_first, hop_to, hop_from, deadline_not_last, deadline_to, deadline_from, deadline_only_to, deadline_only_from, other_links, overlap_to, overlap_from, slot_at}

-- The same range in other words.
in_words : (P Q : ℕ → Type 0) (r : Range) → ((x : ℕ) → P x → Q x) → ((x : ℕ) → Q x → P x) → RangeFor P r → RangeFor Q r
in_words P Q r to from k = record { fits = k.fits; to = λ x h. to x (k.to x h); from = λ x h. k.from x (from x h) }

pub among_range : (from end : ℕ) (q q' : Condition) → from ≤ max_ready → end ≤ max_word → TurnedFrom q q' → RangeFor (Among from end q) (record { from = from; end = end; turn = q' })
among_range from end q q' f e k = record {
  fits = record { turn = k.turning; from = f; end = e };
  to = λ x h. record { above = h.above; below = h.below; allowed = k.to x h.allowed };
  from = λ x h. record { above = h.above; below = h.below; allowed = k.from x h.allowed };
}

pub between_range : (from end : ℕ) (q : Condition) (r : Range) → AllowsAll q → RangeFor (Among from end q) r → RangeFor (Between from end) r
between_range from end q r all = in_words _ _ r
    (λ x h. record { above = h.above; below = h.below })
    (λ x h. record { above = h.above; below = h.below; allowed = all.all x })

pub offset_first : (t : List ℕ) (a : ℕ) (f : Frame) → FrameOf t a f → f.offset ≤ f.start
offset_first t a f is = omega (arith, is.offset, is.start, starts_late t a)

pub offset_before_ready : (t : List ℕ) (a n : ℕ) (f : Frame) → FrameOf t a f → ReadyOf t a n → f.offset ≤ n
offset_before_ready t a n f is at = omega (arith, is.offset, starts_late t a, at.same)

module _ (t : List ℕ) (a : ℕ) (f : Frame) (m : Moving t a f) where
  module _ (x : ℕ) where
    to_window : x < f.period + 1 - f.hold → InWindow t a x
    to_window lt = record { window = window_to t a m.shape m.leg.leg x (omega (arith, m.frame.hold.same, m.frame.period)) }

    from_window : InWindow t a x → x < f.period + 1 - f.hold
    from_window k = omega (arith, window_from t a m.shape m.leg.leg x k.window, m.frame.hold.same, m.frame.period)

  pub whole_range : (end : ℕ) (r : Range) → end ≡ f.period + 1 - f.hold → RangeFor (Between 0 end) r → RangeFor (InWindow t a) r
  whole_range end r e = in_words _ _ r
      (λ x h. to_window x (omega (arith, h.below)))
      (λ x h. record { above = omega arith; below = omega (arith, from_window x h) })

  -- Where what is asked asks nothing.
  free_range : (q : Asked) (r : Range) → ((x : ℕ) → InWindow t a x → StandsAt t a q x) → RangeFor (InWindow t a) r → RangeFor (StandsAt t a q) r
  free_range q r stands = in_words _ _ r stands (λ x h. record { window = h.window })

  pub window_range : (r : Range) → RangeFor (InWindow t a) r → RangeFor (StandsAt t a asked.Window) r
  window_range r = free_range asked.Window r (λ x h. record { window = h.window; asked = h.window })

  pub first_range : (r : Range) → a ≤ f.first → RangeFor (InWindow t a) r → RangeFor (StandsAt t a asked.Hop) r
  first_range r le =
      free_range asked.Hop r (λ x h. record { window = h.window; asked = hop_first t a m.shape m.leg.leg x (omega (arith, m.frame.first)) })

  pub hop_range : (b n from end : ℕ) (r : Range) → f.first < a → a ≡ b + 1 → ReadyOf t b n → from ≡ n - (f.start - f.offset) → end ≡ f.period + 1 - f.hold
      → RangeFor (Between from end) r → RangeFor (StandsAt t a asked.Hop) r
  hop_range b n from end r later next at is-from is-end =
      let late = offset_first t a f m.frame in
      in_words _ _ r
      (λ x h. record {
        window = (to_window x (omega (arith, h.below))).window;
        asked = hop_to t a m.shape m.leg.leg x b next (omega (arith, h.above, at.same, m.frame.offset, m.frame.start));
      })
      (λ x h. record {
        above = omega (arith, hop_from t a m.shape m.leg.leg x b next (omega (arith, m.frame.first)) h.asked, at.same, m.frame.offset, m.frame.start);
        below = omega (arith, from_window x (record { window = h.window }));
      })

  pub not_last_range : (r : Range) → a + 1 < f.end → RangeFor (InWindow t a) r → RangeFor (StandsAt t a asked.Deadline) r
  not_last_range r lt =
      free_range asked.Deadline r (λ x h. record { window = h.window; asked = deadline_not_last t a m.shape m.leg.leg x (omega (arith, m.frame.end)) })

  pub late_from : (g : Frame) (n r : ℕ) → FrameOf t f.first g → ReadyOf t a n → r ≡ f.deadline + g.start + 1 - (n - f.offset) → LateFrom t a r
  late_from g n r is-first at e =
      let s = is-first.start ∙ ap (start_of t) m.frame.first in
      let o = offset_before_ready t a n f m.frame at in
      let d = m.frame.deadline in
      let p = m.frame.offset in
      record { in_time = λ x h. omega (arith, at.same); before = λ x h. omega (arith, at.same) }

  is_last : f.end ≤ a + 1 → a + 1 ≡ end_of t a
  is_last last = omega (arith, m.frame.end, (m.leg.table.leg a m.leg.leg).to_last)

  pub due_range : (late windows end : ℕ) (r : Range) → f.end ≤ a + 1 → f.first < a → LateFrom t a late → windows ≡ f.period + 1 - f.hold → end ≡ min windows late
      → RangeFor (Between 0 end) r → RangeFor (StandsAt t a asked.Deadline) r
  due_range late windows end r last many from is-windows is-end =
      let other : first_of t a < a = omega (arith, m.frame.first) in
      in_words _ _ r
      (λ x h. record {
        window = (to_window x (omega (arith, h.below))).window;
        asked = deadline_to t a m.shape m.leg.leg x other (from.in_time x (omega (arith, h.below)));
      })
      (λ x h.
      let d = from.before x (deadline_from t a m.shape m.leg.leg x other (is_last last) h.asked) in
      let v = from_window x (record { window = h.window }) in
      record { above = omega arith; below = omega arith })

  module _ (n : ℕ) (r : Range) (last : f.end ≤ a + 1) (at : ReadyOf t a n) (only : a ≤ f.first) where
    only_leg : first_of t a ≡ a
    only_leg = omega (arith, m.frame.first, (m.leg.table.leg a m.leg.leg).from_first)

    own_start : f.start ≡ start_of t (first_of t a)
    own_start = m.frame.start ∙ ap (start_of t) (sym only_leg)

    pub kept_range : n ≤ f.deadline + f.start → RangeFor (InWindow t a) r → RangeFor (StandsAt t a asked.Deadline) r
    kept_range le =
        free_range asked.Deadline r
        (λ x h. record { window = h.window; asked = deadline_only_to t a m.shape m.leg.leg x only_leg (omega (arith, at.same, m.frame.deadline, own_start)) })

    pub lost_range : f.deadline + f.start < n → RangeFor (Between 0 0) r → RangeFor (StandsAt t a asked.Deadline) r
    lost_range lt =
        in_words _ _ r
        (λ x h. absurd (omega (arith, h.below)))
        (λ x h. absurd (omega (arith, deadline_only_from t a m.shape m.leg.leg x only_leg (is_last last) h.asked, at.same, m.frame.deadline, own_start)))

  module _ (b : ℕ) (o : Frame) (r : Range) (below : b < a) (so : FrameOf t b o) where
    pub other_link_range : (f.link ≡ o.link → ⊥) → RangeFor (InWindow t a) r → RangeFor (StandsAt t a (asked.Overlap b)) r
    other_link_range n =
        free_range (asked.Overlap b) r
        (λ x h. record { window = h.window; asked = other_links t a m.shape m.leg.leg x b below (λ e. n (m.frame.link ∙ e ∙ sym so.link)) })

    abbrev slot_with : Slot
    slot_with = record { offset = o.offset; period = o.period; hold = o.hold }

    slot_is : slot_with ≡ slot_of t b
    slot_is = let p = so.offset in let q = so.period in let h = so.hold.same in cc

    -- Below its period an offset is its own remainder.
    slot_from_is : (x : ℕ) → InWindow t a x → slot_from 0 f.period f.hold x ≡ slot_at t a m.shape m.leg.leg x
    slot_from_is x k =
        let z : x + 0 ≡ x = omega arith in
        let e : (x + 0) % f.period ≡ x = rw z (mod-eq_of_lt (omega (arith, from_window x k, m.frame.hold.from))) in
        let p = m.frame.period in
        let h = m.frame.hold.same in
        cc

    pub apart_range : (end : ℕ) (q : Condition) → f.link ≡ o.link → end ≡ f.period + 1 - f.hold → Says (ClearOf 0 f.period f.hold slot_with) q
        → RangeFor (Among 0 end q) r → RangeFor (StandsAt t a (asked.Overlap b)) r
    apart_range end q same is-end says = in_words _ _ r
        (λ x h.
        let k = to_window x (omega (arith, h.below)) in
        let n : NeverMeet (slot_from 0 f.period f.hold x) slot_with = says.to x h.allowed in
        record { window = k.window; asked = overlap_to t a m.shape m.leg.leg x b below (rw (slot_from_is x k, slot_is) at n) })
        (λ x h.
        let k : InWindow t a x = record { window = h.window } in
        let n = overlap_from t a m.shape m.leg.leg x b below (sym m.frame.link ∙ same ∙ so.link) h.asked in
        let c : NeverMeet (slot_from 0 f.period f.hold x) slot_with = rw (slot_from_is x k, slot_is) n in
        record { above = omega arith; below = omega (arith, from_window x k); allowed = says.from x c })

  -- What the condition of the overlap asks of the code.
  pub starts_small : Starts 0 f.period f.hold
  starts_small = record {
    after_to = omega arith;
    period_from = m.frame.repeats.0;
    period_to = m.frame.repeats.1;
    hold_from = m.frame.hold.from;
    hold_to = omega (arith, m.frame.hold.to);
  }

pub slot_repeats : (t : List ℕ) (b : ℕ) (o : Frame) → FrameOf t b o → Repeats (record { offset = o.offset; period = o.period; hold = o.hold })
slot_repeats t b o so = record { period_from = so.repeats.0; period_to = so.repeats.1; hold = so.hold.from }
