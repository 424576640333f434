-- When a first offset fits, leg by leg of the enlarged table: its shape by the table without times, its rules by the old legs' rules, and what each leg asks. Assumes nothing.
use Prim.Native.Nat.{ℕ, ◌+◌, ◌-◌, ◌*◌, ◌/◌, ◌≤◌, ◌<◌}
use mathlib.Core.Path.{◌≡◌, refl, ◌∙◌, sym, ap, subst}
use mathlib.Core.List.{List}
use mathlib.Core.Logic.{⊎_elim}
use lib.ListN.{length, get_or}
use native.Mathlib.Nat.{add-zero, div-lt_iff_lt-mul}
use native.Mathlib.Omega.{arith}
use Rattle.basics.proofs.Splits.{lt_or_ge}
use Rattle.table.specs.Layout.{stream_count, leg_count, Sized}
use Rattle.table.specs.Records.{stream_at, leg_at}
use Rattle.table.specs.declared.Leg.{Leg}
use Rattle.shape.specs.Guarantees.{Guarantees}
use Rattle.shape.specs.Streams.{max_periods, max_periods_due}
use Rattle.shape.specs.Legs.{first_of}
use Rattle.shape.specs.Moves.{SameButMoved}
use Rattle.shape.proofs.Moved.{moves_keep_shape}
use Rattle.shape.proofs.Placed.{well_formed_guarantees}
use Rattle.overlap.specs.Meeting.{NeverMeet}
use Rattle.overlap.specs.declared.Slot.{Slot}
use Rattle.overlap.proofs.Law.{meeting_is_symmetric}
use Rattle.rules.specs.Times.{slot_of, start_of, ready_of}
use Rattle.rules.specs.Rules.{Window, Hop, Deadline, Overlap}
use Rattle.rules.proofs.Said.{window_says, hop_says, deadline_says, overlap_says}
use Rattle.offsets.specs.Conditions.{slot_from, EndsWithin}
use Rattle.enlarge.specs.Enlarged.{enlarged, without_times, legs_from}
use Rattle.enlarge.specs.Reads.{Grown, start_at}
use Rattle.enlarge.specs.declared.Wanted.{Wanted}
use Rattle.enlarge.proofs.Ranges.{wanted_in_range}
use Rattle.enlarge.proofs.NewLegs.{zero_length, from_length, start_first, start_shift}
use Rattle.enlarge.proofs.Grown.{grown_long}
use Rattle.admission.specs.Admits.{Fits}
use Rattle.admission.specs.Steps.{Ready, after_of, new_hold, FitsByLegs}
use Rattle.admission.proofs.OldLegs.{old_link, old_slot, old_window, old_hop, old_deadline, old_overlap}
use Rattle.admission.proofs.NewLegs.{reads, new_leg, new_link, new_first, new_end, new_deadline, new_period, new_offset, new_periods, new_hold_is, new_slot, new_start, new_ready}
use Rattle.admission.proofs.Wanting.{zero_reads, leg_at_zero_is, route_new}

-- A leg of the enlarged table is an old one or a new one.
pub old_or_new : (g k a : ℕ) (P : ℕ → Type 0) → ((b : ℕ) → b < g → P b) → ((j : ℕ) → j < k → P (g + j)) → a < g + k → P a
old_or_new g k a P old new h =
    ⊎_elim
    (λ (l : a < g). old a l)
    (λ (l : g ≤ a). subst P (let e : g + (a - g) ≡ a = omega arith in e) (new (a - g) (omega arith)))
    (lt_or_ge a g)

module _ (t : List ℕ) (w : Wanted) (route : List ℕ) (ready : Ready t w route) where
  sized : Sized t
  sized = ready.shape.sized

  guaranteed : Guarantees t
  guaranteed = well_formed_guarantees t ready.shape

  some : 0 < w.period
  some = (wanted_in_range t w route sized ready.can_add).stream.period_from

  module _ (x : ℕ) where
    read : Grown t w (length route) (legs_from t w x route) (enlarged t w route x)
    read = reads t w route x sized

    -- No leg lies 8 periods late: then the enlarged table differs from that without times in offsets and period words alone.
    late_enough : (j : ℕ) → x + after_of t w route j < max_periods_due * w.period → (x + after_of t w route j) / w.period ≤ max_periods
    late_enough j l = let q = (div-lt_iff_lt-mul some).1 l in omega arith

    not_late : (j : ℕ) → (x + after_of t w route j) / w.period ≤ max_periods → x + after_of t w route j < max_periods_due * w.period
    not_late j l = (div-lt_iff_lt-mul some).0 (omega arith)

    same_but_moved : ((j : ℕ) → j < length route → x + after_of t w route j < max_periods_due * w.period) → SameButMoved (without_times t w route) (enlarged t w route x)
    same_but_moved soon =
        let z = zero_reads t w route sized in
        let e = read in
        let count : leg_count (without_times t w route) ≡ leg_count t + length route = z.leg_count_is in
        record {
          long = grown_long t w (length route) _ sized (zero_length t route) ∙ sym (grown_long t w (length route) _ sized (from_length t w x route));
          link_count_is = z.link_count_is ∙ sym e.link_count_is;
          stream_count_is = z.stream_count_is ∙ sym e.stream_count_is;
          leg_count_is = z.leg_count_is ∙ sym e.leg_count_is;
          precision = z.precision ∙ sym e.precision;
          link = λ i h. z.link i ∙ sym (e.link i);
          stream = λ i h.
              old_or_new (stream_count t) 1 i (λ (i : ℕ). stream_at (without_times t w route) i ≡ stream_at (enlarged t w route x) i)
              (λ b l. z.stream b l ∙ sym (e.stream b l))
              (λ j l.
              let zeroth : stream_count t + j ≡ stream_count t = omega arith in
              ap (stream_at (without_times t w route)) zeroth ∙ z.new_stream_is ∙ sym e.new_stream_is ∙ sym (ap (stream_at (enlarged t w route x)) zeroth))
              (omega (arith, z.stream_count_is));
          leg_stream = λ a h.
              old_or_new (leg_count t) (length route) a (λ (a : ℕ). (leg_at (without_times t w route) a).stream ≡ (leg_at (enlarged t w route x) a).stream)
              (λ b l. ap (λ (l : Leg). l.stream) (z.leg b l ∙ sym (e.leg b l)))
              (λ j l. ap (λ (l : Leg). l.stream) (leg_at_zero_is t w route sized j l) ∙ sym (ap (λ (l : Leg). l.stream) (new_leg t w route x sized j l)))
              (omega (arith, z.leg_count_is));
          leg_link = λ a h.
              old_or_new (leg_count t) (length route) a (λ (a : ℕ). (leg_at (without_times t w route) a).link ≡ (leg_at (enlarged t w route x) a).link)
              (λ b l. ap (λ (l : Leg). l.link) (z.leg b l ∙ sym (e.leg b l)))
              (λ j l. ap (λ (l : Leg). l.link) (leg_at_zero_is t w route sized j l) ∙ sym (new_link t w route x sized j l))
              (omega (arith, z.leg_count_is));
          periods = λ a h.
              old_or_new (leg_count t) (length route) a (λ (a : ℕ). (leg_at (enlarged t w route x) a).periods ≤ max_periods)
              (λ b l. omega (arith, (guaranteed.leg b l).periods, ap (λ (l : Leg). l.periods) (e.leg b l)))
              (λ j l. omega (arith, late_enough j (soon j l), new_periods t w route x sized j l))
              (omega (arith, z.leg_count_is));
        }

    -- The rules of a new leg: its window is asked for; its hop holds, since it starts just when it may; the deadline is the same for every first offset.
    window_new : (j : ℕ) (h : j < length route) → EndsWithin (after_of t w route j) w.period (new_hold t w route j) x → Window (enlarged t w route x) (leg_count t + j)
    window_new j h ends =
        (window_says (enlarged t w route x) (leg_count t + j)).1
        (omega (arith, new_offset t w route x sized j h, new_hold_is t w route x sized j h, new_period t w route x sized j h))

    new_window : (j : ℕ) (h : j < length route) → Window (enlarged t w route x) (leg_count t + j) → EndsWithin (after_of t w route j) w.period (new_hold t w route j) x
    new_window j h r =
        omega (
          arith,
          (window_says (enlarged t w route x) (leg_count t + j)).0 r,
          new_offset t w route x sized j h,
          new_hold_is t w route x sized j h,
          new_period t w route x sized j h,
        )

    hop_new : (j : ℕ) (h : j < length route) → Hop (enlarged t w route x) (leg_count t + j)
    hop_new j h =
        (hop_says (enlarged t w route x) (leg_count t + j)).1
        (λ b from next.
        let first = new_first t w route x sized j h in
        let before : b ≡ leg_count t + (b - leg_count t) = omega arith in
        let i : b - leg_count t + 1 ≡ j = omega arith in
        omega (
          arith,
          ap (ready_of (enlarged t w route x)) before,
          new_ready t w route x sized (b - leg_count t) (omega arith),
          ap (start_at t w x route) i,
          new_start t w route x sized j h,
        ))

    -- The first leg starts at x, and the last one is ready so long after it.
    start_of_first : (j : ℕ) (h : j < length route) → start_of (enlarged t w route x) (first_of (enlarged t w route x) (leg_count t + j)) ≡ x
    start_of_first j h =
        ap (start_of (enlarged t w route x)) (new_first t w route x sized j h ∙ sym (add-zero (leg_count t)))
        ∙ new_start t w route x sized 0 (omega arith)
        ∙ start_first t w x route

    deadline_new : (j : ℕ) (h : j < length route) → start_at t w 0 route (length route) ≤ w.deadline → Deadline (enlarged t w route x) (leg_count t + j)
    deadline_new j h in_time =
        (deadline_says (enlarged t w route x) (leg_count t + j)).1
        (λ last.
        let end : j + 1 ≡ length route = omega (arith, new_end t w route x sized j h) in
        omega (
          arith,
          new_ready t w route x sized j h,
          ap (start_at t w x route) end,
          start_shift t w x route (length route),
          new_deadline t w route x sized j h,
          start_of_first j h,
        ))

    new_in_time : (j : ℕ) (h : j < length route) → j + 1 ≡ length route → Deadline (enlarged t w route x) (leg_count t + j) → start_at t w 0 route (length route) ≤ w.deadline
    new_in_time j h end r =
        omega (
          arith,
          (deadline_says (enlarged t w route x) (leg_count t + j)).0 r (omega (arith, new_end t w route x sized j h)),
          new_ready t w route x sized j h,
          ap (start_at t w x route) end,
          start_shift t w x route (length route),
          new_deadline t w route x sized j h,
          start_of_first j h,
        )

    -- A new leg beside an old one, and two new legs, which are never on one link.
    abbrev pub Beside : ℕ → ℕ → Type 0
    Beside j a = get_or route j 0 ≡ (leg_at t a).link → NeverMeet (slot_from (after_of t w route j) w.period (new_hold t w route j) x) (slot_of t a)

    beside_new : (j a : ℕ) (h : j < length route) (l : a < leg_count t) → Beside j a → Overlap (enlarged t w route x) (leg_count t + j) a
    beside_new j a h l clear =
        (overlap_says (enlarged t w route x) (leg_count t + j) a).1
        (λ same.
        rw (new_slot t w route x sized j h, old_slot t (enlarged t w route x) w (length route) _ read guaranteed a l)
        (clear (sym (new_link t w route x sized j h) ∙ same ∙ old_link t (enlarged t w route x) w (length route) _ read guaranteed a l)))

    pub new_beside : (j a : ℕ) (h : j < length route) (l : a < leg_count t) → Overlap (enlarged t w route x) (leg_count t + j) a → Beside j a
    new_beside j a h l r same =
        let link = new_link t w route x sized j h ∙ same ∙ sym (old_link t (enlarged t w route x) w (length route) _ read guaranteed a l) in
        subst (λ (s : Slot). NeverMeet s (slot_of t a)) (new_slot t w route x sized j h)
        (subst (λ (s : Slot). NeverMeet (slot_of (enlarged t w route x) (leg_count t + j)) s) (old_slot t (enlarged t w route x) w (length route) _ read guaranteed a l)
        ((overlap_says (enlarged t w route x) (leg_count t + j) a).0 r link))

    other_way : (a b : ℕ) → Overlap (enlarged t w route x) a b → Overlap (enlarged t w route x) b a
    other_way a b r =
        (overlap_says (enlarged t w route x) b a).1
        (λ same. meeting_is_symmetric (slot_of (enlarged t w route x) a) (slot_of (enlarged t w route x) b) ((overlap_says (enlarged t w route x) a b).0 r (sym same)))

    two_new : (i j : ℕ) → i < length route → j < length route → (leg_count t + i ≡ leg_count t + j → ⊥) → Overlap (enlarged t w route x) (leg_count t + i) (leg_count t + j)
    two_new i j hi hj other =
        (overlap_says (enlarged t w route x) (leg_count t + i) (leg_count t + j)).1
        (λ link.
        let same : get_or route i 0 ≡ get_or route j 0 = sym (new_link t w route x sized i hi) ∙ link ∙ new_link t w route x sized j hj in
        absurd
        (⊎_elim
        (λ (l : i < j). route_new t w route sized ready.can_add i j l hj same)
        (λ (l : j ≤ i). route_new t w route sized ready.can_add j i (⊎_elim (λ (m : j < i). m) (λ (m : i ≤ j). absurd (other (omega arith))) (lt_or_ge j i)) hi (sym same))
        (lt_or_ge i j)))

    overlap_all : FitsByLegs t w route x
        → (a b : ℕ) → a < leg_count (enlarged t w route x) → b < leg_count (enlarged t w route x) → (a ≡ b → ⊥) → Overlap (enlarged t w route x) a b
    overlap_all f a b ha hb =
        old_or_new (leg_count t) (length route) a (λ (a : ℕ). (a ≡ b → ⊥) → Overlap (enlarged t w route x) a b)
        (λ c l.
        old_or_new (leg_count t) (length route) b (λ (b : ℕ). (c ≡ b → ⊥) → Overlap (enlarged t w route x) c b)
        (λ d m other. old_overlap t (enlarged t w route x) w (length route) _ read guaranteed c l d m (ready.rules.overlap c d l m other))
        (λ j m other. other_way (leg_count t + j) c (beside_new j c m l (λ same. (f.asked c (omega arith)).beside l j m same)))
        (omega (arith, read.leg_count_is)))
        (λ i l.
        old_or_new (leg_count t) (length route) b (λ (b : ℕ). (leg_count t + i ≡ b → ⊥) → Overlap (enlarged t w route x) (leg_count t + i) b)
        (λ d m other. beside_new i d l m (λ same. (f.asked d (omega arith)).beside m i l same))
        (λ j m other. two_new i j l m other)
        (omega (arith, read.leg_count_is)))
        (omega (arith, read.leg_count_is))

    pub legs_fit : FitsByLegs t w route x → Fits t w route x
    legs_fit f = record {
      shape = moves_keep_shape (without_times t w route) (enlarged t w route x) (same_but_moved f.soon) ready.can_add;
      rules = record {
        window = λ a h.
            old_or_new (leg_count t) (length route) a (Window (enlarged t w route x))
            (λ b l. old_window t (enlarged t w route x) w (length route) _ read guaranteed b l (ready.rules.window b l))
            (λ j l. window_new j l ((f.asked (leg_count t + j) (omega arith)).window j l refl))
            (omega (arith, read.leg_count_is));
        hop = λ a h.
            old_or_new (leg_count t) (length route) a (Hop (enlarged t w route x))
            (λ b l. old_hop t (enlarged t w route x) w (length route) _ read guaranteed b l (ready.rules.hop b l))
            (λ j l. hop_new j l)
            (omega (arith, read.leg_count_is));
        deadline = λ a h.
            old_or_new (leg_count t) (length route) a (Deadline (enlarged t w route x))
            (λ b l. old_deadline t (enlarged t w route x) w (length route) _ read guaranteed b l (ready.rules.deadline b l))
            (λ j l. deadline_new j l f.in_time)
            (omega (arith, read.leg_count_is));
        overlap = overlap_all f;
      };
    }

    pub fits_by_legs : Fits t w route x → FitsByLegs t w route x
    fits_by_legs f =
        let range = (wanted_in_range t w route sized ready.can_add).stream in
        record {
          soon = λ j h.
              not_late j
              (omega (
                arith,
                ((well_formed_guarantees (enlarged t w route x) f.shape).leg (leg_count t + j) (omega (arith, read.leg_count_is))).periods,
                new_periods t w route x sized j h,
              ));
          in_time = new_in_time (length route - 1) (omega (arith, range.count_from)) (omega (arith, range.count_from))
              (f.rules.deadline (leg_count t + (length route - 1)) (omega (arith, read.leg_count_is, range.count_from)));
          asked = λ a h. record {
            beside = λ l j m same.
                new_beside j a m l
                (f.rules.overlap (leg_count t + j) a (omega (arith, read.leg_count_is)) (omega (arith, read.leg_count_is)) (λ e. omega arith)) same;
            window = λ j m is. new_window j m (f.rules.window (leg_count t + j) (omega (arith, read.leg_count_is)));
          };
        }
