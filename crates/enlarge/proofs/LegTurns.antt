-- The new legs, laid leg by leg: those done lie in the buffer, and those of the rest of the route are to come. Assumes nothing.
use Prim.Native.Nat.{ℕ, ◌+◌, ◌*◌, ◌/◌, ◌%◌, ◌≤◌, ◌<◌}
use mathlib.Core.Path.{◌≡◌, refl, ◌∙◌, sym, ap}
use mathlib.Core.List.{List, [], ◌∷◌, ◌++◌}
use lib.ListN.{length, get_or, drop}
use native.Mathlib.Nat.{mod-lt, div-lt_iff_lt-mul}
use native.Mathlib.Omega.{arith}
use Rattle.numbers.specs.Number.{max_word}
use Rattle.numbers.specs.Series.{overlaid}
use Rattle.table.specs.Layout.{leg_words, stream_count}
use Rattle.shape.specs.Streams.{max_periods_due}
use Rattle.enlarge.specs.Enlarged.{legs_at_zero, sent_on, legs_from}
use Rattle.enlarge.specs.Reads.{start_at}
use Rattle.enlarge.specs.Steps.{LegsRoom, LaidTo, Sendable, Sends}
use Rattle.enlarge.specs.declared.Wanted.{Wanted}
use Rattle.enlarge.proofs.NewLegs.{zero_length, from_length, start_first, start_next}
use Rattle.enlarge.proofs.Laying.{Laying, laying_start, laying_long, laying_fits, laying_more, laying_end, left_on, left_none}

-- The legs at offset 0: i are done.
pub record LayingAtZero (t route b : List ℕ) (at : ℕ) (out : List ℕ) (next i : ℕ) : Type 0 where
  pub within : i ≤ length route
  pub laying : Laying b at (legs_at_zero t route) (legs_at_zero t (drop i route)) out next

pub zero_start : {t route b : List ℕ} {at : ℕ} → LegsRoom t route at (length b) → LayingAtZero t route b at b at 0
zero_start {t = t} {route = route} r = record { within = omega arith; laying = laying_start (omega (arith, r.room, zero_length t route)) }

module _ {t route b : List ℕ} {at : ℕ} {out : List ℕ} {next i : ℕ} (f : LayingAtZero t route b at out next i) where
  pub zero_long : length out ≡ length b
  zero_long = laying_long f.laying

  module _ (more : i < length route) where
    abbrev zero_leg : List ℕ
    zero_leg = stream_count t ∷ get_or route i 0 ∷ 0 ∷ 0 ∷ []

    zero_to_come : Laying b at (legs_at_zero t route) (zero_leg ++ legs_at_zero t (drop (i + 1) route)) out next
    unfolding legs_at_zero
    zero_to_come = rw (left_on route i more) at f.laying

    pub zero_room : next + leg_words ≤ length out
    zero_room = laying_fits zero_leg (legs_at_zero t (drop (i + 1) route)) zero_to_come refl

    pub zero_next : {next' : ℕ} {out' : List ℕ} → LaidTo out next zero_leg next' out' → LayingAtZero t route b at out' next' (i + 1)
    zero_next l = record { within = omega arith; laying = laying_more zero_leg (legs_at_zero t (drop (i + 1) route)) zero_to_come refl l }

  pub zero_end : length route ≤ i → out ≡ overlaid b at (legs_at_zero t route)
  unfolding legs_at_zero
  zero_end h = (laying_end (rw (left_none route i f.within h) at f.laying)).after

-- The legs without waiting: i are done, and the next one starts at an instant.
pub record LayingFrom (t : List ℕ) (w : Wanted) (route : List ℕ) (x : ℕ) (b : List ℕ) (at period : ℕ) (out : List ℕ) (start next i : ℕ) : Type 0 where
  pub within : i ≤ length route
  pub sends : Sends t w route x
  pub period_is : period ≡ w.period
  pub short : period ≤ max_word
  pub start_is : start ≡ start_at t w x route i
  pub laying : Laying b at (legs_from t w x route) (legs_from t w start (drop i route)) out next

pub from_start : {t : List ℕ} {w : Wanted} {route : List ℕ} {x : ℕ} {b : List ℕ} {at period start : ℕ} → LegsRoom t route at (length b) → Sends t w route x
    → period ≡ w.period → period ≤ max_word → start ≡ x → LayingFrom t w route x b at period b start at 0
from_start {t = t} {w = w} {route = route} {x = x} r s p short q = record {
  within = omega arith;
  sends = s;
  period_is = p;
  short = short;
  start_is = q ∙ sym (start_first t w x route);
  laying = rw q (laying_start (omega (arith, r.room, from_length t w x route)));
}

module _ {t : List ℕ} {w : Wanted} {route : List ℕ} {x : ℕ} {b : List ℕ} {at period : ℕ} {out : List ℕ} {start next i : ℕ}
    (f : LayingFrom t w route x b at period out start next i) where
  pub from_long : length out ≡ length b
  from_long = laying_long f.laying

  pub period_some : 1 ≤ period
  period_some = omega (arith, f.period_is, f.sends.repeats)

  pub offset_word : start % period ≤ max_word
  offset_word = omega (arith, mod-lt start period_some, f.short)

  module _ (more : i < length route) where
    due : start < max_periods_due * period
    due = omega (arith, f.start_is, f.sends.starts i more, f.period_is)

    pub periods_word : start / period < max_periods_due
    periods_word = (div-lt_iff_lt-mul period_some).1 due

    pub sendable : Sendable t w start (get_or route i 0)
    sendable = record { table = f.sends.table; octets = f.sends.octets; early = omega (arith, due, f.short); link = f.sends.links i more }

    abbrev leg_from : List ℕ
    leg_from = stream_count t ∷ get_or route i 0 ∷ (start % period) ∷ (start / period) ∷ []

    from_to_come : Laying b at (legs_from t w x route) (leg_from ++ legs_from t w (sent_on t w start (get_or route i 0)) (drop (i + 1) route)) out next
    unfolding legs_from
    from_to_come = rw f.period_is (rw (left_on route i more) at f.laying)

    pub from_room : next + leg_words ≤ length out
    from_room = laying_fits leg_from _ from_to_come refl

    pub from_next : {start' next' : ℕ} {out' : List ℕ} → LaidTo out next leg_from next' out' → start' ≡ sent_on t w start (get_or route i 0)
        → LayingFrom t w route x b at period out' start' next' (i + 1)
    from_next l e = record {
      within = omega arith;
      sends = f.sends;
      period_is = f.period_is;
      short = f.short;
      start_is = e ∙ ap (λ (k : ℕ). sent_on t w k (get_or route i 0)) f.start_is ∙ sym (start_next t w x route i more);
      laying = rw e (laying_more leg_from _ from_to_come refl l);
    }

  pub from_end : length route ≤ i → out ≡ overlaid b at (legs_from t w x route)
  unfolding legs_from
  from_end h = (laying_end (rw (left_none route i f.within h) at f.laying)).after
