-- The least number that all conditions allow, below the end, is the least first offset that fits, below the limit. Assumes nothing.
use Prim.Native.Nat.{ℕ, zero, suc, ◌+◌, ◌-◌, ◌*◌, ◌≤◌, ◌<◌}
use mathlib.Core.Path.{◌≡◌, ap, subst}
use mathlib.Core.List.{List}
use lib.ListN.{length, get_or}
use native.Mathlib.Omega.{arith}
use Rattle.table.specs.Layout.{max_legs, leg_count}
use Rattle.shape.specs.Streams.{max_periods_due}
use Rattle.offsets.specs.Conditions.{Allow, Holding}
use Rattle.offsets.specs.Search.{NoneFrom, Searches}
use Rattle.std.specs.Prelude.{Option, Some, None, take}
use Rattle.offsets.specs.declared.StoredCondition.{StoredCondition}
use Rattle.offsets.proofs.Keeping.{holding_to, holding_from}
use Rattle.offsets.proofs.Answers.{searches_in_words}
use Rattle.enlarge.specs.Reads.{start_at}
use Rattle.enlarge.specs.declared.Wanted.{Wanted}
use Rattle.enlarge.proofs.NewLegs.{start_next, sent_on_is}
use Rattle.admission.specs.Admits.{Fits}
use Rattle.admission.specs.Steps.{Ready, after_of, Asks, AfterIs, AllAsked, EndOf}
use Rattle.admission.proofs.Fitting.{legs_fit, fits_by_legs}
use Rattle.admission.proofs.Walking.{in_range}

-- What the kept conditions allow is what all legs ask.
pub asked_least : {t : List ℕ} {w : Wanted} {route : List ℕ} {s : List StoredCondition} {legs : ℕ} (limit from : ℕ) (r : Option ℕ) → legs ≡ leg_count t → Holding s (legs + length route) (Asks t w route)
    → Searches (Allow (take (legs + length route) s)) limit from r → Searches (AllAsked t w route) limit from r
asked_least {t} {w} {route} {s} {legs} limit from r is held found =
    searches_in_words (Allow (take (legs + length route) s)) (AllAsked t w route) limit from
    (λ x allow. record { each = λ a h. holding_to held allow a (omega arith) })
    (λ x all. holding_from held (λ a h. all.each a (omega arith)))
    r found

-- A later leg starts later.
later : (t : List ℕ) (w : Wanted) (route : List ℕ) (n j : ℕ) → j + n ≤ length route → after_of t w route j ≤ after_of t w route (j + n)
later t w route zero j h = let e = ap (after_of t w route) (let z : j + 0 ≡ j = omega arith in z) in omega arith
later t w route (suc n) j h =
    omega (
      arith,
      later t w route n j (omega arith),
      ap (after_of t w route) (let z : j + suc n ≡ j + n + 1 = omega arith in z),
      start_next t w 0 route (j + n) (omega arith),
      sent_on_is t w (start_at t w 0 route (j + n)) (get_or route (j + n) 0),
    )

module _ {t : List ℕ} {w : Wanted} {route : List ℕ} (ready : Ready t w route) where
  pub some_link : 1 ≤ length route
  some_link = (in_range ready).stream.count_from

  module _ {arrived last limit end : ℕ} (ends : AfterIs t w route (length route) arrived) (lasts : AfterIs t w route (length route - 1) last) (e : EndOf w.period last limit end) where
    soon : (x : ℕ) → x < end → (j : ℕ) → j < length route → x + after_of t w route j < max_periods_due * w.period
    soon x h j k =
        omega (
          arith,
          e.soon x h,
          lasts.is,
          later t w route (length route - 1 - j) j (omega arith),
          ap (after_of t w route) (let z : j + (length route - 1 - j) ≡ length route - 1 = omega arith in z),
        )

    fits : arrived ≤ w.deadline → (x : ℕ) → x < end → AllAsked t w route x → Fits t w route x
    fits due x h all = legs_fit t w route ready x (record { soon = soon x h; in_time = omega (arith, ends.is); asked = all.each })

    none : (x : ℕ) → x < limit → Fits t w route x → (x < end) × AllAsked t w route x
    none x h f =
        let legs = fits_by_legs t w route ready x f in
        (e.all x h (omega (arith, legs.soon (length route - 1) (omega (arith, some_link)), lasts.is)), record { each = legs.asked })

    fits_from : (from : ℕ) (r : Option ℕ) → arrived ≤ w.deadline → Searches (AllAsked t w route) end from r → Searches (Fits t w route) limit from r
    fits_from from (Some x) due h = record {
      above = h.above;
      below = omega (arith, h.below, e.to);
      has = fits due x h.below h.has;
      least = λ z f l p. h.least z f l (none z (omega (arith, h.below, e.to)) p).1;
    }
    fits_from from None due h = λ z f l p. let n = none z l p in h z f n.0 n.1

    pub fitting_least : {start : ℕ} (from : ℕ) (r : Option ℕ) → start ≡ from → arrived ≤ w.deadline → Searches (AllAsked t w route) end start r → Searches (Fits t w route) limit from r
    fitting_least from r is due h = fits_from from r due (subst (λ (n : ℕ). Searches (AllAsked t w route) end n r) is h)

  pub too_late_is : {arrived : ℕ} (limit from : ℕ) → AfterIs t w route (length route) arrived → w.deadline < arrived → NoneFrom (Fits t w route) from limit
  too_late_is limit from ends late z f l p = omega (arith, (fits_by_legs t w route ready z p).in_time, ends.is)

-- There is room for a condition of each leg.
pub kept_room : {t : List ℕ} {w : Wanted} {route : List ℕ} {legs : ℕ} → Ready t w route → legs ≡ leg_count t → legs + length route ≤ max_legs
kept_room ready is = omega (arith, (in_range ready).legs)
