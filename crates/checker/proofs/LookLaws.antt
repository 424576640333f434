-- A slice on its way: the places passed hold, and the budget used is their number. Assumes nothing.
use Rattle.std.specs.Prelude.{ℕ, ◌+◌, ◌-◌, ◌≤◌, ◌<◌, min}
use mathlib.Core.Path.{◌≡◌, refl, ap}
use mathlib.Core.List.{List}
use mathlib.Core.Logic.{inl, inr, ⊎_elim}
use native.Mathlib.Omega.{arith}
use Rattle.basics.proofs.Splits.{lt_or_ge}
use Rattle.table.specs.Layout.{leg_count}
use Rattle.files.specs.declared.Cursor.{Cursor}
use Rattle.rules.specs.Places.{places_of}
use Rattle.rules.specs.declared.Rule.{Rule}
use Rattle.places.specs.Order.{places_below, rank, IsPlace, IsEnd, PlaceOrEnd, HoldFrom}
use Rattle.places.specs.Told.{LegHolds, FirstBroken}
use Rattle.places.proofs.Ranks.{below_mono, leg_below, held_on, held_none, next_leg}
use Rattle.checker.specs.Cursors.{cursor_rank, CursorRight}
use Rattle.checker.specs.Slices.{Violates, Ends, Pauses}
use Rattle.checker.specs.Moves.{AtTheLesser}
use Rattle.checker.specs.Steps.{PulledBack}

-- A slice from c stands at (a,p) with so much of its budget left.
pub record Looking (t : List ℕ) (c : Cursor) (budget a p left : ℕ) : Type 0 where
  pub stands : PlaceOrEnd t a p
  pub within : left ≤ budget
  pub steps : cursor_rank c + budget ≡ rank a p + left
  pub held : HoldFrom t (cursor_rank c) (rank a p)

pub no_leg_past : {t : List ℕ} {a p : ℕ} → PlaceOrEnd t a p → a ≤ leg_count t
no_leg_past {t} {a} {p} s = ⊎_elim (λ (i : IsPlace t a p). omega (arith, i.leg)) (λ (e : IsEnd t a p). omega (arith, e.leg)) s

pub at_place : {t : List ℕ} {a p : ℕ} → PlaceOrEnd t a p → a < leg_count t → IsPlace t a p
at_place {t} {a} {p} s h = ⊎_elim (λ (i : IsPlace t a p). i) (λ (e : IsEnd t a p). absurd (omega (arith, e.leg))) s

at_end : {t : List ℕ} {a p : ℕ} → PlaceOrEnd t a p → leg_count t ≤ a → IsEnd t a p
at_end {t} {a} {p} s h = ⊎_elim (λ (i : IsPlace t a p). absurd (omega (arith, i.leg))) (λ (e : IsEnd t a p). e) s

-- A place from a first on and below a limit.
pub record FoundWithin : Type 0 where
  pub from : ℕ
  pub limit : ℕ
  pub at : ℕ
  pub not_before : from ≤ at
  pub below : at < limit

module _ {t : List ℕ} {c : Cursor} (right : CursorRight t c) where
  pub looking_start : (budget a p left : ℕ) → a ≡ c.leg → p ≡ c.place → left ≡ budget → Looking t c budget a p left
  looking_start budget a p left e f g = record {
    stands = rw (e, f) right.stands;
    within = omega arith;
    steps = omega (arith, ap places_below e);
    held = rw (e, f) (held_none {t = t} (cursor_rank c));
  }

  module _ {budget a p left : ℕ} (i : Looking t c budget a p left) where
    pub looking_broken : (limit q : ℕ) (r : Rule) → a < leg_count t → limit ≤ places_of a → limit ≤ p + left → FirstBroken t a p limit q r
        → Violates t c budget (record { revision = c.revision; leg = a; place = q }) (budget - left + (q - p) + 1) r
    looking_broken limit q r h le used b = record {
      passed = budget - left + (q - p);
      went = record {
        revision = right.revision;
        steps = omega (arith, i.steps, i.within, b.first.above);
        held = held_on (cursor_rank c) a p q i.held b.first.before (omega (arith, b.first.inside));
      };
      steps = refl;
      place = record { leg = h; place = omega (arith, b.first.inside) };
      broken = b.first.bad;
      rule = b.rule;
      within = omega (arith, i.within, b.first.above, b.first.inside);
    }

    pub looking_paused : (limit : ℕ) → a < leg_count t → limit ≡ p + left → limit < places_of a → LegHolds t a p limit
        → Pauses t c budget (record { revision = c.revision; leg = a; place = limit }) budget
    looking_paused limit h e l b = record {
      went = record {
        revision = right.revision;
        steps = omega (arith, i.steps);
        held = held_on (cursor_rank c) a p limit i.held b (omega arith);
      };
      place = record { leg = h; place = l };
      used = refl;
    }

    pub looking_next : (step : ℕ) → a < leg_count t → p + step ≡ places_of a → step ≤ left → LegHolds t a p (p + step) → Looking t c budget (a + 1) 0 (left - step)
    looking_next step h e le b = record {
      stands =
          ⊎_elim
          (λ (k : a + 1 < leg_count t). inl (record { leg = k; place = omega arith }))
          (λ (k : leg_count t ≤ a + 1). inr (record { leg = omega arith; place = refl }))
          (lt_or_ge (a + 1) (leg_count t));
      within = omega (arith, i.within);
      steps = omega (arith, i.steps, next_leg a);
      held = let n = next_leg a in
          let h = held_on (cursor_rank c) a p (p + step) i.held b (omega arith) in
          λ b s j from below. h b s j from (omega arith);
    }

    pub looking_ended : leg_count t ≤ a → Ends t c budget (record { revision = c.revision; leg = a; place = 0 }) (budget - left)
    looking_ended h =
        let e = at_end i.stands h in
        let z = e.place in
        record {
          went = record {
            revision = right.revision;
            steps = omega (arith, i.steps, i.within);
            held = λ b s j from below. i.held b s j from (omega arith);
          };
          end = record { leg = e.leg; place = refl };
          within = omega arith;
        }

-- A turn of the loop over the legs: all that it knows, so that no proof needs anything from before the loop.
pub record Turn (t : List ℕ) (c : Cursor) (budget legs a p left : ℕ) : Type 0 where
  pub right : CursorRight t c
  pub legs_are : legs ≡ leg_count t
  pub leg : a ≤ leg_count t
  pub place : p ≤ places_of a
  pub looking : Looking t c budget a p left

turn_at : {t : List ℕ} {c : Cursor} {budget legs a p left : ℕ} → CursorRight t c → legs ≡ leg_count t → Looking t c budget a p left → Turn t c budget legs a p left
turn_at {t} {a = a} {p = p} right e i = record {
  right = right;
  legs_are = e;
  leg = no_leg_past i.stands;
  place = ⊎_elim (λ (h : IsPlace t a p). omega (arith, h.place)) (λ (h : IsEnd t a p). omega (arith, h.place)) i.stands;
  looking = i;
}

module _ {t : List ℕ} {c : Cursor} {budget legs a p left : ℕ} where
  pub turn_starts : CursorRight t c → legs ≡ leg_count t → a ≡ c.leg → p ≡ c.place → left ≡ budget → Turn t c budget legs a p left
  turn_starts right e f g h = turn_at right e (looking_start right _ _ _ _ f g h)

  module _ (i : Turn t c budget legs a p left) where
    pub turn_ends : legs ≤ a → Ends t c budget (record { revision = c.revision; leg = legs; place = 0 }) (budget - left)
    turn_ends h = let e : legs ≡ a = omega (arith, i.legs_are, i.leg) in rw e (looking_ended i.right i.looking (omega (arith, i.legs_are)))

    -- At leg a, once the places from p on and step further are told.
    module _ (below : a < legs) {end step : ℕ} (e : end ≡ places_of a) (l : step ≡ min left (end - p)) where
      pub turn_violates : {q : ℕ} {r : Rule} → FirstBroken t a p (p + step) q r
          → Violates t c budget (record { revision = c.revision; leg = a; place = q }) (budget - left + (q - p) + 1) r
      turn_violates {q} {r} b =
          looking_broken i.right i.looking (p + step) q r (omega (arith, i.legs_are)) (omega (arith, i.place)) (omega arith) b

      pub turn_pauses : LegHolds t a p (p + step) → p + step < end → Pauses t c budget (record { revision = c.revision; leg = a; place = p + step }) budget
      turn_pauses held h = looking_paused i.right i.looking (p + step) (omega (arith, i.legs_are)) (omega (arith, i.place)) (omega arith) held

      pub turn_goes_on : LegHolds t a p (p + step) → end ≤ p + step → Turn t c budget legs (a + 1) 0 (left - step)
      turn_goes_on held h =
          turn_at i.right i.legs_are
          (looking_next i.right i.looking step (omega (arith, i.legs_are)) (omega (arith, i.place)) (omega arith) held)

-- A cursor pulled back to a leg of the table is at the lesser of its place and the leg's first.
pub pulled_to_lesser : {t : List ℕ} {c d : Cursor} {rev leg : ℕ} → PlaceOrEnd t c.leg c.place → leg < leg_count t → PulledBack c rev leg d → AtTheLesser c leg d
pulled_to_lesser {t} {c} {d} {rev} {leg} s h b =
    ⊎_elim
    (λ (k : c.leg < leg).
    let e = b.here k in
    let m = ap places_below e.0 in
    let i = at_place s (omega arith) in
    record { one = inl e; given = omega (arith, e.1); to_leg = omega (arith, e.1, leg_below c.leg leg c.place k i.place) })
    (λ (k : leg ≤ c.leg).
    let e = b.there k in
    let m = ap places_below e.0 in
    record { one = inr e; given = omega (arith, e.1, below_mono leg c.leg k); to_leg = omega (arith, e.1) })
    (lt_or_ge c.leg leg)

-- What is neither a place nor the end.
pub not_standing : (t : List ℕ) (a p : ℕ) → (a < leg_count t → places_of a ≤ p) → (a ≡ leg_count t → 0 < p) → PlaceOrEnd t a p → ⊥
not_standing t a p f g s = ⊎_elim (λ (i : IsPlace t a p). omega (arith, i.place, f i.leg)) (λ (e : IsEnd t a p). omega (arith, e.place, g e.leg)) s
