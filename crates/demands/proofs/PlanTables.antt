-- Plan A with other offsets and another revision: the rules' laws say which of its places hold, and from that follows what a slice and a move of it give.
-- Assumes nothing.
use Rattle.std.specs.Prelude.{Ok}
use Prim.Native.Nat.{ℕ, zero, suc, ◌+◌, ◌≤◌, ◌<◌}
use mathlib.Core.Path.{◌≡◌, refl, sym, ap, subst}
use mathlib.Core.List.{List}
use mathlib.Core.Logic.{◌⊎◌, inl, inr}
use native.Mathlib.Omega.{arith}
use Rattle.numbers.specs.Number.{max_word}
use Rattle.table.specs.Records.{moved, move_to}
use Rattle.table.specs.PlanA.{plan_with, revised_a, hold_a}
use Rattle.shape.specs.Shape.{WellFormedTable}
use Rattle.shape.proofs.AtNumbers.{plan_a_in_range, plans_are_well_formed}
use Rattle.files.specs.declared.Cursor.{Cursor}
use Rattle.rules.specs.Places.{places_of, rule_at, PlaceHolds}
use Rattle.rules.specs.declared.Rule.{Rule}
use Rattle.rules.proofs.CasePlaces.{before_meeting, all_hold, places_0_at_600, place_1_0_at_600}
use Rattle.places.specs.Order.{places_below, rank, PlaceOrEnd, HoldFrom}
use Rattle.places.proofs.Ranks.{below_none, below_more, below_mono, held_none}
use Rattle.checker.specs.Cursors.{CursorRight}
use Rattle.checker.specs.Slices.{Went, Slices}
use Rattle.checker.specs.Moves.{Moves}
use Rattle.checker.specs.declared.SliceAnswer.{SliceAnswer}
use Rattle.checker.specs.declared.SliceAnswer.TheVariants.{Violated, NothingViolated, Paused}
use Rattle.demands.specs.AtNumbers.{at}

abbrev pub plan_table : ℕ → ℕ → ℕ → ℕ → List ℕ
plan_table revision o0 o1 o2 = plan_with (revised_a revision o0 o1 o2)

-- The legs below each have 0, 3, 7 and 12 places.
pub ranks : (places_below 0 ≡ 0) × (places_below 1 ≡ 3) × (places_below 2 ≡ 7) × (places_below 3 ≡ 12)
ranks =
    let z = below_none in
    let a : places_below 1 ≡ places_below 0 + places_of 0 = below_more 0 in
    let b : places_below 2 ≡ places_below 1 + places_of 1 = below_more 1 in
    let c : places_below 3 ≡ places_below 2 + places_of 2 = below_more 2 in
    (z, omega arith, omega arith, omega arith)

module _ (revision o0 o1 o2 : ℕ) where
  abbrev t : List ℕ
  t = plan_table revision o0 o1 o2

  pub shape : WellFormedTable t
  shape = plans_are_well_formed _ (plan_a_in_range revision o0 o1 o2)

  -- A cursor of it, and a granted move.
  pub here : (a p : ℕ) → a < 3 → p < places_of a → PlaceOrEnd t a p
  here a p l h = inl (record { leg = l; place = h })

  pub right : (a p : ℕ) → PlaceOrEnd t a p → CursorRight t (at revision a p)
  right a p s = record { shape = shape; revision = refl; stands = s }

  pub granted : (a p : ℕ) → PlaceOrEnd t a p → (leg offset : ℕ) → leg < 3 → revision < max_word → (b q : ℕ) → ((b ≡ a) × (q ≡ p)) ⊎ ((b ≡ leg) × (q ≡ 0))
      → rank b q ≤ rank a p → rank b q ≤ rank leg 0 → Moves t (at revision a p) (move_to leg offset 0) (Ok (at (revision + 1) b q)) (moved t (move_to leg offset 0))
  granted a p s leg offset l rises b q one given to_leg = record {
    allowed = record { cursor = right a p s; can = record { below = l; rises = rises; periods = omega arith } };
    table = refl;
    revision = refl;
    lesser = record { one = one; given = given; to_leg = to_leg };
  }

  -- A slice from the end, whatever holds before it.
  pub stays_at_end : Slices t (at revision 3 0) 0 (NothingViolated (at revision 3 0) 0)
  stays_at_end = (
    right 3 0 (inr (record { leg = refl; place = refl })),
    record {
      went = record { revision = refl; steps = omega arith; held = held_none {t = t} (rank 3 0) };
      end = record { leg = refl; place = refl };
      within = omega arith;
    },
  )

  -- A slice where the first m places hold.
  module _ (m : ℕ) (held : HoldFrom t 0 m) where
    went : (a p b q n : ℕ) → rank a p + n ≡ rank b q → rank b q ≤ m → Went t (at revision a p) (at revision b q) n
    went a p b q n e le = record { revision = refl; steps = e; held = λ c r i from below. held c r i (omega arith) (omega (arith, below, le)) }

    pub pause : (a p b q n : ℕ) → PlaceOrEnd t a p → b < 3 → q < places_of b → rank a p + n ≡ rank b q → rank b q ≤ m
        → Slices t (at revision a p) n (Paused (at revision b q) n)
    pause a p b q n s l h e le = (right a p s, record { went = went a p b q n e le; place = record { leg = l; place = h }; used = refl })

    pub end : (a p n : ℕ) → PlaceOrEnd t a p → rank a p + n ≡ rank 3 0 → rank 3 0 ≤ m → Slices t (at revision a p) n (NothingViolated (at revision 3 0) n)
    end a p n s e le = (right a p s, record { went = went a p 3 0 n e le; end = record { leg = refl; place = refl }; within = omega arith })

    pub violate : (a p b q n budget : ℕ) (r : Rule) → PlaceOrEnd t a p → b < 3 → q < places_of b → (PlaceHolds t b q → ⊥) → r ≡ rule_at q
        → rank a p + n ≡ rank b q → rank b q ≤ m → n + 1 ≤ budget → Slices t (at revision a p) budget (Violated (at revision b q) (n + 1) r)
    violate a p b q n budget r s l h broken rule e le within = (
      right a p s,
      record {
        passed = n;
        went = went a p b q n e le;
        steps = refl;
        place = record { leg = l; place = h };
        broken = broken;
        rule = rule;
        within = within;
      },
    )

-- What a slice gives of a table it gives of an equal one, as a moved one is.
pub on : {t u : List ℕ} (c : Cursor) (b : ℕ) (r : SliceAnswer) → t ≡ u → Slices u c b r → Slices t c b r
on c b r e s = subst (λ (v : List ℕ). Slices v c b r) (sym e) s

-- Where leg 2 begins when leg 0 ends all places hold, wherever it is below 100,000 those before (2,3), and with leg 0 at 600 the four before (1,1).
pub accepted : (revision : ℕ) → HoldFrom (plan_table revision 0 1176 hold_a) 0 (rank 3 0)
accepted revision a p i from below = all_hold revision a p i.leg i.place

pub before_2_3 : (revision o2 : ℕ) → o2 ≤ 100000 → HoldFrom (plan_table revision 0 1176 o2) 0 (rank 2 3)
before_2_3 revision o2 w a p i from below = before_meeting revision o2 w a p i.leg i.place (λ e. omega (arith, ap places_below e, below, ranks))

pub before_1_1 : (revision : ℕ) → HoldFrom (plan_table revision 600 1176 0) 0 4
before_1_1 revision zero p i from below = places_0_at_600 revision p i.place
before_1_1 revision (suc zero) zero i from below = place_1_0_at_600 revision
before_1_1 revision (suc zero) (suc p) i from below = absurd (omega (arith, below, ranks))
before_1_1 revision (suc (suc a)) p i from below = absurd (omega (arith, below, below_mono 2 (suc (suc a)) (omega arith), ranks.2))
