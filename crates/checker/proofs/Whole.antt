-- A whole check: it begins before every place, and its budget does not end before they do. Assumes nothing.
use Prim.Native.Nat.{ℕ, ◌≤◌, ◌<◌}
use mathlib.Core.Path.{◌≡◌, refl, ap}
use mathlib.Core.List.{List}
use Rattle.std.specs.Prelude.{Ok}
use mathlib.Core.Logic.{inl, inr, ⊎_elim}
use native.Mathlib.Omega.{arith}
use Rattle.basics.specs.declared.Refusal.{Refusal}
use Rattle.basics.proofs.Splits.{lt_or_ge}
use Rattle.numbers.specs.Number.{max_word}
use Rattle.table.specs.Layout.{max_legs, leg_count}
use Rattle.shape.specs.Shape.{WellFormedTable}
use Rattle.rules.specs.Rules.{RulesHold}
use Rattle.rules.specs.Places.{PlaceHolds}
use Rattle.rules.proofs.Covering.{places_cover_the_rules}
use Rattle.rules.specs.declared.Rule.{Rule}
use Rattle.files.specs.declared.Cursor.{Cursor}
use Rattle.places.specs.Order.{places_below, place_count, IsPlace, HoldFrom}
use Rattle.places.proofs.Ranks.{below_none, below_mono, places_at_most, place_rank, end_rank}
use Rattle.checker.specs.Cursors.{cursor_rank, CursorRight}
use Rattle.checker.specs.Slices.{Starts, Slices}
use Rattle.checker.specs.declared.SliceAnswer.{SliceAnswer}
use Rattle.checker.specs.declared.SliceAnswer.TheVariants as answer
use Rattle.checker.proofs.OneAnswer.{right_no_fault}

-- A start's cursor is right, and no place comes before it.
pub start_right : {t : List ℕ} {c : Cursor} → Starts t (Ok c) → CursorRight t c
start_right {t} {c} s = record {
  shape = s.0;
  revision = ap (λ (d : Cursor). d.revision) s.1;
  stands =
      let a : c.leg ≡ 0 = ap (λ (d : Cursor). d.leg) s.1 in
      let p : c.place ≡ 0 = ap (λ (d : Cursor). d.place) s.1 in
      ⊎_elim
      (λ (h : 0 < leg_count t). inl (record { leg = omega arith; place = omega arith }))
      (λ (h : leg_count t ≤ 0). inr (record { leg = omega arith; place = p }))
      (lt_or_ge 0 (leg_count t));
}

pub start_rank : {t : List ℕ} {c : Cursor} → Starts t (Ok c) → cursor_rank c ≡ 0
start_rank s = omega (arith, ap (λ (d : Cursor). places_below d.leg) s.1, ap (λ (d : Cursor). d.place) s.1, below_none)

-- As many places as 2,048 legs have fit a word by far.
pub few_places : (t : List ℕ) → WellFormedTable t → place_count t ≤ max_word
few_places t w = omega (arith, below_mono (leg_count t) max_legs w.sized.limits.legs, places_at_most)

pub all_held : (t : List ℕ) → HoldFrom t 0 (place_count t) → RulesHold t
all_held t h = (places_cover_the_rules t).0 (λ a p l m. h a p (record { leg = l; place = m }) (omega arith) (place_rank {t = t} (record { leg = l; place = m })))

pub broken_rules : (t : List ℕ) (a p : ℕ) → IsPlace t a p → (PlaceHolds t a p → ⊥) → RulesHold t → ⊥
broken_rules t a p i broken h = broken ((places_cover_the_rules t).1 h a p i.leg i.place)

-- A slice from a start's cursor, whose budget no table's places pass.
module _ (t : List ℕ) (c : Cursor) (s : Starts t (Ok c)) where
  pub looked_through : (d : Cursor) (n budget : ℕ) → Slices t c budget (answer.NothingViolated d n) → RulesHold t
  looked_through d n budget e =
      all_held t (λ a p i from below. e.1.went.held a p i (omega (arith, start_rank s)) (omega (arith, end_rank e.1.end)))

  pub looked_broken : (d : Cursor) (n budget : ℕ) (r : Rule) → Slices t c budget (answer.Violated d n r) → RulesHold t → ⊥
  looked_broken d n budget r v = broken_rules t d.leg d.place v.1.place v.1.broken

  pub not_paused : (d : Cursor) (n budget : ℕ) → place_count t ≤ budget → Slices t c budget (answer.Paused d n) → ⊥
  not_paused d n budget enough q = omega (arith, start_rank s, q.1.went.steps, q.1.used, place_rank q.1.place)

  pub not_refused : (e : Refusal) (d : Cursor) (budget : ℕ) → Slices t c budget (answer.Refused e d) → ⊥
  not_refused e d budget q = right_no_fault (start_right s) q.0

  -- Any answer but "nothing violated" means that a rule is broken.
  pub looked_else : (budget : ℕ) (r : SliceAnswer) → place_count t ≤ budget → Slices t c budget r → ((d : Cursor) (n : ℕ) → r ≡ answer.NothingViolated d n → ⊥) → RulesHold t → ⊥
  looked_else budget (answer.Violated d n r) few v other h = looked_broken d n budget r v h
  looked_else budget (answer.NothingViolated d n) few v other h = other d n refl
  looked_else budget (answer.Paused d n) few v other h = not_paused d n budget few v
  looked_else budget (answer.Refused e d) few v other h = not_refused e d budget v
