-- The places of a leg and what is asked there: the one list read both ways. Assumes nothing.
use Prim.Native.Nat.{ℕ, zero, suc, ◌-◌, ◌/◌, ◌≤◌, ◌<◌}
use mathlib.Core.Path.{◌≡◌, refl, ap}
use native.Mathlib.Omega.{arith}
use Rattle.rules.specs.Places.{asked_at, own_places, pair_places, places_of, pair_place, place_of, AskedOf}
use Rattle.rules.specs.Steps.{PlaceWith}
use Rattle.rules.specs.Theorems.{PlacesAreAsked}
use Rattle.rules.specs.declared.Asked.{Asked}
use Rattle.rules.specs.declared.Asked.TheVariants as asked

asked_at_place : (a p : ℕ) → p < places_of a → AskedOf a (asked_at p)
unfolding asked_at
asked_at_place a zero h = tt
asked_at_place a (suc zero) h = tt
asked_at_place a (suc (suc zero)) h = tt
asked_at_place a (suc (suc (suc b))) h = omega arith

placed : (a : ℕ) (q : Asked) → AskedOf a q → place_of q < places_of a
placed a asked.Window h = omega arith
placed a asked.Hop h = omega arith
placed a asked.Deadline h = omega arith
placed a (asked.Overlap b) h = omega arith

there : (q : Asked) → asked_at (place_of q) ≡ q
unfolding asked_at
there asked.Window = refl
there asked.Hop = refl
there asked.Deadline = refl
there (asked.Overlap b) = let e : pair_place b ≡ suc (suc (suc b)) = omega arith in ap asked_at e

back : (p : ℕ) → place_of (asked_at p) ≡ p
unfolding asked_at
back zero = refl
back (suc zero) = refl
back (suc (suc zero)) = refl
back (suc (suc (suc b))) = omega arith

pub places_are_asked : PlacesAreAsked
places_are_asked = record { asked = asked_at_place; placed = placed; there = there; back = back }

-- After the places of the leg alone come those with the legs below it.
pub past_own : (p : ℕ) → own_places ≤ p → asked.Overlap (p - own_places) ≡ asked_at p
unfolding asked_at
past_own zero h = absurd (omega arith)
past_own (suc zero) h = absurd (omega arith)
past_own (suc (suc zero)) h = absurd (omega arith)
past_own (suc (suc (suc b))) h = ap asked.Overlap (let e : suc (suc (suc b)) - own_places ≡ b = omega arith in e)

pub with_leg : (p : ℕ) → own_places ≤ p → PlaceWith p ((p - own_places) / pair_places)
with_leg p h = record { from = omega arith; to = omega arith }
