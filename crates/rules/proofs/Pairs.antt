-- What is asked of a leg with one leg below it, and the places where it stands. Assumes nothing.
use Rattle.std.specs.Prelude.{ℕ, ◌-◌, ◌/◌, ◌≡◌, List, Bool, IsTrue, ◌↔◌}
use mathlib.Core.Path.{subst}
use Rattle.shape.proofs.Tests.{told_as}
use native.Mathlib.Omega.{arith}
use Rattle.basics.specs.Lowest.{AllFrom}
use Rattle.table.specs.Records.{leg_at}
use Rattle.overlap.specs.Meeting.{NeverMeet}
use Rattle.rules.specs.Rules.{Overlap}
use Rattle.rules.specs.Places.{own_places, pair_places, pair_place, PlaceHolds, PairHolds}
use Rattle.rules.specs.Steps.{SharerOf}
use Rattle.rules.specs.declared.Asked.TheVariants as asked
use Rattle.rules.specs.declared.Sharer.{Sharer}
use Rattle.rules.proofs.Asking.{with_leg}
use Rattle.rules.proofs.Judging.{other_links, same_link}
use Rattle.rules.proofs.Placing.{place_holds, asked_holds}

-- With one leg an overlap is asked, and no more.
pair_kept : (t : List ℕ) (a b : ℕ) → Overlap t a b → PairHolds t a b
unfolding PairHolds
pair_kept t a b o p from to = subst (PlaceHolds t a) (let e : pair_place b ≡ p = omega arith in e) (place_holds t a (asked.Overlap b) o)

overlap_kept : (t : List ℕ) (a b : ℕ) → PairHolds t a b → Overlap t a b
unfolding PairHolds
overlap_kept t a b h = asked_holds t a (asked.Overlap b) (h (pair_place b) (omega arith) (omega arith))

-- So nothing is broken with a leg of another link.
pub other_pairs : (t : List ℕ) (a b : ℕ) → ((leg_at t b).link ≡ (leg_at t a).link → ⊥) → PairHolds t a b
other_pairs t a b n = pair_kept t a b (other_links t a b n)

-- And with a leg of the same link it is told by the two slots.
module _ {t : List ℕ} {a b : ℕ} {mine other : Sharer} (is : SharerOf t a mine) (so : SharerOf t b other) (e : (leg_at t a).link ≡ (leg_at t b).link) where
  pub slots_tell_pair : {r : Bool} → (IsTrue r ↔ NeverMeet mine.slot other.slot) → IsTrue r ↔ PairHolds t a b
  slots_tell_pair h =
      let says = same_link t a b _ _ is.slot so.slot e in
      told_as (λ n. pair_kept t a b (says.0 n)) (λ p. says.1 (overlap_kept t a b p)) h

-- The places with legs from n on and below m are those from the first with n on and below the first with m.
pub pairs_hold : (t : List ℕ) (a n m : ℕ) → AllFrom (PairHolds t a) n m → AllFrom (PlaceHolds t a) (pair_place n) (pair_place m)
unfolding PairHolds
pairs_hold t a n m h p from to =
    let w = with_leg p (omega arith) in
    h ((p - own_places) / pair_places) (omega (arith, w.to)) (omega (arith, w.from)) p w.from w.to
