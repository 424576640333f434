-- With the premise a recheck speaks for the whole table: a place that is not listed reads no leg that differs from what it was when the rules held. Assumes nothing.
use Prim.Native.Nat.{ℕ}
use mathlib.Core.Path.{◌≡◌, refl, ◌∙◌, sym, subst}
use mathlib.Core.Bool.{Bool, true, false, true≢false}
use mathlib.Core.List.{List, [], ◌∷◌}
use mathlib.Core.Logic.{◌⊎◌, inl, inr, ⊎_elim}
use native.Mathlib.Omega.{arith}
use Rattle.basics.proofs.Splits.{eq_or_ne}
use Rattle.table.specs.Layout.{leg_count}
use Rattle.table.specs.Records.{leg_at, moved, move_to}
use Rattle.table.proofs.Moved.{moved_legs, moved_other}
use Rattle.shape.proofs.Moved.{moved_same}
use Rattle.rules.specs.Places.{PlaceHolds}
use Rattle.rules.specs.Reads.{Reads}
use Rattle.rules.proofs.Covering.{places_cover_the_rules}
use Rattle.rules.proofs.Staying.{read_legs_decide, no_higher_leg_is_read}
use Rattle.places.specs.Order.{IsPlace}
use Rattle.recheck.specs.Listed.{can_read, place_at, listed}
use Rattle.recheck.specs.Premise.{WasAccepted}
use Rattle.recheck.specs.Rechecks.{CanRecheck, AllHold}
use Rattle.recheck.specs.Theorems.{In, RecheckSpeaksForAll}
use Rattle.recheck.specs.declared.Place.{Place}
use Rattle.recheck.proofs.Members.{in_below, below_in}
use Rattle.recheck.proofs.Readers.{readers_listed}

module _ (t : List ℕ) (m : ℕ) (c : CanRecheck t m) (was : WasAccepted t m) where
  abbrev u : List ℕ
  u = moved t (move_to m was.offset was.periods)

  legs_same : (a p b : ℕ) → IsPlace t a p → (In (place_at a p) (listed t m) → ⊥) → Reads t a p b → leg_at t b ≡ leg_at u b
  legs_same a p b i out r =
      ⊎_elim
      (λ (e : b ≡ m). absurd (out (readers_listed t m c a p i (subst (Reads t a p) e r))))
      (λ (n : b ≡ m → ⊥). sym (moved_other t c.shape.sized (move_to m was.offset was.periods) c.leg b (omega (arith, i.leg, no_higher_leg_is_read t a p b c.shape i.leg i.place r)) n))
      (eq_or_ne b m)

  others_hold : (a p : ℕ) → IsPlace t a p → (In (place_at a p) (listed t m) → ⊥) → PlaceHolds t a p
  others_hold a p i out =
      let g = moved_legs t c.shape.sized (move_to m was.offset was.periods) c.leg in
      (read_legs_decide t u a p c.shape (moved_same t c.shape (move_to m was.offset was.periods) c.leg was.at_most) i.leg i.place
      (λ b r. legs_same a p b i out r)).1
      ((places_cover_the_rules u).1 was.rules a p (omega (arith, i.leg)) i.place)

-- A place is listed, or it is not.
true_or_false : (b : Bool) → (b ≡ true) ⊎ (b ≡ false)
true_or_false true = inl refl
true_or_false false = inr refl

pub listed_or_not : (t : List ℕ) (m a p : ℕ) → IsPlace t a p → In (place_at a p) (listed t m) ⊎ (In (place_at a p) (listed t m) → ⊥)
listed_or_not t m a p i =
    ⊎_elim
    (λ (e : can_read t m a p ≡ true). inl (below_in t m (leg_count t) a p i.leg i.place e))
    (λ (e : can_read t m a p ≡ false). inr (λ o. true≢false (sym (in_below t m (leg_count t) (place_at a p) o).reads ∙ e)))
    (true_or_false (can_read t m a p))

pub held_in : (t : List ℕ) (l : List Place) (q : Place) → AllHold t l → In q l → PlaceHolds t q.leg q.place
held_in t [] q h i = absurd i
held_in t (x ∷ l) q h (inl e) = subst (λ (r : Place). PlaceHolds t r.leg r.place) (sym e) h.0
held_in t (x ∷ l) q h (inr i) = held_in t l q h.1 i

-- Where the places of the list up to one hold, so does every place that comes before it or is not listed.
pub recheck_speaks_for_all : RecheckSpeaksForAll
recheck_speaks_for_all = record {
  others = λ t m a p c was i out. others_hold t m c was a p i out;
  accepts = λ t m n was v. record {
    shape = v.0.shape;
    rules = (places_cover_the_rules t).0 (λ a p h l.
        let i : IsPlace t a p = record { leg = h; place = l } in
        ⊎_elim
        (λ (o : In (place_at a p) (listed t m)). held_in t (listed t m) (place_at a p) v.1 o)
        (λ (o : In (place_at a p) (listed t m) → ⊥). others_hold t m v.0 was a p i o)
        (listed_or_not t m a p i));
  };
}
