-- The order of places: more legs have more places, and a place lies among those of its leg. Assumes nothing.
use Prim.Native.Nat.{ℕ, zero, suc, ◌+◌, ◌*◌, ◌-◌, ◌/◌, ◌≤◌, ◌<◌}
use mathlib.Core.Path.{◌≡◌, refl, ◌∙◌, sym, ap, subst}
use mathlib.Core.List.{List}
use mathlib.Core.Logic.{inl, inr, ⊎_elim}
use native.Mathlib.Nat.{add-zero, add-mul, mul-add, mul-sub, mul-one, eq-or-lt_of_le, mul-div_cancel_left}
use native.Mathlib.Numerals.{add-one}
use native.Mathlib.Omega.{arith}
use Rattle.basics.proofs.Splits.{lt_or_ge}
use Rattle.table.specs.Layout.{max_legs, leg_count}
use Rattle.rules.specs.Places.{own_places, pair_places, places_of, PlaceHolds}
use Rattle.places.specs.Order.{places_below, pairs_of, rank, Earlier, IsPlace, IsEnd, PlaceOrEnd, place_count, HoldFrom}
use Rattle.places.specs.Told.{LegHolds}
use Rattle.places.specs.Theorems.{CountOfPlaces, OrderIsByLeg, RankIsOne, EndIsLast, RanksCountPlaces}

pub below_none : places_below 0 ≡ 0
unfolding places_below
below_none = refl

pub below_more : (a : ℕ) → places_below (a + 1) ≡ places_below a + places_of a
unfolding places_below
below_more a = rw (add-one a)

below_up : (a n : ℕ) → places_below a ≤ places_below (a + n)
below_up a zero = omega (arith, ap places_below (add-zero a))
below_up a (suc n) =
    let e : a + suc n ≡ a + n + 1 = omega arith in
    omega (arith, below_up a n, below_more (a + n), ap places_below e)

pub below_mono : (a b : ℕ) → a ≤ b → places_below a ≤ places_below b
below_mono a b h = let e : a + (b - a) ≡ b = omega arith in omega (arith, below_up a (b - a), ap places_below e)

-- A leg below another has all its places before that one's.
pub leg_below : (a b p : ℕ) → a < b → p < places_of a → rank a p < places_below b
leg_below a b p l h = omega (arith, below_more a, below_mono (a + 1) b (omega arith))

-- The pairs of so many legs, counted leg by leg: each makes one with every leg below it.
pairs_below : ℕ → ℕ
pairs_below zero = 0
pairs_below (suc g) = pairs_below g + g

twice : (g : ℕ) → 2 * pairs_below g + g ≡ g * g
unfolding pairs_below
twice zero = refl
twice (suc g) =
    let e : suc g ≡ g + 1 = omega arith in
    let i = twice g in
    let x : (g + 1) * (g + 1) ≡ g * (g + 1) + 1 * (g + 1) = add-mul g 1 (g + 1) in
    let y : g * (g + 1) ≡ g * g + g * 1 = mul-add g g 1 in
    let z = mul-one g in
    omega arith

twice_pairs : (g : ℕ) → g * (g - 1) ≡ 2 * pairs_below g
twice_pairs g =
    let s : g * (g - 1) ≡ g * g - g * 1 = mul-sub g g 1 in
    let o = mul-one g in
    omega (arith, twice g)

pairs_are : (g : ℕ) → pairs_of g ≡ pairs_below g
pairs_are g = ap (λ (z : ℕ). z / 2) (twice_pairs g) ∙ mul-div_cancel_left (pairs_below g) (omega arith)

-- The places of the legs alone, and those of the pairs.
count_below : (g : ℕ) → places_below g ≡ own_places * g + pair_places * pairs_below g
unfolding places_below pairs_below
count_below zero = refl
count_below (suc g) = omega (arith, count_below g)

pub count_of_legs : (g : ℕ) → own_places * g + pair_places * pairs_of g ≡ places_below g
count_of_legs g = omega (arith, count_below g, pairs_are g)

-- The most places that a table has.
pub places_at_most : places_below max_legs ≡ own_places * max_legs + pair_places * pairs_of max_legs
places_at_most = sym (count_of_legs max_legs)

pub count_of_places : CountOfPlaces
count_of_places t = omega (arith, count_below (leg_count t), twice_pairs (leg_count t))

module _ {t : List ℕ} where
  pub end_rank : {a p : ℕ} → IsEnd t a p → rank a p ≡ place_count t
  end_rank e = omega (arith, ap places_below e.leg, e.place)

  pub place_rank : {a p : ℕ} → IsPlace t a p → rank a p < place_count t
  place_rank {a} {p} i = leg_below a (leg_count t) p i.leg i.place

  -- What stands at a leg below another comes before it.
  stands_before : (a p b q : ℕ) → PlaceOrEnd t a p → PlaceOrEnd t b q → a < b → rank a p < rank b q
  stands_before a p b q s u l =
      ⊎_elim
      (λ (i : IsPlace t a p). omega (arith, leg_below a b p l i.place))
      (λ (e : IsEnd t a p).
      ⊎_elim (λ (j : IsPlace t b q). absurd (omega (arith, e.leg, j.leg))) (λ (j : IsEnd t b q). absurd (omega (arith, e.leg, j.leg))) u)
      s

  pub rank_is_one : (a p b q : ℕ) → PlaceOrEnd t a p → PlaceOrEnd t b q → rank a p ≡ rank b q → (a ≡ b) × (p ≡ q)
  rank_is_one a p b q s u e =
      ⊎_elim
      (λ (l : a < b). absurd (omega (arith, stands_before a p b q s u l)))
      (λ (l : b ≤ a).
      ⊎_elim
      (λ (m : b ≡ a). let n = ap places_below m in (sym m, omega arith))
      (λ (m : b < a). absurd (omega (arith, stands_before b q a p u s m)))
      (eq-or-lt_of_le l))
      (lt_or_ge a b)

  pub order_is_by_leg : (a p b q : ℕ) → PlaceOrEnd t a p → PlaceOrEnd t b q → (rank a p < rank b q → Earlier a p b q) × (Earlier a p b q → rank a p < rank b q)
  order_is_by_leg a p b q s u = (
    λ h.
        ⊎_elim
        (λ (l : a < b). inl l)
        (λ (l : b ≤ a).
        ⊎_elim
        (λ (m : b ≡ a). let n = ap places_below m in inr (sym m, omega arith))
        (λ (m : b < a). absurd (omega (arith, stands_before b q a p u s m)))
        (eq-or-lt_of_le l))
        (lt_or_ge a b),
    λ h. ⊎_elim (λ (l : a < b). stands_before a p b q s u l) (λ (m : (a ≡ b) × (p < q)). omega (arith, ap places_below m.0, m.1)) h,
  )

  -- Where the places up to (a,p) hold, and those of leg a from p on and below q, the places up to (a,q) hold.
  pub held_on : (n a p q : ℕ) → HoldFrom t n (rank a p) → LegHolds t a p q → q ≤ places_of a → HoldFrom t n (rank a q)
  held_on n a p q h l le b s i from below =
      ⊎_elim
      (λ (k : rank b s < rank a p). h b s i from k)
      (λ (k : rank a p ≤ rank b s).
      ⊎_elim
      (λ (m : b < a). absurd (omega (arith, leg_below b a s m i.place)))
      (λ (m : a ≤ b).
      ⊎_elim
      (λ (e : a ≡ b). let n = ap places_below e in subst (λ (c : ℕ). PlaceHolds t c s) e (l s (omega arith) (omega arith)))
      (λ (g : a < b). absurd (omega (arith, below_more a, below_mono (a + 1) b (omega arith))))
      (eq-or-lt_of_le m))
      (lt_or_ge b a))
      (lt_or_ge (rank b s) (rank a p))

  pub held_none : (n : ℕ) → HoldFrom t n n
  held_none n b s i from below = absurd (omega arith)

pub next_leg : (a : ℕ) → rank a (places_of a) ≡ rank (a + 1) 0
next_leg a = omega (arith, below_more a)

pub rank_one : RankIsOne
rank_one t = rank_is_one

pub order_by_leg : OrderIsByLeg
order_by_leg t = order_is_by_leg

pub end_is_last : EndIsLast
end_is_last t a p = (end_rank, place_rank)

-- A number below the places of the legs below g is the rank of one of these places: the last such leg has it, or an earlier one.
record Ranked (g n : ℕ) : Type 0 where
  leg : ℕ
  place : ℕ
  below : leg < g
  inside : place < places_of leg
  ranked : rank leg place ≡ n

ranked_below : (g n : ℕ) → n < places_below g → Ranked g n
ranked_below zero n h = absurd (omega (arith, below_none))
ranked_below (suc g) n h =
    let more = below_more g in
    let next : suc g ≡ g + 1 = omega arith in
    let all = ap places_below next in
    ⊎_elim
    (λ (l : n < places_below g).
    let r = ranked_below g n l in
    record { leg = r.leg; place = r.place; below = omega (arith, r.below); inside = r.inside; ranked = r.ranked })
    (λ (l : places_below g ≤ n). record { leg = g; place = n - places_below g; below = omega arith; inside = omega arith; ranked = omega arith })
    (lt_or_ge n (places_below g))

pub ranks_count_places : RanksCountPlaces
ranks_count_places t n h =
    let r = ranked_below (leg_count t) n h in
    let here : IsPlace t r.leg r.place = record { leg = r.below; place = r.inside } in
    record {
      leg = r.leg;
      place = r.place;
      is_place = here;
      ranked = r.ranked;
      only = λ b q i e. rank_is_one {t = t} b q r.leg r.place (inl i) (inl here) (e ∙ sym r.ranked);
    }
