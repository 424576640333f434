-- Which places the list has, and in which order. Assumes nothing.
use Prim.Native.Nat.{ℕ, zero, suc, ◌+◌, ◌≤◌, ◌<◌}
use mathlib.Core.Path.{◌≡◌, refl, ◌∙◌, sym, ap, subst}
use mathlib.Core.Bool.{Bool, true, false}
use mathlib.Core.List.{List, [], ◌∷◌, ◌++◌}
use mathlib.Core.Logic.{◌⊎◌, inl, inr, ⊎_elim}
use native.Mathlib.Nat.{eq-or-lt_of_le}
use native.Mathlib.Omega.{arith}
use Rattle.basics.specs.Pick.{pick}
use Rattle.rules.specs.Places.{places_of}
use Rattle.places.specs.Order.{Earlier}
use Rattle.recheck.specs.Listed.{can_read, place_at, listed_at, listed_below}
use Rattle.recheck.specs.Theorems.{In, InOrder}
use Rattle.recheck.specs.declared.Place.{Place}
use Rattle.recheck.proofs.Listing.{at_none, at_step, below_start, below_step}

-- A place in one list after another.
pub in_first : (q : Place) (l k : List Place) → In q l → In q (l ++ k)
in_first q [] k i = absurd i
in_first q (x ∷ l) k (inl e) = inl e
in_first q (x ∷ l) k (inr i) = inr (in_first q l k i)

in_second : (q : Place) (l k : List Place) → In q k → In q (l ++ k)
in_second q [] k i = i
in_second q (x ∷ l) k i = inr (in_second q l k i)

in_cases : (q : Place) (l k : List Place) → In q (l ++ k) → In q l ⊎ In q k
in_cases q [] k i = inr i
in_cases q (x ∷ l) k (inl e) = inl (inl e)
in_cases q (x ∷ l) k (inr i) = ⊎_elim (λ h. inl (inr h)) (λ h. inr h) (in_cases q l k i)

before : Place → Place → Type 0
before q r = Earlier q.leg q.place r.leg r.place

order_and : (l k : List Place) → InOrder l → InOrder k → ((q r : Place) → In q l → In r k → before q r) → InOrder (l ++ k)
unfolding before
order_and [] k i j h = j
order_and (x ∷ l) k i j h = (
  λ r n. ⊎_elim (λ (o : In r l). i.0 r o) (λ (o : In r k). h x r (inl refl) o) (in_cases r l k n),
  order_and l k i.1 j (λ q r o. h q r (inr o)),
)

picked : (b : Bool) (q r : Place) → In q (pick b (r ∷ []) []) → (q ≡ r) × (b ≡ true)
picked true q r (inl e) = (e, refl)
picked true q r (inr i) = absurd i
picked false q r i = absurd i

picked_order : (b : Bool) (r : Place) → InOrder (pick b (r ∷ []) [])
picked_order true r = (λ q i. absurd i, tt)
picked_order false r = tt

-- q is one of the first p places of leg a that are listed.
pub record ListedOf (t : List ℕ) (m a p : ℕ) (q : Place) : Type 0 where
  pub leg : q.leg ≡ a
  pub place : q.place < p
  pub reads : can_read t m a q.place ≡ true

-- q is a listed place of a leg below g.
pub record ListedBelow (t : List ℕ) (m g : ℕ) (q : Place) : Type 0 where
  pub leg : q.leg < g
  pub place : q.place < places_of q.leg
  pub reads : can_read t m q.leg q.place ≡ true

module _ (t : List ℕ) (m : ℕ) where
  in_at : (a p : ℕ) (q : Place) → In q (listed_at t m a p) → ListedOf t m a p q
  in_at a zero q i = absurd (subst (In q) (at_none t m a) i)
  in_at a (suc p) q i =
      let e : suc p ≡ p + 1 = omega arith in
      ⊎_elim
      (λ (h : In q (listed_at t m a p)). let o = in_at a p q h in record { leg = o.leg; place = omega (arith, o.place); reads = o.reads })
      (λ (h : In q (pick (can_read t m a p) (place_at a p ∷ []) [])).
      let o = picked (can_read t m a p) q (place_at a p) h in
      let f : q.place ≡ p = ap (λ (r : Place). r.place) o.0 in
      record { leg = ap (λ (r : Place). r.leg) o.0; place = omega arith; reads = ap (can_read t m a) f ∙ o.1 })
      (in_cases q (listed_at t m a p) (pick (can_read t m a p) (place_at a p ∷ []) []) (subst (In q) (ap (listed_at t m a) e ∙ at_step t m a p) i))

  at_in : (a p q : ℕ) → q < p → can_read t m a q ≡ true → In (place_at a q) (listed_at t m a p)
  at_in a zero q h r = absurd (omega arith)
  at_in a (suc p) q h r =
      let e : suc p ≡ p + 1 = omega arith in
      subst (In (place_at a q)) (sym (ap (listed_at t m a) e ∙ at_step t m a p))
      (⊎_elim
      (λ (k : q ≡ p).
      in_second (place_at a q) (listed_at t m a p) (pick (can_read t m a p) (place_at a p ∷ []) [])
      (subst (λ (b : Bool). In (place_at a q) (pick b (place_at a p ∷ []) [])) (sym (ap (can_read t m a) (sym k) ∙ r)) (inl (ap (place_at a) k))))
      (λ (k : q < p). in_first (place_at a q) (listed_at t m a p) (pick (can_read t m a p) (place_at a p ∷ []) []) (at_in a p q k r))
      (eq-or-lt_of_le (let l : q ≤ p = omega arith in l)))

  pub in_below : (g : ℕ) (q : Place) → In q (listed_below t m g) → ListedBelow t m g q
  in_below zero q i = absurd (subst (In q) (below_start t m) i)
  in_below (suc g) q i =
      let e : suc g ≡ g + 1 = omega arith in
      ⊎_elim
      (λ (h : In q (listed_below t m g)). let o = in_below g q h in record { leg = omega (arith, o.leg); place = o.place; reads = o.reads })
      (λ (h : In q (listed_at t m g (places_of g))).
      let o = in_at g (places_of g) q h in
      record { leg = omega (arith, o.leg); place = omega (arith, o.leg, o.place); reads = ap (λ (a : ℕ). can_read t m a q.place) o.leg ∙ o.reads })
      (in_cases q (listed_below t m g) (listed_at t m g (places_of g)) (subst (In q) (ap (listed_below t m) e ∙ below_step t m g) i))

  pub below_in : (g a p : ℕ) → a < g → p < places_of a → can_read t m a p ≡ true → In (place_at a p) (listed_below t m g)
  below_in zero a p h k r = absurd (omega arith)
  below_in (suc g) a p h k r =
      let e : suc g ≡ g + 1 = omega arith in
      subst (In (place_at a p)) (sym (ap (listed_below t m) e ∙ below_step t m g))
      (⊎_elim
      (λ (l : a ≡ g).
      in_second (place_at a p) (listed_below t m g) (listed_at t m g (places_of g))
      (subst (λ (b : ℕ). In (place_at a p) (listed_at t m b (places_of b))) l (at_in a (places_of a) p k r)))
      (λ (l : a < g). in_first (place_at a p) (listed_below t m g) (listed_at t m g (places_of g)) (below_in g a p l k r))
      (eq-or-lt_of_le (let l : a ≤ g = omega arith in l)))

  at_order : (a p : ℕ) → InOrder (listed_at t m a p)
  unfolding before
  at_order a zero = subst InOrder (sym (at_none t m a)) tt
  at_order a (suc p) =
      let e : suc p ≡ p + 1 = omega arith in
      subst InOrder (sym (ap (listed_at t m a) e ∙ at_step t m a p))
      (order_and (listed_at t m a p) (pick (can_read t m a p) (place_at a p ∷ []) []) (at_order a p) (picked_order (can_read t m a p) (place_at a p))
      (λ q r i j.
      let x = in_at a p q i in
      let y = (picked (can_read t m a p) r (place_at a p) j).0 in
      inr (x.leg ∙ sym (ap (λ (z : Place). z.leg) y), omega (arith, x.place, ap (λ (z : Place). z.place) y))))

  pub below_order : (g : ℕ) → InOrder (listed_below t m g)
  unfolding before
  below_order zero = subst InOrder (sym (below_start t m)) tt
  below_order (suc g) =
      let e : suc g ≡ g + 1 = omega arith in
      subst InOrder (sym (ap (listed_below t m) e ∙ below_step t m g))
      (order_and (listed_below t m g) (listed_at t m g (places_of g)) (below_order g) (at_order g (places_of g))
      (λ q r i j. inl (omega (arith, (in_below g q i).leg, (in_at g (places_of g) r j).leg))))
