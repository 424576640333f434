-- The list of places at which a leg can be read, place by place and leg by leg. Assumes nothing.
use Prim.Native.Nat.{ℕ, zero, suc, ◌+◌, ◌-◌, ◌≤◌, ◌<◌}
use mathlib.Core.Path.{◌≡◌, refl, ◌∙◌, sym, ap}
use mathlib.Core.Bool.{Bool, true, false}
use mathlib.Core.List.{List, [], ◌∷◌, ◌++◌, append-nil, append_assoc}
use lib.ListN.{length, length-append}
use native.Mathlib.Nat.{add-zero}
use native.Mathlib.Numerals.{add-one}
use native.Mathlib.Omega.{arith}
use Rattle.basics.specs.Pick.{pick}
use Rattle.rules.specs.Places.{places_of}
use Rattle.places.specs.Order.{places_below}
use Rattle.places.proofs.Ranks.{below_more}
use Rattle.recheck.specs.Listed.{can_read, place_at, listed_at, listed_below}
use Rattle.recheck.specs.Steps.{listed_to}
use Rattle.recheck.specs.declared.Place.{Place}

module _ (t : List ℕ) (m : ℕ) where
  -- Place by place.
  pub at_none : (a : ℕ) → listed_at t m a 0 ≡ []
  unfolding listed_at
  at_none a = refl

  pub at_step : (a p : ℕ) → listed_at t m a (p + 1) ≡ listed_at t m a p ++ pick (can_read t m a p) (place_at a p ∷ []) []
  unfolding listed_at
  at_step a p = rw (add-one p)

  at_with : (a p : ℕ) (b : Bool) → can_read t m a p ≡ b → listed_at t m a (p + 1) ≡ listed_at t m a p ++ pick b (place_at a p ∷ []) []
  at_with a p b e = at_step a p ∙ ap (λ (c : Bool). listed_at t m a p ++ pick c (place_at a p ∷ []) []) e

  pub below_start : listed_below t m 0 ≡ []
  unfolding listed_below
  below_start = refl

  pub below_step : (a : ℕ) → listed_below t m (a + 1) ≡ listed_below t m a ++ listed_at t m a (places_of a)
  unfolding listed_below
  below_step a = rw (add-one a)

  pub to_start : (a : ℕ) → listed_to t m a 0 ≡ listed_below t m a
  to_start a = ap (λ (l : List Place). listed_below t m a ++ l) (at_none a) ∙ append-nil (listed_below t m a)

  pub to_more : (a p : ℕ) → can_read t m a p ≡ true → listed_to t m a (p + 1) ≡ listed_to t m a p ++ (place_at a p ∷ [])
  to_more a p e =
      ap (λ (l : List Place). listed_below t m a ++ l) (at_with a p true e) ∙ sym (append_assoc (listed_below t m a) (listed_at t m a p) (place_at a p ∷ []))

  pub to_same : (a p : ℕ) → can_read t m a p ≡ false → listed_to t m a (p + 1) ≡ listed_to t m a p
  to_same a p e = ap (λ (l : List Place). listed_below t m a ++ l) (at_with a p false e ∙ append-nil (listed_at t m a p))

  pub to_next : (a : ℕ) → listed_to t m (a + 1) 0 ≡ listed_to t m a (places_of a)
  to_next a = to_start (a + 1) ∙ below_step a

  -- One place more or none.
  one_more : (b : Bool) (q : Place) → length (pick b (q ∷ []) []) ≤ 1
  one_more true q = omega arith
  one_more false q = omega arith

  at_short : (a p : ℕ) → length (listed_at t m a p) ≤ p
  at_short a zero = omega (arith, ap length (at_none a))
  at_short a (suc p) =
      let e : suc p ≡ p + 1 = omega arith in
      omega (
        arith,
        ap (λ (n : ℕ). length (listed_at t m a n)) e,
        ap length (at_step a p),
        length-append (listed_at t m a p) (pick (can_read t m a p) (place_at a p ∷ []) []),
        one_more (can_read t m a p) (place_at a p),
        at_short a p,
      )

  below_short : (a : ℕ) → length (listed_below t m a) ≤ places_below a
  below_short zero = omega (arith, ap length below_start)
  below_short (suc a) =
      let e : suc a ≡ a + 1 = omega arith in
      omega (
        arith,
        ap (λ (n : ℕ). length (listed_below t m n)) e,
        ap places_below e,
        below_more a,
        ap length (below_step a),
        length-append (listed_below t m a) (listed_at t m a (places_of a)),
        at_short a (places_of a),
        below_short a,
      )

  -- It has no more places than there are.
  pub to_short : (a p : ℕ) → length (listed_to t m a p) ≤ places_below a + p
  to_short a p = omega (arith, length-append (listed_below t m a) (listed_at t m a p), below_short a, at_short a p)

  -- Places that are not listed.
  pub none_listed : (a p k : ℕ) → ((q : ℕ) → p ≤ q → q < p + k → can_read t m a q ≡ false) → listed_to t m a (p + k) ≡ listed_to t m a p
  none_listed a p zero n = ap (listed_to t m a) (add-zero p)
  none_listed a p (suc k) n =
      let e : p + suc k ≡ p + k + 1 = omega arith in
      ap (listed_to t m a) e
      ∙ to_same a (p + k) (n (p + k) (omega arith) (omega arith))
      ∙ none_listed a p k (λ q from below. n q from (omega arith))

  pub none_between : (a p q : ℕ) → p ≤ q → ((s : ℕ) → p ≤ s → s < q → can_read t m a s ≡ false) → listed_to t m a q ≡ listed_to t m a p
  none_between a p q h n =
      let e : p + (q - p) ≡ q = omega arith in
      sym (ap (listed_to t m a) e) ∙ none_listed a p (q - p) (λ s from below. n s from (omega (arith, e)))

  -- What is listed up to a place is the beginning of what is listed up to a later one.
  pub record Begins (first whole : List Place) : Type 0 where
    pub rest : List Place
    pub is : whole ≡ first ++ rest

  same_begins : (l k : List Place) → k ≡ l → Begins l k
  same_begins l k e = record { rest = []; is = e ∙ sym (append-nil l) }

  begins_on : (l k j : List Place) → Begins l k → Begins k j → Begins l j
  begins_on l k j b c = record {
    rest = b.rest ++ c.rest;
    is = c.is ∙ ap (λ (z : List Place). z ++ c.rest) b.is ∙ append_assoc l b.rest c.rest;
  }

  below_begins : (a n : ℕ) → Begins (listed_below t m a) (listed_below t m (a + n))
  below_begins a zero = same_begins (listed_below t m a) (listed_below t m (a + 0)) (ap (listed_below t m) (add-zero a))
  below_begins a (suc n) =
      let e : a + suc n ≡ a + n + 1 = omega arith in
      begins_on (listed_below t m a) (listed_below t m (a + n)) (listed_below t m (a + suc n)) (below_begins a n)
      (record { rest = listed_at t m (a + n) (places_of (a + n)); is = ap (listed_below t m) e ∙ below_step (a + n) })

  at_begins : (a p n : ℕ) → Begins (listed_to t m a p) (listed_to t m a (p + n))
  at_begins a p zero = same_begins (listed_to t m a p) (listed_to t m a (p + 0)) (ap (listed_to t m a) (add-zero p))
  at_begins a p (suc n) =
      let e : p + suc n ≡ p + n + 1 = omega arith in
      begins_on (listed_to t m a p) (listed_to t m a (p + n)) (listed_to t m a (p + suc n)) (at_begins a p n)
      (record {
        rest = pick (can_read t m a (p + n)) (place_at a (p + n) ∷ []) [];
        is =
            ap (listed_to t m a) e
            ∙ ap (λ (l : List Place). listed_below t m a ++ l) (at_step a (p + n))
            ∙ sym (append_assoc (listed_below t m a) (listed_at t m a (p + n)) (pick (can_read t m a (p + n)) (place_at a (p + n) ∷ []) []));
      })

  pub to_begins : (a p g : ℕ) → p ≤ places_of a → a < g → Begins (listed_to t m a p) (listed_below t m g)
  to_begins a p g h l =
      let e : p + (places_of a - p) ≡ places_of a = omega arith in
      let d : a + 1 + (g - (a + 1)) ≡ g = omega arith in
      let x = at_begins a p (places_of a - p) in
      let y = below_begins (a + 1) (g - (a + 1)) in
      begins_on (listed_to t m a p) (listed_below t m (a + 1)) (listed_below t m g)
      (record { rest = x.rest; is = below_step a ∙ sym (ap (listed_to t m a) e) ∙ x.is })
      (record { rest = y.rest; is = sym (ap (listed_below t m) d) ∙ y.is })
