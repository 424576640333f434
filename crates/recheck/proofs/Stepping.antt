-- Which places of a leg are listed, from one to the next: of a leg below m none, of m all, of a later leg the next hop, the stream's deadline and those with m. Assumes nothing.
use Prim.Native.Nat.{ℕ, zero, suc, ◌+◌, ◌≤◌, ◌<◌}
use mathlib.Core.Path.{◌≡◌, refl, ◌∙◌, ap}
use mathlib.Core.Bool.{true}
use mathlib.Core.List.{List, []}
use mathlib.Core.Logic.{inl, inr}
use native.Mathlib.Omega.{arith}
use Rattle.shape.specs.Legs.{end_of}
use Rattle.rules.specs.Places.{own_places, places_of, pair_place}
use Rattle.rules.specs.Steps.{LegIn}
use Rattle.recheck.specs.Listed.{can_read, listed_below}
use Rattle.recheck.specs.Steps.{listed_to}
use Rattle.recheck.specs.Theorems.{Named}
use Rattle.recheck.proofs.Naming.{named_read, unnamed_unread}
use Rattle.recheck.proofs.Listing.{below_start, below_step, to_start, none_between}

module _ (t : List ℕ) (m : ℕ) where
  pub own_read : (p : ℕ) → can_read t m m p ≡ true
  own_read p = named_read t m m p (inl refl)

  -- Places of which the request names none.
  skipped : (a p q : ℕ) → p ≤ q → ((s : ℕ) → p ≤ s → s < q → Named t m a s → ⊥) → listed_to t m a q ≡ listed_to t m a p
  skipped a p q h none = none_between t m a p q h (λ s from below. unnamed_unread t m a s (none s from below))

  -- A leg below m.
  below_unnamed : LegIn t m → (a s : ℕ) → a < m → s < places_of a → Named t m a s → ⊥
  below_unnamed l a s h i (inl e) = omega arith
  below_unnamed l a s h i (inr (inl e)) = omega (arith, e)
  below_unnamed l a s h i (inr (inr (inl (e, f)))) = omega (arith, f.0)
  below_unnamed l a s h i (inr (inr (inr (e, f)))) = omega (arith, f, (l.table.leg m l.leg).to_last)

  none_below : LegIn t m → (a : ℕ) → a ≤ m → listed_below t m a ≡ []
  none_below l zero h = below_start t m
  none_below l (suc a) h =
      let e : suc a ≡ a + 1 = omega arith in
      ap (listed_below t m) e
      ∙ below_step t m a
      ∙ skipped a 0 (places_of a) (omega arith) (λ s from below. below_unnamed l a s (omega arith) below)
      ∙ to_start t m a
      ∙ none_below l a (omega arith)

  pub none_before_own : LegIn t m → listed_to t m m 0 ≡ []
  none_before_own l = to_start t m m ∙ none_below l m (omega arith)

  module _ (a : ℕ) where
    pub next_hop : a ≡ m + 1 → a < end_of t m → can_read t m a 1 ≡ true
    next_hop e h = named_read t m a 1 (inr (inr (inl (refl, (e, h)))))

    pub last_deadline : a + 1 ≡ end_of t m → can_read t m a 2 ≡ true
    last_deadline e = named_read t m a 2 (inr (inr (inr (refl, e))))

    pub with_moved : (p : ℕ) → p ≡ pair_place m → can_read t m a p ≡ true
    with_moved p e = named_read t m a p (inr (inl e))

    module _ (above : m < a) where
      -- Up to place q: the hop and the deadline, where it reaches them, are none of those that are named.
      first_places : (q : ℕ) → q ≤ own_places → (1 < q → (a ≡ m + 1) × (a < end_of t m) → ⊥) → (2 < q → a + 1 ≡ end_of t m → ⊥) → (p s : ℕ) → p ≤ s → s < q → Named t m a s → ⊥
      first_places q h hop deadline p s from below (inl e) = omega arith
      first_places q h hop deadline p s from below (inr (inl e)) = omega (arith, e)
      first_places q h hop deadline p s from below (inr (inr (inl (e, x)))) = hop (omega (arith, e)) x
      first_places q h hop deadline p s from below (inr (inr (inr (e, x)))) = deadline (omega (arith, e)) x

      pub none_before_hop : listed_to t m a 1 ≡ listed_to t m a 0
      none_before_hop = skipped a 0 1 (omega arith) (first_places 1 (omega arith) (λ i. absurd (omega (arith, i))) (λ i. absurd (omega (arith, i))) 0)

      pub no_hop : ((a ≡ m + 1) × (a < end_of t m) → ⊥) → listed_to t m a 2 ≡ listed_to t m a 0
      no_hop n = skipped a 0 2 (omega arith) (first_places 2 (omega arith) (λ i. n) (λ i. absurd (omega (arith, i))) 0)

      not_the_hop : (s : ℕ) → 2 ≤ s → s < own_places → (a + 1 ≡ end_of t m → ⊥) → Named t m a s → ⊥
      not_the_hop s from below n (inl e) = omega arith
      not_the_hop s from below n (inr (inl e)) = omega (arith, e)
      not_the_hop s from below n (inr (inr (inl (e, x)))) = omega (arith, e)
      not_the_hop s from below n (inr (inr (inr (e, x)))) = n x

      pub no_deadline : (a + 1 ≡ end_of t m → ⊥) → listed_to t m a own_places ≡ listed_to t m a 2
      no_deadline n = skipped a 2 own_places (omega arith) (λ s from below. not_the_hop s from below n)

      -- Of the places with other legs only the one with m.
      other_pair : (s : ℕ) → own_places ≤ s → (s ≡ pair_place m → ⊥) → Named t m a s → ⊥
      other_pair s from other (inl e) = omega arith
      other_pair s from other (inr (inl e)) = other e
      other_pair s from other (inr (inr (inl (e, x)))) = omega (arith, e)
      other_pair s from other (inr (inr (inr (e, x)))) = omega (arith, e)

      pub none_before_pair : (p : ℕ) → p ≡ pair_place m → listed_to t m a p ≡ listed_to t m a own_places
      none_before_pair p e = skipped a own_places p (omega arith) (λ s from below. other_pair s from (λ h. omega (arith, h)))

      pub none_past_pair : (p : ℕ) → p ≡ pair_place m → listed_to t m a (places_of a) ≡ listed_to t m a (p + 1)
      none_past_pair p e = skipped a (p + 1) (places_of a) (omega arith) (λ s from below. other_pair s (omega arith) (λ h. omega (arith, h)))
