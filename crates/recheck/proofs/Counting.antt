-- How many places the list has: leg m has all its places in it, and each later leg one, and one more for the next hop and for the deadline. Assumes nothing.
use Prim.Native.Nat.{ℕ, zero, suc, ◌+◌, ◌-◌, ◌≤◌, ◌<◌}
use mathlib.Core.Path.{◌≡◌, refl, ◌∙◌, ap}
use mathlib.Core.Bool.{true}
use mathlib.Core.List.{List, [], ◌∷◌}
use mathlib.Core.Logic.{⊎_elim}
use lib.ListN.{length, length-append}
use native.Mathlib.Nat.{eq-or-lt_of_le}
use native.Mathlib.Omega.{arith}
use Rattle.basics.proofs.Splits.{lt_or_ge, eq_or_ne}
use Rattle.table.specs.Layout.{leg_count}
use Rattle.shape.specs.Legs.{end_of}
use Rattle.rules.specs.Places.{places_of, pair_place}
use Rattle.rules.specs.Steps.{LegIn}
use Rattle.recheck.specs.Listed.{can_read, place_at, listed}
use Rattle.recheck.specs.Steps.{listed_to}
use Rattle.recheck.proofs.Listing.{to_start, to_more, to_next}
use Rattle.recheck.proofs.Stepping.{own_read, none_before_own, next_hop, none_before_hop, no_hop, last_deadline, no_deadline, with_moved, none_before_pair, none_past_pair}

module _ (t : List ℕ) (m : ℕ) (l : LegIn t m) where
  count : ℕ → ℕ → ℕ
  count a p = length (listed_to t m a p)

  one_more : (a p : ℕ) → can_read t m a p ≡ true → count a (p + 1) ≡ count a p + 1
  unfolding count
  one_more a p r = omega (arith, ap length (to_more t m a p r), length-append (listed_to t m a p) (place_at a p ∷ []))

  own_places_is : (p : ℕ) → count m p ≡ p
  unfolding count
  own_places_is zero = omega (arith, ap length (none_before_own t m l))
  own_places_is (suc p) =
      let e : suc p ≡ p + 1 = omega arith in
      omega (arith, ap (count m) e, one_more m p (own_read t m p), own_places_is p)

  past_own : count (m + 1) 0 ≡ places_of m
  unfolding count
  past_own = ap length (to_next t m m) ∙ own_places_is (places_of m)

  -- A later leg.
  module _ (a : ℕ) (above : m < a) where
    hop_adds : a ≡ m + 1 → a < end_of t m → count a 2 ≡ count a 0 + 1
    unfolding count
    hop_adds e h = omega (arith, one_more a 1 (next_hop t m a e h), ap length (none_before_hop t m a above))

    hop_none : ((a ≡ m + 1) × (a < end_of t m) → ⊥) → count a 2 ≡ count a 0
    unfolding count
    hop_none n = ap length (no_hop t m a above n)

    deadline_adds : a + 1 ≡ end_of t m → count a 3 ≡ count a 2 + 1
    deadline_adds e = one_more a 2 (last_deadline t m a e)

    deadline_none : (a + 1 ≡ end_of t m → ⊥) → count a 3 ≡ count a 2
    unfolding count
    deadline_none n = ap length (no_deadline t m a above n)

    pair_adds : count (a + 1) 0 ≡ count a 3 + 1
    unfolding count
    pair_adds =
        omega (
          arith,
          ap length (to_next t m a),
          ap length (none_past_pair t m a above (pair_place m) refl),
          one_more a (pair_place m) (with_moved t m a (pair_place m) refl),
          ap length (none_before_pair t m a above (pair_place m) refl),
        )

  -- After the last leg of a stream nothing is added but the places with it.
  after_last : m + 1 ≡ end_of t m → (k : ℕ) → count (m + 1 + k) 0 ≡ m + 1 + k + 2
  after_last e zero = let z : m + 1 + 0 ≡ m + 1 = omega arith in omega (arith, ap (λ (a : ℕ). count a 0) z, past_own)
  after_last e (suc k) =
      let a : m + 1 + suc k ≡ m + 1 + k + 1 = omega arith in
      omega (
        arith,
        ap (λ (n : ℕ). count n 0) a,
        pair_adds (m + 1 + k) (omega arith),
        deadline_none (m + 1 + k) (omega arith) (λ h. omega arith),
        hop_none (m + 1 + k) (omega arith) (λ h. omega (arith, h.1)),
        after_last e k,
      )

  -- After another one the next hop is added, and then the deadline.
  record Tally (a n : ℕ) : Type 0 where
    next : a ≡ m + 1 → n ≡ a + 2
    inside : m + 1 < a → a < end_of t m → n ≡ a + 3
    past : end_of t m ≤ a → n ≡ a + 4

  module _ (e : m + 1 < end_of t m) where
    tally_first : Tally (m + 1) (count (m + 1) 0)
    tally_first = record { next = λ h. omega (arith, past_own); inside = λ h k. absurd (omega arith); past = λ h. absurd (omega arith) }

    hops : (a : ℕ) → m < a → Tally a (count a 0) → a < end_of t m → count a 2 ≡ a + 3
    hops a h y k =
        ⊎_elim
        (λ (q : a ≡ m + 1). omega (arith, hop_adds a h q k, y.next q))
        (λ (n : a ≡ m + 1 → ⊥). ⊎_elim
        (λ (q : m + 1 ≡ a). absurd (n (omega arith)))
        (λ (q : m + 1 < a). omega (arith, hop_none a h (λ x. n x.0), y.inside q k))
        (eq-or-lt_of_le (let g : m + 1 ≤ a = omega arith in g)))
        (eq_or_ne a (m + 1))

    tally_more : (a : ℕ) → m < a → Tally a (count a 0) → Tally (a + 1) (count (a + 1) 0)
    tally_more a h y = record {
      next = λ q. absurd (omega arith);
      inside = λ q k. omega (arith, pair_adds a h, deadline_none a h (λ z. omega arith), hops a h y (omega arith));
      past = λ q.
          ⊎_elim
          (λ (k : a < end_of t m). omega (arith, pair_adds a h, deadline_adds a h (omega arith), hops a h y k))
          (λ (k : end_of t m ≤ a). omega (arith, pair_adds a h, deadline_none a h (λ z. omega arith), hop_none a h (λ x. omega (arith, x.1)), y.past k))
          (lt_or_ge a (end_of t m));
    }

    tallied : (k : ℕ) → Tally (m + 1 + k) (count (m + 1 + k) 0)
    tallied zero = let z : m + 1 + 0 ≡ m + 1 = omega arith in rw z tally_first
    tallied (suc k) = let z : m + 1 + suc k ≡ m + 1 + k + 1 = omega arith in rw z (tally_more (m + 1 + k) (omega arith) (tallied k))

  whole : (n : ℕ) → count (leg_count t) 0 ≡ n → length (listed t m) ≡ n
  unfolding count
  whole n e = omega (arith, ap length (to_start t m (leg_count t)), e)

  pub last_leg_count : m + 1 ≡ end_of t m → length (listed t m) ≡ leg_count t + 2
  last_leg_count e =
      let z : m + 1 + (leg_count t - (m + 1)) ≡ leg_count t = omega (arith, l.leg) in
      whole (leg_count t + 2) (omega (arith, ap (λ (a : ℕ). count a 0) z, after_last e (leg_count t - (m + 1))))

  pub other_leg_count : m + 1 < end_of t m → length (listed t m) ≡ leg_count t + 4
  other_leg_count e =
      let z : m + 1 + (leg_count t - (m + 1)) ≡ leg_count t = omega (arith, l.leg) in
      let p = l.table.leg m l.leg in
      let i = (l.table.stream _ p.stream).in_table in
      whole (leg_count t + 4) (omega (arith, ap (λ (a : ℕ). count a 0) z, (tallied e (leg_count t - (m + 1))).past (omega arith)))

  -- So it has G + 2 places at the least, and G + 4 at the most.
  pub count_within : (leg_count t + 2 ≤ length (listed t m)) × (length (listed t m) ≤ leg_count t + 4)
  count_within =
      ⊎_elim
      (λ (h : m + 1 ≡ end_of t m). let e = last_leg_count h in (omega arith, omega arith))
      (λ (h : m + 1 < end_of t m). let e = other_leg_count h in (omega arith, omega arith))
      (eq-or-lt_of_le (let p = l.table.leg m l.leg in let h : m + 1 ≤ end_of t m = omega (arith, p.to_last) in h))
