-- The networks at numbers, by computing, and the longest ring and line by induction. Assumes nothing.
use Prim.Native.Nat.{ℕ, zero, suc, ◌+◌, ◌*◌, ◌≤◌, ◌<◌}
use mathlib.Core.Path.{◌≡◌, refl, sym, ap, ◌∙◌}
use mathlib.Core.Bool.{Bool, true, false}
use mathlib.Core.List.{[], ◌∷◌}
use mathlib.Core.Logic.{inl, inr}
use native.Mathlib.Omega.{arith}
use native.Mathlib.Numerals.{add-one}
use lib.Dec.{eqb}
use lib.IntN.{ℤ, pos, ◌+ℤ◌, ◌-ℤ◌}
use lib.Signed.{◌≤ℤ◌, ◌<ℤ◌, le_z_yes, lt_z_yes}
use borrow.Author.Tests.{ne_eqb}
use Rattle.basics.specs.Pick.{pick}
use Rattle.signed.proofs.Parts as parts
use Rattle.signed.proofs.Parts.{le, lt, to_le, up_neg, down_neg}
use Rattle.network.specs.Network.{Network, Times, Keeps, NoneAbove, Latest, total, Chain}
use Rattle.network.specs.Constraints.{times_of, numbers_of, network_of, IsEvent, InRange}
use Rattle.network.specs.AtNumbers.{minus, three_events, one_constraint, to_and_fro, ring, line, NetworksAtNumbers, RangesAtNumbers}
use Rattle.network.proofs.Refuting.{kept}

-- What holds below one, two and three, case by case.
below_1 : (P : ℕ → Type 0) → P 0 → (k : ℕ) → k < 1 → P k
below_1 P a zero z = a
below_1 P a (suc k) z = absurd (omega arith)

below_2 : (P : ℕ → Type 0) → P 0 → P 1 → (k : ℕ) → k < 2 → P k
below_2 P a b zero z = a
below_2 P a b (suc k) z = below_1 (λ i. P (suc i)) b k (omega arith)

below_3 : (P : ℕ → Type 0) → P 0 → P 1 → P 2 → (k : ℕ) → k < 3 → P k
below_3 P a b d zero z = a
below_3 P a b d (suc k) z = below_2 (λ i. P (suc i)) b d k (omega arith)

-- The request's example.
example_latest : (s : Times) → Keeps (network_of (three_events (minus 6))) s → NoneAbove 3 s → (v : ℕ) → v < 3 → s v ≤ℤ times_of (minus 10 ∷ pos 0 ∷ minus 4 ∷ []) v
example_latest s k n =
    let w : Network = network_of (three_events (minus 6)) in
    let one : s 1 ≤ℤ pos 0 = n.below 1 (omega arith) in
    let two : s 2 ≤ℤ minus 4 = to_le (omega (arith, le one, le (kept w s k 1 (omega arith)), parts.add (s 1) (minus 4))) in
    below_3 (λ v. s v ≤ℤ times_of (minus 10 ∷ pos 0 ∷ minus 4 ∷ []) v)
    (to_le (omega (arith, le two, le (kept w s k 2 (omega arith)), parts.add (s 2) (minus 6))))
    one
    two

-- One chain of the example, from its three links.
three_chain : (w : Network) (ks : ℕ → ℕ) → (ks 0 < w.size) → (ks 1 < w.size) → (ks 2 < w.size)
    → w.to (ks 0) ≡ w.from (ks 1) → w.to (ks 1) ≡ w.from (ks 2) → w.to (ks 2) ≡ w.from (ks 0)
    → (w.from (ks 0) ≡ w.from (ks 1) → ⊥) → (w.from (ks 0) ≡ w.from (ks 2) → ⊥) → (w.from (ks 1) ≡ w.from (ks 2) → ⊥)
    → total w ks 3 <ℤ pos 0 → Chain w 3 ks
three_chain w ks a b d e f g x y z s =
    record {
      some = omega arith;
      known = below_3 (λ i. ks i < w.size) a b d;
      linked = λ i h. below_2 (λ j. w.to (ks j) ≡ w.from (ks (j + 1))) e f i (omega arith);
      closed = λ i h. below_3 (λ j. j + 1 ≡ 3 → w.to (ks j) ≡ w.from (ks 0)) (λ q. absurd (omega arith)) (λ q. absurd (omega arith)) (λ q. g) i (omega arith) h;
      once = λ i j h k. below_3 (λ m. (n : ℕ) → m < n → n < 3 → w.from (ks m) ≡ w.from (ks n) → ⊥)
          (λ n p q. below_3 (λ n. 0 < n → w.from (ks 0) ≡ w.from (ks n) → ⊥) (λ r. absurd (omega arith)) (λ r. x) (λ r. y) n q p)
          (λ n p q. below_3 (λ n. 1 < n → w.from (ks 1) ≡ w.from (ks n) → ⊥) (λ r. absurd (omega arith)) (λ r. absurd (omega arith)) (λ r. z) n q p)
          (λ n p q. absurd (omega arith))
          i (omega arith) j h k;
      negative = s;
    }

-- The ring.
module _ (c : ℤ) where
  to_next : (k : ℕ) → k < 127 → pick (eqb k 127) 0 (k + 1) ≡ k + 1
  to_next k z = rw (ne_eqb k 127 (λ e. omega arith))

  even : (m : ℕ) → m ≤ 127 → total (ring c) (λ a. a) m ≡ pos 0
  unfolding total
  even zero z = refl
  even (suc m) z = rw (even m (omega arith), ne_eqb m 127 (λ e. omega arith))

  all_kept : pos 0 ≤ℤ c → Keeps (ring c) (λ v. pos 0)
  all_kept h = record { keeps = λ k z. by (eqb k 127) }
    where
      by : (b : Bool) → (pos 0 -ℤ pos 0) ≤ℤ pick b c (pos 0)
      by true = h
      by false = le_z_yes tt

  all_zero : pos 0 ≤ℤ c → Latest 128 (ring c) (λ v. pos 0)
  all_zero h = record { keeps = all_kept h; none = record { below = λ v z. le_z_yes tt }; latest = λ s k n v z. n.below v z }

ring_sum : total (ring (minus 1)) (λ a. a) 128 <ℤ pos 0
unfolding total
ring_sum = rw (even (minus 1) 127 (omega arith)) (lt_z_yes tt)

ring_chain : Chain (ring (minus 1)) 128 (λ a. a)
ring_chain =
    record {
      some = omega arith;
      known = λ a z. z;
      linked = λ a z. to_next (minus 1) a (omega arith);
      closed = λ a z. let e : a ≡ 127 = omega arith in ap (λ (k : ℕ). pick (eqb k 127) 0 (k + 1)) e;
      once = λ a b z y e. omega arith;
      negative = ring_sum;
    }

-- The line.
down_line : (s : Times) → Keeps line s → NoneAbove 128 s → (v : ℕ) → v < 128 → s v ≤ℤ minus (v * 1000000000)
down_line s k n zero z = n.below 0 z
down_line s k n (suc v) z =
    let h : s v ≤ℤ minus (v * 1000000000) = down_line s k n v (omega arith) in
    let g : s (suc v) ≤ℤ (s v +ℤ minus 1000000000) = rw add-one at (kept line s k v (omega arith)) in
    to_le
    (omega (
      arith,
      le h,
      le g,
      parts.add (s v) (minus 1000000000),
      up_neg (pos (v * 1000000000)),
      down_neg (pos (v * 1000000000)),
      up_neg (pos (suc v * 1000000000)),
      down_neg (pos (suc v * 1000000000)),
    ))

line_latest : Latest 128 line (λ v. minus (v * 1000000000))
line_latest =
    record {
      keeps = record {
        keeps = λ k z.
            to_le
            (omega (
              arith,
              parts.minus (minus ((k + 1) * 1000000000)) (minus (k * 1000000000)),
              up_neg (pos (k * 1000000000)),
              down_neg (pos (k * 1000000000)),
              up_neg (pos ((k + 1) * 1000000000)),
              down_neg (pos ((k + 1) * 1000000000)),
            ));
      };
      none = record { below = λ v z. to_le (omega (arith, up_neg (pos (v * 1000000000)), down_neg (pos (v * 1000000000)))) };
      latest = down_line;
    }

to_and_fro_once : (a b : ℕ) → a < b → b < 2 → (network_of to_and_fro).from (numbers_of (0 ∷ 1 ∷ []) a) ≡ (network_of to_and_fro).from (numbers_of (0 ∷ 1 ∷ []) b) → ⊥
to_and_fro_once a b z y e =
    let p : a ≡ 0 = omega arith in
    let q : b ≡ 1 = omega arith in
    let g : ◌≡◌ {A = ℕ} 0 1 = sym (ap (λ (i : ℕ). (network_of to_and_fro).from (numbers_of (0 ∷ 1 ∷ []) i)) p) ∙ e ∙ ap (λ (i : ℕ). (network_of to_and_fro).from (numbers_of (0 ∷ 1 ∷ []) i)) q in
    omega (arith, g)

pub networks_at_numbers : NetworksAtNumbers
unfolding total
networks_at_numbers =
    record {
      times = record { keeps = record { keeps = below_3 _ (le_z_yes tt) (le_z_yes tt) (le_z_yes tt) }; none = record { below = below_3 _ (le_z_yes tt) (le_z_yes tt) (le_z_yes tt) }; latest = example_latest };
      earlier = record { keeps = below_3 _ (le_z_yes tt) (le_z_yes tt) (le_z_yes tt) };
      not_latest = λ l. let h : pos 0 ≤ℤ minus 1 = l.latest (times_of (minus 10 ∷ pos 0 ∷ minus 4 ∷ [])) (record { keeps = below_3 _ (le_z_yes tt) (le_z_yes tt) (le_z_yes tt) }) (record { below = below_3 _ (le_z_yes tt) (le_z_yes tt) (le_z_yes tt) }) 1 (omega arith) in omega (arith, le h);
      chain = three_chain _ _ (omega arith) (omega arith) (omega arith) refl refl refl (λ e. omega (arith, e)) (λ e. omega (arith, e)) (λ e. omega (arith, e)) (lt_z_yes tt);
      sum = refl;
      zero_sum = λ c. omega (arith, lt c.negative);
      rotated = three_chain _ _ (omega arith) (omega arith) (omega arith) refl refl refl (λ e. omega (arith, e)) (λ e. omega (arith, e)) (λ e. omega (arith, e)) (lt_z_yes tt);
      reversed = λ c. let e : ◌≡◌ {A = ℕ} 0 1 = c.linked 0 (omega arith) in omega (arith, e);
      held = record { keeps = below_1 _ (le_z_yes tt) };
      broken = λ k. omega (arith, le (k.keeps 0 (omega arith)));
      just = record { keeps = below_1 _ (le_z_yes tt) };
      no_event = λ t. record { keeps = record { keeps = λ k z. absurd (omega arith) }; none = record { below = λ v z. absurd (omega arith) }; latest = λ s k n v z. absurd (omega arith) };
      free = record { keeps = record { keeps = λ k z. absurd (omega arith) }; none = record { below = below_1 _ (le_z_yes tt) }; latest = λ s k n. below_1 _ (n.below 0 (omega arith)) };
      free_earlier = λ l. let h : pos 0 ≤ℤ minus 1 = l.latest (λ v. pos 0) (record { keeps = λ k z. absurd (omega arith) }) (record { below = λ v z. le_z_yes tt }) 0 (omega arith) in omega (arith, le h);
      itself = record { keeps = record { keeps = below_1 _ (le_z_yes tt) }; none = record { below = below_1 _ (le_z_yes tt) }; latest = λ s k n. below_1 _ (n.below 0 (omega arith)) };
      itself_zero = λ c. omega (arith, lt c.negative);
      itself_below = record { some = omega arith; known = below_1 _ (omega arith); linked = λ a z. absurd (omega arith); closed = λ a z. below_1 (λ i. (network_of (one_constraint (pos 0) (pos 0) (minus 1))).to (numbers_of (0 ∷ []) i) ≡ 0) refl a (omega arith); once = λ a b z y e. omega arith; negative = lt_z_yes tt };
      closed = record { some = omega arith; known = below_2 _ (omega arith) (omega arith); linked = λ a z. below_1 (λ i. (network_of to_and_fro).to (numbers_of (0 ∷ 1 ∷ []) i) ≡ (network_of to_and_fro).from (numbers_of (0 ∷ 1 ∷ []) (i + 1))) refl a (omega arith); closed = λ a z. let e : a ≡ 1 = omega arith in ap (λ (i : ℕ). (network_of to_and_fro).to (numbers_of (0 ∷ 1 ∷ []) i)) e; once = to_and_fro_once; negative = lt_z_yes tt };
      twice = λ c. c.once 0 2 (omega arith) (omega arith) refl;
      open_end = λ c. let e : ◌≡◌ {A = ℕ} 0 1 = c.closed 0 (omega arith) in omega (arith, e);
      empty = λ c. omega (arith, c.some);
      ring_below = ring_chain;
      ring_even = all_zero (pos 0) (le_z_yes tt);
      ring_above = all_zero (pos 1) (le_z_yes tt);
      line_down = line_latest;
      line_end = refl;
    }

-- Ranges.
event : (n m : ℕ) → m < n → IsEvent n (pos m)
event n m h = record { least = to_le (omega arith); below = parts.to_lt (omega arith) }

pub ranges_at_numbers : RangesAtNumbers
ranges_at_numbers =
    record {
      counted = (refl, refl, refl);
      most = (record { whole = omega arith; from = event 2 0 (omega arith); to = event 2 1 (omega arith); most = omega arith }, λ r. omega (arith, r.most));
      least = (record { whole = omega arith; from = event 2 0 (omega arith); to = event 2 1 (omega arith); most = omega arith }, λ r. omega (arith, r.most));
      event = (record { whole = omega arith; from = event 2 1 (omega arith); to = event 2 1 (omega arith); most = omega arith }, λ r. omega (arith, lt r.from.below), λ r. omega (arith, lt r.to.below));
      below = (λ r. omega (arith, le r.from.least), λ r. omega (arith, le r.to.least));
      cut = λ r. omega (arith, r.whole);
      sizes = λ ws. (λ e. record { events = omega arith; constraints = omega (arith, e) }, λ e s. omega (arith, e, s.constraints), λ s. omega (arith, s.events));
      example = record {
        size = record { events = omega arith; constraints = omega arith };
        each = below_3 _
            (record { whole = omega arith; from = event 3 0 (omega arith); to = event 3 1 (omega arith); most = omega arith })
            (record { whole = omega arith; from = event 3 1 (omega arith); to = event 3 2 (omega arith); most = omega arith })
            (record { whole = omega arith; from = event 3 2 (omega arith); to = event 3 0 (omega arith); most = omega arith });
      };
      size_first = inl (refl, refl, λ s. omega (arith, s.events));
      lowest_first = inr (
        record { events = omega arith; constraints = omega arith },
        (
          refl,
          record {
            above = omega arith;
            inside = omega arith;
            bad = λ r. omega (arith, lt r.to.below);
            before = λ i z h. below_1 (InRange 2 (three_events (pos 0))) (record { whole = omega arith; from = event 2 0 (omega arith); to = event 2 1 (omega arith); most = omega arith }) i h;
          },
        ),
      );
      numbers = (refl, refl);
    }
