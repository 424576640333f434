-- Networks at numbers: the request's example, small networks that rule out wrong definitions, and the longest ring and line.
use Rattle.std.specs.Prelude.{ℕ, ◌+◌, ◌*◌, ◌≡◌, List, [], ◌∷◌, eqb, ℤ, pos, neg_ℤ, length}
use Rattle.basics.specs.Pick.{pick}
use Rattle.basics.specs.Cause.{number_of}
use Rattle.basics.specs.declared.Cause.TheVariants as cause
use Rattle.network.specs.Network.{Network, Times, Keeps, Latest, total, Chain}
use Rattle.network.specs.Constraints.{times_of, numbers_of, constraint_count, network_of, InRange, SizeAllowed, NetworkInRange, network_refusals}

-- n below zero.
abbrev pub minus : ℕ → ℤ
minus n = neg_ℤ (pos n)

-- Three events with 1 - 0 ≤ 10, 2 - 1 ≤ -4 and 0 - 2 ≤ c.
abbrev pub three_events : ℤ → List ℤ
three_events c = pos 0 ∷ pos 1 ∷ pos 10 ∷ pos 1 ∷ pos 2 ∷ minus 4 ∷ pos 2 ∷ pos 0 ∷ c ∷ []

-- One constraint: j - i ≤ c.
abbrev pub one_constraint : ℤ → ℤ → ℤ → List ℤ
one_constraint i j c = i ∷ j ∷ c ∷ []

-- To and fro between events 0 and 1, with the sum -1: 1 - 0 ≤ 3 and 0 - 1 ≤ -4.
abbrev pub to_and_fro : List ℤ
to_and_fro = pos 0 ∷ pos 1 ∷ pos 3 ∷ pos 1 ∷ pos 0 ∷ minus 4 ∷ []

-- 128 events in a ring: from each to the next at most 0, and from the last to the first at most c.
abbrev pub ring : ℤ → Network
ring c = record { size = 128; from = λ k. k; to = λ k. pick (eqb k 127) 0 (k + 1); most = λ k. pick (eqb k 127) c (pos 0) }

-- 128 events in a line: each 1,000,000,000 before the one before it.
abbrev pub line : Network
line = record { size = 127; from = λ k. k; to = λ k. k + 1; most = λ k. minus 1000000000 }

pub record NetworksAtNumbers : Type 0 where
  -- The request's example: -10, 0, -4; times that are all one earlier keep the constraints and are not the latest; with -7 a chain whose sum is -1, and a zero sum is none.
  pub times : Latest 3 (network_of (three_events (minus 6))) (times_of (minus 10 ∷ pos 0 ∷ minus 4 ∷ []))
  pub earlier : Keeps (network_of (three_events (minus 6))) (times_of (minus 11 ∷ minus 1 ∷ minus 5 ∷ []))
  pub not_latest : Latest 3 (network_of (three_events (minus 6))) (times_of (minus 11 ∷ minus 1 ∷ minus 5 ∷ [])) → ⊥
  pub chain : Chain (network_of (three_events (minus 7))) 3 (numbers_of (0 ∷ 1 ∷ 2 ∷ []))
  pub sum : total (network_of (three_events (minus 7))) (numbers_of (0 ∷ 1 ∷ 2 ∷ [])) 3 ≡ minus 1
  pub zero_sum : Chain (network_of (three_events (minus 6))) 3 (numbers_of (0 ∷ 1 ∷ 2 ∷ [])) → ⊥
  -- The chain begins anywhere, and goes one way.
  pub rotated : Chain (network_of (three_events (minus 7))) 3 (numbers_of (1 ∷ 2 ∷ 0 ∷ []))
  pub reversed : Chain (network_of (three_events (minus 7))) 3 (numbers_of (2 ∷ 1 ∷ 0 ∷ [])) → ⊥
  -- Which time is subtracted from which: 1 - 0 ≤ 10 is kept by 11 and 0, and not by 0 and 11; just 10 is kept.
  pub held : Keeps (network_of (one_constraint (pos 0) (pos 1) (pos 10))) (times_of (pos 11 ∷ pos 0 ∷ []))
  pub broken : Keeps (network_of (one_constraint (pos 0) (pos 1) (pos 10))) (times_of (pos 0 ∷ pos 11 ∷ [])) → ⊥
  pub just : Keeps (network_of (one_constraint (pos 0) (pos 1) (pos 10))) (times_of (pos 0 ∷ pos 10 ∷ []))
  -- No event; an event without a constraint; an event with itself.
  pub no_event : (t : Times) → Latest 0 (network_of []) t
  pub free : Latest 1 (network_of []) (times_of (pos 0 ∷ []))
  pub free_earlier : Latest 1 (network_of []) (times_of (minus 1 ∷ [])) → ⊥
  pub itself : Latest 1 (network_of (one_constraint (pos 0) (pos 0) (pos 0))) (times_of (pos 0 ∷ []))
  pub itself_zero : Chain (network_of (one_constraint (pos 0) (pos 0) (pos 0))) 1 (numbers_of (0 ∷ [])) → ⊥
  pub itself_below : Chain (network_of (one_constraint (pos 0) (pos 0) (minus 1))) 1 (numbers_of (0 ∷ []))
  -- A chain is closed, meets no event twice, and is not empty.
  pub closed : Chain (network_of to_and_fro) 2 (numbers_of (0 ∷ 1 ∷ []))
  pub twice : Chain (network_of to_and_fro) 4 (numbers_of (0 ∷ 1 ∷ 0 ∷ 1 ∷ [])) → ⊥
  pub open_end : Chain (network_of to_and_fro) 1 (numbers_of (1 ∷ [])) → ⊥
  pub empty : Chain (network_of to_and_fro) 0 (numbers_of []) → ⊥
  -- The longest ring, which is the longest chain, and the longest line, whose last time is -127,000,000,000.
  pub ring_below : Chain (ring (minus 1)) 128 (λ a. a)
  pub ring_even : Latest 128 (ring (pos 0)) (λ v. pos 0)
  pub ring_above : Latest 128 (ring (pos 1)) (λ v. pos 0)
  pub line_down : Latest 128 line (λ v. minus (v * 1000000000))
  pub line_end : minus (127 * 1000000000) ≡ minus 127000000000

-- Which networks are refused: a constraint in range and just not, a last record that is cut, and the order of 27 and 16.
pub record RangesAtNumbers : Type 0 where
  pub counted : (constraint_count [] ≡ 0) × (constraint_count (three_events (pos 0)) ≡ 3) × (constraint_count (pos 0 ∷ pos 0 ∷ pos 0 ∷ pos 0 ∷ []) ≡ 2)
  pub most : (InRange 2 (one_constraint (pos 0) (pos 1) (pos 1000000000)) 0) × (InRange 2 (one_constraint (pos 0) (pos 1) (pos 1000000001)) 0 → ⊥)
  pub least : (InRange 2 (one_constraint (pos 0) (pos 1) (minus 1000000000)) 0) × (InRange 2 (one_constraint (pos 0) (pos 1) (minus 1000000001)) 0 → ⊥)
  pub event : (InRange 2 (one_constraint (pos 1) (pos 1) (pos 0)) 0) × (InRange 2 (one_constraint (pos 2) (pos 1) (pos 0)) 0 → ⊥) × (InRange 2 (one_constraint (pos 1) (pos 2) (pos 0)) 0 → ⊥)
  pub below : (InRange 2 (one_constraint (minus 1) (pos 1) (pos 0)) 0 → ⊥) × (InRange 2 (one_constraint (pos 1) (minus 1) (pos 0)) 0 → ⊥)
  pub cut : InRange 2 (pos 0 ∷ pos 1 ∷ []) 0 → ⊥
  pub sizes : (ws : List ℤ) → (length ws ≡ 6144 → SizeAllowed 128 ws) × (length ws ≡ 6145 → SizeAllowed 128 ws → ⊥) × (SizeAllowed 129 ws → ⊥)
  pub example : NetworkInRange 3 (three_events (minus 6))
  pub size_first : (network_refusals 129 (one_constraint (pos 0) (pos 129) (pos 0))).Fault cause.TooLarge 0
  pub lowest_first : (network_refusals 2 (three_events (pos 0))).Fault cause.OutOfRange 1
  pub numbers : (number_of cause.TooLarge ≡ 27) × (number_of cause.OutOfRange ≡ 16)
