-- What inner functions promise.
use Rattle.std.specs.Prelude.{ℕ, ◌≤◌, ◌<◌, ◌≡◌, nat_abs}
use Rattle.network.specs.Network.{Network}
use Rattle.network.specs.Constraints.{max_most}
use Rattle.network.specs.declared.Constraint.{Constraint}

-- Each constraint of a network names two of n events and a number in range.
pub record Bounded (n : ℕ) (w : Network) : Type 0 where
  pub from : (k : ℕ) → k < w.size → w.from k < n
  pub to : (k : ℕ) → k < w.size → w.to k < n
  pub most : (k : ℕ) → k < w.size → nat_abs (w.most k) ≤ max_most

-- c is constraint k of the network, with its bounds.
pub record Reads (w : Network) (n k : ℕ) (c : Constraint) : Type 0 where
  pub from : c.from ≡ w.from k
  pub to : c.to ≡ w.to k
  pub most : c.most ≡ w.most k
  pub from_in : c.from < n
  pub to_in : c.to < n
  pub most_in : nat_abs c.most ≤ max_most
