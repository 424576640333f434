-- Constraints in range have events and numbers within their bounds. Assumes nothing.
use mathlib.Core.List.{List}
use Prim.Native.Nat.{ℕ, ◌<◌}
use native.Mathlib.Omega.{arith}
use lib.IntN.{ℤ, pos, negsuc, nat_abs}
use Rattle.signed.proofs.Parts.{le, lt}
use Rattle.network.specs.Constraints.{network_of, IsEvent, NetworkInRange}
use Rattle.network.specs.Steps.{Bounded}

-- An event's number, as a size.
pub event_below : {n : ℕ} {z : ℤ} → IsEvent n z → nat_abs z < n
event_below {z = pos m} e = omega (arith, lt e.below)
event_below {z = negsuc m} e = absurd (omega (arith, le e.least))

-- All constraints in range are a network within its bounds.
pub bounded : {n : ℕ} {ws : List ℤ} → NetworkInRange n ws → Bounded n (network_of ws)
bounded r =
    record {
      from = λ k z. event_below (r.each k z).from;
      to = λ k z. event_below (r.each k z).to;
      most = λ k z. (r.each k z).most;
    }
