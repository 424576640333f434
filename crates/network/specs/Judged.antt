-- What the judge of a network promises: the network of what it was given, or the refusal that is due.
use Rattle.std.specs.Prelude.{ℕ, ◌≡◌, List, ℤ, Result, Ok, Err}
use Rattle.basics.specs.declared.Refusal.{Refusal}
use Rattle.network.specs.Constraints.{NetworkInRange, network_refusals}
use Rattle.network.specs.declared.Network.{Network}

abbrev pub NetworkTold : ℕ → List ℤ → Result Network Refusal → Type 0
NetworkTold n ws (Ok w) = NetworkInRange n ws × (w.events ≡ n) × (w.constraints.now ≡ ws)
NetworkTold n ws (Err e) = (network_refusals n ws).Fault e.cause e.at
