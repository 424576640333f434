-- What is proved of networks.
use Rattle.std.specs.Prelude.{ℕ, ◌<◌, ◌≡◌}
use Rattle.network.specs.Network.{Network, Times, Keeps, Latest, Chain}

-- A closed chain with a negative sum leaves no times: none at all keep the constraints.
abbrev pub ChainsRefuteTimes : Type 0
ChainsRefuteTimes = (w : Network) (l : ℕ) (ks : ℕ → ℕ) (t : Times) → Chain w l ks → Keeps w t → ⊥

-- The latest times are one.
abbrev pub LatestTimesAreOne : Type 0
LatestTimesAreOne = (n : ℕ) (w : Network) (s t : Times) → Latest n w s → Latest n w t → (v : ℕ) → v < n → s v ≡ t v
