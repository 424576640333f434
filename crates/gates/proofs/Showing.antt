-- At every instant below the cycle one pair of a right list shows. Assumes nothing.
use Prim.Native.Nat.{ℕ, zero, suc, ◌+◌, ◌≤◌, ◌<◌}
use mathlib.Core.Path.{◌≡◌}
use mathlib.Core.List.{List}
use mathlib.Core.Logic.{⊎_elim}
use native.Mathlib.Omega.{arith}
use Rattle.basics.proofs.Splits.{lt_or_ge}
use Rattle.gates.specs.Pairs.{begin_of}
use Rattle.gates.specs.Theorems.{Shown, SomePairShows}
use Rattle.gates.proofs.Begins.{begin_none, begin_next}

shown_below : (w : List ℕ) (n y : ℕ) → y < begin_of w n → Shown w n y
shown_below w zero y h = absurd (omega (arith, begin_none w))
shown_below w (suc n) y h =
    let z : suc n ≡ n + 1 = omega arith in
    ⊎_elim
    (λ (k : y < begin_of w n). let s = shown_below w n y k in record { pair = s.pair; there = omega (arith, s.there); shows = s.shows })
    (λ (k : begin_of w n ≤ y). record { pair = n; there = omega arith; shows = record { begun = k; not_ended = omega (arith, begin_next w n, rw z at h) } })
    (lt_or_ge y (begin_of w n))

pub some_pair_shows : SomePairShows
some_pair_shows R c w n y p h = shown_below w n y (omega (arith, p.adds_up))
