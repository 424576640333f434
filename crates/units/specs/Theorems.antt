-- What is proved of times with a unit.
use Rattle.std.specs.Prelude.{ℕ, ◌≡◌, List, [], ◌∷◌}
use Rattle.units.specs.Times.{Worth, InUnit}

-- A number in a unit means one time.
abbrev pub InUnitOneAnswer : Type 0
InUnitOneAnswer = (s : List ℕ) (unit v u : ℕ) → InUnit s unit v → InUnit s unit u → v ≡ u

-- 12 and 24 hundredths of 1,000 ns are 12,240 ns; 3 and 7 tenths of 1 ns are no whole number of ns; and the bytes 2.35, in ms, are 2,350,000 ns.
abbrev pub TimesAtNumbers : Type 0
TimesAtNumbers =
    Worth 12 24 100 1000 12240
    × ((v : ℕ) → Worth 3 7 10 1 v → ⊥)
    × InUnit (50 ∷ 46 ∷ 51 ∷ 53 ∷ []) 1000000 2350000
