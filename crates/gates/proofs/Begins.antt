-- Where a pair begins. Assumes nothing.
use Prim.Native.Nat.{ℕ, ◌+◌}
use mathlib.Core.Path.{◌≡◌, refl}
use mathlib.Core.List.{List}
use native.Mathlib.Numerals.{add-one}
use Rattle.gates.specs.Pairs.{duration_of, begin_of}

pub begin_none : (w : List ℕ) → begin_of w 0 ≡ 0
unfolding begin_of
begin_none w = refl

pub begin_next : (w : List ℕ) (i : ℕ) → begin_of w (i + 1) ≡ begin_of w i + duration_of w i
unfolding begin_of
begin_next w i = rw (add-one i)
