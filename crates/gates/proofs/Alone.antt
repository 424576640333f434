-- A slot that holds its whole period meets each other one: from its offset on it holds always, and the other comes later too. Assumes nothing.
use Prim.Native.Nat.{◌+◌, ◌*◌, ◌-◌, ◌/◌}
use native.Mathlib.Nat.{div-add-mod', mod-lt, mul-le-mul_left}
use native.Mathlib.Omega.{arith}
use Rattle.overlap.proofs.Law.{shared_instant}
use Rattle.gates.specs.Theorems.{WholePeriodIsAlone}

pub whole_period_is_alone : WholePeriodIsAlone
whole_period_is_alone a b w ha hp hh n =
    let x = b.offset + a.offset * b.period in
    let l = mul-le-mul_left a.offset hp in
    let d = div-add-mod' (x - a.offset) a.period in
    let m = mod-lt (x - a.offset) ha in
    shared_instant a b ((x - a.offset) / a.period) a.offset x (record { begun = omega arith; not_ended = omega arith }) (record { begun = omega arith; not_ended = omega arith }) n
