-- A plan of the cases whose leg was moved within its period is again one, by computing: its revision is one more, and the offset of that leg is new. Assumes nothing.
use Prim.Native.Nat.{ℕ, ◌+◌}
use mathlib.Core.Path.{◌≡◌, refl}
use Rattle.table.specs.Records.{moved, move_to}
use Rattle.table.specs.PlanA.{PlanNumbers, plan_with}

-- The numbers n with another revision and other offsets.
abbrev pub revised : PlanNumbers → ℕ → ℕ → ℕ → ℕ → PlanNumbers
revised n revision o0 o1 o2 = record { revision = revision; rate_1 = n.rate_1; propagation_1 = n.propagation_1; period_0 = n.period_0; deadline_0 = n.deadline_0; period_1 = n.period_1; deadline_1 = n.deadline_1; octets_1 = n.octets_1; offset_0 = o0; offset_1 = o1; offset_2 = o2 }

module _ (n : PlanNumbers) (o : ℕ) where
  pub moved_0 : moved (plan_with n) (move_to 0 o 0) ≡ plan_with (revised n (n.revision + 1) o n.offset_1 n.offset_2)
  unfolding moved
  moved_0 = refl

  pub moved_1 : moved (plan_with n) (move_to 1 o 0) ≡ plan_with (revised n (n.revision + 1) n.offset_0 o n.offset_2)
  unfolding moved
  moved_1 = refl

  pub moved_2 : moved (plan_with n) (move_to 2 o 0) ≡ plan_with (revised n (n.revision + 1) n.offset_0 n.offset_1 o)
  unfolding moved
  moved_2 = refl
