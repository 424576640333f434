-- With which numbers and at which positions a gate list is refused, and that there is room for it in 10,240 bytes. Assumes nothing.
use Prim.Native.Nat.{ℕ, ◌≤◌, ◌<◌}
use mathlib.Core.Path.{◌≡◌, refl, ap}
use mathlib.Core.List.{List}
use mathlib.Core.Logic.{inl, inr}
use lib.ListN.{length}
use native.Mathlib.Omega.{arith}
use Rattle.basics.specs.Cause.{number_of}
use Rattle.basics.specs.declared.Cause.{Cause}
use Rattle.basics.specs.declared.Cause.TheVariants as cause
use Rattle.numbers.proofs.Rows.{file_length}
use Rattle.shape.proofs.Refused.{shape_refused}
use Rattle.gate_lists.specs.Lists.{FewPairs, HasRoom, may_list_refusals, list_refusals}
use Rattle.gate_lists.specs.Theorems.{GateListRefusal, GateListRefusalsAreThese, OneTestForAll, max_list_bytes, ListRoomIsEnough}

pub list_refused_so : (t : List ℕ) (l room : ℕ) (k : Cause) (p : ℕ) → (list_refusals t l room).Fault k p → GateListRefusal k p
list_refused_so t l room k p (inl (inl x)) = record { which = inl (shape_refused t k p x) }
list_refused_so t l room k p (inl (inr (s, inl x))) = record { which = inr (inl x.0, x.1) }
list_refused_so t l room k p (inl (inr (s, inr (h, x)))) = record { which = inr (inr (inl x.0), x.1) }
list_refused_so t l room k p (inr (m, inl (inl x))) = record { which = inr (inr (inr (inl x.0)), x.1) }
list_refused_so t l room k p (inr (m, inl (inr (c, x)))) = record { which = inr (inr (inr (inr (inl x.0))), x.1) }
list_refused_so t l room k p (inr (m, inr (c, x))) = record { which = inr (inr (inr (inr (inr x.0))), x.1) }

pub gate_list_refusals_are_these : GateListRefusalsAreThese
gate_list_refusals_are_these t l k p b b' (f, same) = list_refused_so t l (length b) k p f

pub one_test_for_all : OneTestForAll
one_test_for_all t l m may h = record { shape = may.shape; link = h; rules = may.rules }

-- The refusals before the list is looked at have other numbers than those after.
pub not_before : (t : List ℕ) (l : ℕ) (k : Cause) (p : ℕ) → number_of cause.BadLeg < number_of k → (k ≡ cause.NoLink → ⊥) → (k ≡ cause.NotAccepted → ⊥) → (may_list_refusals t l).Fault k p → ⊥
not_before t l k p a b c (inl x) = omega (arith, (shape_refused t k p x).1)
not_before t l k p a b c (inr (s, inl x)) = b x.0
not_before t l k p a b c (inr (s, inr (h, x))) = c x.0

-- A list of at most 1,024 pairs has room.
few_has_room : (t : List ℕ) (l room : ℕ) → max_list_bytes ≤ room → FewPairs t l → HasRoom t l room
few_has_room t l room h f = record { list = f.list; is = f.is; fits = omega (arith, file_length f.list, f.few) }

-- 15 comes last, when the list is known to have few pairs.
not_for_room : (t : List ℕ) (l room p : ℕ) → max_list_bytes ≤ room → (list_refusals t l room).Fault cause.NoRoom p → ⊥
not_for_room t l room p h (inl x) = not_before t l cause.NoRoom p (omega arith) (λ e. omega (arith, ap number_of e)) (λ e. omega (arith, ap number_of e)) x
not_for_room t l room p h (inr (m, inl (inl x))) = omega (arith, ap number_of x.0)
not_for_room t l room p h (inr (m, inl (inr (c, x)))) = omega (arith, ap number_of x.0)
not_for_room t l room p h (inr (m, inr (c, x))) = x.2 (few_has_room t l room h c.1)

pub list_room_is_enough : ListRoomIsEnough
list_room_is_enough = record { is = refl; enough = λ t l p b b' h w. not_for_room t l (length b) p h w.0 }
