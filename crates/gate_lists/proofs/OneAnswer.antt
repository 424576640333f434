-- A link has one gate list, and the call that writes it has one answer. Assumes nothing.
use Rattle.std.specs.Prelude.{Ok, Err}
use Prim.Native.Nat.{ℕ, ◌+◌, ◌*◌, ◌%◌, ◌/◌, ◌≤◌, ◌<◌}
use mathlib.Core.Path.{◌≡◌, sym, ◌∙◌, subst}
use mathlib.Core.List.{List}
use mathlib.Core.Logic.{⊎_elim}
use lib.ListN.{length, get_or}
use lib.Seq.{ext_get_or}
use native.Mathlib.Nat.{div-add-mod', mod-lt}
use native.Mathlib.Omega.{arith}
use Rattle.basics.specs.Refusals.{OneFault}
use Rattle.basics.proofs.Refusals.{unless_one, then_one, called_one, same_refusal}
use Rattle.basics.proofs.Splits.{lt_or_ge}
use Rattle.basics.specs.declared.Cause.TheVariants as cause
use Rattle.numbers.specs.Series.{file_of, Laid}
use Rattle.numbers.proofs.Overlay.{laid_once}
use Rattle.shape.proofs.OneShape.{shape_one}
use Rattle.gates.specs.Pairs.{ListRight}
use Rattle.gates.specs.Theorems.{SamePairs}
use Rattle.gates.proofs.Masks.{one_mask_is_right}
use Rattle.gates.proofs.Cycles.{one_cycle}
use Rattle.gates.proofs.OneList.{one_list}
use Rattle.gate_lists.specs.GateList.{SlotOn, RightMask, without_legs, with_legs}
use Rattle.gate_lists.specs.Lists.{may_list_refusals, list_refusals}
use Rattle.gate_lists.specs.Theorems.{OneGateList, GateListOneAnswer}

-- The same pairs and nothing behind them are the same words.
same_words : (ws vs : List ℕ) (n m : ℕ) → length ws ≡ 2 * n → length vs ≡ 2 * m → SamePairs ws n vs m → ws ≡ vs
same_words ws vs n m w v s =
    let e = s.count in
    ext_get_or 0 ws vs (omega arith)
    (λ i h.
    let d = div-add-mod' i 2 in
    let r : i % 2 < 2 = mod-lt i (omega arith) in
    ⊎_elim
    (λ (k : i % 2 < 1).
    let z : 2 * (i / 2) ≡ i = omega arith in
    subst (λ (j : ℕ). get_or ws j 0 ≡ get_or vs j 0) z (s.mask (i / 2) (omega arith)))
    (λ (k : 1 ≤ i % 2).
    let z : 2 * (i / 2) + 1 ≡ i = omega arith in
    subst (λ (j : ℕ). get_or ws j 0 ≡ get_or vs j 0) z (s.duration (i / 2) (omega arith)))
    (lt_or_ge (i % 2) 1))

pub one_gate_list : OneGateList
one_gate_list t l ws vs (without_legs n e) (without_legs _ f) = e ∙ sym f
one_gate_list t l ws vs (without_legs n e) (with_legs s on d m k r g) = absurd (n s on)
one_gate_list t l ws vs (with_legs s on c n j p f) (without_legs m e) = absurd (m s on)
one_gate_list t l ws vs (with_legs s on c n j p f) (with_legs r ron d m k q g) =
    let e : d ≡ c = one_cycle (SlotOn t l) d c k j in
    same_words ws vs n m f g (one_list (RightMask t l) (one_mask_is_right (SlotOn t l)) c ws n vs m p (subst (λ (z : ℕ). ListRight (RightMask t l) z vs m) e q))

module _ (t : List ℕ) (l : ℕ) where
  pub may_one : OneFault (may_list_refusals t l)
  may_one = called_one (then_one (shape_one t) (then_one (unless_one cause.NoLink _) (unless_one cause.NotAccepted _))) (λ m. (m.shape, (m.link, m.rules)))

  pub list_refusals_one : (room : ℕ) → OneFault (list_refusals t l room)
  list_refusals_one room = then_one may_one (then_one (then_one (unless_one cause.LongCycle _) (unless_one cause.TooManyPairs _)) (unless_one cause.NoRoom _))

pub gate_list_one_answer : GateListOneAnswer
gate_list_one_answer t l b b' b'' (Ok n) (Ok m) (_, (ws, p, k)) (_, (vs, q, j)) =
    let e = laid_once k (subst (λ (us : List ℕ). Laid b 0 (file_of us) m b'') (one_gate_list t l vs ws q p) j) in
    let e0 = e.0 in
    (cc, e.1)
gate_list_one_answer t l b b' b'' (Ok n) (Err e) (c, _) (f, _) = absurd ((list_refusals_one t l (length b)).none c f)
gate_list_one_answer t l b b' b'' (Err e) (Ok m) (f, _) (c, _) = absurd ((list_refusals_one t l (length b)).none c f)
gate_list_one_answer t l b b' b'' (Err d) (Err e) (f, g) (h, i) =
    let one = (list_refusals_one t l (length b)).one f h in
    (same_refusal one.0 one.1, g ∙ sym i)
