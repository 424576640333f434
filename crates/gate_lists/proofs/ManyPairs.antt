-- A link that is idle and held in turn has at least a pair for each turn, since no pair shows two masks. Assumes nothing.
use Prim.Native.Nat.{ℕ, zero, suc, ◌+◌, ◌*◌, ◌≤◌, ◌<◌}
use mathlib.Core.Path.{◌≡◌, sym, ◌∙◌, subst}
use mathlib.Core.List.{List}
use mathlib.Core.Logic.{⊎_elim}
use lib.ListN.{length}
use native.Mathlib.Omega.{arith}
use Rattle.basics.proofs.Splits.{lt_or_ge}
use Rattle.overlap.specs.declared.Slot.{Slot}
use Rattle.gates.specs.Holding.{held_mask, idle_mask}
use Rattle.gates.specs.Pairs.{begin_of, ListRight}
use Rattle.gates.proofs.Begins.{begin_none, begin_next}
use Rattle.gates.proofs.Masks.{one_mask_is_right}
use Rattle.gates.proofs.Cycles.{one_cycle}
use Rattle.gate_lists.specs.GateList.{SlotOn, CycleOf, RightMask, IsGateList, without_legs, with_legs}

-- Link l is idle at one instant, held at a later one, idle at one after that and so on, n times each and idle once more, all before instant c.
pub record InTurn (t : List ℕ) (l c n : ℕ) (idle held : ℕ → ℕ) : Type 0 where
  pub is_idle : (k : ℕ) → k ≤ n → RightMask t l (idle k) idle_mask
  pub is_held : (k : ℕ) → k < n → RightMask t l (held k) held_mask
  pub then_held : (k : ℕ) → k < n → idle k < held k
  pub then_idle : (k : ℕ) → k < n → held k < idle (k + 1)
  pub before : (k : ℕ) → k ≤ n → idle k < c

module _ (t : List ℕ) (l c : ℕ) where
  module _ (ws : List ℕ) (m : ℕ) (list : ListRight (RightMask t l) c ws m) where
    -- There is a pair i, and it has begun at instant x.
    abbrev Begun : ℕ → ℕ → Type 0
    Begun i x = (i < m) × (begin_of ws i ≤ x)

    begun : (i x : ℕ) → i ≤ m → begin_of ws i ≤ x → x < c → Begun i x
    begun i x h b before =
        ⊎_elim
        (λ (k : i < m). (k, b))
        (λ (k : m ≤ i). let e : i ≡ m = omega arith in absurd (omega (arith, list.adds_up, rw e at b)))
        (lt_or_ge i m)

    -- At a later instant another mask is right. So the next pair has begun there.
    next_begun : (i x y a b : ℕ) → RightMask t l x a → RightMask t l y b → (a ≡ b → ⊥) → x < y → y < c → Begun i x → Begun (i + 1) y
    next_begun i x y a b at_x at_y change later before (there, from) =
        let one = one_mask_is_right (SlotOn t l) in
        let right = list.pairs.right i in
        let next = begin_next ws i in
        ⊎_elim
        (λ (h : y < begin_of ws (i + 1)).
        absurd
        (change
        (one x _ _ at_x (right x there (record { begun = omega arith; not_ended = omega arith }))
        ∙ sym (one y _ _ at_y (right y there (record { begun = omega arith; not_ended = omega arith }))))))
        (λ (h : begin_of ws (i + 1) ≤ y). begun (i + 1) y (omega arith) h before)
        (lt_or_ge y (begin_of ws (i + 1)))

    module _ (n : ℕ) (idle held : ℕ → ℕ) (turns : InTurn t l c n idle held) where
      idle_again : (k : ℕ) → k ≤ n → Begun (2 * k) (idle k)
      idle_again zero h = begun 0 (idle 0) (omega arith) (omega (arith, begin_none ws)) (turns.before 0 h)
      idle_again (suc k) h =
          let some : k < n = omega arith in
          let next : suc k ≡ k + 1 = omega arith in
          let count : 2 * suc k ≡ 2 * k + 1 + 1 = omega arith in
          let last = rw next at (turns.before (suc k) h) in
          let to_held = turns.then_held k some in
          let to-idle = turns.then_idle k some in
          rw (count, next)
          (next_begun (2 * k + 1) (held k) (idle (k + 1)) held_mask idle_mask (turns.is_held k some) (turns.is_idle (k + 1) (omega arith)) (λ e. omega (arith, e)) to-idle last
          (next_begun (2 * k) (idle k) (held k) idle_mask held_mask (turns.is_idle k (omega arith)) (turns.is_held k some) (λ e. omega (arith, e)) to_held (omega arith)
          (idle_again k (omega arith))))

  -- So its list has more than 2n pairs.
  pub no_few : (n : ℕ) (idle held : ℕ → ℕ) (s : Slot) → SlotOn t l s → CycleOf t l c → InTurn t l c n idle held
      → (ws : List ℕ) → IsGateList t l ws → length ws ≤ 2 * (2 * n) → ⊥
  no_few n idle held s on cycle turns ws (without_legs none e) h = none s on
  no_few n idle held s on cycle turns ws (with_legs _ _ d m is list e) h =
      let right = subst (λ (z : ℕ). ListRight (RightMask t l) z ws m) (one_cycle (SlotOn t l) d c is cycle) list in
      omega (arith, (idle_again ws m right n idle held turns n (omega arith)).0)
