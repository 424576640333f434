-- The words of a gate list, and that they are read back from their bytes. Assumes nothing.
use Prim.Native.Nat.{ℕ, suc, ◌+◌, ◌*◌, ◌-◌, ◌%◌, ◌/◌, ◌≤◌, ◌<◌}
use mathlib.Core.Path.{◌≡◌, sym, ap, subst}
use mathlib.Core.List.{List, [], ◌∷◌}
use mathlib.Core.Logic.{◌⊎◌, inl, inr, ⊎_elim}
use lib.ListN.{length, get_or}
use native.Mathlib.Nat.{div-add-mod', mod-lt}
use native.Mathlib.Omega.{arith}
use Rattle.basics.proofs.Splits.{lt_or_ge}
use Rattle.numbers.specs.Number.{max_word}
use Rattle.numbers.specs.Series.{AllWords}
use Rattle.gates.specs.Holding.{Right, held, idle, held_mask, idle_mask}
use Rattle.gates.specs.Pairs.{mask_of, duration_of, begin_of, ListRight, max_pairs, max_cycle}
use Rattle.gates.proofs.Begins.{begin_next}
use Rattle.gates.proofs.Cycles.{one_cycle}
use Rattle.gates.proofs.OneList.{shows_first, later}
use Rattle.gate_files.proofs.ComeBack.{lists_come_back}
use Rattle.gate_lists.specs.GateList.{SlotOn, RightMask, IsGateList, without_legs, with_legs}
use Rattle.gate_lists.specs.Theorems.{GateListWords, GateListsAreWords, GateListsComeBack}
use Rattle.gate_lists.proofs.OneAnswer.{one_gate_list}
use Rattle.gate_lists.proofs.Refusing.{whole_pairs}

-- The right masks are two.
two_masks : (S : _) (x m : ℕ) → Right S x m → (m ≡ held_mask) ⊎ (m ≡ idle_mask)
two_masks S x m (held h e) = inl e
two_masks S x m (idle h e) = inr e

module _ (R : ℕ → ℕ → Type 0) (c : ℕ) (ws : List ℕ) (n : ℕ) (p : ListRight R c ws n) where
  -- No pair lasts longer than the cycle.
  within_cycle : (i : ℕ) → i < n → duration_of ws i ≤ c
  within_cycle i h =
      let l = later R ws n p.pairs (i + 1) (n - (i + 1)) (omega arith) in
      let z : i + 1 + (n - (i + 1)) ≡ n = omega arith in
      omega (arith, begin_next ws i, rw z at l, p.adds_up)

-- Each element is a word.
all_words : (ws : List ℕ) → ((i : ℕ) → i < length ws → get_or ws i 0 ≤ max_word) → AllWords ws
all_words [] h = tt
all_words (w ∷ ws) h = (h 0 (omega arith), all_words ws (λ i b. h (suc i) (omega arith)))

module _ (t : List ℕ) (l : ℕ) (ws : List ℕ) (c n : ℕ) (short : c ≤ max_cycle) (p : ListRight (RightMask t l) c ws n) (long : length ws ≡ 2 * n) where
  masks : (i : ℕ) → i < n → (mask_of ws i ≡ held_mask) ⊎ (mask_of ws i ≡ idle_mask)
  masks i h = two_masks (SlotOn t l) (begin_of ws i) (mask_of ws i) (p.pairs.right i (begin_of ws i) h (shows_first (RightMask t l) ws n p.pairs i h))

  small : (i : ℕ) → i < length ws → get_or ws i 0 ≤ max_word
  small i h =
      let d = div-add-mod' i 2 in
      let r : i % 2 < 2 = mod-lt i (omega arith) in
      ⊎_elim
      (λ (k : i % 2 < 1).
      let z : 2 * (i / 2) ≡ i = omega arith in
      subst (λ (j : ℕ). get_or ws j 0 ≤ max_word) z
      (⊎_elim (λ (e : mask_of ws (i / 2) ≡ held_mask). omega arith) (λ (e : mask_of ws (i / 2) ≡ idle_mask). omega arith) (masks (i / 2) (omega arith))))
      (λ (k : 1 ≤ i % 2).
      let z : 2 * (i / 2) + 1 ≡ i = omega arith in
      subst (λ (j : ℕ). get_or ws j 0 ≤ max_word) z (omega (arith, within_cycle (RightMask t l) c ws n p (i / 2) (omega arith))))
      (lt_or_ge (i % 2) 1)

  list_words : IsGateList t l ws → GateListWords ws
  list_words is = record {
    whole = whole_pairs t l ws is;
    words = all_words ws small;
    masks = λ i h. masks i (omega arith);
    durations = λ i h. (p.pairs.lasts i (omega arith), omega (arith, within_cycle (RightMask t l) c ws n p i (omega arith)));
  }

pub gate_lists_are_words : GateListsAreWords
gate_lists_are_words t l ws short (without_legs n e) = record {
  whole = record { count = 0; words = ap length e };
  words = subst AllWords (sym e) tt;
  masks = λ i h. absurd (omega (arith, ap length e));
  durations = λ i h. absurd (omega (arith, ap length e));
}
gate_lists_are_words t l ws short (with_legs s on c n k p long) =
    let e : c ≡ short.cycle = one_cycle (SlotOn t l) c short.cycle k short.is in
    list_words t l ws c n (omega (arith, short.short)) p long (with_legs s on c n k p long)

-- Read back from its bytes.
pub gate_lists_come_back : GateListsComeBack
gate_lists_come_back t l n b b' words words' r ((m, (c, room)), (ws, is, laid)) q h =
    let few = subst (λ (vs : List ℕ). length vs ≤ 2 * max_pairs) (one_gate_list t l c.1.list ws c.1.is is) c.1.few in
    let back = lists_come_back ws b b' words words' n r (gate_lists_are_words t l ws c.0 is).words (whole_pairs t l ws is, laid) q (omega arith) in
    (ws, is, back.0, back.1)
