-- One more slot put among those of a list, behind them and then swapped to its place. Assumes nothing.
use Prim.Native.Nat.{ℕ, ◌+◌, ◌≤◌, ◌<◌}
use mathlib.Core.Path.{◌≡◌, sym, ◌∙◌, ap}
use mathlib.Core.List.{List}
use mathlib.Core.Logic.{inl, inr, ⊎_elim}
use lib.ListN.{length, get_or, set, length-set}
use lib.Seq.{get_or-set_same, get_or-set_other}
use native.Mathlib.Omega.{arith}
use Rattle.std.specs.List.{swap}
use Rattle.std.proofs.lemmas.List.Edits.{swap_is, length-swap}
use Rattle.basics.proofs.Splits.{lt_or_ge}
use Rattle.overlap.specs.declared.Slot.{Slot}
use Rattle.gates.specs.Steps.{slot_in, no_slot, widened, Added, InSlots}
use Rattle.gates.specs.declared.slots.StoredSlot.{StoredSlot}

-- A slot put behind the first n.
module _ (slots : List StoredSlot) (n : ℕ) (s : StoredSlot) (room : n < length slots) where
  abbrev after : List StoredSlot
  after = set slots n s

  below : (j : ℕ) → j < n → slot_in after j ≡ slot_in slots j
  below j b = ap widened (get_or-set_other slots n j s no_slot (λ z. omega arith))

  there : slot_in after n ≡ widened s
  there = ap widened (get_or-set_same slots n s no_slot room)

  pub added_last : Added slots n (widened s) after
  added_last = record {
    size = length-set slots n s;
    old = λ r w. record { which = w.which; there = omega (arith, w.there); is = w.is ∙ sym (below w.which w.there) };
    new = record { which = n; there = omega arith; is = sym there };
    no_other = λ r w.
        ⊎_elim
        (λ (q : w.which < n). inr (record { which = w.which; there = q; is = w.is ∙ below w.which q }))
        (λ (q : n ≤ w.which). let y : w.which ≡ n = omega (arith, w.there) in inl (w.is ∙ ap (slot_in after) y ∙ there))
        (lt_or_ge w.which n);
  }

-- Slot i and slot n in each other's place.
module _ (slots : List StoredSlot) (i n : ℕ) (inside : i < n) (room : n < length slots) where
  abbrev turned : List StoredSlot
  turned = swap slots i n

  abbrev put : List StoredSlot
  put = set slots i (get_or slots n no_slot)

  is : turned ≡ set put n (get_or slots i no_slot)
  is = sym (swap_is slots i n no_slot (omega arith) room)

  at_i : slot_in turned i ≡ slot_in slots n
  at_i =
      ap (λ (l : List StoredSlot). slot_in l i) is
      ∙ ap widened (get_or-set_other put n i (get_or slots i no_slot) no_slot (λ z. omega arith) ∙ get_or-set_same slots i (get_or slots n no_slot) no_slot (omega arith))

  at_n : slot_in turned n ≡ slot_in slots i
  at_n =
      ap (λ (l : List StoredSlot). slot_in l n) is
      ∙ ap widened (get_or-set_same put n (get_or slots i no_slot) no_slot (omega (arith, length-set slots i (get_or slots n no_slot))))

  others : (j : ℕ) → (j ≡ i → ⊥) → (j ≡ n → ⊥) → slot_in turned j ≡ slot_in slots j
  others j a b =
      ap (λ (l : List StoredSlot). slot_in l j) is
      ∙ ap widened (get_or-set_other put n j (get_or slots i no_slot) no_slot b ∙ get_or-set_other slots i j (get_or slots n no_slot) no_slot a)

  -- No slot is lost by it, and none comes in.
  stays_in : (r : Slot) → InSlots slots (n + 1) r → InSlots turned (n + 1) r
  stays_in r w =
      ⊎_elim
      (λ (q : w.which < n).
      ⊎_elim
      (λ (l : w.which < i). record { which = w.which; there = w.there; is = w.is ∙ sym (others w.which (λ z. omega arith) (λ z. omega arith)) })
      (λ (l : i ≤ w.which).
      ⊎_elim
      (λ (m : i < w.which). record { which = w.which; there = w.there; is = w.is ∙ sym (others w.which (λ z. omega arith) (λ z. omega arith)) })
      (λ (m : w.which ≤ i). let y : w.which ≡ i = omega arith in record { which = n; there = omega arith; is = w.is ∙ ap (slot_in slots) y ∙ sym at_n })
      (lt_or_ge i w.which))
      (lt_or_ge w.which i))
      (λ (q : n ≤ w.which). let y : w.which ≡ n = omega (arith, w.there) in record { which = i; there = omega arith; is = w.is ∙ ap (slot_in slots) y ∙ sym at_i })
      (lt_or_ge w.which n)

  was_in : (r : Slot) → InSlots turned (n + 1) r → InSlots slots (n + 1) r
  was_in r w =
      ⊎_elim
      (λ (q : w.which < n).
      ⊎_elim
      (λ (l : w.which < i). record { which = w.which; there = w.there; is = w.is ∙ others w.which (λ z. omega arith) (λ z. omega arith) })
      (λ (l : i ≤ w.which).
      ⊎_elim
      (λ (m : i < w.which). record { which = w.which; there = w.there; is = w.is ∙ others w.which (λ z. omega arith) (λ z. omega arith) })
      (λ (m : w.which ≤ i). let y : w.which ≡ i = omega arith in record { which = n; there = omega arith; is = w.is ∙ ap (slot_in turned) y ∙ at_i })
      (lt_or_ge i w.which))
      (lt_or_ge w.which i))
      (λ (q : n ≤ w.which). let y : w.which ≡ n = omega (arith, w.there) in record { which = i; there = omega arith; is = w.is ∙ ap (slot_in turned) y ∙ at_n })
      (lt_or_ge w.which n)

  pub added_swap : {before : List StoredSlot} {s : Slot} → Added before n s slots → Added before n s turned
  added_swap {before} {s} so = record {
    size = length-swap slots i n ∙ so.size;
    old = λ r w. stays_in r (so.old r w);
    new = stays_in s so.new;
    no_other = λ r w. so.no_other r (was_in r w);
  }
