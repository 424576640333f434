-- Whole periods change nothing: what meets meets again after a common multiple of the periods, however late both begin. Assumes nothing.
use Prim.Native.Nat.{ℕ, ◌+◌, ◌*◌, ◌-◌, ◌≤◌}
use mathlib.Core.Path.{◌≡◌, ◌∙◌, sym, ap}
use native.Mathlib.Nat.{add-mul, mul_comm, mul_assoc, le-mul_of_pos_right}
use native.Mathlib.Omega.{arith}
use Rattle.overlap.specs.Meeting.{HoldsLink, NeverMeet}
use Rattle.overlap.specs.Theorems.{later, WholePeriodsChangeNothing}
use Rattle.overlap.specs.declared.Slot.{Slot}

-- Repeat k of the later slot is repeat n + k of the slot itself.
same_repeat : (s : Slot) (n k x : ℕ) → HoldsLink (later n s) k x → HoldsLink s (n + k) x
same_repeat s n k x h = let t = add-mul n k s.period in record { begun = omega (arith, h.begun); not_ended = omega (arith, h.not_ended) }

-- And d repeats after the n-th, which come t ns later.
later_repeat : (s : Slot) (n k x d t : ℕ) → (n + d) * s.period ≡ t → HoldsLink s k x → HoldsLink (later n s) (k + d) (x + t)
later_repeat s n k x d t e h =
    let u = add-mul n d s.period in
    let v = add-mul k d s.period in
    record { begun = omega (arith, h.begun); not_ended = omega (arith, h.not_ended) }

pub whole_periods_change_nothing : WholePeriodsChangeNothing
unfolding NeverMeet
whole_periods_change_nothing a b n m pa pb = (
  λ never k l x p q. never (n + k) (m + l) x (same_repeat a n k x p) (same_repeat b m l x q),
  λ never k l x p q.
      let c = n + m in
      let few-a : n ≤ c * b.period = omega (arith, le-mul_of_pos_right c pb) in
      let few-b : m ≤ c * a.period = omega (arith, le-mul_of_pos_right c pa) in
      let t = c * b.period * a.period in
      let da : n + (c * b.period - n) ≡ c * b.period = omega arith in
      let db : m + (c * a.period - m) ≡ c * a.period = omega arith in
      let turn : c * a.period * b.period ≡ t = mul_assoc c a.period b.period ∙ ap (λ (z : ℕ). c * z) (mul_comm a.period b.period) ∙ sym (mul_assoc c b.period a.period) in
      never (k + (c * b.period - n)) (l + (c * a.period - m)) (x + t)
      (later_repeat a n k x (c * b.period - n) t (ap (λ (z : ℕ). z * a.period) da) p)
      (later_repeat b m l x (c * a.period - m) t (ap (λ (z : ℕ). z * b.period) db ∙ turn) q),
)
