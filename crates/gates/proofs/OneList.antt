-- One list is right: from a common begin the masks are equal, and the shorter of two first pairs would end where the mask must change. Assumes nothing.
use Prim.Native.Nat.{ℕ, zero, suc, ◌+◌, ◌-◌, ◌≤◌, ◌<◌}
use mathlib.Core.Path.{◌≡◌, sym, ◌∙◌}
use mathlib.Core.List.{List}
use mathlib.Core.Logic.{⊎_elim}
use native.Mathlib.Omega.{arith}
use Rattle.basics.proofs.Splits.{lt_or_ge}
use Rattle.gates.specs.Pairs.{mask_of, duration_of, begin_of, ShowsAt, PairsRight, ListRight}
use Rattle.gates.specs.Steps.{Unfinished}
use Rattle.gates.specs.Theorems.{OneMask, OneList, UnfinishedIsShorter}
use Rattle.gates.proofs.Begins.{begin_none, begin_next}

-- A right pair shows where it begins.
pub shows_first : (R : ℕ → ℕ → Type 0) (w : List ℕ) (n : ℕ) → PairsRight R w n → (i : ℕ) → i < n → ShowsAt w i (begin_of w i)
shows_first R w n p i h = record { begun = omega arith; not_ended = omega (arith, p.lasts i h) }

-- Later pairs begin later.
pub later : (R : ℕ → ℕ → Type 0) (w : List ℕ) (n : ℕ) → PairsRight R w n → (i j : ℕ) → i + j ≤ n → begin_of w i + j ≤ begin_of w (i + j)
later R w n p i zero h = let z : i + 0 ≡ i = omega arith in rw z (omega arith)
later R w n p i (suc j) h =
    let r = later R w n p i j (omega arith) in
    let s = begin_next w (i + j) in
    let e : i + suc j ≡ i + j + 1 = omega arith in
    rw e (omega (arith, p.lasts (i + j) (omega arith)))

-- Pairs that are right up to an end, each as long as it can be before it.
record Closed (R : ℕ → ℕ → Type 0) (cycle : ℕ) (w : List ℕ) (n : ℕ) : Type 0 where
  pub pairs : PairsRight R w n
  pub within : begin_of w n ≤ cycle
  pub closed : (i : ℕ) → i < n → begin_of w i + duration_of w i < cycle → R (begin_of w i + duration_of w i) (mask_of w i) → ⊥

module _ (R : ℕ → ℕ → Type 0) (one : OneMask R) (cycle : ℕ) where
  -- Up to the next pair a pair can be no longer, since the next one differs.
  closed_before : (w : List ℕ) (n : ℕ) → PairsRight R w n → (i : ℕ) → i + 1 < n → R (begin_of w i + duration_of w i) (mask_of w i) → ⊥
  closed_before w n p i h r =
      let s = begin_next w i in
      let q = p.right (i + 1) (begin_of w i + duration_of w i) h (record { begun = omega arith; not_ended = omega (arith, p.lasts (i + 1) h) }) in
      p.differ i h (one _ _ _ r q)

  list_closed : (w : List ℕ) (n : ℕ) → ListRight R cycle w n → Closed R cycle w n
  list_closed w n r = record {
    pairs = r.pairs;
    within = omega (arith, r.adds_up);
    closed = λ i h b q.
        ⊎_elim
        (λ (k : i + 1 < n). closed_before w n r.pairs i k q)
        (λ (k : n ≤ i + 1). let e : n ≡ i + 1 = omega arith in let s = begin_next w i in let a = r.adds_up in omega (arith, rw e at a))
        (lt_or_ge (i + 1) n);
  }

  unfinished_closed : (w : List ℕ) (n : ℕ) → Unfinished R cycle w n → Closed R cycle w n
  unfinished_closed w n o = record {
    pairs = o.pairs;
    within = omega (arith, o.short);
    closed = λ i h lt q.
        ⊎_elim
        (λ (t : i + 1 < n). closed_before w n o.pairs i t q)
        (λ (t : n ≤ i + 1). let z : n ≡ i + 1 = omega arith in o.changes i z (rw z (rw (begin_next w i) q)))
        (lt_or_ge (i + 1) n);
  }

  -- Two pairs that begin together.
  module _ (w : List ℕ) (n : ℕ) (v : List ℕ) (m : ℕ) (p : Closed R cycle w n) (q : Closed R cycle v m) (i : ℕ) (h : i < n) (k : i < m) (e : begin_of w i ≡ begin_of v i) where
    pair_mask : mask_of w i ≡ mask_of v i
    pair_mask =
        let r = q.pairs.right i (begin_of v i) k (shows_first R v m q.pairs i k) in
        one (begin_of w i) _ _ (p.pairs.right i (begin_of w i) h (shows_first R w n p.pairs i h)) (rw e r)

    -- Not the first shorter than the second.
    not_shorter : duration_of w i < duration_of v i → ⊥
    not_shorter b =
        let t = later R v m q.pairs (i + 1) (m - (i + 1)) (omega arith) in
        let z : i + 1 + (m - (i + 1)) ≡ m = omega arith in
        let s = begin_next v i in
        let u = q.within in
        let t' = rw z at t in
        let r = q.pairs.right i (begin_of w i + duration_of w i) k (record { begun = omega arith; not_ended = omega arith }) in
        p.closed i h (omega arith) (rw pair_mask r)

  as_long : (w : List ℕ) (n : ℕ) (v : List ℕ) (m : ℕ) → Closed R cycle w n → Closed R cycle v m
      → (i : ℕ) → i < n → i < m → begin_of w i ≡ begin_of v i → duration_of w i ≡ duration_of v i
  as_long w n v m p q i h k e =
      ⊎_elim
      (λ (b : duration_of w i < duration_of v i). absurd (not_shorter w n v m p q i h k e b))
      (λ (b : duration_of v i ≤ duration_of w i).
      ⊎_elim
      (λ (d : duration_of v i < duration_of w i). absurd (not_shorter v m w n q p i k h (sym e) d))
      (λ (d : duration_of w i ≤ duration_of v i). omega arith)
      (lt_or_ge (duration_of v i) (duration_of w i)))
      (lt_or_ge (duration_of w i) (duration_of v i))

  -- So all pairs that both have begin together.
  together : (w : List ℕ) (n : ℕ) (v : List ℕ) (m : ℕ) → Closed R cycle w n → Closed R cycle v m → (i : ℕ) → i ≤ n → i ≤ m → begin_of w i ≡ begin_of v i
  together w n v m p q zero h k = begin_none w ∙ sym (begin_none v)
  together w n v m p q (suc i) h k =
      let e = together w n v m p q i (omega arith) (omega arith) in
      let d = as_long w n v m p q i (omega arith) (omega arith) e in
      let z : suc i ≡ i + 1 = omega arith in
      rw z (omega (arith, begin_next w i, begin_next v i))

  -- Pairs that do not reach the end are fewer than those of a right list.
  fewer : (w : List ℕ) (n : ℕ) (v : List ℕ) (m : ℕ) → Closed R cycle w n → begin_of w n < cycle → ListRight R cycle v m → n < m
  fewer w n v m p b r =
      ⊎_elim
      (λ (h : n < m). h)
      (λ (h : m ≤ n).
      let e = together w n v m p (list_closed v m r) m h (omega arith) in
      let t = later R w n p.pairs m (n - m) (omega arith) in
      let z : m + (n - m) ≡ n = omega arith in
      let t' = rw z at t in
      let a = r.adds_up in
      absurd (omega arith))
      (lt_or_ge n m)

  not_fewer : (w : List ℕ) (n : ℕ) (v : List ℕ) (m : ℕ) → ListRight R cycle w n → ListRight R cycle v m → n < m → ⊥
  not_fewer w n v m p r h =
      let e = together w n v m (list_closed w n p) (list_closed v m r) n (omega arith) (omega arith) in
      let t = later R v m r.pairs n (m - n) (omega arith) in
      let z : n + (m - n) ≡ m = omega arith in
      let t' = rw z at t in
      let a = r.adds_up in
      let b = p.adds_up in
      omega arith

pub one_list : OneList
one_list R one cycle w n v m p q =
    let c : n ≡ m = ⊎_elim
    (λ (h : n < m). absurd (not_fewer R one cycle w n v m p q h))
    (λ (h : m ≤ n). ⊎_elim (λ (k : m < n). absurd (not_fewer R one cycle v m w n q p k)) (λ (k : n ≤ m). omega arith) (lt_or_ge m n))
    (lt_or_ge n m) in
    let a = list_closed R one cycle w n p in
    let b = list_closed R one cycle v m q in
    let t : (i : ℕ) → i < n → begin_of w i ≡ begin_of v i = λ i h. together R one cycle w n v m a b i (omega arith) (omega arith) in
    record {
      count = c;
      mask = λ i h. pair_mask R one cycle w n v m a b i h (omega arith) (t i h);
      duration = λ i h. as_long R one cycle w n v m a b i h (omega arith) (t i h);
    }

pub unfinished_is_shorter : UnfinishedIsShorter
unfinished_is_shorter R one cycle w n v m o r = fewer R one cycle w n v m (unfinished_closed R one cycle w n o) o.short r
