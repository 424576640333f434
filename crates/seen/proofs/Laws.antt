-- The number in front says where the first plan ends, and no other reading of what was seen is there. Assumes nothing.
use Prim.Native.Nat.{ℕ, ◌+◌, ◌-◌, ◌≤◌, ◌<◌}
use mathlib.Core.Path.{◌≡◌, refl, ◌∙◌, sym, ap}
use mathlib.Core.List.{List, [], ◌∷◌, ◌++◌}
use mathlib.Core.Logic.{◌⊎◌, inl, inr, ⊎_elim}
use lib.ListN.{length, take, drop, length-drop, length-append, take-append-drop}
use lib.Seq.{take_all, take_at, drop_at, length-take-le}
use native.Mathlib.Omega.{arith}
use Rattle.std.specs.Prelude.{Result, Ok, Err, IsOk, Option, Some, None, MatchOption, false, ◌↔◌}
use Rattle.std.specs.Result.{result_ok}
use Rattle.std.specs.List.{IsSplitAt}
use Rattle.std.proofs.Common.{◌==◌}
use Rattle.std.specs.Borrow.{Bor}
use Rattle.basics.specs.declared.Refusal.{Refusal}
use Rattle.files.specs.Steps.{PlanTold}
use Rattle.basics.specs.declared.Cause.{Cause}
use Rattle.numbers.specs.Number.{bytes_of, NoNumber}
use Rattle.numbers.specs.declared.Number.{Number}
use Rattle.numbers.specs.Calls.{NumberStands, ReadsNumber}
use Rattle.numbers.proofs.OneNumber.{same_word, word_not_refused}
use Rattle.table.specs.declared.Edition.{Edition}
use Rattle.files.proofs.OneAnswer.{file_no_fault}
use Rattle.seen.specs.Seen.{Kept, Known, PlanFile, Copy, Splits}

-- What is lent from a position on.
pub after : (s : List ℕ) (at : ℕ) → at ≤ length s → take (length s - at) (drop at s) ≡ drop at s
after s at h = take_all (length s - at) (drop at s) (omega (arith, length-drop at s))

-- A number that is read or not, as an option of it tells.
pub number_read : {s : List ℕ} {at : ℕ} (r : Result Number Refusal) {n : Number} → ReadsNumber s at r → Some n ≡ result_ok r → NumberStands s at n.value n.next
number_read (Ok m) {n} h e = let one : n ≡ m = cc in rw one h
number_read (Err d) h e = absurd (cc)

pub number_none : {s : List ℕ} {at : ℕ} (r : Result Number Refusal) → ReadsNumber s at r → None ≡ result_ok r → (k : Cause) × NoNumber s at k
number_none (Ok m) h e = absurd (cc)
number_none (Err d) h e = (d.cause, h.1)

-- What is not empty is no list without items.
pub some_left : (o : List ℕ) → false ≡ (length o == 0) → o ≡ [] → ⊥
some_left [] e z = absurd (cc)
some_left (x ∷ xs) e z = absurd (cc)

-- What comes after the number.
plans_after : (s : List ℕ) {n next : ℕ} (h : NumberStands s 0 n next) → drop next s ≡ h.stands.rest
plans_after s {n} {next} h =
    let e = h.ends in
    ap (drop next) h.stands.there ∙ drop_at (bytes_of n) h.stands.rest next (omega arith)

-- The number in front says where the first plan ends.
pub kept_parts : (s : List ℕ) {n next : ℕ} → NumberStands s 0 n next → n ≤ length (drop next s) → Kept s (take n (drop next s)) (drop n (drop next s))
kept_parts s {n} {next} h room =
    let size = length-take-le n (drop next s) room in
    record {
      size = omega (arith, h.word);
      whole = h.stands.there ∙ rw (size, take-append-drop, plans_after s h);
    }

-- The number of what was kept.
pub kept_number : {s f o : List ℕ} → Kept s f o → NumberStands s 0 (length f) (0 + length (bytes_of (length f)))
kept_number {f = f} {o = o} k =
    record { word = k.size; stands = record { rest = f ++ o; there = k.whole }; ends = refl }

-- The number that was read is the one that was kept.
kept_after : (s f o : List ℕ) {n next : ℕ} → NumberStands s 0 n next → Kept s f o
    → (next ≤ length s) × (n ≡ length f) × (drop next s ≡ f ++ o)
kept_after s f o {n} {next} h k =
    let m = length f in
    let again : NumberStands s 0 m (0 + length (bytes_of m)) = record { word = k.size; stands = record { rest = f ++ o; there = k.whole }; ends = refl } in
    let n-is : n ≡ m = same_word s 0 n m h.word again.word h.stands again.stands in
    let next_is : next ≡ 0 + length (bytes_of m) = h.ends ∙ ap (λ (x : ℕ). 0 + length (bytes_of x)) n-is in
    let l = ap length k.whole ∙ length-append (bytes_of m) (f ++ o) in
    (omega arith, n-is, rw next_is (plans_after s again))

-- Where there is no number, or fewer bytes than it says, nothing was kept.
pub none_kept : (s : List ℕ) (k : Cause) → NoNumber s 0 k → (f o : List ℕ) → Kept s f o → ⊥
none_kept s k none f o h = word_not_refused s 0 (length f) k h.size (record { rest = f ++ o; there = h.whole }) none

pub cut_kept : (s : List ℕ) {n next : ℕ} → NumberStands s 0 n next → (length s < next) ⊎ (length s - next < n) → (f o : List ℕ) → Kept s f o → ⊥
cut_kept s {n} {next} h (inl less) f o k = let b = kept_after s f o h k in omega (arith, b.0)
cut_kept s {n} {next} h (inr less) f o k =
    let b = kept_after s f o h k in
    let l = ap length b.2 ∙ length-append f o in
    omega (arith, b.0, b.1, length-drop next s)

-- The two plans that were kept are the only ones.
pub kept_once : (s f o g p : List ℕ) → Kept s f o → Kept s g p → (g ≡ f) × (p ≡ o)
kept_once s f o g p k h =
    let b = kept_after s g p (kept_number k) h in
    let c = kept_after s f o (kept_number k) k in
    let both : f ++ o ≡ g ++ p = sym c.2 ∙ b.2 in (
      sym (take_at g p (length f) (sym b.1)) ∙ ap (take (length f)) (sym both) ∙ take_at f o (length f) refl,
      sym (drop_at g p (length f) (sym b.1)) ∙ ap (drop (length f)) (sym both) ∙ drop_at f o (length f) refl,
    )

-- What the two plans tell.
pub split_known : {s f o p : List ℕ} {R : Type 0} → Kept s f o → R ↔ ((f ≡ p) ⊎ (o ≡ p)) → R ↔ Known s p
split_known {s} {f} {o} k told = (
  λ r. record { first = f; other = o; kept = k; is = told.0 r },
  λ h. let e = kept_once s f o h.first h.other k h.kept in told.1 (rw (e.0, e.1) at h.is),
)

pub split_copied : {s f o : List ℕ} {e : Edition} {R : Type 0} → Kept s f o → R ↔ (PlanFile e f × ((o ≡ []) ⊎ PlanFile e o)) → R ↔ Copy e s
split_copied {s} {f} {o} k told = (
  λ r. record { first = f; other = o; kept = k; plan = (told.0 r).0; rest = (told.0 r).1 },
  λ h. let e = kept_once s f o h.first h.other k h.kept in told.1 (rw e.0 at h.plan, rw e.1 at h.rest),
)

-- Looking through a file tells whether it is a plan file: whatever is refused is none.
pub plan_told : (e : Edition) (s : List ℕ) (r : Result ℕ Refusal) → PlanTold e s r → IsOk r ↔ PlanFile e s
plan_told e s (Ok n) (t, f, l) = (λ ok. (t, f), λ p. refl)
plan_told e s (Err d) f = (λ ok. absurd (cc), λ p. absurd (file_no_fault p.1 f))

-- What comes after the number is cut where it says: the two plans, or nothing was kept.
pub split_told : {s rest : List ℕ} {n next : ℕ} (o : Option (Bor (List ℕ) × Bor (List ℕ)))
    → NumberStands s 0 n next → rest ≡ drop next s → MatchOption o (length rest < n) (λ p. IsSplitAt rest n p.0.now p.1.now) → Splits s o
split_told {s} {rest} {n} {next} None h e m = cut_kept s h (inr (omega (arith, length-drop next s, ap length e, m)))
split_told {s} {rest} {n} {next} (Some p) h e m = rw (m.1, m.2, e) (kept_parts s h (rw e at m.0))

-- Where a plan file stands in front and something after it, that tells.
pub told_plans : {e : Edition} {f o : List ℕ} {R : Type 0} → PlanFile e f → (o ≡ [] → ⊥) → R ↔ PlanFile e o → R ↔ (PlanFile e f × ((o ≡ []) ⊎ PlanFile e o))
told_plans first more told = (λ r. (first, inr (told.0 r)), λ x. ⊎_elim (λ z. absurd (more z)) told.1 x.1)
