-- With which numbers and at which positions a table is refused. Assumes nothing.
use Prim.Native.Nat.{ℕ, ◌≤◌}
use mathlib.Core.Path.{◌≡◌, ap}
use mathlib.Core.List.{List}
use mathlib.Core.Logic.{inl, inr}
use native.Mathlib.Omega.{arith}
use Rattle.basics.specs.Cause.{number_of}
use Rattle.basics.specs.declared.Cause.{Cause}
use Rattle.basics.specs.declared.Cause.TheVariants as cause
use Rattle.table.specs.Layout.{max_table_words, Sized}
use Rattle.table.proofs.Sizes.{size_one}
use Rattle.shape.specs.Shape.{ShapeFault}
use Rattle.shape.specs.OfTables.{max_refusal, RefusalNumber, OfBytes, OfTable}

-- All numbers up to 15 are such numbers.
pub up_to_room : (k : Cause) → number_of k ≤ number_of cause.NoRoom → RefusalNumber (number_of k)
up_to_room k h = inl h

pub of_table : (n : Cause) {k : Cause} {p : ℕ} → number_of n ≤ number_of cause.NoRoom → (OfBytes (number_of n) → ⊥) → k ≡ n → p ≤ max_table_words → OfTable k p
of_table n {k} l b e h =
    let same : number_of k ≡ number_of n = ap number_of e in
    record { number = up_to_room k (omega arith); small = omega arith; position = h; not_of_bytes = λ x. b (omega (arith, x.0), omega (arith, x.1)) }

-- The largest is none of bytes.
pub largest_of_table : {k : Cause} {p : ℕ} → k ≡ cause.TooLate → p ≤ max_table_words → OfTable k p
largest_of_table {k} e h =
    let same : number_of k ≡ max_refusal = ap number_of e in
    record { number = inr same; small = omega arith; position = h; not_of_bytes = λ x. omega (arith, x.1) }

pub shape_of_table : (t : List ℕ) (k : Cause) (p : ℕ) → ShapeFault t k p → OfTable k p
shape_of_table t k p (inl (inl x)) = of_table cause.NoHeader (omega arith) (λ b. omega (arith, b)) x.0 (omega (arith, x.1))
shape_of_table t k p (inl (inr (a, inl x))) = of_table cause.AboveLimit (omega arith) (λ b. omega (arith, b)) x.0 (omega (arith, x.1))
shape_of_table t k p (inl (inr (a, inr (b, x)))) = of_table cause.WrongLength (omega arith) (λ h. omega (arith, h)) x.0 (omega (arith, x.1))
shape_of_table t k p (inr (z, inl x)) = of_table cause.BadLink (omega arith) (λ b. omega (arith, b)) x.0 (omega (arith, x.1.inside, z.limits.links))
shape_of_table t k p (inr (z, inr (a, inl x))) = of_table cause.DoubleLink (omega arith) (λ b. omega (arith, b)) x.0 (omega (arith, x.1.inside, z.limits.links))
shape_of_table t k p (inr (z, inr (a, inr (b, inl x)))) =
    of_table cause.BadStream (omega arith) (λ h. omega (arith, h)) x.0 (omega (arith, x.1.inside, z.limits.streams))
shape_of_table t k p (inr (z, inr (a, inr (b, inr (c, inl x))))) =
    of_table cause.BadStream (omega arith) (λ h. omega (arith, h)) x.0 (omega (arith, x.1, z.limits.streams))
shape_of_table t k p (inr (z, inr (a, inr (b, inr (c, inr (d, x)))))) =
    of_table cause.BadLeg (omega arith) (λ h. omega (arith, h)) x.0 (omega (arith, x.1.inside, z.limits.legs))

-- A table of the right size is refused with 4 to 7, since 1 to 3 are of its size.
pub sized_refused : (t : List ℕ) (k : Cause) (p : ℕ) → Sized t → ShapeFault t k p → (number_of cause.BadLink ≤ number_of k) × (number_of k ≤ number_of cause.BadLeg)
sized_refused t k p z (inl x) = absurd ((size_one t).none z x)
sized_refused t k p z (inr (a, inl x)) = (omega (arith, ap number_of x.0), omega (arith, ap number_of x.0))
sized_refused t k p z (inr (a, inr (b, inl x))) = (omega (arith, ap number_of x.0), omega (arith, ap number_of x.0))
sized_refused t k p z (inr (a, inr (b, inr (c, inl x)))) = (omega (arith, ap number_of x.0), omega (arith, ap number_of x.0))
sized_refused t k p z (inr (a, inr (b, inr (c, inr (d, inl x))))) = (omega (arith, ap number_of x.0), omega (arith, ap number_of x.0))
sized_refused t k p z (inr (a, inr (b, inr (c, inr (d, inr (e, x)))))) = (omega (arith, ap number_of x.0), omega (arith, ap number_of x.0))

-- And any table with 1 to 7.
pub shape_refused : (t : List ℕ) (k : Cause) (p : ℕ) → ShapeFault t k p → (number_of cause.NoHeader ≤ number_of k) × (number_of k ≤ number_of cause.BadLeg)
shape_refused t k p (inl (inl x)) = (omega (arith, ap number_of x.0), omega (arith, ap number_of x.0))
shape_refused t k p (inl (inr (a, inl x))) = (omega (arith, ap number_of x.0), omega (arith, ap number_of x.0))
shape_refused t k p (inl (inr (a, inr (b, x)))) = (omega (arith, ap number_of x.0), omega (arith, ap number_of x.0))
shape_refused t k p (inr (z, x)) = let r = sized_refused t k p z (inr (z, x)) in (omega (arith, r.0), r.1)
