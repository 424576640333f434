-- What is to spare, and that it is one. Assumes nothing.
use Prim.Native.Nat.{ℕ, ◌+◌}
use mathlib.Core.Path.{◌≡◌, refl, sym, ap, subst}
use native.Mathlib.Omega.{arith}
use Rattle.margins.specs.Spares.{Kept, KeptWith, IsLeft}
use Rattle.margins.specs.Theorems.{SparesDecide, SpareOneAnswer}
use Rattle.margins.specs.declared.Margin.{Margin}
use Rattle.margins.specs.declared.Margin.TheVariants as margin
use Rattle.margins.specs.declared.Spare.TheVariants as spare

kept_with : (m : Margin) (n : ℕ) → KeptWith m n → Kept m
kept_with margin.Free n k = tt
kept_with (margin.Sides s) n k = omega arith
kept_with (margin.Turns s) n k = (omega (arith, k.0), omega (arith, k.1))

free_kept : (m : Margin) → m ≡ margin.Free → Kept m
free_kept m e = subst Kept (sym e) tt

-- Nothing asked leaves no most.
free_has_no_most : (m : Margin) (n : ℕ) → m ≡ margin.Free → IsLeft m n → ⊥
free_has_no_most m n e l = omega (arith, l.most (n + 1) (subst (λ (z : Margin). KeptWith z (n + 1)) (sym e) tt))

pub spares_decide : SparesDecide
spares_decide = record { free = free_kept; left = λ m n l. kept_with m n l.kept; lacks = λ m n l. l.broken }

pub spare_one_answer : SpareOneAnswer
spare_one_answer m spare.Free spare.Free e f = refl
spare_one_answer m spare.Free (spare.Left n) e l = absurd (free_has_no_most m n e l)
spare_one_answer m spare.Free (spare.Lacks n) e l = absurd (l.broken (free_kept m e))
spare_one_answer m (spare.Left n) spare.Free l e = absurd (free_has_no_most m n e l)
spare_one_answer m (spare.Left n) (spare.Left k) l h =
    let le = l.most k h.kept in
    let ge = h.most n l.kept in
    ap spare.Left (omega arith)
spare_one_answer m (spare.Left n) (spare.Lacks k) l h = absurd (h.broken (kept_with m n l.kept))
spare_one_answer m (spare.Lacks n) spare.Free l e = absurd (l.broken (free_kept m e))
spare_one_answer m (spare.Lacks n) (spare.Left k) l h = absurd (l.broken (kept_with m k h.kept))
spare_one_answer m (spare.Lacks n) (spare.Lacks k) l h =
    let le = l.least k h.enough in
    let ge = h.least n l.enough in
    ap spare.Lacks (omega arith)
