-- Of a table that is given word by word it is computed that no two links have the same ends. Assumes nothing.
use Prim.Native.Nat.{ℕ, zero, suc, ◌+◌, ◌<◌}
use mathlib.Core.Path.{◌≡◌, refl, ap}
use mathlib.Core.List.{List}
use mathlib.Core.Logic.{⊎_elim}
use lib.Dec.{eqb}
use native.Mathlib.Nat.{eq-or-lt_of_le}
use native.Mathlib.Omega.{arith}
use borrow.Author.Tests.{eq-eqb}
use Rattle.basics.specs.Lowest.{All}
use Rattle.basics.specs.Pick.{pick}
use Rattle.table.specs.Records.{link_part, link_in}
use Rattle.table.specs.declared.Link.{Link}
use Rattle.table.proofs.PartLaws.{link_of_part}
use Rattle.shape.specs.Links.{SameEnds, LinkNew}

-- 1 where two links have the same ends, or 0; how many of the links below j have those of l; and how many links below n have those of an earlier one.
abbrev alike : Link → Link → ℕ
alike l m = pick (eqb l.from m.from) (pick (eqb l.to m.to) 1 0) 0

abbrev alike_below : List ℕ → Link → ℕ → ℕ
alike_below t l zero = 0
alike_below t l (suc j) = alike_below t l j + alike (link_in (link_part t) j) l

abbrev pub doubles : List ℕ → ℕ → ℕ
doubles t zero = 0
doubles t (suc i) = doubles t i + alike_below t (link_in (link_part t) i) i

alike_one : (l m : Link) → SameEnds l m → alike l m ≡ 1
alike_one l m e = rw (eq-eqb l.from m.from e.from_node, eq-eqb l.to m.to e.to_node) refl

none_below : (t : List ℕ) (l : Link) (n : ℕ) → alike_below t l n ≡ 0 → (j : ℕ) → j < n → SameEnds (link_in (link_part t) j) l → ⊥
none_below t l zero z j h e = omega arith
none_below t l (suc n) z j h e =
    ⊎_elim
    (λ (q : suc j ≡ suc n).
    let w : j ≡ n = omega arith in
    omega (arith, z, alike_one (link_in (link_part t) j) l e, ap (λ (i : ℕ). alike (link_in (link_part t) i) l) w))
    (λ (q : suc j < suc n). none_below t l n (omega (arith, z)) j (omega arith) e)
    (eq-or-lt_of_le {n = suc j} {m = suc n} h)

pub all_new : (t : List ℕ) (n : ℕ) → doubles t n ≡ 0 → All (LinkNew t) n
all_new t zero z i h j l e = omega arith
all_new t (suc n) z i h j l e =
    ⊎_elim
    (λ (q : suc i ≡ suc n).
    let w : i ≡ n = omega arith in
    let same = rw (← (link_of_part t j), ← (link_of_part t i), w) at e in
    none_below t (link_in (link_part t) n) n (omega (arith, z)) j (omega arith) same)
    (λ (q : suc i < suc n). all_new t n (omega (arith, z)) i (omega arith) j l e)
    (eq-or-lt_of_le {n = suc i} {m = suc n} h)
