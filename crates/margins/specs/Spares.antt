-- When the numbers of a rule keep it, and by how much.
use Rattle.std.specs.Prelude.{ℕ, ◌+◌, ◌≤◌, ◌<◌, ◌≡◌}
use Rattle.margins.specs.declared.Margin.{Margin}
use Rattle.margins.specs.declared.Margin.TheVariants as margin
use Rattle.margins.specs.declared.Spare.{Spare}
use Rattle.margins.specs.declared.Spare.TheVariants as spare

-- The rule is kept: it needs no more than it has; and of two legs that take turns each ends before the other begins.
abbrev pub Kept : Margin → Type 0
Kept margin.Free = Unit {0}
Kept (margin.Sides s) = s.needs ≤ s.has
Kept (margin.Turns s) = (s.hold ≤ s.after) × (s.other + s.after ≤ s.divisor)

-- It is kept also where n ns more are needed, of two legs by either.
abbrev pub KeptWith : Margin → ℕ → Type 0
KeptWith margin.Free n = Unit {0}
KeptWith (margin.Sides s) n = s.needs + n ≤ s.has
KeptWith (margin.Turns s) n = (s.hold + n ≤ s.after) × (s.other + n + s.after ≤ s.divisor)

-- It is kept where n ns less are needed, of two legs by each.
abbrev pub KeptBut : Margin → ℕ → Type 0
KeptBut margin.Free n = Unit {0}
KeptBut (margin.Sides s) n = s.needs ≤ s.has + n
KeptBut (margin.Turns s) n = (s.hold ≤ s.after + n) × (s.other + s.after ≤ s.divisor + n)

-- So much is left: the most that may be needed besides.
pub record IsLeft (m : Margin) (n : ℕ) : Type 0 where
  pub kept : KeptWith m n
  pub most : (k : ℕ) → KeptWith m k → k ≤ n

-- So much is lacking: the rule is not kept, and this is the least by which less must be needed.
pub record IsLacking (m : Margin) (n : ℕ) : Type 0 where
  pub broken : Kept m → ⊥
  pub enough : KeptBut m n
  pub least : (k : ℕ) → KeptBut m k → n ≤ k

-- By how much a rule is kept or missed.
abbrev pub IsSpare : Margin → Spare → Type 0
IsSpare m spare.Free = m ≡ margin.Free
IsSpare m (spare.Left n) = IsLeft m n
IsSpare m (spare.Lacks n) = IsLacking m n

-- What lies after by a divisor is less than it.
abbrev pub LessThanATurn : Margin → Type 0
LessThanATurn margin.Free = Unit {0}
LessThanATurn (margin.Sides s) = Unit {0}
LessThanATurn (margin.Turns s) = s.after < s.divisor
