-- What was last seen of a plan.
use Rattle.std.specs.Prelude.{ℕ, ◌≤◌, ◌≡◌, List, [], ◌++◌, ◌⊎◌, length, Option, Some, None}
use Rattle.std.specs.Borrow.{Bor}
use Rattle.numbers.specs.Number.{max_word, bytes_of}
use Rattle.table.specs.Layout.{SizedIn}
use Rattle.table.specs.declared.Edition.{Edition}
use Rattle.files.specs.Reading.{IsFile}

-- What was seen is how many bytes the first plan has, as a number, then that plan, then the other one or nothing.
pub record Kept (s first other : List ℕ) : Type 0 where
  pub size : length first ≤ max_word
  pub whole : s ≡ bytes_of (length first) ++ (first ++ other)

-- The plan p is one of those that were seen. (Where there is no other one, an empty plan counts as seen; it is no plan, and refused with 12 before this is asked.)
pub record Known (s p : List ℕ) : Type 0 where
  pub first : List ℕ
  pub other : List ℕ
  pub kept : Kept s first other
  pub is : (first ≡ p) ⊎ (other ≡ p)

-- p is a plan file of the layout e.
abbrev pub PlanFile : Edition → List ℕ → Type 0
PlanFile e p = (t : List ℕ) × IsFile (SizedIn e) p t

-- s is a copy: the first plan is a plan file of the layout e, and the other is one or nothing. This is what was kept beside a cursor before editions were named; since then the
-- edition stands in front of it (Editions.antt).
pub record Copy (e : Edition) (s : List ℕ) : Type 0 where
  pub first : List ℕ
  pub other : List ℕ
  pub kept : Kept s first other
  pub plan : PlanFile e first
  pub rest : (other ≡ []) ⊎ PlanFile e other

-- The two plans that were kept in s; or s does not have the form of what was seen.
abbrev pub Splits : List ℕ → Option (Bor (List ℕ) × Bor (List ℕ)) → Type 0
Splits s (Some p) = Kept s p.0.now p.1.now
Splits s None = (first other : List ℕ) → Kept s first other → ⊥
