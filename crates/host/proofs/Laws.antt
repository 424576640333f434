-- The numbers and positions of refusals are small, since every table and every file is. Assumes nothing.
use Prim.Native.Nat.{ℕ, ◌≤◌}
use mathlib.Core.Path.{◌≡◌, refl, ◌∙◌, sym, ap}
use mathlib.Core.List.{List, [], ◌∷◌}
use mathlib.Core.Logic.{inl, inr}
use native.Mathlib.Omega.{arith}
use lib.ListN.{length, get_or}
use Rattle.basics.specs.Cause.{number_of}
use Rattle.basics.specs.declared.Cause.{Cause}
use Rattle.basics.specs.declared.Cause.TheVariants as cause
use Rattle.numbers.specs.Series.{Row}
use Rattle.numbers.proofs.Rows.{file_length}
use Rattle.table.specs.Layout.{max_table_words, current, first_layout, words_in, LimitsIn}
use Rattle.table.specs.declared.Edition.{Edition}
use Rattle.shape.specs.OfTables.{OfTable}
use Rattle.files.specs.Plan.{PlanDueIn, PlanFaultIn, PlanFault}
use Rattle.files.specs.Theorems.{max_file_bytes}
use Rattle.host.specs.Refusals.{CursorUnread}
use Rattle.host.specs.Steps.{Small}

-- Each cause has its own number, and it is small.
abbrev by_number : List Cause
by_number =
    cause.NoHeader ∷ cause.NoHeader ∷ cause.AboveLimit ∷ cause.WrongLength ∷ cause.BadLink ∷ cause.DoubleLink ∷ cause.BadStream ∷ cause.BadLeg ∷ cause.StaleCursor ∷ cause.NoPlace ∷ cause.NoLeg ∷ cause.CannotRise ∷ cause.BytesEnd ∷ cause.UnfitNumber ∷
    cause.LeftOver ∷ cause.NoRoom ∷ cause.OutOfRange ∷ cause.TooLate ∷ cause.NoOffset ∷ cause.NotAccepted ∷ cause.CannotAdd ∷ cause.LongCycle ∷ cause.TooManyPairs ∷ cause.NoLink ∷ cause.NoHeader ∷ cause.NoHeader ∷ cause.NoHeader ∷ cause.TooLarge ∷ []

number_back : (k : Cause) → get_or by_number (number_of k) cause.NoHeader ≡ k
number_back cause.NoHeader = refl
number_back cause.AboveLimit = refl
number_back cause.WrongLength = refl
number_back cause.BadLink = refl
number_back cause.DoubleLink = refl
number_back cause.BadStream = refl
number_back cause.BadLeg = refl
number_back cause.StaleCursor = refl
number_back cause.NoPlace = refl
number_back cause.NoLeg = refl
number_back cause.CannotRise = refl
number_back cause.BytesEnd = refl
number_back cause.UnfitNumber = refl
number_back cause.LeftOver = refl
number_back cause.NoRoom = refl
number_back cause.OutOfRange = refl
number_back cause.TooLate = refl
number_back cause.NoOffset = refl
number_back cause.NotAccepted = refl
number_back cause.CannotAdd = refl
number_back cause.LongCycle = refl
number_back cause.TooManyPairs = refl
number_back cause.NoLink = refl
number_back cause.TooLarge = refl

pub number_once : (k l : Cause) → number_of k ≡ number_of l → k ≡ l
number_once k l e = sym (number_back k) ∙ ap (λ (n : ℕ). get_or by_number n cause.NoHeader) e ∙ number_back l

pub number_small : (k : Cause) → number_of k ≤ number_of cause.TooLarge
number_small cause.NoHeader = omega arith
number_small cause.AboveLimit = omega arith
number_small cause.WrongLength = omega arith
number_small cause.BadLink = omega arith
number_small cause.DoubleLink = omega arith
number_small cause.BadStream = omega arith
number_small cause.BadLeg = omega arith
number_small cause.StaleCursor = omega arith
number_small cause.NoPlace = omega arith
number_small cause.NoLeg = omega arith
number_small cause.CannotRise = omega arith
number_small cause.BytesEnd = omega arith
number_small cause.UnfitNumber = omega arith
number_small cause.LeftOver = omega arith
number_small cause.NoRoom = omega arith
number_small cause.OutOfRange = omega arith
number_small cause.TooLate = omega arith
number_small cause.NoOffset = omega arith
number_small cause.NotAccepted = omega arith
number_small cause.CannotAdd = omega arith
number_small cause.LongCycle = omega arith
number_small cause.TooManyPairs = omega arith
number_small cause.NoLink = omega arith
number_small cause.TooLarge = omega arith

-- So many numbers end within the largest file.
row_end : (s ws : List ℕ) (p : ℕ) → Row s 0 ws p → length ws ≤ max_table_words → p ≤ max_file_bytes
row_end s ws p r h = omega (arith, r.ends, file_length ws)

-- A layout whose tables have no more words than the largest of today.
module _ (e : Edition) (few : (ws : List ℕ) → LimitsIn e ws → words_in e ws ≤ max_table_words) where
  due_few : (ws : List ℕ) → PlanDueIn e ws → length ws ≤ max_table_words
  due_few ws (inl h) = omega (arith, h)
  due_few ws (inr x) = omega (arith, few ws x.0, x.1)

  fault_small : (s : List ℕ) (k : Cause) (p : ℕ) → PlanFaultIn e s k p → Small k p
  fault_small s k p (inl c) = record { number = number_small k; position = row_end s c.ws p c.row (due_few c.ws c.due) }
  fault_small s k p (inr (inl x)) = record { number = number_small k; position = omega (arith, x.1) }
  fault_small s k p (inr (inr x)) =
      let o = x.1 in
      record { number = number_small k; position = row_end s o.ws p o.row (omega (arith, o.complete.exact, few o.ws o.complete.limits)) }

pub plan_fault_small : (s : List ℕ) (k : Cause) (p : ℕ) → PlanFault s k p → Small k p
plan_fault_small = fault_small current (λ ws l. omega (arith, l.links, l.streams, l.legs))

pub first_fault_small : (s : List ℕ) (k : Cause) (p : ℕ) → PlanFaultIn first_layout s k p → Small k p
first_fault_small = fault_small first_layout (λ ws l. omega (arith, l.links, l.streams, l.legs))

pub cursor_file_small : (s : List ℕ) (k : Cause) (p : ℕ) → CursorUnread s k p → Small k p
cursor_file_small s k p (inl c) = record { number = number_small k; position = row_end s c.ws p c.row (omega (arith, c.due)) }
cursor_file_small s k p (inr x) =
    let o = x.1 in record { number = number_small k; position = row_end s o.ws p o.row (omega (arith, o.complete)) }

pub table_small : {k : Cause} {p : ℕ} → OfTable k p → Small k p
table_small {k} o = record { number = number_small k; position = omega (arith, o.position) }
