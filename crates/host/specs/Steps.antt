-- What the inner functions of this crate tell.
use Rattle.std.specs.Prelude.{ℕ, ◌/◌, ◌≤◌, ◌≡◌, List, Result, Ok, Err}
use Rattle.std.specs.Fn.{Once}
use Rattle.std.specs.Borrow.{Bor, MutBor}
use Rattle.table.specs.Layout.{max_table_words}
use Rattle.numbers.specs.Number.{max_number_bytes}
use Rattle.files.specs.Theorems.{max_file_bytes}
use Rattle.basics.specs.Cause.{number_of, refused}
use Rattle.basics.specs.declared.Cause.{Cause}
use Rattle.basics.specs.declared.Cause.TheVariants as cause
use Rattle.basics.specs.declared.Refusal.{Refusal}
use Rattle.table.specs.declared.Move.{Move}
use Rattle.files.specs.declared.Cursor.{Cursor}
use Rattle.host.specs.declared.Answer.{Answer}
use Rattle.recheck.specs.Rechecks.{Rechecks}
use Rattle.recheck.specs.declared.Rechecked.{Rechecked}
use Rattle.host.specs.Refusals.{AfterCursor}
use Rattle.host.specs.OfPlans.{OfPlan}
use Rattle.host.specs.Calls.{Lent, SlicesTable, MovesTable}

-- A refusal's number and position are small enough to be told.
pub record Small (k : Cause) (p : ℕ) : Type 0 where
  pub number : number_of k ≤ number_of cause.TooLarge
  pub position : p ≤ max_file_bytes

-- So is that of a refusal that is told.
abbrev pub SmallTold : {T : Type 0} → Result T Refusal → Type 0
SmallTold (Ok x) = Unit {0}
SmallTold (Err e) = Small e.cause e.at

-- What is told of the table of a plan file, where it is a result, and a fault of the file its refusal.
abbrev pub AskedOf : {T : Type 0} → List ℕ → (List ℕ → Result T Refusal → Type 0) → Result T Refusal → Type 0
AskedOf {T} plan Told g = OfPlan (Result T Refusal) refused Told plan g

-- What is told of a recheck of its leg m.
abbrev pub PlanRechecks : List ℕ → ℕ → Result Rechecked Refusal → Type 0
PlanRechecks plan m = AskedOf plan (λ (t : List ℕ). Rechecks t m)

-- f, which is called at a `&` to t and a `&mut` to x, may give r, and leave x' there.
pub record Leaves {F T X R : Type 0} (g : Once F (Bor T × (MutBor X × Unit {0})) (R × (MutBor X × Unit {0}))) (f : F) (t : T) (x : X) (r : R) (x' : X) : Type 0 where
  pub shown : Bor T
  pub shows : shown.now ≡ t
  pub lent : MutBor X
  pub lends : lent.now ≡ x
  pub left : MutBor X
  pub met : g.post f (shown, (lent, tt)) (r, (left, tt))
  pub leaves : left.now ≡ x'

-- The slice and the move once the plan is read: the cursor reader refuses the saved cursor, or it is that of a cursor, and the rest follows.
abbrev pub SlicesFrom : List ℕ → List ℕ → ℕ → List ℕ → Answer → List ℕ → Type 0
SlicesFrom t cursor budget out = AfterCursor (List ℕ) cursor out (λ (c : Cursor). SlicesTable t c budget out)

abbrev pub MovesFrom : List ℕ → List ℕ → Move → Lent → Answer → Lent → Type 0
MovesFrom t cursor mv m = AfterCursor Lent cursor m (λ (c : Cursor). MovesTable t c mv m)

-- r is the lesser of the words that so many bytes have room for, at 5 bytes each, and of the words of the largest table.
pub record OwnRoom (bytes r : ℕ) : Type 0 where
  pub in_the_file : r ≤ bytes / max_number_bytes
  pub at_most : r ≤ max_table_words
  pub enough : (n : ℕ) → n ≤ bytes / max_number_bytes → n ≤ max_table_words → n ≤ r
