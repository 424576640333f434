-- Reading a plan file of an older layout: what is given for its table is the table of today that it becomes. 2 is judged by the layout's limits and 15 by the length
-- of what is given.
use Rattle.std.specs.Prelude.{ℕ, List, Result}
use Rattle.basics.specs.declared.Refusal.{Refusal}
use Rattle.table.specs.Layout.{first_layout}
use Rattle.table.specs.declared.Edition.{Edition}
use Rattle.files.specs.Plan.{ReadsPlanIn}
use Rattle.editions.specs.Converted.{converted}

abbrev pub ReadsOld : Edition → List ℕ → List ℕ → Result ℕ Refusal → List ℕ → Type 0
ReadsOld e s b r b' = ReadsPlanIn e (converted e) s b r b'

-- The first layout's limits are today's.
abbrev pub ReadsFirst : List ℕ → List ℕ → Result ℕ Refusal → List ℕ → Type 0
ReadsFirst s b r b' = ReadsOld first_layout s b r b'
