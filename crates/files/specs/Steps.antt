-- What the inner functions of this crate tell.
use Rattle.std.specs.Prelude.{ℕ, ◌≡◌, List, length, Result, Ok, Err}
use Rattle.basics.specs.declared.Refusal.{Refusal}
use Rattle.table.specs.Layout.{SizedIn}
use Rattle.table.specs.declared.Edition.{Edition}
use Rattle.files.specs.Reading.{IsFile}
use Rattle.files.specs.Plan.{PlanFaultIn}

-- A plan file of an edition looked through, with no buffer: the table that it is the file of, or what is wrong with it.
abbrev pub PlanTold : Edition → List ℕ → Result ℕ Refusal → Type 0
PlanTold e s (Ok n) = (t : List ℕ) × IsFile (SizedIn e) s t × (n ≡ length t)
PlanTold e s (Err r) = PlanFaultIn e s r.cause r.at
