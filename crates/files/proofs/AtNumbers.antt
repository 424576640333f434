-- Plan A's file. Assumes nothing.
use Rattle.table.specs.PlanA.{plan_a}
use Rattle.numbers.proofs.Computed.{file_is}
use Rattle.files.specs.Theorems.{PlanAFile}

pub plan_a_file_lem : PlanAFile
plan_a_file_lem = file_is plan_a
