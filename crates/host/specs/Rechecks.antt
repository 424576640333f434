-- What the call for C promises that rechecks one leg of the plan of a plan file (document 02, L6): the answer. Nothing is lent to be written, and no cursor is taken or given. plan is the
-- plan file, and m the leg that was moved.
use Rattle.std.specs.Prelude.{ℕ, ◌≡◌, List, ◌⊎◌, Result, Ok, Err}
use Rattle.basics.specs.Cause.{number_of}
use Rattle.basics.specs.declared.Cause.{Cause}
use Rattle.basics.specs.declared.Refusal.{Refusal}
use Rattle.table.specs.Layout.{Sized}
use Rattle.files.specs.Reading.{IsFile}
use Rattle.files.specs.Plan.{PlanFault}
use Rattle.recheck.specs.Rechecks.{Rechecks}
use Rattle.recheck.specs.declared.Rechecked.{Rechecked}
use Rattle.recheck.specs.declared.Rechecked.TheVariants.{Violated, NothingViolated}
use Rattle.host.specs.declared.late_move.RecheckedAnswer.{RecheckedAnswer}
use Rattle.host.specs.Answers.{refused_result, rule_result}

-- The answer with result r, n beside it, and the place (a,p).
abbrev pub rechecked : ℕ → ℕ → ℕ → ℕ → RecheckedAnswer
rechecked r n a p = record { result = r; beside = n; leg = a; place = p }

-- Refusal k at p: the result is 100 plus k, the position stands beside it, and there is no place.
abbrev pub unrechecked : Cause → ℕ → RecheckedAnswer
unrechecked k p = rechecked (refused_result (number_of k)) p 0 0

-- What is answered to a recheck. Violated: 2 to 5 by the rule, how many places were looked at, and the violated place. Nothing violated at the places that were looked at: 0, and how many
-- they are. Refused: 100 plus the number.
abbrev pub recheck_answered : Result Rechecked Refusal → RecheckedAnswer
recheck_answered (Ok (Violated q r n)) = rechecked (rule_result r) n q.leg q.place
recheck_answered (Ok (NothingViolated n)) = rechecked 0 n 0 0
recheck_answered (Err e) = unrechecked e.cause e.at

-- A recheck of leg m of the table t: given is what is told of it.
pub record RechecksTable (t : List ℕ) (m : ℕ) (a : RecheckedAnswer) : Type 0 where
  pub given : Result Rechecked Refusal
  pub told : Rechecks t m given
  pub answer : a ≡ recheck_answered given

-- Refused for a fault of the plan file: the answer is its number and position.
pub record RecheckUnread (plan : List ℕ) (a : RecheckedAnswer) : Type 0 where
  pub cause : Cause
  pub at : ℕ
  pub fault : PlanFault plan cause at
  pub answer : a ≡ unrechecked cause at

-- A RECHECK. The plan reader refuses the file; or it is the file of a table, and this is rechecked. The refusals in their order: 12, 13, 2 and 14 of the plan file, then 4 to 7 of its
-- table, then 10.
abbrev pub HostRechecks : List ℕ → ℕ → RecheckedAnswer → Type 0
HostRechecks plan m a = RecheckUnread plan a ⊎ ((t : List ℕ) × IsFile Sized plan t × RechecksTable t m a)
