-- What is proved of the call for C that rechecks one leg.
use Rattle.std.specs.Prelude.{ℕ, ◌+◌, ◌≤◌, ◌≡◌, List, ◌⊎◌, Ok, Err}
use Rattle.basics.specs.Cause.{number_of}
use Rattle.basics.specs.declared.Refusal.{Refusal}
use Rattle.basics.specs.declared.Cause.{Cause}
use Rattle.files.specs.Plan.{PlanFault}
use Rattle.rules.specs.declared.Rule.TheVariants as rule
use Rattle.recheck.specs.Listed.{place_at}
use Rattle.recheck.specs.declared.Rechecked.TheVariants.{Violated, NothingViolated}
use Rattle.host.specs.declared.late_move.RecheckedAnswer.{RecheckedAnswer}
use Rattle.host.specs.Answers.{refused_result}
use Rattle.host.specs.Rechecks.{rechecked, unrechecked, recheck_answered, HostRechecks}

-- One answer.
abbrev pub HostRecheckOneAnswer : Type 0
HostRecheckOneAnswer = (plan : List ℕ) (m : ℕ) (a b : RecheckedAnswer) → HostRechecks plan m a → HostRechecks plan m b → a ≡ b

-- A fault of the plan file comes before all else, and 2, 12, 13 and 14 are told for such a fault alone.
pub record PlanFaultsBeforeRechecks : Type 0 where
  pub first : (plan : List ℕ) (m : ℕ) (k : Cause) (p : ℕ) (a : RecheckedAnswer) → PlanFault plan k p → HostRechecks plan m a → a ≡ unrechecked k p
  pub no_other : (plan : List ℕ) (m : ℕ) (k : Cause) (p : ℕ) → (number_of k ≡ 2) ⊎ ((12 ≤ number_of k) × (number_of k ≤ 14)) → HostRechecks plan m (unrechecked k p) → PlanFault plan k p

-- The refusals of a recheck: 2, 4 to 7, 10, and 12 to 14.
abbrev pub RecheckRefusal : ℕ → Type 0
RecheckRefusal k = (k ≡ 2) ⊎ (((4 ≤ k) × (k ≤ 7)) ⊎ ((k ≡ 10) ⊎ ((12 ≤ k) × (k ≤ 14))))

-- The result r tells one of them.
pub record TellsRecheckRefusal (r : ℕ) : Type 0 where
  pub number : ℕ
  pub is : RecheckRefusal number
  pub told : r ≡ refused_result number

-- Which results there are: 0 nothing violated, 2 to 5 violated, or one of these refusals. Never 1: a recheck does not pause. A place is told only where one is violated; otherwise there
-- is 0 in its stead.
pub record RecheckResultsAreThese : Type 0 where
  pub result : (plan : List ℕ) (m : ℕ) (a : RecheckedAnswer) → HostRechecks plan m a
      → (a.result ≡ 0) ⊎ (((2 ≤ a.result) × (a.result ≤ 5)) ⊎ TellsRecheckRefusal a.result)
  pub no_place_is : (plan : List ℕ) (m : ℕ) (a : RecheckedAnswer) → HostRechecks plan m a
      → (a.result ≡ 0) ⊎ (refused_result 0 ≤ a.result) → (a.leg ≡ 0) × (a.place ≡ 0)

-- The answers at the paper's numbers: 2 to 5 violated (window, hop, deadline, overlap), with how many places were looked at, and the place; 0 nothing violated, with how many; 100 plus the
-- refusal number, with the position.
pub record RechecksOfThePaper : Type 0 where
  pub window : (a p n : ℕ) → recheck_answered (Ok (Violated (place_at a p) rule.Window n)) ≡ rechecked 2 n a p
  pub hop : (a p n : ℕ) → recheck_answered (Ok (Violated (place_at a p) rule.Hop n)) ≡ rechecked 3 n a p
  pub deadline : (a p n : ℕ) → recheck_answered (Ok (Violated (place_at a p) rule.Deadline n)) ≡ rechecked 4 n a p
  pub overlap : (a p n : ℕ) → recheck_answered (Ok (Violated (place_at a p) rule.Overlap n)) ≡ rechecked 5 n a p
  pub nothing_violated : (n : ℕ) → recheck_answered (Ok (NothingViolated n)) ≡ rechecked 0 n 0 0
  pub refused : (e : Refusal) → recheck_answered (Err e) ≡ rechecked (100 + number_of e.cause) e.at 0 0
