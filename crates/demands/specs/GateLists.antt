-- Gate lists (document 02, L7) in the words of demands 2 and 3: a list is given of a table that every whole check accepts, as it stands then, and of no other.
use Rattle.std.specs.Prelude.{ℕ, List, Ok}
use Rattle.basics.specs.Cause.{refused}
use Rattle.basics.specs.declared.Cause.TheVariants as cause
use Rattle.table.specs.Layout.{Sized}
use Rattle.files.specs.Reading.{IsFile}
use Rattle.rules.specs.declared.Rule.{Rule}
use Rattle.checker.specs.declared.SliceAnswer.{SliceAnswer}
use Rattle.gate_lists.specs.Lists.{WritesGateList}
use Rattle.host.specs.Answers.{answered}
use Rattle.host.specs.GateLists.{HostListsGates}
use Rattle.demands.specs.Verdicts.{violated, nothing_violated, Gives, FirstViolated}
use Rattle.demands.specs.DemandTwo.{WholeCheck}
use Rattle.demands.specs.DemandThree.{Sound}

pub record GateListsAreOfSoundTables : Type 0 where
  -- Where a list is given, nothing is violated: that is what the rules say of the table, and what each whole check of it gives.
  pub given : (t : List ℕ) (l n : ℕ) (b b' : List ℕ) → WritesGateList t l b (Ok n) b' → Sound t nothing_violated
  -- Where 19 is told, each whole check gives a violated place, the first of the table.
  pub not_given : (t : List ℕ) (l p : ℕ) (b b' : List ℕ) → WritesGateList t l b (refused cause.NotAccepted p) b'
      → (r : SliceAnswer) → WholeCheck t r → (a : ℕ) × (q : ℕ) × (s : Rule) × Gives r (violated a q s) × FirstViolated t a q
  -- For C: the plan is the file of a table of which this is so, and what was written is the file of the link's list in it.
  pub for_c : (plan : List ℕ) (l n : ℕ) (list list' : List ℕ) → HostListsGates plan l list (answered 0 n) list'
      → (t : List ℕ) × IsFile Sized plan t × Sound t nothing_violated × WritesGateList t l list (Ok n) list'
