-- One late move (document 02, L6) in the words of demands 2 and 3: where the table before the move was accepted, the verdict of a recheck is that of a whole check of the table as it stands.
use Rattle.recheck.specs.declared.Rechecked.{Rechecked}
use Rattle.recheck.specs.declared.Rechecked.TheVariants.{Violated, NothingViolated}
use Rattle.std.specs.Prelude.{ℕ, ◌≡◌, List, [], ◌∷◌, ◌⊎◌, Result, Ok, Err}
use Rattle.basics.specs.declared.Refusal.{Refusal}
use Rattle.table.specs.Layout.{revision_of, Sized}
use Rattle.table.specs.PlanA.{plan_a}
use Rattle.table.specs.declared.Move.{Move}
use Rattle.files.specs.Reading.{IsFile}
use Rattle.files.specs.declared.Cursor.{Cursor}
use Rattle.rules.specs.declared.Rule.TheVariants as rule
use Rattle.places.specs.Order.{IsEnd}
use Rattle.checker.specs.Accepted.{Accepted}
use Rattle.checker.specs.Moves.{Moves}
use Rattle.recheck.specs.Premise.{WasAccepted}
use Rattle.recheck.specs.Rechecks.{Rechecks}
use Rattle.host.specs.Answers.{rule_result}
use Rattle.host.specs.Rechecks.{HostRechecks}
use Rattle.host.specs.declared.late_move.RecheckedAnswer.{RecheckedAnswer}
use Rattle.demands.specs.Verdicts.{Verdict, violated, nothing_violated}
use Rattle.demands.specs.Runs.{Call, HandedOut, Run}
use Rattle.demands.specs.DemandThree.{Sound}

-- The verdict that a recheck gives, if it is not refused. How many places it looked at is no part of it.
abbrev pub RecheckGives : Result Rechecked Refusal → Verdict → Type 0
RecheckGives (Ok (Violated q r n)) v = v ≡ violated q.leg q.place r
RecheckGives (Ok (NothingViolated n)) v = v ≡ nothing_violated
RecheckGives (Err f) v = ⊥

-- The verdict is what the rules say of the table as it stands, and every whole check of it gives this verdict, the first violated place included.
abbrev pub RechecksAreSound : Type 0
RechecksAreSound = (t : List ℕ) (m : ℕ) (r : Result Rechecked Refusal) (v : Verdict) → WasAccepted t m → Rechecks t m r → RecheckGives r v → Sound t v

-- A move that was granted, and what the recheck of its leg told then.
pub record Late : Type 0 where
  pub move_made : Move
  pub told : Result Rechecked Refusal

-- The latest first: after these, leg m may be moved next. The last recheck found nothing violated, or it was of the same leg.
abbrev pub MayFollow : ℕ → List Late → Type 0
MayFollow m [] = Unit {0}
MayFollow m (late ∷ earlier) = RecheckGives late.told nothing_violated ⊎ (m ≡ late.move_made.leg)

-- An evening: by these moves table t became table u, and each was granted, with some cursor, and then rechecked.
abbrev pub Evening : List ℕ → List Late → List ℕ → Type 0
Evening t [] u = u ≡ t
Evening t (late ∷ earlier) u =
    (v : List ℕ) × Evening t earlier v × MayFollow late.move_made.leg earlier
    × ((c : Cursor) × (d : Cursor) × Moves v c late.move_made (Ok d) u) × Rechecks u late.move_made.leg late.told

-- So a chain of moves keeps the premise. An evening begins with an accepted table: then each recheck has the verdict of a whole check, and after one that found nothing violated the table
-- is accepted.
pub record EveningsAreSound : Type 0 where
  pub verdict : (t : List ℕ) (late : Late) (earlier : List Late) (u : List ℕ) (v : Verdict) → Accepted t → Evening t (late ∷ earlier) u → RecheckGives late.told v → Sound u v
  pub accepted : (t : List ℕ) (late : Late) (earlier : List Late) (u : List ℕ) → Accepted t → Evening t (late ∷ earlier) u → RecheckGives late.told nothing_violated → Accepted u
  -- It may begin where a cursor of the table's revision, handed out in a run, stands at the end.
  pub begins : (calls : List Call) (t : List ℕ) (c : Cursor) → Run calls t → HandedOut c calls → c.revision ≡ revision_of t → IsEnd t c.leg c.place → Accepted t

-- For C: 0 gives nothing violated, 2 to 5 give a place and its rule. The plan is the file of a table, and this verdict is that of a whole check of it.
abbrev pub HostRecheckGives : RecheckedAnswer → Verdict → Type 0
HostRecheckGives a (violated leg place rule) = (a.result ≡ rule_result rule) × (a.leg ≡ leg) × (a.place ≡ place)
HostRecheckGives a nothing_violated = a.result ≡ 0

abbrev pub HostRechecksAreSound : Type 0
HostRechecksAreSound =
    (plan t : List ℕ) (m : ℕ) (a : RecheckedAnswer) (v : Verdict) → IsFile Sized plan t → WasAccepted t m → HostRechecks plan m a → HostRecheckGives a v → Sound t v

-- THE PREMISE IS NEEDED. Plan A was never accepted, since legs 0 and 2 meet. A recheck of leg 1 looks at five places and finds nothing violated, and a whole check finds (2,3).
pub record PremiseIsNeeded : Type 0 where
  pub rechecked : Rechecks plan_a 1 (Ok (NothingViolated 5))
  pub whole : Sound plan_a (violated 2 3 rule.Overlap)
  pub no_premise : WasAccepted plan_a 1 → ⊥
