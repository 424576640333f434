-- The call for C that rechecks one leg has one answer, since a recheck of a table has one. Each stage has its refusals. Assumes nothing.
use Rattle.host.proofs.Laws.{number_once}
use Rattle.recheck.specs.declared.Rechecked.{Rechecked}
use Rattle.recheck.specs.declared.Rechecked.TheVariants.{Violated, NothingViolated}
use Rattle.std.specs.Prelude.{Result, Ok, Err}
use Rattle.basics.specs.Cause.{number_of}
use Rattle.basics.specs.declared.Cause.{Cause}
use Rattle.basics.specs.declared.Refusal.{Refusal}
use Prim.Native.Nat.{ℕ, ◌≤◌}
use mathlib.Core.Path.{◌≡◌, refl, ◌∙◌, sym, ap, subst}
use mathlib.Core.List.{List}
use mathlib.Core.Logic.{◌⊎◌, inl, inr}
use native.Mathlib.Omega.{arith}
use Rattle.table.specs.Layout.{Sized}
use Rattle.files.specs.Plan.{PlanFault}
use Rattle.files.proofs.OneAnswer.{plan_fault_one, file_no_fault, same_file}
use Rattle.files.proofs.Refused.{plan_refused}
use Rattle.shape.proofs.Refused.{sized_refused}
use Rattle.rules.specs.declared.Rule.{Rule}
use Rattle.rules.specs.declared.Rule.TheVariants as rule
use Rattle.recheck.specs.Rechecks.{recheck_refusals, Rechecks}
use Rattle.recheck.proofs.OneAnswer.{recheck_one_answer}
use Rattle.host.specs.declared.late_move.RecheckedAnswer.{RecheckedAnswer}
use Rattle.host.specs.Answers.{refused_result, rule_result}
use Rattle.host.specs.Rechecks.{unrechecked, recheck_answered, RechecksTable, HostRechecks}
use Rattle.host.specs.RecheckTheorems.{HostRecheckOneAnswer, PlanFaultsBeforeRechecks, RecheckRefusal, TellsRecheckRefusal, RecheckResultsAreThese, RechecksOfThePaper}

abbrev result_of : RecheckedAnswer → ℕ
result_of a = a.result

-- One answer.
table_one : (t : List ℕ) (m : ℕ) (a b : RecheckedAnswer) → RechecksTable t m a → RechecksTable t m b → a ≡ b
table_one t m a b u v = u.answer ∙ ap recheck_answered (recheck_one_answer t m u.given v.given u.told v.told) ∙ sym v.answer

same_refusal : (plan : List ℕ) (k : Cause) (p : ℕ) (l : Cause) (q : ℕ) → PlanFault plan k p → PlanFault plan l q → unrechecked k p ≡ unrechecked l q
same_refusal plan k p l q f g = let e = plan_fault_one plan k p l q f g in ap (λ (i : Cause). unrechecked i p) e.0 ∙ ap (unrechecked l) e.1

pub host_recheck_one_answer : HostRecheckOneAnswer
host_recheck_one_answer plan m a b (inl u) (inl v) =
    u.answer ∙ same_refusal plan u.cause u.at v.cause v.at u.fault v.fault ∙ sym v.answer
host_recheck_one_answer plan m a b (inl u) (inr v) = absurd (file_no_fault v.1 u.fault)
host_recheck_one_answer plan m a b (inr u) (inl v) = absurd (file_no_fault u.1 v.fault)
host_recheck_one_answer plan m a b (inr (t, f, u)) (inr (s, g, v)) = table_one t m a b u (subst (λ (k : List ℕ). RechecksTable k m b) (same_file g f) v)

-- A leg of a table is refused with 4 to 7 or with 10: not with a number of the plan file.
abbrev OfLeg : ℕ → Type 0
OfLeg k = ((4 ≤ k) × (k ≤ 7)) ⊎ (k ≡ 10)

leg_refusal : (t : List ℕ) (m : ℕ) (k : Cause) (p : ℕ) → Sized t → (recheck_refusals t m).Fault k p → OfLeg (number_of k)
leg_refusal t m k p z (inl f) = inl (sized_refused t k p z f)
leg_refusal t m k p z (inr (s, f)) = inr (ap number_of f.0)

abbrev OfFile : ℕ → Type 0
OfFile k = (k ≡ 2) ⊎ ((12 ≤ k) × (k ≤ 14))

none_in_common : (k : ℕ) → OfFile k → OfLeg k → ⊥
none_in_common k (inl e) (inl x) = omega (arith, x.0)
none_in_common k (inl e) (inr x) = omega (arith, x)
none_in_common k (inr e) (inl x) = omega (arith, e.0, x.1)
none_in_common k (inr e) (inr x) = omega (arith, e.0, x)

rule_results : (x : Rule) → (2 ≤ rule_result x) × (rule_result x ≤ 5)
rule_results rule.Window = (omega arith, omega arith)
rule_results rule.Hop = (omega arith, omega arith)
rule_results rule.Deadline = (omega arith, omega arith)
rule_results rule.Overlap = (omega arith, omega arith)

not_given : (t : List ℕ) (m : ℕ) (k : Cause) (p : ℕ) (g : Result Rechecked Refusal) → Sized t → OfFile (number_of k) → Rechecks t m g → unrechecked k p ≡ recheck_answered g → ⊥
not_given t m k p (Ok (Violated q r n)) z f told e = omega (arith, ap result_of e, (rule_results r).1)
not_given t m k p (Ok (NothingViolated n)) z f told e = omega (arith, ap result_of e)
not_given t m k p (Err d) z f told e =
    let same : number_of d.cause ≡ number_of k = omega (arith, ap result_of e) in none_in_common (number_of k) f (subst OfLeg same (leg_refusal t m d.cause d.at z told))

-- A fault of the plan file comes first.
first_fault : (plan : List ℕ) (m : ℕ) (k : Cause) (p : ℕ) (a : RecheckedAnswer) → PlanFault plan k p → HostRechecks plan m a → a ≡ unrechecked k p
first_fault plan m k p a f (inl x) = x.answer ∙ same_refusal plan x.cause x.at k p x.fault f
first_fault plan m k p a f (inr (t, g, x)) = absurd (file_no_fault g f)

of_the_file : (plan : List ℕ) (m : ℕ) (k : Cause) (p : ℕ) → OfFile (number_of k) → HostRechecks plan m (unrechecked k p) → PlanFault plan k p
of_the_file plan m k p f (inl x) =
    let e : x.cause ≡ k = number_once x.cause k (omega (arith, ap result_of x.answer)) in
    let at : x.at ≡ p = sym (ap (λ (a : RecheckedAnswer). a.beside) x.answer) in
    subst (λ (q : ℕ). PlanFault plan k q) at (subst (λ (j : Cause). PlanFault plan j x.at) e x.fault)
of_the_file plan m k p f (inr (t, g, x)) = absurd (not_given t m k p x.given g.complete f x.told x.answer)

pub plan_faults_before_rechecks : PlanFaultsBeforeRechecks
plan_faults_before_rechecks = record { first = first_fault; no_other = of_the_file }

-- Which results there are.
file_is : (k : Cause) → (number_of k ≡ 2) ⊎ ((12 ≤ number_of k) × (number_of k ≤ 14)) → RecheckRefusal (number_of k)
file_is k (inl x) = inl x
file_is k (inr x) = inr (inr (inr (omega (arith, x.0), omega (arith, x.1))))

leg_is : (k : ℕ) → OfLeg k → RecheckRefusal k
leg_is k (inl x) = inr (inl x)
leg_is k (inr x) = inr (inr (inl x))

abbrev Told : ℕ → Type 0
Told r = (r ≡ 0) ⊎ (((2 ≤ r) × (r ≤ 5)) ⊎ TellsRecheckRefusal r)

given_result : (t : List ℕ) (m : ℕ) (g : Result Rechecked Refusal) (a : RecheckedAnswer) → Sized t → Rechecks t m g → a ≡ recheck_answered g → Told a.result
given_result t m (Ok (Violated q r n)) a z told e = inr (inl (omega (arith, ap result_of e, (rule_results r).0), omega (arith, ap result_of e, (rule_results r).1)))
given_result t m (Ok (NothingViolated n)) a z told e = inl (ap result_of e)
given_result t m (Err d) a z told e = inr (inr (record { number = number_of d.cause; is = leg_is (number_of d.cause) (leg_refusal t m d.cause d.at z told); told = ap result_of e }))

results : (plan : List ℕ) (m : ℕ) (a : RecheckedAnswer) → HostRechecks plan m a → Told a.result
results plan m a (inl x) =
    inr (inr (record { number = number_of x.cause; is = file_is x.cause (plan_refused plan x.cause x.at x.fault); told = ap result_of x.answer }))
results plan m a (inr (t, f, x)) = given_result t m x.given a f.complete x.told x.answer

abbrev NoPlace : RecheckedAnswer → Type 0
NoPlace a = (a.leg ≡ 0) × (a.place ≡ 0)

unplaced : (a : RecheckedAnswer) (r n : ℕ) → a ≡ record { result = r; beside = n; leg = 0; place = 0 } → NoPlace a
unplaced a r n e = (ap (λ (b : RecheckedAnswer). b.leg) e, ap (λ (b : RecheckedAnswer). b.place) e)

given_place : (g : Result Rechecked Refusal) (a : RecheckedAnswer) → a ≡ recheck_answered g → (a.result ≡ 0) ⊎ (refused_result 0 ≤ a.result) → NoPlace a
given_place (Ok (Violated q r n)) a e (inl z) = absurd (omega (arith, ap result_of e, z, (rule_results r).0))
given_place (Ok (Violated q r n)) a e (inr z) = absurd (omega (arith, ap result_of e, z, (rule_results r).1))
given_place (Ok (NothingViolated n)) a e h = unplaced a 0 n e
given_place (Err d) a e h = unplaced a (refused_result (number_of d.cause)) d.at e

places : (plan : List ℕ) (m : ℕ) (a : RecheckedAnswer) → HostRechecks plan m a → (a.result ≡ 0) ⊎ (refused_result 0 ≤ a.result) → NoPlace a
places plan m a (inl x) h = unplaced a (refused_result (number_of x.cause)) x.at x.answer
places plan m a (inr (t, f, x)) h = given_place x.given a x.answer h

pub recheck_results_are_these : RecheckResultsAreThese
recheck_results_are_these = record { result = results; no_place_is = places }

pub rechecks_of_the_paper : RechecksOfThePaper
rechecks_of_the_paper = record {
  window = λ a p n. refl;
  hop = λ a p n. refl;
  deadline = λ a p n. refl;
  overlap = λ a p n. refl;
  nothing_violated = λ n. refl;
  refused = λ e. refl;
}
