-- The verdict that C is given by a recheck is that of the table's recheck. Assumes nothing.
use Rattle.std.specs.Prelude.{Result, Ok, Err}
use Rattle.basics.specs.declared.Cause.{Cause}
use Rattle.basics.specs.declared.Refusal.{Refusal}
use Rattle.recheck.specs.declared.Rechecked.{Rechecked}
use Rattle.recheck.specs.declared.Rechecked.TheVariants.{Violated, NothingViolated}
use Prim.Native.Nat.{ℕ}
use mathlib.Core.Path.{◌≡◌, refl, ◌∙◌, sym, ap, subst}
use mathlib.Core.List.{List}
use mathlib.Core.Logic.{inl, inr}
use native.Mathlib.Omega.{arith}
use Rattle.rules.specs.declared.Rule.{Rule}
use Rattle.files.proofs.OneAnswer.{same_file}
use Rattle.recheck.specs.Rechecks.{Rechecks}
use Rattle.host.specs.Answers.{rule_result}
use Rattle.host.specs.Rechecks.{unrechecked, recheck_answered}
use Rattle.host.specs.declared.late_move.RecheckedAnswer.{RecheckedAnswer}
use Rattle.demands.specs.Verdicts.{Verdict, violated, nothing_violated}
use Rattle.demands.specs.Rechecks.{RecheckGives, HostRecheckGives, HostRechecksAreSound}
use Rattle.demands.proofs.HostRuns.{rule_of_lem, rule_again, rule_above}
use Rattle.demands.proofs.HostGoOn.{rule_below}
use Rattle.demands.proofs.Rechecks.{rechecks_are_sound}

result_of : RecheckedAnswer → ℕ
result_of a = a.result

-- A refusal gives no verdict.
refused_none : (k : Cause) (p : ℕ) (a : RecheckedAnswer) (v : Verdict) → a ≡ unrechecked k p → HostRecheckGives a v → ⊥
unfolding result_of
refused_none k p a (violated leg place rule) e g = omega (arith, ap result_of e, g.0, rule_below rule)
refused_none k p a nothing_violated e g = omega (arith, ap result_of e, g)

same_rule : (r s : Rule) → rule_result r ≡ rule_result s → r ≡ s
same_rule r s e = sym (rule_again r) ∙ ap rule_of_lem e ∙ rule_again s

gives : (r : Result Rechecked Refusal) (a : RecheckedAnswer) (v : Verdict) → a ≡ recheck_answered r → HostRecheckGives a v → RecheckGives r v
unfolding result_of
gives (Ok (Violated q s n)) a (violated leg place rule) e g =
    let x = same_rule rule s (sym g.0 ∙ ap result_of e) in
    let y : leg ≡ q.leg = sym g.1 ∙ ap (λ (z : RecheckedAnswer). z.leg) e in
    let z : place ≡ q.place = sym g.2 ∙ ap (λ (w : RecheckedAnswer). w.place) e in
    cc
gives (Ok (Violated q s n)) a nothing_violated e g = absurd (omega (arith, ap result_of e, g, rule_above s))
gives (Ok (NothingViolated n)) a (violated leg place rule) e g = absurd (omega (arith, ap result_of e, g.0, rule_above rule))
gives (Ok (NothingViolated n)) a nothing_violated e g = refl
gives (Err refusal) a v e g = absurd (refused_none refusal.cause refusal.at a v e g)

pub host_rechecks_are_sound : HostRechecksAreSound
host_rechecks_are_sound plan t m a v file was (inl x) g = absurd (refused_none x.cause x.at a v x.answer g)
host_rechecks_are_sound plan t m a v file was (inr (s, other, x)) g =
    let told : Rechecks t m x.given = subst (λ (u : List ℕ). Rechecks u m x.given) (same_file other file) x.told in
    rechecks_are_sound t m x.given v was told (gives x.given a v x.answer g)
