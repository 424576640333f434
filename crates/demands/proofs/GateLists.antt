-- A gate list is given of a sound table, since 19 is told of every other. Assumes nothing.
use Rattle.std.specs.Prelude.{Result, Ok, Err}
use Rattle.basics.specs.Cause.{number_of, refused}
use Rattle.basics.specs.declared.Cause.TheVariants as cause
use Rattle.basics.specs.declared.Refusal.{Refusal}
use Prim.Native.Nat.{ℕ}
use mathlib.Core.Path.{◌≡◌, sym, ap, subst}
use mathlib.Core.List.{List}
use mathlib.Core.Logic.{inl, inr}
use native.Mathlib.Omega.{arith}
use Rattle.table.specs.Layout.{Sized}
use Rattle.files.specs.Reading.{IsFile}
use Rattle.shape.proofs.Refused.{shape_of_table}
use Rattle.rules.specs.Rules.{RulesHold}
use Rattle.gate_lists.specs.Lists.{MayList, WritesGateList}
use Rattle.host.specs.declared.Answer.{Answer}
use Rattle.host.specs.Answers.{answered}
use Rattle.host.specs.GateLists.{gates_answered, HostListsGates}
use Rattle.demands.specs.Verdicts.{nothing_violated}
use Rattle.demands.specs.DemandThree.{Sound}
use Rattle.demands.specs.GateLists.{GateListsAreOfSoundTables}
use Rattle.demands.proofs.DemandTwo.{demand_two}
use Rattle.demands.proofs.DemandThree.{sound_of}

accepted_sound : (t : List ℕ) (l : ℕ) → MayList t l → Sound t nothing_violated
accepted_sound t l m = sound_of t m.shape nothing_violated m.rules

-- 19 is told for one cause alone.
rules_broken : (t : List ℕ) (l p : ℕ) (b b' : List ℕ) → WritesGateList t l b (refused cause.NotAccepted p) b' → RulesHold t → ⊥
rules_broken t l p b b' (inl (inl f), _) = absurd (omega (arith, (shape_of_table t cause.NotAccepted p f).small))
rules_broken t l p b b' (inl (inr (s, inl f)), _) = absurd (omega (arith, ap number_of f.0))
rules_broken t l p b b' (inl (inr (s, inr (h, f))), _) = f.2
rules_broken t l p b b' (inr (m, inl (inl f)), _) = absurd (omega (arith, ap number_of f.0))
rules_broken t l p b b' (inr (m, inl (inr (c, f))), _) = absurd (omega (arith, ap number_of f.0))
rules_broken t l p b b' (inr (m, inr (c, f)), _) = absurd (omega (arith, ap number_of f.0))

-- What C is told with result 0 is a list.
bytes_told : (g : Result ℕ Refusal) (n : ℕ) → answered 0 n ≡ gates_answered g → g ≡ Ok n
bytes_told (Ok m) n e = ap Ok (sym (ap (λ (a : Answer). a.beside) e))
bytes_told (Err d) n e = absurd (omega (arith, ap (λ (a : Answer). a.result) e))

list_for_c : (plan : List ℕ) (l n : ℕ) (list list' : List ℕ) → HostListsGates plan l list (answered 0 n) list'
    → (t : List ℕ) × IsFile Sized plan t × Sound t nothing_violated × WritesGateList t l list (Ok n) list'
list_for_c plan l n list list' (inl x) = absurd (omega (arith, ap (λ (a : Answer). a.result) x.answer))
list_for_c plan l n list list' (inr (t, f, x)) =
    let w = subst (λ (g : Result ℕ Refusal). WritesGateList t l list g list') (bytes_told x.given n x.answer) x.writes in
    (t, f, accepted_sound t l w.0.0, w)

pub gate_lists_are_of_sound_tables : GateListsAreOfSoundTables
gate_lists_are_of_sound_tables = record {
  given = λ t l n b b' w. accepted_sound t l w.0.0;
  not_given = λ t l p b b' w r c. (demand_two.checks t r c).names (rules_broken t l p b b' w);
  for_c = list_for_c;
}
