-- `checker::accepted::rules_told` meets its contract: a slice from a start's cursor, which no table makes pause. Assumes nothing.
use Rattle.std.proofs.Common.{refl, sym}
use mathlib.Core.Bool.{true≢false}
use Rattle.checker.proofs.Whole.{few_places, looked_through, looked_else}
use Rattle.checker.proofs.accepted.rules_told.Goals as goal

pub returns-in-NothingViolated : goal.returns-in-NothingViolated
returns-in-NothingViolated c = (λ _. looked_through _ _ (c.requires, refl) _ _ _ c.in-NothingViolated.ensures, λ _. refl)

pub returns-in_default : goal.returns-in_default
returns-in_default c =
    let broken = looked_else _ _ (c.requires, refl) _ _ (few_places _ c.requires) c.looked.ensures c.in_default.not-NothingViolated in
    (λ e. absurd (true≢false (sym e)), λ h. absurd (broken h))
