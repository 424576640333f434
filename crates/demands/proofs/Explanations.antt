-- Explanations agree with verdicts, since the numbers of a place decide whether it holds. Assumes nothing.
use Rattle.margins.specs.declared.At.{At}
use Rattle.margins.specs.declared.Spare.{Spare}
use Rattle.std.specs.Prelude.{Result, Ok, Err, Option, Some}
use Rattle.basics.specs.declared.Refusal.{Refusal}
use Prim.Native.Nat.{ℕ, zero, suc, ◌≤◌}
use mathlib.Core.Path.{◌≡◌, refl, subst}
use mathlib.Core.List.{List}
use mathlib.Core.Logic.{inl, inr}
use native.Mathlib.Omega.{arith}
use Rattle.rules.specs.Places.{pair_place, PlaceHolds}
use Rattle.rules.specs.declared.Rule.{Rule}
use Rattle.checker.specs.declared.SliceAnswer.{SliceAnswer}
use Rattle.repeats.specs.declared.Meeting.{Meeting}
use Rattle.meeting.specs.Meets.{CanMeet, Meets}
use Rattle.meeting.proofs.OneAnswer.{meetings_show_overlaps}
use Rattle.margins.specs.Asking.{CanAsk}
use Rattle.margins.specs.Margins.{MarginOf, Margins}
use Rattle.margins.specs.Spares.{Kept, KeptBut, IsLacking, IsSpare}
use Rattle.margins.specs.declared.Margin.{Margin}
use Rattle.margins.specs.declared.Margin.TheVariants as margin
use Rattle.margins.specs.declared.Spare.TheVariants as spare
use Rattle.margins.proofs.SpareLaws.{spares_decide}
use Rattle.margins.proofs.Deciding.{margins_decide, ask_one}
use Rattle.demands.specs.Verdicts.{violated, Gives, FirstViolated, RightVerdict}
use Rattle.demands.specs.DemandTwo.{WholeCheck}
use Rattle.demands.specs.Explanations.{Lacking, Sparing, ExplanationsAgree}
use Rattle.demands.proofs.DemandTwo.{gives_same, demand_two}

-- The place that a whole check names is a place of a well-formed table, and violated.
pub named : (t : List ℕ) (r : SliceAnswer) (a p : ℕ) (s : Rule) → WholeCheck t r → Gives r (violated a p s) → FirstViolated t a p
named t r a p s w g =
    let is = demand_two.checks t r w in
    let right : RightVerdict t (violated a p s) = subst (RightVerdict t) (gives_same r is.verdict (violated a p s) is.gives g) is.right in
    right.0

can_ask : (t : List ℕ) (r : SliceAnswer) (a p : ℕ) (s : Rule) → WholeCheck t r → Gives r (violated a p s) → CanAsk t a p
can_ask t r a p s w g = record { shape = w.starts.0; place = (named t r a p s w g).place }

-- What is lacking is something: where nothing is, the rule is kept.
kept_but_0 : (m : Margin) → KeptBut m 0 → Kept m
kept_but_0 margin.Free h = tt
kept_but_0 (margin.Sides s) h = omega (arith, h)
kept_but_0 (margin.Turns s) h = (omega (arith, h.0), omega (arith, h.1))

lacks_some : (m : Margin) (n : ℕ) → IsLacking m n → 1 ≤ n
lacks_some m zero h = absurd (h.broken (kept_but_0 m h.enough))
lacks_some m (suc n) h = omega arith

lacking_at : (t : List ℕ) (a p : ℕ) (told : Result At Refusal) → CanAsk t a p → (PlaceHolds t a p → ⊥) → Margins t a p told → Lacking told
lacking_at t a p (Ok r) can broken (c, is, s) = by r.margin r.spare is s
  where
    by : (m : Margin) (s : Spare) → MarginOf t a p m → IsSpare m s → Lacking (Ok (record { margin = m; spare = s }))
    by m spare.Free is s = absurd (broken ((margins_decide t a p m c is).1 (spares_decide.free m s)))
    by m (spare.Left n) is s = absurd (broken ((margins_decide t a p m c is).1 (spares_decide.left m n s)))
    by m (spare.Lacks n) is s = record { numbers = m; lacks = n; some = lacks_some m n s; told = refl }
lacking_at t a p (Err e) can broken h = absurd ((ask_one t a p).none can h)

sparing_at : (t : List ℕ) (a p : ℕ) (told : Result At Refusal) → CanAsk t a p → PlaceHolds t a p → Margins t a p told → Sparing told
sparing_at t a p (Ok r) can holds (c, is, s) = by r.margin r.spare is s
  where
    by : (m : Margin) (s : Spare) → MarginOf t a p m → IsSpare m s → Sparing (Ok (record { margin = m; spare = s }))
    by m spare.Free is s = (m, inl refl)
    by m (spare.Left n) is s = (m, inr (n, refl))
    by m (spare.Lacks n) is s = absurd (spares_decide.lacks m n s ((margins_decide t a p m c is).0 holds))
sparing_at t a p (Err e) can holds h = absurd ((ask_one t a p).none can h)

met_at_lem : (t : List ℕ) (r : SliceAnswer) (a b : ℕ) (s : Rule) (told : Result (Option Meeting) Refusal) → WholeCheck t r → Gives r (violated a (pair_place b) s) → Meets t a b told
    → (met : Meeting) × (told ≡ Ok (Some met))
met_at_lem t r a b s told w g h =
    let first = named t r a (pair_place b) s w g in
    let both : CanMeet t a b = record { shape = w.starts.0; leg_there = first.place.leg; other_there = omega (arith, first.place.leg, first.place.place) } in
    meetings_show_overlaps.violated t a b told both h first.broken

pub explanations_agree : ExplanationsAgree
explanations_agree = record {
  lacking = λ t r a p s told w g h. let first = named t r a p s w g in lacking_at t a p told (can_ask t r a p s w g) first.broken h;
  meeting = met_at_lem;
  sparing = sparing_at;
}
