-- The calls for C that explain a place have one answer each, since those of a table have one; and which results there are. Assumes nothing.
use Rattle.margins.specs.declared.At.{At}
use Rattle.margins.specs.declared.Margin.{Margin}
use Rattle.margins.specs.declared.Spare.{Spare}
use Rattle.margins.specs.declared.Nearest.{Nearest}
use Rattle.repeats.specs.declared.Meeting.{Meeting}
use Rattle.std.specs.Prelude.{Result, Ok, Err, Option, Some, None}
use Rattle.basics.specs.Cause.{number_of, refused}
use Rattle.basics.specs.declared.Cause.{Cause}
use Rattle.basics.specs.declared.Refusal.{Refusal}
use Prim.Native.Nat.{ℕ, ◌≤◌}
use mathlib.Core.Path.{◌≡◌, refl, ◌∙◌, sym, ap, subst}
use mathlib.Core.List.{List}
use mathlib.Core.Logic.{◌⊎◌, inl, inr}
use native.Mathlib.Omega.{arith}
use Rattle.table.specs.Layout.{Sized}
use Rattle.shape.proofs.Refused.{sized_refused}
use Rattle.rules.specs.Places.{rule_at, PlaceHolds}
use Rattle.rules.specs.declared.Rule.{Rule}
use Rattle.rules.specs.declared.Rule.TheVariants as rule
use Rattle.meeting.specs.Meets.{meeting_refusals, Meets}
use Rattle.meeting.proofs.OneAnswer.{meeting_one_answer}
use Rattle.margins.specs.Asking.{ask_refusals}
use Rattle.margins.specs.Margins.{MarginOf, Margins}
use Rattle.margins.specs.Spares.{IsSpare}
use Rattle.margins.specs.Nearest.{Nears}
use Rattle.margins.specs.declared.Spare.TheVariants as spare
use Rattle.margins.proofs.SpareLaws.{spares_decide}
use Rattle.margins.proofs.Deciding.{margins_decide, margin_one_answer}
use Rattle.margins.proofs.NearLaws.{nearest_one_answer}
use Rattle.host.specs.declared.first_meeting.MeetingNumbers.{MeetingNumbers}
use Rattle.host.specs.declared.place_margin.MarginNumbers.{MarginNumbers}
use Rattle.host.specs.declared.near_offsets.NearestNumbers.{NearestNumbers}
use Rattle.host.specs.Answers.{refused_result, rule_result}
use Rattle.host.specs.Meetings.{meeting_numbers, HostMeets}
use Rattle.host.specs.Margins.{place_result, margin_numbers, HostMargins}
use Rattle.host.specs.NearOffsets.{nearest_numbers, HostNears}
use Rattle.host.specs.ExplainTheorems.{HostMeetingOneAnswer, HostMarginOneAnswer, HostNearestOneAnswer, RefusedBy, TellsRefusal, ExplainResultsAreThese, HostMarginsDecide, ExplanationsInNumbers}
use Rattle.host.proofs.Asking.{numbers_one, of_the_table, plan_results}

pub host_meeting_one_answer : HostMeetingOneAnswer
host_meeting_one_answer plan leg other =
    numbers_one (Result (Option Meeting) Refusal) refused (λ (t : List ℕ). Meets t leg other) MeetingNumbers meeting_numbers (λ t. meeting_one_answer t leg other) plan

pub host_margin_one_answer : HostMarginOneAnswer
host_margin_one_answer plan leg place =
    numbers_one (Result At Refusal) refused (λ (t : List ℕ). Margins t leg place) MarginNumbers (margin_numbers (rule_at place)) (λ t. margin_one_answer t leg place) plan

pub host_nearest_one_answer : HostNearestOneAnswer
host_nearest_one_answer plan leg place =
    numbers_one (Result Nearest Refusal) refused (λ (t : List ℕ). Nears t leg place) NearestNumbers nearest_numbers (λ t. nearest_one_answer t leg place) plan

-- Which results there are.
tells : (n k : ℕ) → RefusedBy n k → TellsRefusal n (refused_result k)
tells n k is = record { number = k; is = is; told = refl }

of_size : (n k : ℕ) → (4 ≤ k) × (k ≤ 7) → RefusedBy n k
of_size n k x = inr (inl x)

of_last : (n k : ℕ) → k ≡ n → RefusedBy n k
of_last n k e = inr (inr (inr e))

ask_refused : (t : List ℕ) (a p : ℕ) (k : Cause) (q : ℕ) → Sized t → (ask_refusals t a p).Fault k q → RefusedBy 9 (number_of k)
ask_refused t a p k q z (inl f) = of_size 9 (number_of k) (sized_refused t k q z f)
ask_refused t a p k q z (inr (s, x)) = of_last 9 (number_of k) (ap number_of x.0)

meet_refused : (t : List ℕ) (a b : ℕ) (k : Cause) (p : ℕ) → Sized t → (meeting_refusals t a b).Fault k p → RefusedBy 10 (number_of k)
meet_refused t a b k p z (inl f) = of_size 10 (number_of k) (sized_refused t k p z f)
meet_refused t a b k p z (inr (s, inl x)) = of_last 10 (number_of k) (ap number_of x.0)
meet_refused t a b k p z (inr (s, inr (i, x))) = of_last 10 (number_of k) (ap number_of x.0)

abbrev MeetingTells : Result (Option Meeting) Refusal → Type 0
MeetingTells g = ((meeting_numbers g).result ≡ 0) ⊎ (((meeting_numbers g).result ≡ 1) ⊎ TellsRefusal 10 (meeting_numbers g).result)

table_meeting : (leg other : ℕ) (t : List ℕ) (g : Result (Option Meeting) Refusal) → Sized t → Meets t leg other g → MeetingTells g
table_meeting leg other t (Ok None) z h = inl refl
table_meeting leg other t (Ok (Some m)) z h = inr (inl refl)
table_meeting leg other t (Err e) z h = inr (inr (tells 10 (number_of e.cause) (meet_refused t leg other e.cause e.at z h)))

abbrev MarginTells : ℕ → Result At Refusal → Type 0
MarginTells place g =
    ((margin_numbers (rule_at place) g).result ≡ 0) ⊎ (((margin_numbers (rule_at place) g).result ≡ rule_result (rule_at place)) ⊎ TellsRefusal 9 (margin_numbers (rule_at place) g).result)

table_margin : (leg place : ℕ) (t : List ℕ) (g : Result At Refusal) → Sized t → Margins t leg place g → MarginTells place g
table_margin leg place t (Ok m) z h = spared m.margin m.spare
  where
    spared : (m : Margin) (s : Spare) → MarginTells place (Ok (record { margin = m; spare = s }))
    spared m spare.Free = inl refl
    spared m (spare.Left n) = inl refl
    spared m (spare.Lacks n) = inr (inl refl)
table_margin leg place t (Err e) z h = inr (inr (tells 9 (number_of e.cause) (ask_refused t leg place e.cause e.at z h)))

abbrev NearestTells : Result Nearest Refusal → Type 0
NearestTells g = ((nearest_numbers g).result ≡ 0) ⊎ TellsRefusal 9 (nearest_numbers g).result

table_nearest : (leg place : ℕ) (t : List ℕ) (g : Result Nearest Refusal) → Sized t → Nears t leg place g → NearestTells g
table_nearest leg place t (Ok n) z h = inl refl
table_nearest leg place t (Err e) z h = inr (tells 9 (number_of e.cause) (ask_refused t leg place e.cause e.at z h))

meeting_results : (plan : List ℕ) (leg other : ℕ) (a : MeetingNumbers) → HostMeets plan leg other a → (a.result ≡ 0) ⊎ ((a.result ≡ 1) ⊎ TellsRefusal 10 a.result)
meeting_results plan leg other a h =
    let told : MeetingTells h.given =
    plan_results (Result (Option Meeting) Refusal) refused (λ (t : List ℕ). Meets t leg other) 10 MeetingTells (λ k p is. inr (inr (tells 10 (number_of k) is))) (table_meeting leg other) plan h.given h.told in
    subst (λ (b : MeetingNumbers). (b.result ≡ 0) ⊎ ((b.result ≡ 1) ⊎ TellsRefusal 10 b.result)) (sym h.answer) told

margin_results : (plan : List ℕ) (leg place : ℕ) (a : MarginNumbers) → HostMargins plan leg place a
    → (a.result ≡ 0) ⊎ ((a.result ≡ rule_result (rule_at place)) ⊎ TellsRefusal 9 a.result)
margin_results plan leg place a h =
    let told : MarginTells place h.given =
    plan_results (Result At Refusal) refused (λ (t : List ℕ). Margins t leg place) 9 (MarginTells place) (λ k p is. inr (inr (tells 9 (number_of k) is))) (table_margin leg place) plan h.given h.told in
    subst (λ (b : MarginNumbers). (b.result ≡ 0) ⊎ ((b.result ≡ rule_result (rule_at place)) ⊎ TellsRefusal 9 b.result)) (sym h.answer) told

nearest_results : (plan : List ℕ) (leg place : ℕ) (a : NearestNumbers) → HostNears plan leg place a → (a.result ≡ 0) ⊎ TellsRefusal 9 a.result
nearest_results plan leg place a h =
    let told : NearestTells h.given =
    plan_results (Result Nearest Refusal) refused (λ (t : List ℕ). Nears t leg place) 9 NearestTells (λ k p is. inr (tells 9 (number_of k) is)) (table_nearest leg place) plan h.given h.told in
    subst (λ (b : NearestNumbers). (b.result ≡ 0) ⊎ TellsRefusal 9 b.result) (sym h.answer) told

pub explain_results_are_these : ExplainResultsAreThese
explain_results_are_these = record { meeting = meeting_results; margin = margin_results; nearest = nearest_results }

-- A margin decides: what is told of a table says whether the place holds, and so does its result.
rule_result_some : (x : Rule) → 2 ≤ rule_result x
rule_result_some rule.Window = omega arith
rule_result_some rule.Hop = omega arith
rule_result_some rule.Deadline = omega arith
rule_result_some rule.Overlap = omega arith

holds_at_0 : (t : List ℕ) (leg place : ℕ) (x : Rule) (g : Result At Refusal) → Margins t leg place g → (margin_numbers x g).result ≡ 0 → PlaceHolds t leg place
holds_at_0 t leg place x (Ok r) (can, is, s) e = spared r.margin r.spare is s e
  where
    spared : (m : Margin) (s : Spare) → MarginOf t leg place m → IsSpare m s → place_result x s ≡ 0 → PlaceHolds t leg place
    spared m spare.Free is s e = (margins_decide t leg place m can is).1 (spares_decide.free m s)
    spared m (spare.Left n) is s e = (margins_decide t leg place m can is).1 (spares_decide.left m n s)
    spared m (spare.Lacks n) is s e = absurd (omega (arith, e, rule_result_some x))
holds_at_0 t leg place x (Err f) h e = absurd (omega (arith, e))

violated_at : (t : List ℕ) (leg place : ℕ) (x : Rule) (g : Result At Refusal) → Margins t leg place g → 2 ≤ (margin_numbers x g).result → (margin_numbers x g).result ≤ 5
    → PlaceHolds t leg place → ⊥
violated_at t leg place x (Ok r) (can, is, s) from to holds = spared r.margin r.spare is s from
  where
    spared : (m : Margin) (s : Spare) → MarginOf t leg place m → IsSpare m s → 2 ≤ place_result x s → ⊥
    spared m spare.Free is s from = omega (arith, from)
    spared m (spare.Left n) is s from = omega (arith, from)
    spared m (spare.Lacks n) is s from = spares_decide.lacks m n s ((margins_decide t leg place m can is).0 holds)
violated_at t leg place x (Err f) h from to holds = omega (arith, to)

pub host_margins_decide : HostMarginsDecide
host_margins_decide = record {
  holds = λ plan t leg place a f h e.
      holds_at_0 t leg place (rule_at place) h.given (of_the_table (Result At Refusal) refused (λ (u : List ℕ). Margins u leg place) plan t h.given f h.told)
      (sym (ap (λ (b : MarginNumbers). b.result) h.answer) ∙ e);
  violated = λ plan t leg place a f h from to.
      let e : a.result ≡ (margin_numbers (rule_at place) h.given).result = ap (λ (b : MarginNumbers). b.result) h.answer in
      violated_at t leg place (rule_at place) h.given (of_the_table (Result At Refusal) refused (λ (u : List ℕ). Margins u leg place) plan t h.given f h.told)
      (omega (arith, e, from)) (omega (arith, e, to));
}

pub explanations_in_numbers : ExplanationsInNumbers
explanations_in_numbers = record {
  never = refl;
  met = λ k m x. refl;
  unmet = λ k p. refl;
  window_left = λ n h l. refl;
  hop_free = refl;
  deadline_lacks = λ n h l. refl;
  overlap_lacks = λ d a h o l. refl;
  margin_refused = λ x k p. refl;
  both = λ x y. refl;
  below_alone = λ x. refl;
  nearest_refused = λ k p. refl;
}
