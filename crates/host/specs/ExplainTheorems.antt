-- What is proved of the calls for C that explain a place: of first meetings, margins and nearest offsets.
use Rattle.std.specs.Prelude.{ℕ, ◌+◌, ◌≤◌, ◌≡◌, List, ◌⊎◌, Ok, Some, None}
use Rattle.basics.specs.Cause.{number_of, refused}
use Rattle.basics.specs.declared.Cause.{Cause}
use Rattle.table.specs.Layout.{Sized}
use Rattle.files.specs.Reading.{IsFile}
use Rattle.rules.specs.Places.{rule_at, PlaceHolds}
use Rattle.rules.specs.declared.Rule.{Rule}
use Rattle.rules.specs.declared.Rule.TheVariants as rule
use Rattle.margins.specs.declared.Margin.TheVariants as margin
use Rattle.margins.specs.declared.Spare.TheVariants as spare
use Rattle.host.specs.declared.first_meeting.MeetingNumbers.{MeetingNumbers}
use Rattle.host.specs.declared.place_margin.MarginNumbers.{MarginNumbers}
use Rattle.host.specs.declared.near_offsets.NearestNumbers.{NearestNumbers}
use Rattle.host.specs.Answers.{refused_result, rule_result}
use Rattle.host.specs.Meetings.{meeting_numbers, HostMeets}
use Rattle.host.specs.Margins.{margin_numbers, HostMargins}
use Rattle.host.specs.NearOffsets.{nearest_numbers, HostNears}

-- One answer.
abbrev pub HostMeetingOneAnswer : Type 0
HostMeetingOneAnswer = (plan : List ℕ) (leg other : ℕ) (a b : MeetingNumbers) → HostMeets plan leg other a → HostMeets plan leg other b → a ≡ b

abbrev pub HostMarginOneAnswer : Type 0
HostMarginOneAnswer = (plan : List ℕ) (leg place : ℕ) (a b : MarginNumbers) → HostMargins plan leg place a → HostMargins plan leg place b → a ≡ b

abbrev pub HostNearestOneAnswer : Type 0
HostNearestOneAnswer = (plan : List ℕ) (leg place : ℕ) (a b : NearestNumbers) → HostNears plan leg place a → HostNears plan leg place b → a ≡ b

-- The refusals where n is the last: 2, 4 to 7, 12 to 14, and n.
abbrev pub RefusedBy : ℕ → ℕ → Type 0
RefusedBy n k = (k ≡ 2) ⊎ (((4 ≤ k) × (k ≤ 7)) ⊎ (((12 ≤ k) × (k ≤ 14)) ⊎ (k ≡ n)))

-- The result r tells one of them.
pub record TellsRefusal (n r : ℕ) : Type 0 where
  pub number : ℕ
  pub is : RefusedBy n number
  pub told : r ≡ refused_result number

-- Which results there are. A meeting: 0 and 1, and it is refused with 10 last. A margin: 0, and 2 to 5, which is then the rule of its place; the nearest offsets: 0. Both are refused with
-- 9 last.
pub record ExplainResultsAreThese : Type 0 where
  pub meeting : (plan : List ℕ) (leg other : ℕ) (a : MeetingNumbers) → HostMeets plan leg other a → (a.result ≡ 0) ⊎ ((a.result ≡ 1) ⊎ TellsRefusal 10 a.result)
  pub margin : (plan : List ℕ) (leg place : ℕ) (a : MarginNumbers) → HostMargins plan leg place a
      → (a.result ≡ 0) ⊎ ((a.result ≡ rule_result (rule_at place)) ⊎ TellsRefusal 9 a.result)
  pub nearest : (plan : List ℕ) (leg place : ℕ) (a : NearestNumbers) → HostNears plan leg place a → (a.result ≡ 0) ⊎ TellsRefusal 9 a.result

-- The result of a margin is what a check says of the place: 0 where it holds, and 2 to 5 where it is violated.
pub record HostMarginsDecide : Type 0 where
  pub holds : (plan t : List ℕ) (leg place : ℕ) (a : MarginNumbers) → IsFile Sized plan t → HostMargins plan leg place a → a.result ≡ 0 → PlaceHolds t leg place
  pub violated : (plan t : List ℕ) (leg place : ℕ) (a : MarginNumbers) → IsFile Sized plan t → HostMargins plan leg place a → 2 ≤ a.result → a.result ≤ 5
      → PlaceHolds t leg place → ⊥

-- The answers at numbers. Each field of what C gets is fixed: 0 and 1 of a meeting, 0 and 2 to 5 of a margin, 0 of the nearest offsets, and 100 plus the refusal number with the position.
pub record ExplanationsInNumbers : Type 0 where
  pub never : meeting_numbers (Ok None) ≡ record { result = 0; position = 0; first = 0; second = 0; instant = 0 }
  pub met : (k m x : ℕ) → meeting_numbers (Ok (Some (record { first = k; second = m; instant = x }))) ≡ record { result = 1; position = 0; first = k; second = m; instant = x }
  pub unmet : (k : Cause) (p : ℕ) → meeting_numbers (refused k p) ≡ record { result = 100 + number_of k; position = p; first = 0; second = 0; instant = 0 }
  pub window_left : (n h l : ℕ) → margin_numbers rule.Window (Ok (record { margin = margin.Sides (record { needs = n; has = h }); spare = spare.Left l }))
      ≡ record { result = 0; position = 0; rule = 2; asked = 1; left = l; lacks = 0; needs = n; has = h; divisor = 0; after = 0; hold = 0; other = 0 }
  pub hop_free : margin_numbers rule.Hop (Ok (record { margin = margin.Free; spare = spare.Free }))
      ≡ record { result = 0; position = 0; rule = 3; asked = 0; left = 0; lacks = 0; needs = 0; has = 0; divisor = 0; after = 0; hold = 0; other = 0 }
  pub deadline_lacks : (n h l : ℕ) → margin_numbers rule.Deadline (Ok (record { margin = margin.Sides (record { needs = n; has = h }); spare = spare.Lacks l }))
      ≡ record { result = 4; position = 0; rule = 4; asked = 1; left = 0; lacks = l; needs = n; has = h; divisor = 0; after = 0; hold = 0; other = 0 }
  pub overlap_lacks : (d a h o l : ℕ) → margin_numbers rule.Overlap (Ok (record { margin = margin.Turns (record { divisor = d; after = a; hold = h; other = o }); spare = spare.Lacks l }))
      ≡ record { result = 5; position = 0; rule = 5; asked = 1; left = 0; lacks = l; needs = 0; has = 0; divisor = d; after = a; hold = h; other = o }
  pub margin_refused : (x : Rule) (k : Cause) (p : ℕ) → margin_numbers x (refused k p)
      ≡ record { result = 100 + number_of k; position = p; rule = 0; asked = 0; left = 0; lacks = 0; needs = 0; has = 0; divisor = 0; after = 0; hold = 0; other = 0 }
  pub both : (x y : ℕ) → nearest_numbers (Ok (record { below = Some x; above = Some y }))
      ≡ record { result = 0; position = 0; lower = 1; below = x; higher = 1; above = y }
  pub below_alone : (x : ℕ) → nearest_numbers (Ok (record { below = Some x; above = None }))
      ≡ record { result = 0; position = 0; lower = 1; below = x; higher = 0; above = 0 }
  pub nearest_refused : (k : Cause) (p : ℕ) → nearest_numbers (refused k p) ≡ record { result = 100 + number_of k; position = p; lower = 0; below = 0; higher = 0; above = 0 }
