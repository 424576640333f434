-- The nearest offsets of a leg, below and above its own, with which it keeps its window and one place of it holds.
use Rattle.std.specs.Prelude.{ℕ, ◌<◌, List, Option, Some, None, Result, Ok, Err}
use Rattle.basics.specs.declared.Refusal.{Refusal}
use Rattle.table.specs.Records.{leg_at, moved, move_to}
use Rattle.rules.specs.Times.{offset_of}
use Rattle.rules.specs.Rules.{Window}
use Rattle.rules.specs.Places.{PlaceHolds}
use Rattle.margins.specs.Asking.{CanAsk, ask_refusals}
use Rattle.margins.specs.declared.Nearest.{Nearest}

-- Table t with leg a at offset x, its period word as it is.
abbrev pub with_offset : List ℕ → ℕ → ℕ → List ℕ
with_offset t a x = moved t (move_to a x (leg_at t a).periods)

-- At offset x leg a keeps its window, and its place p holds.
pub record Stands (t : List ℕ) (a p x : ℕ) : Type 0 where
  pub window : Window (with_offset t a x) a
  pub place : PlaceHolds (with_offset t a x) a p

-- x is the last number below y that has P, and the first above y.
pub record LastBelow (P : ℕ → Type 0) (y x : ℕ) : Type 0 where
  pub below : x < y
  pub has : P x
  pub none_between : (z : ℕ) → x < z → z < y → P z → ⊥

pub record FirstAbove (P : ℕ → Type 0) (y x : ℕ) : Type 0 where
  pub above : y < x
  pub has : P x
  pub none_between : (z : ℕ) → y < z → z < x → P z → ⊥

-- The nearest offset below the leg's own at which it stands, and the nearest above.
abbrev pub NearestBelow : List ℕ → ℕ → ℕ → ℕ → Type 0
NearestBelow t a p x = LastBelow (Stands t a p) (offset_of t a) x

abbrev pub NearestAbove : List ℕ → ℕ → ℕ → ℕ → Type 0
NearestAbove t a p x = FirstAbove (Stands t a p) (offset_of t a) x

-- That number, or that no number below y, or above y, has P.
abbrev pub IsBelow : (ℕ → Type 0) → ℕ → Option ℕ → Type 0
IsBelow P y (Some x) = LastBelow P y x
IsBelow P y None = (z : ℕ) → z < y → P z → ⊥

abbrev pub IsAbove : (ℕ → Type 0) → ℕ → Option ℕ → Type 0
IsAbove P y (Some x) = FirstAbove P y x
IsAbove P y None = (z : ℕ) → y < z → P z → ⊥

-- The two offsets of place p of leg a.
pub record NearestOf (t : List ℕ) (a p : ℕ) (n : Nearest) : Type 0 where
  pub below : IsBelow (Stands t a p) (offset_of t a) n.below
  pub above : IsAbove (Stands t a p) (offset_of t a) n.above

-- What is answered of place (a,p) of table t.
abbrev pub Nears : List ℕ → ℕ → ℕ → Result Nearest Refusal → Type 0
Nears t a p (Ok n) = CanAsk t a p × NearestOf t a p n
Nears t a p (Err e) = (ask_refusals t a p).Fault e.cause e.at
