-- The nearest numbers of a range, and that they are one. Assumes nothing.
use Prim.Native.Nat.{ℕ, ◌≤◌, ◌<◌}
use mathlib.Core.Path.{◌≡◌, refl, sym, ap, subst}
use mathlib.Core.List.{List}
use mathlib.Core.Logic.{⊎_elim}
use native.Mathlib.Omega.{arith}
use Rattle.std.specs.Prelude.{Option, Some, None, Ok, Err}
use Rattle.basics.proofs.Refusals.{same_refusal}
use Rattle.basics.proofs.Splits.{lt_or_ge}
use Rattle.rules.specs.Times.{offset_of}
use Rattle.rules.specs.Places.{asked_at, PlaceHolds}
use Rattle.rules.specs.Steps.{FrameOf}
use Rattle.rules.specs.declared.Asked.{Asked}
use Rattle.rules.specs.declared.Frame.{Frame}
use Rattle.margins.specs.Asking.{CanAsk}
use Rattle.margins.specs.Nearest.{Stands, LastBelow, FirstAbove, IsBelow, IsAbove, NearestOf}
use Rattle.margins.specs.Moving.{Moving}
use Rattle.margins.specs.Ranges.{RangeFor, StandsAt, Within}
use Rattle.margins.specs.Theorems.{NearestOneAnswer}
use Rattle.margins.specs.declared.Range.{Range}
use Rattle.margins.specs.declared.Nearest.{Nearest}
use Rattle.margins.proofs.Deciding.{ask_one}
use Rattle.margins.proofs.Numbering.{asked_leg}

-- The same number of other words.
module _ {P Q : ℕ → Type 0} (to : (x : ℕ) → P x → Q x) (from : (x : ℕ) → Q x → P x) (y : ℕ) where
  below_in_words : (o : Option ℕ) → IsBelow P y o → IsBelow Q y o
  below_in_words (Some x) k = record { below = k.below; has = to x k.has; none_between = λ z after below h. k.none_between z after below (from z h) }
  below_in_words None k = λ z below h. k z below (from z h)

  above_in_words : (o : Option ℕ) → IsAbove P y o → IsAbove Q y o
  above_in_words (Some x) k = record { above = k.above; has = to x k.has; none_between = λ z above before h. k.none_between z above before (from z h) }
  above_in_words None k = λ z above h. k z above (from z h)

-- Offsets with P are those at which the leg stands: their nearest are its nearest.
module _ (t : List ℕ) (a p : ℕ) (q : Asked) (there : q ≡ asked_at p) (P : ℕ → Type 0) (to : (x : ℕ) → P x → StandsAt t a q x) (from : (x : ℕ) → StandsAt t a q x → P x)
    (y : ℕ) (own : y ≡ offset_of t a) where
  stands_to : (x : ℕ) → P x → Stands t a p x
  unfolding PlaceHolds
  stands_to x k =
      let s : StandsAt t a (asked_at p) x = subst (λ (z : Asked). StandsAt t a z x) there (to x k) in
      record { window = s.window; place = s.asked }

  stands_from : (x : ℕ) → Stands t a p x → P x
  unfolding PlaceHolds
  stands_from x s = from x (subst (λ (z : Asked). StandsAt t a z x) (sym there) (record { window = s.window; asked = s.place }))

  pub nearest_by : (below above : Option ℕ) → IsBelow P y below → IsAbove P y above → NearestOf t a p (record { below = below; above = above })
  nearest_by below above k l = record {
    below = subst (λ (z : ℕ). IsBelow (Stands t a p) z below) own (below_in_words stands_to stands_from y below k);
    above = subst (λ (z : ℕ). IsAbove (Stands t a p) z above) own (above_in_words stands_to stands_from y above l);
  }

pub nearest_told : (t : List ℕ) (a p : ℕ) (f : Frame) (q : Asked) (r : Range) → FrameOf t a f → q ≡ asked_at p → RangeFor (StandsAt t a q) r
    → (below above : Option ℕ) → IsBelow (Within r) f.offset below → IsAbove (Within r) f.offset above → NearestOf t a p (record { below = below; above = above })
nearest_told t a p f q r is there range = nearest_by t a p q there (Within r) range.to range.from f.offset is.offset

pub moving_leg : (t : List ℕ) (a p : ℕ) (f : Frame) → CanAsk t a p → FrameOf t a f → Moving t a f
moving_leg t a p f c is = record { shape = c.shape; leg = asked_leg t a p c; frame = is }

-- The last number below y that has P is one, and so is the first above y.
last_one : {P : ℕ → Type 0} {y x z : ℕ} → LastBelow P y x → LastBelow P y z → x ≡ z
last_one {x = x} {z = z} k l =
    ⊎_elim
    (λ (h : x < z). absurd (k.none_between z h l.below l.has))
    (λ (h : z ≤ x).
    ⊎_elim
    (λ (i : z < x). absurd (l.none_between x i k.below k.has))
    (λ (i : x ≤ z). omega arith)
    (lt_or_ge z x))
    (lt_or_ge x z)

first_one : {P : ℕ → Type 0} {y x z : ℕ} → FirstAbove P y x → FirstAbove P y z → x ≡ z
first_one {x = x} {z = z} k l =
    ⊎_elim
    (λ (h : x < z). absurd (l.none_between x k.above h k.has))
    (λ (h : z ≤ x).
    ⊎_elim
    (λ (i : z < x). absurd (k.none_between z l.above i l.has))
    (λ (i : x ≤ z). omega arith)
    (lt_or_ge z x))
    (lt_or_ge x z)

module _ (P : ℕ → Type 0) (y : ℕ) where
  below_one : (o o' : Option ℕ) → IsBelow P y o → IsBelow P y o' → o ≡ o'
  below_one (Some x) (Some z) k l = ap Some (last_one k l)
  below_one (Some x) None k l = absurd (l x k.below k.has)
  below_one None (Some x) k l = absurd (k x l.below l.has)
  below_one None None k l = refl

  above_one : (o o' : Option ℕ) → IsAbove P y o → IsAbove P y o' → o ≡ o'
  above_one (Some x) (Some z) k l = ap Some (first_one k l)
  above_one (Some x) None k l = absurd (l x k.above k.has)
  above_one None (Some x) k l = absurd (k x l.above l.has)
  above_one None None k l = refl

nearest_one : (t : List ℕ) (a p : ℕ) (n n' : Nearest) → NearestOf t a p n → NearestOf t a p n' → n ≡ n'
nearest_one t a p n n' k l =
    let b = below_one (Stands t a p) (offset_of t a) n.below n'.below k.below l.below in
    let c = above_one (Stands t a p) (offset_of t a) n.above n'.above k.above l.above in
    let e : ◌≡◌ {A = Nearest} (record { below = n.below; above = n.above }) (record { below = n'.below; above = n'.above }) = cc in
    e

pub nearest_one_answer : NearestOneAnswer
nearest_one_answer t a p (Ok n) (Ok n') k l = ap Ok (nearest_one t a p n n' k.1 l.1)
nearest_one_answer t a p (Ok n) (Err e) x f = absurd ((ask_one t a p).none x.0 f)
nearest_one_answer t a p (Err e) (Ok n) f x = absurd ((ask_one t a p).none x.0 f)
nearest_one_answer t a p (Err e) (Err h) f g = let i = (ask_one t a p).one f g in same_refusal i.0 i.1
