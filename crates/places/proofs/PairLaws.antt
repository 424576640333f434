-- Along the chain of a leg's link: each leg passed over is on another link, and with each looked at all holds. Assumes nothing.
use Prim.Native.Nat.{ℕ, ◌≤◌, ◌<◌}
use mathlib.Core.Path.{◌≡◌, ◌∙◌, sym, subst}
use mathlib.Core.List.{List}
use mathlib.Core.Logic.{⊎_elim}
use lib.ListN.{length, get_or}
use native.Mathlib.Nat.{eq-or-lt_of_le}
use native.Mathlib.Omega.{arith}
use Rattle.basics.proofs.Splits.{lt_or_ge}
use Rattle.table.specs.Layout.{link_count, leg_count}
use Rattle.table.specs.Records.{leg_at}
use Rattle.overlap.specs.Divisor.{IsGcd}
use Rattle.overlap.specs.declared.Known.{Known}
use Rattle.overlap.proofs.Euclid.{gcd_same}
use Rattle.rules.specs.Places.{PairHolds}
use Rattle.rules.specs.Steps.{LegIn, FrameOf, SharerOf}
use Rattle.rules.specs.declared.Frame.{Frame}
use Rattle.rules.specs.declared.Sharer.{Sharer}
use Rattle.rules.proofs.Pairs.{other_pairs}
use Rattle.places.specs.Chains.{NextOn, Begun, Chained}

-- Leg b is the next of the link of leg a, and leg a is clear of all from n on that come before b.
pub record Along (t : List ℕ) (a n b : ℕ) : Type 0 where
  pub from : n ≤ b
  pub on : b < leg_count t → (leg_at t b).link ≡ (leg_at t a).link
  pub clear : (c : ℕ) → n ≤ c → c < b → c < leg_count t → PairHolds t a c

pub along_start : {t : List ℕ} {a n b : ℕ} → n ≤ b → NextOn t (leg_at t a).link n b → Along t a n b
along_start {t} {a} h x = record { from = h; on = x.on; clear = λ c from below inside. other_pairs t a c (x.none c from below inside) }

pub along_next : {t next : List ℕ} {a n b : ℕ} → Along t a n b → Chained t next 0 → b < leg_count t → PairHolds t a b → Along t a n (get_or next b 0)
along_next {t} {next} {a} {n} {b} w h l o =
    let x = h.later b (omega arith) l in
    let on = w.on l in
    record {
      from = omega (arith, w.from, h.onward b (omega arith) l);
      on = λ inside. x.on inside ∙ on;
      clear = λ c from below inside.
          ⊎_elim
          (λ (k : c < b). w.clear c from k inside)
          (λ (k : b ≤ c).
          ⊎_elim
          (λ (e : b ≡ c). subst (λ (d : ℕ). PairHolds t a d) e o)
          (λ (g : b < c). other_pairs t a c (λ e. x.none c (omega arith) below inside (e ∙ sym on)))
          (eq-or-lt_of_le k))
          (lt_or_ge c b);
    }

-- The chain of the link of leg a, and its lowest leg.
module _ {t : List ℕ} {a l : ℕ} {f : Frame} (leg : LegIn t a) (frame : FrameOf t a f) (is : l ≡ f.link) where
  pub its_link : l ≡ (leg_at t a).link
  its_link = is ∙ frame.link

  pub its_link_inside : l < link_count t
  its_link_inside = omega (arith, its_link, (leg.table.leg a leg.leg).link)

  module _ {first : List ℕ} (begun : Begun t first 0) where
    pub its_link_room : l < length first
    its_link_room = omega (arith, its_link_inside, leg.table.sized.limits.links, begun.room)

    pub its_lowest : NextOn t l 0 (get_or first l 0)
    its_lowest = begun.lowest l its_link_inside

  pub its_next : {n b : ℕ} → NextOn t l n b → NextOn t (leg_at t a).link n b
  its_next {n} {b} x = subst (λ (k : ℕ). NextOn t k n b) its_link x

-- Each turn: leg a as those of its link see it, the divisor that is known of its period, and where the chain stands.
pub record Turn (t next : List ℕ) (a n m : ℕ) (mine : Sharer) (known : Known) (b : ℕ) : Type 0 where
  pub limit : m ≤ a
  pub chained : Chained t next 0
  pub sharer : SharerOf t a mine
  pub gcd : IsGcd mine.slot.period known.period known.divisor
  pub along : Along t a n b

pub turn_starts : {t next : List ℕ} {a n m b : ℕ} {mine : Sharer} → Chained t next 0 → m ≤ a → n ≤ b → NextOn t (leg_at t a).link n b
    → SharerOf t a mine → Turn t next a n m mine (record { period = mine.slot.period; divisor = mine.slot.period }) b
turn_starts chained h from x sharer = record { limit = h; chained = chained; sharer = sharer; gcd = gcd_same _; along = along_start from x }

module _ {t next : List ℕ} {a n m b : ℕ} {mine : Sharer} {known : Known} (i : Turn t next a n m mine known b) where
  module _ (h : b < m) where
    pub turn_leg : LegIn t b
    turn_leg = record { table = i.sharer.leg.table; leg = omega (arith, i.limit, i.sharer.leg.leg) }

    pub turn_link : (leg_at t a).link ≡ (leg_at t b).link
    turn_link = sym (i.along.on turn_leg.leg)

    pub turn_room : b < length next
    turn_room = omega (arith, turn_leg.leg, turn_leg.table.sized.limits.legs, i.chained.room)

    pub turn_on : {next_known : Known} {other : Sharer} → SharerOf t b other → PairHolds t a b → next_known.period ≡ other.slot.period
        → IsGcd mine.slot.period other.slot.period next_known.divisor → Turn t next a n m mine next_known (get_or next b 0)
    turn_on so holds same g = record {
      limit = i.limit;
      chained = i.chained;
      sharer = i.sharer;
      gcd = rw same g;
      along = along_next i.along i.chained turn_leg.leg holds;
    }
