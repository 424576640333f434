-- What each leg of the enlarged table asks is what its condition says. Assumes nothing.
use Prim.Native.Nat.{ℕ, ◌+◌, ◌≤◌, ◌<◌}
use mathlib.Core.Path.{◌≡◌, ◌∙◌, sym, ap, subst}
use mathlib.Core.List.{List}
use mathlib.Core.Logic.{⊎_elim}
use lib.ListN.{length, get_or}
use native.Mathlib.Omega.{arith}
use Rattle.basics.proofs.Splits.{lt_or_ge}
use Rattle.table.specs.Layout.{leg_count}
use Rattle.table.specs.Records.{link_at, leg_at}
use Rattle.overlap.specs.Meeting.{NeverMeet}
use Rattle.overlap.specs.declared.Slot.{Slot}
use Rattle.rules.specs.Times.{hold_time, slot_of}
use Rattle.rules.specs.Steps.{Timed, LegIn, FrameOf, SlotOf}
use Rattle.rules.specs.declared.Frame.{Frame}
use Rattle.offsets.specs.Conditions.{ClearOf, Keeps, Says, Holding, Starts, slot_from}
use Rattle.offsets.specs.declared.Condition.{Condition}
use Rattle.offsets.specs.declared.StoredCondition.{StoredCondition}
use Rattle.offsets.proofs.Saying.{says_in_words}
use Rattle.offsets.proofs.Keeping.{holding_more}
use Rattle.enlarge.specs.Steps.{Sendable}
use Rattle.enlarge.specs.declared.Wanted.{Wanted}
use Rattle.enlarge.proofs.Ranges.{wanted_in_range}
use Rattle.admission.specs.Steps.{Ready, after_of, new_hold, Asks, AfterIs, FirstMet}
use Rattle.admission.proofs.Wanting.{route_new}
use Rattle.admission.proofs.Walking.{guaranteed, can_send}

-- Two slots of the same numbers.
pub same_slot : (a b : Slot) → a.offset ≡ b.offset → a.period ≡ b.period → a.hold ≡ b.hold → a ≡ b
same_slot a b o p h =
    let x : ◌≡◌ {A = Slot} (record { offset = a.offset; period = a.period; hold = a.hold }) (record { offset = b.offset; period = b.period; hold = b.hold }) = cc in
    x

module _ {t : List ℕ} {w : Wanted} {route : List ℕ} (ready : Ready t w route) where
  pub leg_in_lem : {a : ℕ} → a < leg_count t → LegIn t a
  leg_in_lem h = record { table = guaranteed ready; leg = h }

  pub sends : {j l : ℕ} → j < length route → get_or route j 0 ≡ l → Sendable t w 0 l
  sends {j} {l} h e = can_send ready 0 j l (omega arith) h e

  pub sends_met : {j l : ℕ} → FirstMet route l j → Sendable t w 0 l
  sends_met met = sends met.within met.there

  -- A leg that starts so long after the first one, as the conditions take it.
  pub leg_starts : {j after period time hold : ℕ} → AfterIs t w route j after → period ≡ w.period → Timed time hold → Starts after period hold
  leg_starts after period hold =
      let range = (wanted_in_range t w route ready.shape.sized ready.can_add).stream in
      record {
        after_to = omega (arith, after.small);
        period_from = omega (arith, range.period_from);
        period_to = omega (arith, range.period_to);
        hold_from = hold.from;
        hold_to = omega (arith, hold.to);
      }

  -- An old leg on a link of the route asks that the new leg there never meets it.
  pub old_asks : {a j after period hold : ℕ} {f : Frame} {other : Slot} {q : Condition} → a < leg_count t → FrameOf t a f → FirstMet route f.link j
      → AfterIs t w route j after → period ≡ w.period → Timed (hold_time w.octets (link_at t f.link).rate) hold → SlotOf t a other
      → Says (ClearOf after period hold other) q → Says (Asks t w route a) q
  old_asks {a} {j} {after} {period} {hold} {f} {other} h frame met starts is-period holds slot says =
      let k = met.within in
      let here : get_or route j 0 ≡ (leg_at t a).link = met.there ∙ frame.link in
      let i = starts.is in
      let n : hold ≡ new_hold t w route j = holds.same ∙ ap (λ (z : ℕ). hold_time w.octets (link_at t z).rate) (sym (met.there)) in
      let mine : (x : ℕ) → slot_from after period hold x ≡ slot_from (after_of t w route j) w.period (new_hold t w route j) x = λ x. cc in
      let o = slot.offset in
      let p = slot.period in
      let d = slot.hold in
      let its : other ≡ slot_of t a = same_slot other (slot_of t a) o p d in
      says_in_words (Asks t w route a)
      (λ x clear. record {
        beside = λ old m b link.
            let e : j ≡ m =
            ⊎_elim
            (λ (l : j < m). absurd (route_new t w route ready.shape.sized ready.can_add j m l b (here ∙ sym link)))
            (λ (l : m ≤ j). ⊎_elim (λ (g : m < j). absurd (route_new t w route ready.shape.sized ready.can_add m j g k (link ∙ sym here))) (λ (g : j ≤ m). omega arith) (lt_or_ge m j))
            (lt_or_ge j m) in
            subst (λ (z : ℕ). NeverMeet (slot_from (after_of t w route z) w.period (new_hold t w route z) x) (slot_of t a)) e
            (subst (λ (s : Slot). NeverMeet s (slot_of t a)) (mine x) (subst (λ (s : Slot). NeverMeet (slot_from after period hold x) s) its clear));
        window = λ m b is. absurd (omega arith);
      })
      (λ x asks.
      subst (λ (s : Slot). NeverMeet (slot_from after period hold x) s) (sym its)
      (subst (λ (s : Slot). NeverMeet s (slot_of t a)) (sym (mine x)) (asks.beside h j k here)))
      says

-- The conditions of the first n legs are kept, of so many.
pub record Kept (t : List ℕ) (w : Wanted) (route : List ℕ) (end : ℕ) (s₀ s : List StoredCondition) (n : ℕ) : Type 0 where
  pub ready : Ready t w route
  pub upto : n ≤ end
  pub size : length s ≡ length s₀
  pub room : end ≤ length s₀
  pub held : Holding s n (Asks t w route)

module _ {t : List ℕ} {w : Wanted} {route : List ℕ} {end n : ℕ} {s₀ s : List StoredCondition} (k : Kept t w route end s₀ s n) where
  pub kept_on : {q : Condition} {s' : List StoredCondition} → n < end → Says (Asks t w route n) q → Keeps s n q s' → Kept t w route end s₀ s' (n + 1)
  kept_on h says keeps = record {
    ready = k.ready;
    upto = omega arith;
    size = keeps.size ∙ k.size;
    room = k.room;
    held = holding_more k.held says keeps;
  }

-- Those of the old legs and of the first j new ones are kept.
pub record KeptNew (t : List ℕ) (w : Wanted) (route : List ℕ) (legs : ℕ) (s₀ s : List StoredCondition) (j : ℕ) : Type 0 where
  pub kept : Kept t w route (legs + length route) s₀ s (legs + j)
  pub is : legs ≡ leg_count t

module _ {t : List ℕ} {w : Wanted} {route : List ℕ} {legs j : ℕ} {s₀ s : List StoredCondition} (n : KeptNew t w route legs s₀ s j) where
  pub kept_new_on : {q : Condition} {s' : List StoredCondition} → j < length route → Says (Asks t w route (leg_count t + j)) q → Keeps s (legs + j) q s' → KeptNew t w route legs s₀ s' (j + 1)
  kept_new_on {q} {s'} h says keeps =
      let own : Says (Asks t w route (legs + j)) q = subst (λ (m : ℕ). Says (Asks t w route (m + j)) q) (sym n.is) says in
      record {
        kept = subst (Kept t w route (legs + length route) s₀ s') (let e : legs + j + 1 ≡ legs + (j + 1) = omega arith in e) (kept_on n.kept (omega arith) own keeps);
        is = n.is;
      }
