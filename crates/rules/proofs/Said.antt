-- What each rule says, for the layers above, which open none; when a leg starts, and that one which does not lie late starts at its offset. Assumes nothing.
use Prim.Native.Nat.{ℕ, ◌+◌, ◌*◌, ◌≤◌}
use mathlib.Core.Path.{◌≡◌, refl, ap}
use mathlib.Core.List.{List}
use native.Mathlib.Omega.{arith}
use Rattle.table.specs.Records.{leg_at}
use Rattle.shape.specs.Legs.{stream_of, first_of, end_of}
use Rattle.overlap.specs.Meeting.{NeverMeet}
use Rattle.rules.specs.Times.{hold_of, offset_of, start_time, start_of, slot_of, ready_of}
use Rattle.rules.specs.Rules.{Window, Hop, Deadline, Overlap}

module _ (t : List ℕ) (a : ℕ) where
  pub start_says : start_of t a ≡ offset_of t a + (leg_at t a).periods * (stream_of t a).period
  unfolding start_of start_time
  start_says = refl

  pub on_time : (leg_at t a).periods ≡ 0 → start_of t a ≡ offset_of t a
  unfolding start_of start_time
  on_time h = let none = ap (λ (k : ℕ). start_time (offset_of t a) k (stream_of t a).period) h in omega (arith, none)

  pub window_says : (Window t a → offset_of t a + hold_of t a ≤ (stream_of t a).period) × (offset_of t a + hold_of t a ≤ (stream_of t a).period → Window t a)
  unfolding Window
  window_says = (λ h. h, λ h. h)

  pub hop_says : (Hop t a → (b : ℕ) → first_of t a ≤ b → a ≡ b + 1 → ready_of t b ≤ start_of t a)
      × (((b : ℕ) → first_of t a ≤ b → a ≡ b + 1 → ready_of t b ≤ start_of t a) → Hop t a)
  unfolding Hop
  hop_says = (λ h. h, λ h. h)

  pub deadline_says : (Deadline t a → a + 1 ≡ end_of t a → ready_of t a ≤ (stream_of t a).deadline + start_of t (first_of t a))
      × ((a + 1 ≡ end_of t a → ready_of t a ≤ (stream_of t a).deadline + start_of t (first_of t a)) → Deadline t a)
  unfolding Deadline
  deadline_says = (λ h. h, λ h. h)

  pub overlap_says : (b : ℕ) → (Overlap t a b → (leg_at t a).link ≡ (leg_at t b).link → NeverMeet (slot_of t a) (slot_of t b))
      × (((leg_at t a).link ≡ (leg_at t b).link → NeverMeet (slot_of t a) (slot_of t b)) → Overlap t a b)
  unfolding Overlap
  overlap_says b = (λ h. h, λ h. h)
