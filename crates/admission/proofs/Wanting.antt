-- What the table without times reads as; and where it is well-formed, the route has no link twice. Assumes nothing.
use Prim.Native.Nat.{ℕ, ◌+◌, ◌<◌}
use mathlib.Core.Path.{◌≡◌, ◌∙◌, sym, ap}
use mathlib.Core.List.{List}
use lib.ListN.{length, get_or}
use native.Mathlib.Omega.{arith}
use Rattle.table.specs.Layout.{leg_count, Sized}
use Rattle.table.specs.Records.{link_at, stream_at, leg_at}
use Rattle.table.specs.declared.Link.{Link}
use Rattle.table.specs.declared.Stream.{Stream}
use Rattle.table.specs.declared.Leg.{Leg}
use Rattle.shape.specs.Legs.{link_of, first_of}
use Rattle.enlarge.specs.Enlarged.{legs_at_zero, without_times}
use Rattle.enlarge.specs.Reads.{Grown}
use Rattle.enlarge.specs.declared.Wanted.{Wanted}
use Rattle.enlarge.proofs.Grown.{grown_reads}
use Rattle.enlarge.proofs.NewLegs.{leg_at_zero, zero_length, zero_leg_is}
use Rattle.admission.specs.Admits.{CanAdd}

module _ (t : List ℕ) (w : Wanted) (route : List ℕ) (sized : Sized t) where
  pub zero_reads : Grown t w (length route) (legs_at_zero t route) (without_times t w route)
  zero_reads = grown_reads t w (length route) (legs_at_zero t route) sized (zero_length t route)

  pub leg_at_zero_is : (j : ℕ) → j < length route → leg_at (without_times t w route) (leg_count t + j) ≡ leg_at_zero t (get_or route j 0)
  leg_at_zero_is j h = zero_reads.new_leg j h ∙ zero_leg_is t route j h

  pub zero_link : (j : ℕ) → j < length route → link_of (without_times t w route) (leg_count t + j) ≡ link_at t (get_or route j 0)
  zero_link j h = ap (λ (l : Leg). link_at (without_times t w route) l.link) (leg_at_zero_is j h) ∙ zero_reads.link (get_or route j 0)

  pub zero_first : (j : ℕ) → j < length route → first_of (without_times t w route) (leg_count t + j) ≡ leg_count t
  zero_first j h =
      ap (λ (l : Leg). (stream_at (without_times t w route) l.stream).first) (leg_at_zero_is j h) ∙ ap (λ (s : Stream). s.first) zero_reads.new_stream_is

  module _ (can : CanAdd t w route) where
    inside : (j : ℕ) → j < length route → leg_count t + j < leg_count (without_times t w route)
    inside j h = omega (arith, zero_reads.leg_count_is)

    -- No link occurs twice: the frame would come to its end again.
    pub route_new : (i j : ℕ) → i < j → j < length route → get_or route i 0 ≡ get_or route j 0 → ⊥
    route_new i j below h same =
        let li = zero_link i (omega arith) in
        let lj = zero_link j h in
        let to : (link_of (without_times t w route) (leg_count t + j)).to ≡ (link_of (without_times t w route) (leg_count t + i)).to
        = ap (λ (l : Link). l.to) (lj ∙ ap (link_at t) (sym same) ∙ sym li) in
        (can.legs (leg_count t + j) (inside j h)).new_node (leg_count t + i) (omega (arith, zero_first j h)) (omega arith) to
