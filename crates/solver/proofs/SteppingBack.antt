-- The walk back, on the lists that the arrays hold. Assumes nothing.
use mathlib.Core.Path.{◌≡◌, sym, ap, subst}
use mathlib.Core.List.{List}
use Prim.Native.Nat.{ℕ, ◌+◌, ◌-◌, ◌<◌, ◌≤◌}
use native.Mathlib.Omega.{arith}
use lib.IntN.{ℤ}
use lib.ListN.{get_or, set, length-set}
use lib.Seq.{get_or-set_same, get_or-set_other}
use Rattle.network.specs.Network.{Chain}
use Rattle.solver.specs.Walks.{Walked}
use Rattle.network.specs.Constraints.{network_of, NetworkInRange, times_of, numbers_of}
use Rattle.network.proofs.Ranges.{bounded}
use Rattle.solver.specs.Steps.{Walking}
use Rattle.network.proofs.Marks.{put}
use Rattle.solver.proofs.Walking.{room, was_lowered, step, chain, fits}

module _ (n : ℕ) (ws : List ℤ) (by : List ℕ) (k x : ℕ) (path seen : List ℕ) (f : NetworkInRange n ws) (c : Walking n ws by k x path seen) where
  here : x < n
  here = c.walked.here

  module _ (new : get_or seen x 0 ≡ 0) where
    pub space : k < n
    space = room n (network_of ws) c.base 0 (times_of c.t) (numbers_of c.tick) (numbers_of by) (bounded f) c.stands.kept k x (λ a. get_or path (127 - a) 0) (numbers_of seen) c.walked new

    lowered_here : 0 < numbers_of c.tick x
    lowered_here = was_lowered n (network_of ws) c.base 0 (times_of c.t) (numbers_of c.tick) (numbers_of by) (bounded f) c.stands.kept k x (λ a. get_or path (127 - a) 0) (numbers_of seen) c.walked new

    pub edge : get_or by x 0 < (network_of ws).size
    edge = c.stands.kept.known x here lowered_here

    pub stepped : (y : ℕ) → y ≡ (network_of ws).from (get_or by x 0) → Walking n ws by (k + 1) y (set path (127 - k) (get_or by x 0)) (set seen x (k + 1))
    stepped y e =
        record {
          t = c.t;
          tick = c.tick;
          base = c.base;
          stands = c.stands;
          paths = simp length-set c.paths;
          seens = simp length-set c.seens;
          walked = subst (λ z. Walked n (network_of ws) (numbers_of c.tick) (numbers_of by) (k + 1) z (λ a. get_or (set path (127 - k) (get_or by x 0)) (127 - a) 0) (numbers_of (set seen x (k + 1)))) (sym e)
              (step n (network_of ws) c.base 0 (times_of c.t) (numbers_of c.tick) (numbers_of by) (bounded f) c.stands.kept k x (λ a. get_or path (127 - a) 0) (numbers_of seen) c.walked new
              (λ a. get_or (set path (127 - k) (get_or by x 0)) (127 - a) 0) (numbers_of (set seen x (k + 1)))
              (get_or-set_same path (127 - k) (get_or by x 0) 0 (omega (arith, c.paths)))
              (λ a z. get_or-set_other path (127 - k) (127 - a) (get_or by x 0) 0 (λ q. omega (arith, space)))
              (put seen x (k + 1) 0 (omega (arith, c.seens, here))));
        }

  module _ (again : 0 < get_or seen x 0) (l : ℕ) (len : l + get_or seen x 0 ≡ k + 1) where
    pub found : Chain (network_of ws) l (λ a. get_or path (128 - k + a) 0)
    found =
        chain n (network_of ws) c.base 0 (times_of c.t) (numbers_of c.tick) (numbers_of by) (bounded f) c.stands.kept k x (λ a. get_or path (127 - a) 0) (numbers_of seen) c.walked
        l (λ a. get_or path (128 - k + a) 0) again len
        (λ a z. let e : 128 - k + a ≡ 127 - (k - 1 - a) = omega (arith, c.walked.count, (c.walked.found x here again).0) in ap (λ (i : ℕ). get_or path i 0) e)

    pub short : l ≤ n
    short =
        fits n (network_of ws) c.base 0 (times_of c.t) (numbers_of c.tick) (numbers_of by) (bounded f) c.stands.kept k x (λ a. get_or path (127 - a) 0) (numbers_of seen) c.walked
        l (λ a. get_or path (128 - k + a) 0) again len
        (λ a z. let e : 128 - k + a ≡ 127 - (k - 1 - a) = omega (arith, c.walked.count, (c.walked.found x here again).0) in ap (λ (i : ℕ). get_or path i 0) e)
