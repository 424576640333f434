-- A look at a constraint, on the lists that the arrays hold. Assumes nothing.
use mathlib.Core.Path.{◌≡◌, subst, ◌∙◌}
use mathlib.Core.List.{List}
use Prim.Native.Nat.{ℕ, ◌+◌, ◌<◌}
use native.Mathlib.Omega.{arith}
use lib.IntN.{ℤ, pos, ◌+ℤ◌}
use lib.ListN.{set, length-set}
use lib.Signed.{◌≤ℤ◌, ◌<ℤ◌}
use Rattle.network.specs.Marks.{Put}
use Rattle.network.specs.Constraints.{network_of, NetworkInRange, times_of, numbers_of}
use Rattle.network.specs.Steps.{Reads}
use Rattle.network.proofs.Ranges.{bounded}
use Rattle.network.proofs.Marks.{put}
use Rattle.solver.specs.Steps.{Stands}
use Rattle.network.specs.declared.Constraint.{Constraint}
use Rattle.solver.proofs.Looking.{stay, lowered}

module _ (n : ℕ) (ws : List ℤ) (b k : ℕ) (t : List ℤ) (tick by : List ℕ) (f : NetworkInRange n ws) (q : k < (network_of ws).size) (st : Stands n ws b k t tick by) (r : Constraint) (e : Reads (network_of ws) n k r) (s : ℤ) (is : s ≡ times_of t r.from +ℤ r.most) where
  sum_is : s ≡ times_of t ((network_of ws).from k) +ℤ (network_of ws).most k
  sum_is = is ∙ rw (e.from, e.most)

  pub stayed : times_of t r.to ≤ℤ s → Stands n ws b (k + 1) t tick by
  stayed y =
      record {
        times = st.times;
        ticks = st.ticks;
        bys = st.bys;
        kept = stay n (network_of ws) b k (times_of t) (numbers_of tick) (numbers_of by) (bounded f) st.kept q
            (subst (λ z. times_of t ((network_of ws).to k) ≤ℤ z) sum_is (subst (λ j. times_of t j ≤ℤ s) e.to y));
      }

  pub fell : s <ℤ times_of t r.to → Stands n ws b (k + 1) (set t r.to s) (set tick r.to (b + k + 1)) (set by r.to k)
  fell y =
      record {
        times = simp length-set st.times;
        ticks = simp length-set st.ticks;
        bys = simp length-set st.bys;
        kept = lowered n (network_of ws) b k (times_of t) (numbers_of tick) (numbers_of by) (bounded f) st.kept q
            (times_of (set t r.to s)) (numbers_of (set tick r.to (b + k + 1))) (numbers_of (set by r.to k))
            (subst (λ z. z <ℤ times_of t ((network_of ws).to k)) sum_is (subst (λ j. s <ℤ times_of t j) e.to y))
            (subst (λ z. Put (times_of t) ((network_of ws).to k) z (times_of (set t r.to s))) sum_is
            (subst (λ j. Put (times_of t) j s (times_of (set t r.to s))) e.to (put t r.to s (pos 0) (omega (arith, st.times, e.to_in, f.size.events)))))
            (subst (λ j. Put (numbers_of tick) j (b + k + 1) (numbers_of (set tick r.to (b + k + 1)))) e.to (put tick r.to (b + k + 1) 0 (omega (arith, st.ticks, e.to_in, f.size.events))))
            (subst (λ j. Put (numbers_of by) j k (numbers_of (set by r.to k))) e.to (put by r.to k 0 (omega (arith, st.bys, e.to_in, f.size.events))));
      }
