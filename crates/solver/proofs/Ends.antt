-- The start of the rounds, the start of the walk, and the chain in its own words. Assumes nothing.
use mathlib.Core.Path.{◌≡◌, refl, sym, ap, ◌∙◌}
use mathlib.Core.List.{List}
use Prim.Native.Nat.{ℕ, zero, suc, ◌+◌, ◌-◌, ◌<◌, ◌≤◌}
use native.Mathlib.Omega.{arith}
use lib.IntN.{ℤ, pos}
use Rattle.std.specs.Prelude.{◌++◌}
use lib.ListN.{length, take, drop, get_or, replicate, length-replicate, length-append, length-drop}
use lib.Seq.{length-take-le}
use Rattle.std.proofs.lemmas.List.{get_or_append_left, get_or-append_right, get_or-take, get_or-drop}
use Rattle.network.specs.Network.{Network, Chain, total}
use Rattle.network.specs.Constraints.{network_of, NetworkInRange, times_of, numbers_of}
use Rattle.network.proofs.Ranges.{bounded}
use Rattle.network.proofs.Marks.{all}
use Rattle.solver.specs.Solving.{GivesChain}
use Rattle.solver.specs.Steps.{Stands, Restless, Walking, Turned}
use Rattle.solver.proofs.Looking.{zeros}
use Rattle.solver.proofs.Walking.{set_out}

module _ (n : ℕ) (ws : List ℤ) (f : NetworkInRange n ws) where
  pub begun : Stands n ws 0 0 (replicate 128 (pos 0)) (replicate 128 0) (replicate 128 0)
  begun =
      record {
        times = length-replicate 128 (pos 0);
        ticks = length-replicate {A = ℕ} 128 0;
        bys = length-replicate {A = ℕ} 128 0;
        kept = zeros n (network_of ws) (times_of (replicate 128 (pos 0))) (numbers_of (replicate 128 0)) (numbers_of (replicate 128 0)) (bounded f)
            (λ v. all 128 v (pos 0)) (λ v. all 128 v 0);
      }

  pub set_off : (v : ℕ) (t : List ℤ) (tick by : List ℕ) → Restless n ws v t tick by → Walking n ws by 0 v (replicate 128 0) (replicate 128 0)
  set_off v t tick by r =
      record {
        t = t;
        tick = tick;
        base = r.base;
        stands = r.stands;
        paths = length-replicate {A = ℕ} 128 0;
        seens = length-replicate {A = ℕ} 128 0;
        walked = set_out n (network_of ws) r.base 0 (times_of t) (numbers_of tick) (numbers_of by) (bounded f) r.stands.kept v (λ a. get_or (replicate 128 0) (127 - a) 0) (numbers_of (replicate 128 0)) r.event r.late (λ u z. all 128 u 0);
      }

module _ (w : Network) (l : ℕ) (ks js : ℕ → ℕ) (e : (a : ℕ) → a < l → js a ≡ ks a) (c : Chain w l ks) where
  same_total : (m : ℕ) → m ≤ l → total w js m ≡ total w ks m
  unfolding total
  same_total zero z = refl
  same_total (suc m) z = rw (same_total m (omega arith), e m (omega arith))

  pub same_chain : Chain w l js
  same_chain =
      record {
        some = c.some;
        known = λ a z. rw (e a z) (c.known a z);
        linked = λ a z. rw (e a (omega arith), e (a + 1) z) (c.linked a z);
        closed = λ a z. rw (e a (omega arith), e 0 c.some) (c.closed a z);
        once = λ a b z y q. c.once a b z y (ap w.from (sym (e a (omega arith))) ∙ q ∙ ap w.from (e b y));
        negative = rw (same_total l (omega arith)) c.negative;
      }

-- The part of the path with the chain, in front of the other lent words.
module _ {n : ℕ} {ws : List ℤ} {path : List ℕ} {start len : ℕ} (t : Turned n ws path start len) (before part : List ℕ) (room : len ≤ length before) (is : part ≡ take len (drop start path)) where
  size : length part ≡ len
  size = rw is (length-take-le len (drop start path) (omega (arith, length-drop start path, t.within, t.long)))

  copied : (a : ℕ) → a < len → numbers_of (part ++ drop len before) a ≡ get_or path (start + a) 0
  copied a z = get_or_append_left part (drop len before) 0 a (omega (arith, size)) ∙ ap (λ (l : List ℕ). get_or l a 0) is ∙ get_or-take len (drop start path) a 0 z ∙ get_or-drop start path a 0

  left : (a : ℕ) → len ≤ a → numbers_of (part ++ drop len before) a ≡ numbers_of before a
  left a z = get_or-append_right part (drop len before) len a 0 size z ∙ get_or-drop len before (a - len) 0 ∙ ap (numbers_of before) (omega arith)

  pub given : GivesChain n ws len before (part ++ drop len before)
  given =
      record {
        chain = same_chain (network_of ws) len (λ a. get_or path (start + a) 0) (numbers_of (part ++ drop len before)) copied t.chain;
        short = t.short;
        rest = left;
        long = omega (arith, length-append part (drop len before), length-drop len before, size);
      }
