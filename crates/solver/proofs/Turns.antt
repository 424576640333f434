-- Round after round: after r rounds in each of which something was lowered. Assumes nothing.
use mathlib.Core.Path.{◌≡◌, ap, subst}
use mathlib.Core.List.{List}
use mathlib.Core.Logic.{⊎_elim}
use Prim.Native.Nat.{ℕ, ◌+◌, ◌*◌, ◌≤◌, ◌<◌}
use native.Mathlib.Omega.{arith}
use native.Mathlib.Nat.{suc-mul}
use native.Mathlib.Numerals.{add-one}
use lib.IntN.{ℤ}
use Rattle.std.specs.Prelude.{Option, Some, None}
use Rattle.basics.proofs.Splits.{lt_or_ge}
use Rattle.network.specs.Constraints.{times_of, numbers_of, network_of, constraint_count, NetworkInRange}
use Rattle.network.proofs.Ranges.{bounded}
use Rattle.solver.specs.Solving.{GivesTimes}
use Rattle.solver.specs.Rounds.{Kept}
use Rattle.solver.specs.Steps.{Last, Stands, Ended}
use Rattle.solver.proofs.Looking.{at_rest, again}

-- The event lowered in the last of r rounds, if there was one.
abbrev pub LastRound : Option ℕ → ℕ → List ℤ → ℕ → List ℕ → Type 0
LastRound (Some v) n ws r tick = (v < n) × (r * constraint_count ws < numbers_of tick v + constraint_count ws)
LastRound None n ws r tick = r ≡ 0

-- After r rounds the next begins after tick r * constraint_count ws, and an event was lowered in the last one.
pub record Turning (n : ℕ) (ws : List ℤ) (last : Option ℕ) (r : ℕ) (t : List ℤ) (tick by : List ℕ) : Type 0 where
  pub within : r ≤ n
  pub stands : Stands n ws (r * constraint_count ws) 0 t tick by
  pub lowered : LastRound last n ws r tick

module _ {n : ℕ} {ws : List ℤ} (range : NetworkInRange n ws) where
  module _ {last : Option ℕ} {r : ℕ} {t : List ℤ} {tick by : List ℕ} (h : Turning n ws last r t tick by) where
    -- One more round, after which the lists are t', tick' and by': nothing was lowered, and it ends; or something was, and it goes on.
    module _ {t' : List ℤ} {tick' by' : List ℕ} (s : Stands n ws (r * constraint_count ws) (constraint_count ws) t' tick' by') where
      pub rests : Last None n (r * constraint_count ws) (numbers_of tick') → GivesTimes n ws t'
      rests l =
          record {
            latest = at_rest n (network_of ws) (r * constraint_count ws) (times_of t') (numbers_of tick') (numbers_of by') (bounded range) s.kept l;
            unused = s.kept.rest;
            long = s.times;
          }

      pub goes_on : {v : ℕ} → Last (Some v) n (r * constraint_count ws) (numbers_of tick') → r < n → Turning n ws (Some v) (r + 1) t' tick' by'
      goes_on {v} b q =
          let next : r * constraint_count ws + constraint_count ws ≡ (r + 1) * constraint_count ws = rw (add-one r) (omega (arith, suc-mul r (constraint_count ws))) in
          record {
            within = omega arith;
            stands = subst (λ base. Stands n ws base 0 t' tick' by') next
                (record {
                  times = s.times;
                  ticks = s.ticks;
                  bys = s.bys;
                  kept = again n (network_of ws) (r * constraint_count ws) (times_of t') (numbers_of tick') (numbers_of by') (bounded range) s.kept;
                });
            lowered = (b.0, omega (arith, b.1, next));
          }

  -- No event: no constraint either, and all is at rest.
  nothing_to_do : {r : ℕ} {t : List ℤ} {tick by : List ℕ} → Turning n ws None r t tick by → n ≤ r → GivesTimes n ws t
  nothing_to_do {r} {t} {tick} {by} h q =
      let size : 0 ≡ constraint_count ws =
      ⊎_elim (λ (z : 0 < constraint_count ws). absurd (omega (arith, (bounded range).from 0 z, h.lowered))) (λ (z : constraint_count ws ≤ 0). omega arith) (lt_or_ge 0 (constraint_count ws)) in
      record {
        latest = at_rest n (network_of ws) (r * constraint_count ws) (times_of t) (numbers_of tick) (numbers_of by) (bounded range)
            (subst (λ k. Kept n (network_of ws) (r * constraint_count ws) k (times_of t) (numbers_of tick) (numbers_of by)) size h.stands.kept) (λ v z. absurd (omega (arith, h.lowered)));
        unused = h.stands.kept.rest;
        long = h.stands.times;
      }

  -- As many rounds as events: there are none, or something was lowered in the last.
  pub ended : (last : Option ℕ) {r : ℕ} {t : List ℤ} {tick by : List ℕ} → Turning n ws last r t tick by → n ≤ r → Ended last n ws t tick by
  ended None h q = nothing_to_do h q
  ended (Some v) {r} h q =
      let all : r * constraint_count ws ≡ n * constraint_count ws = ap (λ (x : ℕ). x * constraint_count ws) (omega (arith, h.within)) in
      record { base = r * constraint_count ws; stands = h.stands; event = h.lowered.0; late = omega (arith, h.lowered.1, all) }
