-- A closed chain of constraints that lowered their ends has a negative sum. Assumes nothing.
use mathlib.Core.Path.{◌≡◌, refl, sym, subst}
use mathlib.Core.Logic.{inl, inr, ⊎_elim}
use Prim.Native.Nat.{ℕ, zero, suc, ◌+◌, ◌<◌}
use native.Mathlib.Omega.{arith}
use native.Mathlib.Numerals.{add-one}
use lib.IntN.{ℤ, pos, ◌+ℤ◌}
use lib.Signed.{◌<ℤ◌}
use Rattle.network.specs.Network.{Network, Times, total}
use Rattle.solver.specs.Rounds.{Falls}
use Rattle.signed.proofs.Parts.{le, lt, to_le, to_lt, add}

module _ (t : Times) (tick : ℕ → ℕ) where
  further : (u v x : ℕ) (s r : ℤ) → Falls t tick u s v → Falls t tick v r x → Falls t tick u (s +ℤ r) x
  further u v x s r p q =
      record {
        most = to_le (omega (arith, le p.most, le q.most, add (t u) s, add (t v) r, add s r, add (t u) (s +ℤ r)));
        less = ⊎_elim
            (λ a. inl (to_lt (omega (arith, lt a, le q.most, add (t u) s, add (t v) r, add s r, add (t u) (s +ℤ r)))))
            (λ a.
            ⊎_elim
            (λ b. inl (to_lt (omega (arith, lt b, le p.most, add (t u) s, add (t v) r, add s r, add (t u) (s +ℤ r)))))
            (λ b. inr (omega arith))
            q.less)
            p.less;
      }

  from_nothing : (u v : ℕ) (s : ℤ) → Falls t tick u s v → Falls t tick u (pos 0 +ℤ s) v
  from_nothing u v s p =
      record {
        most = to_le (omega (arith, le p.most, add (t u) s, add (pos 0) s, add (t u) (pos 0 +ℤ s)));
        less = ⊎_elim
            (λ a. inl (to_lt (omega (arith, lt a, add (t u) s, add (pos 0) s, add (t u) (pos 0 +ℤ s)))))
            inr
            p.less;
      }

  back_below : (u : ℕ) (s : ℤ) → Falls t tick u s u → s <ℤ pos 0
  back_below u s p =
      ⊎_elim
      (λ a. to_lt (omega (arith, lt a, add (t u) s)))
      (λ a. absurd (omega arith))
      p.less

module _ (w : Network) (t : Times) (tick : ℕ → ℕ) (l : ℕ) (ks : ℕ → ℕ) (falls : (a : ℕ) → a < l → Falls t tick (w.from (ks a)) (w.most (ks a)) (w.to (ks a))) (linked : (a : ℕ) → a + 1 < l → w.to (ks a) ≡ w.from (ks (a + 1))) where
  along : (a : ℕ) → a < l → Falls t tick (w.from (ks 0)) (total w ks (suc a)) (w.to (ks a))
  unfolding total
  along zero q = from_nothing t tick (w.from (ks 0)) (w.to (ks 0)) (w.most (ks 0)) (falls 0 q)
  along (suc a) q =
      let e : w.to (ks a) ≡ w.from (ks (suc a)) = rw add-one at (linked a (omega arith))
      in further t tick (w.from (ks 0)) (w.to (ks a)) (w.to (ks (suc a))) (total w ks (suc a)) (w.most (ks (suc a)))
      (along a (omega arith))
      (subst (λ x. Falls t tick x (w.most (ks (suc a))) (w.to (ks (suc a)))) (sym e) (falls (suc a) q))

  pub negative : 0 < l → ((a : ℕ) → a + 1 ≡ l → w.to (ks a) ≡ w.from (ks 0)) → total w ks l <ℤ pos 0
  negative some closed = at l refl
    where
      at : (m : ℕ) → m ≡ l → total w ks l <ℤ pos 0
      at zero e = absurd (omega arith)
      at (suc a) e =
          subst (λ m. total w ks m <ℤ pos 0) e
          (back_below t tick (w.from (ks 0)) (total w ks (suc a))
          (subst (λ x. Falls t tick (w.from (ks 0)) (total w ks (suc a)) x) (closed a (omega arith)) (along a (omega arith))))
