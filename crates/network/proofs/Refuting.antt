-- A negative chain leaves no times. Assumes nothing.
use mathlib.Core.Path.{◌≡◌, refl, ap}
use Prim.Native.Nat.{ℕ, zero, suc, ◌<◌}
use native.Mathlib.Omega.{arith}
use native.Mathlib.Numerals.{add-one}
use lib.IntN.{pos, ◌+ℤ◌}
use lib.Signed.{◌≤ℤ◌}
use Rattle.network.specs.Network.{Network, Times, Keeps, Chain, total}
use Rattle.signed.proofs.Parts.{up, down, le, lt, to_le, add, minus}

module _ (w : Network) (t : Times) where
  -- the difference as a sum
  pub kept : Keeps w t → (k : ℕ) → k < w.size → t (w.to k) ≤ℤ (t (w.from k) +ℤ w.most k)
  kept h k q =
      to_le (omega (arith, le (h.keeps k q), minus (t (w.to k)) (t (w.from k)), add (t (w.from k)) (w.most k)))

  pub keeps : ((k : ℕ) → k < w.size → t (w.to k) ≤ℤ (t (w.from k) +ℤ w.most k)) → Keeps w t
  keeps h =
      record { keeps = λ k q. to_le (omega (arith, le (h k q), minus (t (w.to k)) (t (w.from k)), add (t (w.from k)) (w.most k))) }

  module _ (l : ℕ) (ks : ℕ → ℕ) (c : Chain w l ks) (h : Keeps w t) where
    along : (a : ℕ) → a < l → t (w.to (ks a)) ≤ℤ (t (w.from (ks 0)) +ℤ total w ks (suc a))
    unfolding total
    along zero q =
        to_le
        (omega (
          arith,
          le (kept h (ks 0) (c.known 0 q)),
          add (t (w.from (ks 0))) (w.most (ks 0)),
          add (pos 0) (w.most (ks 0)),
          add (t (w.from (ks 0))) (pos 0 +ℤ w.most (ks 0)),
        ))
    along (suc a) q =
        let e : t (w.to (ks a)) ≡ t (w.from (ks (suc a))) = ap t (rw add-one at (c.linked a (omega arith)))
        in to_le
        (omega (
          arith,
          ap up e,
          ap down e,
          le (along a (omega arith)),
          le (kept h (ks (suc a)) (c.known (suc a) q)),
          add (t (w.from (ks (suc a)))) (w.most (ks (suc a))),
          add (total w ks (suc a)) (w.most (ks (suc a))),
          add (t (w.from (ks 0))) (total w ks (suc a)),
          add (t (w.from (ks 0))) (total w ks (suc a) +ℤ w.most (ks (suc a))),
        ))

    pub refuted : ⊥
    refuted = at l refl
      where
        at : (m : ℕ) → m ≡ l → ⊥
        at zero e = omega (arith, c.some)
        at (suc a) e =
            let x : t (w.to (ks a)) ≡ t (w.from (ks 0)) = ap t (c.closed a (omega arith))
            in let z : total w ks (suc a) ≡ total w ks l = ap (total w ks) e
            in omega (
              arith,
              ap up x,
              ap down x,
              ap up z,
              ap down z,
              lt c.negative,
              le (along a (omega arith)),
              add (t (w.from (ks 0))) (total w ks (suc a)),
            )
