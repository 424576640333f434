-- The rounds keep what they promise. Assumes nothing.
use mathlib.Core.Path.{◌≡◌, sym, ap, subst, ◌∙◌}
use mathlib.Core.Logic.{◌⊎◌, inl, inr, ⊎_elim}
use Prim.Native.Nat.{ℕ, ◌+◌, ◌*◌, ◌≤◌, ◌<◌}
use native.Mathlib.Omega.{arith}
use lib.IntN.{ℤ, pos, nat_abs, ◌+ℤ◌}
use lib.Signed.{◌≤ℤ◌, ◌<ℤ◌}
use Rattle.network.specs.Network.{Network, Times, Keeps, NoneAbove, Latest}
use Rattle.network.specs.Constraints.{max_most}
use Rattle.network.specs.Marks.{Put}
use Rattle.network.specs.Steps.{Bounded}
use Rattle.solver.specs.Rounds.{Holds, Falls, Kept}
use Rattle.signed.proofs.Parts.{up, down, le, lt, to_le, to_lt, add, parts, no_up}
use Rattle.basics.proofs.Splits.{lt_or_ge, eq_or_ne}
use Rattle.network.proofs.Refuting.{kept, keeps}

-- nothing lowered in a round: the times are the latest
module _ (n : ℕ) (w : Network) (b : ℕ) (t : Times) (tick by : ℕ → ℕ) (f : Bounded n w) where
  pub at_rest : Kept n w b w.size t tick by → ((v : ℕ) → v < n → tick v ≤ b) → Latest n w t
  at_rest h q =
      record {
        keeps = keeps w t (λ k z. ⊎_elim (λ x. x) (λ x. absurd (omega (arith, q (w.from k) (f.from k z)))) (h.passed k z z));
        none = record { below = h.none };
        latest = h.late;
      }

  -- the next round
  pub again : Kept n w b w.size t tick by → Kept n w (b + w.size) 0 t tick by
  again h =
      record {
        none = h.none;
        late = h.late;
        rest = h.rest;
        small = λ v z. omega (arith, h.small v z);
        past = λ v z. omega (arith, h.past v z);
        known = h.known;
        ends = h.ends;
        near = h.near;
        falls = h.falls;
        passed = λ e z y. absurd (omega arith);
        ahead = λ e z y. ⊎_elim inl (λ x. inr (omega arith)) (h.passed e z z);
      }

module _ (n : ℕ) (w : Network) (b k : ℕ) (t : Times) (tick by : ℕ → ℕ) (f : Bounded n w) (h : Kept n w b k t tick by) (q : k < w.size) where
  -- constraint k holds: nothing changes
  pub stay : Holds w t k → Kept n w b (k + 1) t tick by
  stay y =
      record {
        none = h.none;
        late = h.late;
        rest = h.rest;
        small = λ v z. omega (arith, h.small v z);
        past = λ v z. omega (arith, h.past v z);
        known = h.known;
        ends = h.ends;
        near = h.near;
        falls = h.falls;
        passed = λ e z x. ⊎_elim (λ p. h.passed e z p) (λ p. inl (subst (Holds w t) (omega arith) y)) (lt_or_ge e k);
        ahead = λ e z x. h.ahead e z (omega arith);
      }

  -- constraint k is broken: its end is lowered
  module _ (t' : Times) (tick' by' : ℕ → ℕ) (broken : (t (w.from k) +ℤ w.most k) <ℤ t (w.to k)) (pt : Put t (w.to k) (t (w.from k) +ℤ w.most k) t') (pk : Put tick (w.to k) (b + k + 1) tick') (pb : Put by (w.to k) k by') where
    lower : (v : ℕ) → t' v ≤ℤ t v
    lower v =
        ⊎_elim
        (λ e. to_le (omega (arith, lt broken, ap up (ap t' e), ap down (ap t' e), ap up (ap t e), ap down (ap t e), ap up pt.here, ap down pt.here)))
        (λ e. to_le (omega (arith, ap up (pt.there v e), ap down (pt.there v e))))
        (eq_or_ne v (w.to k))

    grown : (v : ℕ) → v < n → tick v ≤ tick' v
    grown v z =
        ⊎_elim
        (λ e. omega (arith, h.past v z, ap tick' e, pk.here))
        (λ e. omega (arith, pk.there v e))
        (eq_or_ne v (w.to k))

    broken_near : b + k + 1 ≤ tick (w.from k) + w.size
    broken_near = ⊎_elim (λ x. absurd (omega (arith, lt broken, le x))) (λ x. x) (h.ahead k q (omega arith))

    none' : (v : ℕ) → v < n → t' v ≤ℤ pos 0
    none' v z = to_le (omega (arith, le (lower v), le (h.none v z)))

    late' : (s : Times) → Keeps w s → NoneAbove n s → (v : ℕ) → v < n → s v ≤ℤ t' v
    late' s p y v z =
        ⊎_elim
        (λ e.
        to_le
        (omega (
          arith,
          ap up (ap t' e),
          ap down (ap t' e),
          ap up (ap s e),
          ap down (ap s e),
          ap up pt.here,
          ap down pt.here,
          le (kept w s p k q),
          le (h.late s p y (w.from k) (f.from k q)),
          add (s (w.from k)) (w.most k),
          add (t (w.from k)) (w.most k),
        )))
        (λ e. to_le (omega (arith, ap up (pt.there v e), ap down (pt.there v e), le (h.late s p y v z))))
        (eq_or_ne v (w.to k))

    small' : (v : ℕ) → v < n → nat_abs (t' v) ≤ (b + (k + 1)) * max_most
    small' v z =
        ⊎_elim
        (λ e.
        omega (
          arith,
          ap up (ap t' e),
          ap down (ap t' e),
          ap up pt.here,
          ap down pt.here,
          no_up (none' v z),
          no_up (h.none (w.from k) (f.from k q)),
          parts (t' v),
          parts (t (w.from k)),
          parts (w.most k),
          h.small (w.from k) (f.from k q),
          f.most k q,
          add (t (w.from k)) (w.most k),
        ))
        (λ e. omega (arith, ap nat_abs (pt.there v e), h.small v z))
        (eq_or_ne v (w.to k))

    past' : (v : ℕ) → v < n → tick' v ≤ b + (k + 1)
    past' v z =
        ⊎_elim
        (λ e. omega (arith, ap tick' e, pk.here))
        (λ e. omega (arith, pk.there v e, h.past v z))
        (eq_or_ne v (w.to k))

    known' : (v : ℕ) → v < n → 0 < tick' v → by' v < w.size
    known' v z y =
        ⊎_elim
        (λ e. omega (arith, ap by' e, pb.here))
        (λ e. let y' : 0 < tick v = omega (arith, pk.there v e) in omega (arith, pb.there v e, h.known v z y'))
        (eq_or_ne v (w.to k))

    ends' : (v : ℕ) → v < n → 0 < tick' v → w.to (by' v) ≡ v
    ends' v z y =
        ⊎_elim
        (λ e. ap w.to (ap by' e ∙ pb.here) ∙ sym e)
        (λ e. let y' : 0 < tick v = omega (arith, pk.there v e) in ap w.to (pb.there v e) ∙ h.ends v z y')
        (eq_or_ne v (w.to k))

    near' : (v : ℕ) → v < n → 0 < tick' v → tick' v ≤ tick' (w.from (by' v)) + w.size
    near' v z y =
        ⊎_elim
        (λ e.
        omega
        (arith, ap tick' e, pk.here, ap tick' (ap w.from (ap by' e ∙ pb.here)), broken_near, grown (w.from k) (f.from k q)))
        (λ e.
        let y' : 0 < tick v = omega (arith, pk.there v e)
        in omega (
          arith,
          pk.there v e,
          ap tick' (ap w.from (pb.there v e)),
          h.near v z y',
          grown (w.from (by v)) (f.from (by v) (h.known v z y')),
        ))
        (eq_or_ne v (w.to k))

    -- what k itself leaves
    own_falls : Falls t' tick' (w.from k) (w.most k) (w.to k)
    own_falls =
        ⊎_elim
        (λ e.
        record {
          most = to_le (omega (arith, lt broken, ap up pt.here, ap down pt.here, ap up (ap t e), ap down (ap t e), ap up (ap t' e), ap down (ap t' e), add (t (w.from k)) (w.most k), add (t' (w.from k)) (w.most k)));
          less = inl (to_lt (omega (arith, lt broken, ap up pt.here, ap down pt.here, ap up (ap t e), ap down (ap t e), ap up (ap t' e), ap down (ap t' e), add (t (w.from k)) (w.most k), add (t' (w.from k)) (w.most k))));
        })
        (λ e.
        record {
          most = to_le (omega (arith, ap up pt.here, ap down pt.here, ap up (pt.there (w.from k) e), ap down (pt.there (w.from k) e), add (t (w.from k)) (w.most k), add (t' (w.from k)) (w.most k)));
          less = inr (omega (arith, pk.here, pk.there (w.from k) e, h.past (w.from k) (f.from k q)));
        })
        (eq_or_ne (w.from k) (w.to k))

    -- what an earlier constraint left at another event
    old_falls : (u v : ℕ) (s : ℤ) → (v ≡ w.to k → ⊥) → Falls t tick u s v → Falls t' tick' u s v
    old_falls u v s ne old =
        ⊎_elim
        (λ e.
        record {
          most = to_le (omega (arith, le old.most, lt broken, ap up (pt.there v ne), ap down (pt.there v ne), ap up pt.here, ap down pt.here, ap up (ap t e), ap down (ap t e), ap up (ap t' e), ap down (ap t' e), add (t u) s, add (t' u) s));
          less = inl (to_lt (omega (arith, le old.most, lt broken, ap up (pt.there v ne), ap down (pt.there v ne), ap up pt.here, ap down pt.here, ap up (ap t e), ap down (ap t e), ap up (ap t' e), ap down (ap t' e), add (t u) s, add (t' u) s)));
        })
        (λ e.
        record {
          most = to_le (omega (arith, le old.most, ap up (pt.there v ne), ap down (pt.there v ne), ap up (pt.there u e), ap down (pt.there u e), add (t u) s, add (t' u) s));
          less = ⊎_elim
              (λ x. inl (to_lt (omega (arith, lt x, ap up (pt.there v ne), ap down (pt.there v ne), ap up (pt.there u e), ap down (pt.there u e), add (t u) s, add (t' u) s))))
              (λ x. inr (omega (arith, pk.there v ne, pk.there u e)))
              old.less;
        })
        (eq_or_ne u (w.to k))

    falls' : (v : ℕ) → v < n → 0 < tick' v → Falls t' tick' (w.from (by' v)) (w.most (by' v)) v
    falls' v z y =
        ⊎_elim
        (λ e.
        subst (λ x. Falls t' tick' (w.from (by' x)) (w.most (by' x)) x) (sym e)
        (subst (λ x. Falls t' tick' (w.from x) (w.most x) (w.to k)) (sym pb.here) own_falls))
        (λ e.
        let y' : 0 < tick v = omega (arith, pk.there v e)
        in subst (λ x. Falls t' tick' (w.from x) (w.most x) v) (sym (pb.there v e)) (old_falls (w.from (by v)) v (w.most (by v)) e (h.falls v z y')))
        (eq_or_ne v (w.to k))

    -- a constraint that held holds, or starts where the lowering was
    holds' : (e : ℕ) → Holds w t e → Holds w t' e ⊎ (w.from e ≡ w.to k)
    holds' e x =
        ⊎_elim
        inr
        (λ ne. inl (to_le (omega (arith, le x, le (lower (w.to e)), ap up (pt.there (w.from e) ne), ap down (pt.there (w.from e) ne), add (t (w.from e)) (w.most e), add (t' (w.from e)) (w.most e)))))
        (eq_or_ne (w.from e) (w.to k))

    passed' : (e : ℕ) → e < w.size → e < k + 1 → Holds w t' e ⊎ (b + e + 1 ≤ tick' (w.from e))
    passed' e z y =
        ⊎_elim
        (λ p.
        ⊎_elim
        (λ x. ⊎_elim inl (λ r. inr (omega (arith, ap tick' r, pk.here))) (holds' e x))
        (λ x. inr (omega (arith, grown (w.from e) (f.from e z))))
        (h.passed e z p))
        (λ p. let r : e ≡ k = omega arith in subst (λ x. Holds w t' x ⊎ (b + x + 1 ≤ tick' (w.from x))) (sym r) own)
        (lt_or_ge e k)
      where
        own : Holds w t' k ⊎ (b + k + 1 ≤ tick' (w.from k))
        own =
            ⊎_elim
            (λ r. inr (omega (arith, ap tick' r, pk.here)))
            (λ ne. inl (to_le (omega (arith, ap up pt.here, ap down pt.here, ap up (pt.there (w.from k) ne), ap down (pt.there (w.from k) ne), add (t (w.from k)) (w.most k), add (t' (w.from k)) (w.most k)))))
            (eq_or_ne (w.from k) (w.to k))

    ahead' : (e : ℕ) → e < w.size → k + 1 ≤ e → Holds w t' e ⊎ (b + e + 1 ≤ tick' (w.from e) + w.size)
    ahead' e z y =
        ⊎_elim
        (λ x. ⊎_elim inl (λ r. inr (omega (arith, ap tick' r, pk.here))) (holds' e x))
        (λ x. inr (omega (arith, grown (w.from e) (f.from e z))))
        (h.ahead e z (omega arith))

    pub lowered : Kept n w b (k + 1) t' tick' by'
    lowered =
        record {
          none = none';
          late = late';
          rest = λ v z. pt.there v (λ e. omega (arith, f.to k q)) ∙ h.rest v z;
          small = small';
          past = past';
          known = known';
          ends = ends';
          near = near';
          falls = falls';
          passed = passed';
          ahead = ahead';
        }

-- all times 0, nothing lowered
module _ (n : ℕ) (w : Network) (t : Times) (tick by : ℕ → ℕ) (f : Bounded n w) (zt : (v : ℕ) → t v ≡ pos 0) (zk : (v : ℕ) → tick v ≡ 0) where
  pub zeros : Kept n w 0 0 t tick by
  zeros =
      record {
        none = λ v z. to_le (omega (arith, ap up (zt v), ap down (zt v)));
        late = λ s p y v z. to_le (omega (arith, le (y.below v z), ap up (zt v), ap down (zt v)));
        rest = λ v z. zt v;
        small = λ v z. omega (arith, ap nat_abs (zt v));
        past = λ v z. omega (arith, zk v);
        known = λ v z y. absurd (omega (arith, zk v));
        ends = λ v z y. absurd (omega (arith, zk v));
        near = λ v z y. absurd (omega (arith, zk v));
        falls = λ v z y. absurd (omega (arith, zk v));
        passed = λ e z y. absurd (omega arith);
        ahead = λ e z y. inr (omega arith);
      }
