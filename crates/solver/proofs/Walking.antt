-- The walk back meets an event again, and the part between is a chain. Assumes nothing.
use mathlib.Core.Path.{◌≡◌, refl, sym, ap, subst, ◌∙◌}
use mathlib.Core.Bool.{true}
use mathlib.Core.Logic.{◌⊎◌, inl, inr, ⊎_elim}
use Prim.Native.Nat.{ℕ, zero, suc, ◌+◌, ◌*◌, ◌-◌, ◌≤◌, ◌<◌}
use native.Mathlib.Omega.{arith}
use native.Mathlib.Numerals.{add-one}
use native.Mathlib.Nat as NatL
use lib.Dec.{eqb}
use borrow.Author.Tests.{eq-eqb}
use Rattle.network.specs.Network.{Network, Times, Chain}
use Rattle.network.specs.Marks.{Put, unseen}
use Rattle.network.specs.Steps.{Bounded}
use Rattle.network.proofs.Marks.{one_less, none_seen}
use Rattle.solver.specs.Rounds.{Falls, Kept}
use Rattle.solver.specs.Walks.{Walked}
use Rattle.basics.proofs.Splits.{lt_or_ge, eq_or_ne}
use Rattle.solver.proofs.Falling.{negative}

module _ (n : ℕ) (w : Network) (b m : ℕ) (t : Times) (tick by : ℕ → ℕ) (f : Bounded n w) (h : Kept n w b m t tick by) where
  pub set_out : (x : ℕ) (path seen : ℕ → ℕ) → x < n → n * w.size < tick x + w.size → ((v : ℕ) → v < n → seen v ≡ 0) → Walked n w tick by 0 x path seen
  set_out x path seen q r z =
      record {
        here = q;
        left = omega arith;
        count = omega (arith, none_seen seen seen n z);
        known = λ a y. absurd (omega arith);
        set = λ a y. absurd (omega arith);
        own = λ a y. absurd (omega arith);
        linked = λ a y. absurd (omega arith);
        next = λ a y. absurd (omega arith);
        marked = λ a y. absurd (omega arith);
        found = λ u y p. absurd (omega (arith, z u y));
      }

  module _ (k x : ℕ) (path seen : ℕ → ℕ) (c : Walked n w tick by k x path seen) where
    -- an event not seen: there is room for a step, and the event was lowered
    module _ (new : seen x ≡ 0) where
      room_in : (m : ℕ) (g : ℕ → ℕ) → x < m → g x ≡ 0 → 0 < unseen g m
      unfolding unseen
      room_in zero g q e = absurd (omega arith)
      room_in (suc m) g q e =
          ⊎_elim
          (λ r. let a : eqb (g m) 0 ≡ true = eq-eqb (g m) 0 (ap g (sym r) ∙ e) in rw a (omega arith))
          (λ r. omega (arith, room_in m g (omega arith) e))
          (eq_or_ne x m)

      pub room : k < n
      room = omega (arith, c.count, room_in n seen c.here new)

      pub was_lowered : 0 < tick x
      was_lowered = omega (arith, c.left, NatL.mul-le-mul_right w.size room, NatL.suc-mul k w.size)

      pub step : (path' seen' : ℕ → ℕ) → path' k ≡ by x → ((a : ℕ) → a < k → path' a ≡ path a) → Put seen x (k + 1) seen' → Walked n w tick by (k + 1) (w.from (by x)) path' seen'
      step path' seen' new-edge old ps =
          record {
            here = f.from (by x) (h.known x c.here was_lowered);
            left = omega (arith, c.left, h.near x c.here was_lowered, NatL.add-mul k 1 w.size);
            count = omega (arith, c.count, one_less seen seen' n x k c.here new (rw add-one at ps));
            known = split (λ a e. e < w.size) c.known (h.known x c.here was_lowered);
            set = split (λ a e. 0 < tick (w.to e)) c.set (rw x_end was_lowered);
            own = split (λ a e. by (w.to e) ≡ e) c.own (ap by x_end);
            linked = λ a y.
                ⊎_elim
                (λ z. rw (old a (omega arith), old (a + 1) z) (c.linked a z))
                (λ z. let e : a + 1 ≡ k = omega arith in ap w.from (old a (omega arith)) ∙ c.next a e ∙ sym (ap w.to (ap path' e ∙ new-edge) ∙ x_end))
                (lt_or_ge (a + 1) k);
            next = λ a y. let e : a ≡ k = omega arith in ap w.from (ap path' e ∙ new-edge);
            marked = split (λ a e. seen' (w.to e) ≡ a + 1)
                (λ a z. ps.there (w.to (path a)) (λ e. omega (arith, c.marked a z, ap seen e)) ∙ c.marked a z)
                (ap seen' x_end ∙ ps.here);
            found = λ u y z.
                ⊎_elim
                (λ e.
                let s : seen' u ≡ k + 1 = ap seen' e ∙ ps.here
                in let r : seen' u - 1 ≡ k = omega arith
                in (omega arith, ap w.to (ap path' r ∙ new-edge) ∙ x_end ∙ sym e))
                (λ e.
                let s : seen' u ≡ seen u = ps.there u e
                in let o : (seen u ≤ k) × (w.to (path (seen u - 1)) ≡ u) = c.found u y (omega arith)
                in let r : seen' u - 1 ≡ seen u - 1 = omega arith
                in (omega (arith, o.0), ap w.to (ap path' r ∙ old (seen u - 1) (omega (arith, o.0))) ∙ o.1))
                (eq_or_ne u x);
          }
        where
          x_end : w.to (by x) ≡ x
          x_end = h.ends x c.here was_lowered

          split : (Q : ℕ → ℕ → Type 0) → ((a : ℕ) → a < k → Q a (path a)) → Q k (by x) → (a : ℕ) → a < k + 1 → Q a (path' a)
          split Q p q a z =
              ⊎_elim
              (λ y. subst (λ e. Q a e) (sym (old a y)) (p a y))
              (λ y. let e : k ≡ a = omega arith in subst (λ d. Q d (path' d)) e (subst (λ d. Q k d) (sym (new-edge)) q))
              (lt_or_ge a k)

    -- an event seen before: the steps since form a chain
    module _ (l : ℕ) (ks : ℕ → ℕ) (again : 0 < seen x) (len : l + seen x ≡ k + 1) (turned : (a : ℕ) → a < l → ks a ≡ path (k - 1 - a)) where
      seen_in : seen x ≤ k
      seen_in = (c.found x c.here again).0

      first : w.to (path (seen x - 1)) ≡ x
      first = (c.found x c.here again).1

      ks_to : (a : ℕ) → a < l → w.to (ks a) ≡ w.to (path (k - 1 - a))
      ks_to a z = ap w.to (turned a z)

      from_first : w.from (ks 0) ≡ x
      from_first = ap w.from (turned 0 (omega (arith, seen_in))) ∙ c.next (k - 1 - 0) (omega (arith, seen_in))

      from_next : (a : ℕ) → a + 1 < l → w.from (ks (a + 1)) ≡ w.to (path (k - 1 - a))
      from_next a z =
          let e : k - 1 - (a + 1) + 1 ≡ k - 1 - a = omega (arith, seen_in)
          in ap w.from (turned (a + 1) z) ∙ c.linked (k - 1 - (a + 1)) (omega (arith, seen_in)) ∙ ap (λ d. w.to (path d)) e

      linked' : (a : ℕ) → a + 1 < l → w.to (ks a) ≡ w.from (ks (a + 1))
      linked' a z = ks_to a (omega arith) ∙ sym (from_next a z)

      closed' : (a : ℕ) → a + 1 ≡ l → w.to (ks a) ≡ w.from (ks 0)
      closed' a z =
          let e : k - 1 - a ≡ seen x - 1 = omega (arith, seen_in)
          in ks_to a (omega arith) ∙ ap (λ d. w.to (path d)) e ∙ first ∙ sym from_first

      -- the step that left an event tells the events apart
      mark : (a : ℕ) → a < l → seen (w.from (ks a)) + a ≡ k + 1 ⊎ ((a ≡ 0) × (seen (w.from (ks a)) ≡ seen x))
      mark zero z = inr (refl, ap seen from_first)
      mark (suc a) z =
          let e : w.from (ks (suc a)) ≡ w.to (path (k - 1 - a)) = rw add-one at (from_next a (omega arith))
          in inl (omega (arith, ap seen e, c.marked (k - 1 - a) (omega (arith, seen_in)), seen_in))

      once' : (a d : ℕ) → a < d → d < l → w.from (ks a) ≡ w.from (ks d) → ⊥
      once' a d z y e =
          ⊎_elim
          (λ p. ⊎_elim (λ r. omega (arith, ap seen e)) (λ r. omega (arith, r.0)) (mark d y))
          (λ p. ⊎_elim (λ r. omega (arith, ap seen e, p.0, p.1)) (λ r. omega (arith, r.0)) (mark d y))
          (mark a (omega arith))

      pub chain : Chain w l ks
      chain =
          record {
            some = omega (arith, seen_in);
            known = λ a z. subst (λ e. e < w.size) (sym (turned a z)) (c.known (k - 1 - a) (omega (arith, seen_in)));
            linked = linked';
            closed = closed';
            once = once';
            negative = negative w t tick l ks falls linked' (omega (arith, seen_in)) closed';
          }
        where
          falls : (a : ℕ) → a < l → Falls t tick (w.from (ks a)) (w.most (ks a)) (w.to (ks a))
          falls a z =
              subst (λ e. Falls t tick (w.from e) (w.most e) (w.to e)) (sym (turned a z)) (at (k - 1 - a) (omega (arith, seen_in)))
            where
              at : (d : ℕ) → d < k → Falls t tick (w.from (path d)) (w.most (path d)) (w.to (path d))
              at d y =
                  subst (λ e. Falls t tick (w.from e) (w.most e) (w.to (path d))) (c.own d y)
                  (h.falls (w.to (path d)) (f.to (path d) (c.known d y)) (c.set d y))

      pub fits : l ≤ n
      fits = omega (arith, c.count)
