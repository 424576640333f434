-- The chains of the links: a leg put in front of its link's chain is the lowest on it. Assumes nothing.
use Prim.Native.Nat.{ℕ, ◌+◌, ◌-◌, ◌≤◌, ◌<◌}
use mathlib.Core.Path.{◌≡◌, ◌∙◌, ap, sym, subst}
use mathlib.Core.List.{List}
use mathlib.Core.Logic.{⊎_elim}
use lib.ListN.{length, get_or, set, replicate, length-set, length-replicate, get_or-replicate}
use lib.Seq.{get_or-set_same, get_or-set_other}
use native.Mathlib.Nat.{eq-or-lt_of_le}
use native.Mathlib.Omega.{arith}
use Rattle.basics.proofs.Splits.{eq_or_ne}
use Rattle.table.specs.Layout.{max_links, max_legs, link_count, leg_count}
use Rattle.table.specs.Records.{leg_at}
use Rattle.table.specs.declared.Leg.{Leg}
use Rattle.shape.specs.Guarantees.{Guarantees}
use Rattle.places.specs.Chains.{NextOn, Begun, Chained, Unbegun}

-- Leg b is put in front of the chain of its link l.
module _ {t first next : List ℕ} {n : ℕ} (b l : ℕ) (e : n ≡ b + 1) (is : l ≡ (leg_at t b).link) (begun : Begun t first n) (chained : Chained t next n)
    (link : l < link_count t) (links : link_count t ≤ max_links) (leg : b < leg_count t) (legs : leg_count t ≤ max_legs) where
  begun_more : Begun t (set first l b) b
  begun_more =
      let here = get_or-set_same first l b 0 (omega (arith, begun.room)) in
      record {
        room = rw (length-set first l b) begun.room;
        from = λ k h.
            ⊎_elim
            (λ (q : k ≡ l). rw (q, here) (omega arith))
            (λ (m : k ≡ l → ⊥). rw (get_or-set_other first l k b 0 m) (omega (arith, begun.from k h)))
            (eq_or_ne k l);
        lowest = λ k h.
            ⊎_elim
            (λ (q : k ≡ l). rw (q, here) (record { on = λ inside. sym is; none = λ c from below inside. absurd (omega arith) }))
            (λ (m : k ≡ l → ⊥).
            let x = begun.lowest k h in
            rw (get_or-set_other first l k b 0 m)
            (record {
              on = x.on;
              none = λ c from below inside at.
                  ⊎_elim
                  (λ (q : b ≡ c). m (sym at ∙ subst (λ (d : ℕ). (leg_at t d).link ≡ l) q (sym is)))
                  (λ (g : b < c). x.none c (omega arith) below inside at)
                  (eq-or-lt_of_le from);
            }))
            (eq_or_ne k l);
      }

  chained_more : Chained t (set next b (get_or first l 0)) b
  chained_more =
      let here = get_or-set_same next b (get_or first l 0) 0 (omega (arith, chained.room)) in
      record {
        room = rw (length-set next b (get_or first l 0)) chained.room;
        later = λ c from inside.
            ⊎_elim
            (λ (q : c ≡ b). rw (q, here, sym is, sym e) (begun.lowest l link))
            (λ (m : c ≡ b → ⊥). rw (get_or-set_other next b c (get_or first l 0) 0 m) (chained.later c (omega (arith, m)) inside))
            (eq_or_ne c b);
        onward = λ c from inside.
            ⊎_elim
            (λ (q : c ≡ b). rw (q, here) (omega (arith, begun.from l link)))
            (λ (m : c ≡ b → ⊥). rw (get_or-set_other next b c (get_or first l 0) 0 m) (chained.onward c (omega (arith, m)) inside))
            (eq_or_ne c b);
      }

-- Each turn: the legs from n on are in the chains.
pub record Turn (t first₀ next₀ first next : List ℕ) (n : ℕ) : Type 0 where
  pub begun : Begun t first n
  pub chained : Chained t next n
  pub first_long : length first ≡ length first₀
  pub next_long : length next ≡ length next₀

module _ {t first₀ next₀ first next : List ℕ} {n : ℕ} (i : Turn t first₀ next₀ first next n) (table : Guarantees t) (left : n ≤ leg_count t) where
  -- The leg in front of the last that was put into its chain.
  module _ (h : 0 < n) {leg : Leg} (is : leg ≡ leg_at t (n - 1)) where
    turn_leg : n - 1 < leg_count t
    turn_leg = omega arith

    turn_link : leg.link ≡ (leg_at t (n - 1)).link
    turn_link = ap (λ (x : Leg). x.link) is

    turn_link_inside : leg.link < link_count t
    turn_link_inside = omega (arith, turn_link, (table.leg (n - 1) turn_leg).link)

    pub turn_link_room : leg.link < length first
    turn_link_room = omega (arith, turn_link_inside, table.sized.limits.links, i.begun.room)

    pub turn_more : Turn t first₀ next₀ (set first leg.link (n - 1)) (set next (n - 1) (get_or first leg.link 0)) (n - 1)
    turn_more =
        let e : n ≡ n - 1 + 1 = omega arith in
        let limits = table.sized.limits in
        record {
          begun = begun_more (n - 1) leg.link e turn_link i.begun i.chained turn_link_inside limits.links turn_leg limits.legs;
          chained = chained_more (n - 1) leg.link e turn_link i.begun i.chained turn_link_inside limits.links turn_leg limits.legs;
          first_long = simp length-set i.first_long;
          next_long = simp length-set i.next_long;
        }

-- Along the chain of link l for the lowest leg that is not below n.
pub record Seeking (t next : List ℕ) (l n b : ℕ) : Type 0 where
  pub chained : Chained t next 0
  pub inside : n ≤ leg_count t
  pub small : leg_count t ≤ max_legs
  pub at : NextOn t l n b

-- No leg of the link is skipped where fewer are asked for.
next_from : {t : List ℕ} {l n b : ℕ} (m : ℕ) → NextOn t l n b → n ≤ m → NextOn t l m b
next_from m x h = record { on = x.on; none = λ c from below inside. x.none c (omega arith) below inside }

-- The next leg of the chain is sought from as the one before it was.
module _ {t next : List ℕ} {l n b : ℕ} (i : Seeking t next l n b) (h : b < n) where
  seeking_leg : b < leg_count t
  seeking_leg = omega (arith, i.inside)

  pub seeking_on : Seeking t next l n (get_or next b 0)
  seeking_on =
      let x = i.chained.later b (omega arith) seeking_leg in
      let y = subst (λ (k : ℕ). NextOn t k (b + 1) (get_or next b 0)) (i.at.on seeking_leg) x in
      record { chained = i.chained; inside = i.inside; small = i.small; at = next_from n y (omega arith) }

-- Two arrays as a check begins with them.
pub none_begun : Unbegun (replicate max_links max_legs)
none_begun = record {
  room = omega (arith, length-replicate {A = ℕ} max_links max_legs);
  empty = λ l h. omega (arith, get_or-replicate max_links l max_legs 0 h);
}
