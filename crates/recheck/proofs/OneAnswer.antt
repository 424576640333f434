-- A recheck has one answer: two first violated places of one list are one. Assumes nothing.
use Prim.Native.Nat.{ℕ}
use mathlib.Core.Path.{◌≡◌, ◌∙◌, sym, ap, subst}
use mathlib.Core.List.{List, [], ◌∷◌, ◌++◌}
use lib.ListN.{length}
use native.Mathlib.Omega.{arith}
use Rattle.std.specs.Prelude.{Ok, Err}
use Rattle.basics.specs.Refusals.{OneFault}
use Rattle.basics.specs.declared.Cause.TheVariants as cause
use Rattle.basics.proofs.Refusals.{unless_one, then_one, called_one, same_refusal}
use Rattle.shape.proofs.OneShape.{shape_one}
use Rattle.rules.specs.Places.{rule_at, PlaceHolds}
use Rattle.recheck.specs.Rechecks.{AllHold, FirstOf, recheck_refusals}
use Rattle.recheck.specs.Theorems.{RecheckOneAnswer}
use Rattle.recheck.specs.declared.Place.{Place}
use Rattle.recheck.specs.declared.Rechecked.TheVariants.{Violated, NothingViolated}

pub recheck_one : (t : List ℕ) (m : ℕ) → OneFault (recheck_refusals t m)
recheck_one t m = called_one (then_one (shape_one t) (unless_one cause.NoLeg _)) (λ c. (c.shape, c.leg))

module _ (t : List ℕ) where
  -- The head of a list and what follows it.
  head_or : Place → List Place → Place
  head_or d [] = d
  head_or d (q ∷ l) = q

  tail_of : List Place → List Place
  tail_of [] = []
  tail_of (q ∷ l) = l

  Held : Place → Type 0
  Held q = PlaceHolds t q.leg q.place

  pub held_there : (l : List Place) (q : Place) (k : List Place) → AllHold t (l ++ (q ∷ k)) → PlaceHolds t q.leg q.place
  held_there [] q k h = h.0
  held_there (x ∷ l) q k h = held_there l q k h.1

  same_first : (b c : List Place) (q r : Place) (a d : List Place) → b ++ (q ∷ a) ≡ c ++ (r ∷ d) → AllHold t b → AllHold t c
      → (PlaceHolds t q.leg q.place → ⊥) → (PlaceHolds t r.leg r.place → ⊥) → (q ≡ r) × (length b ≡ length c)
  unfolding head_or tail_of Held
  same_first [] [] q r a d e h k m n = (ap (head_or q) e, omega arith)
  same_first [] (y ∷ c) q r a d e h k m n = absurd (m (subst Held (sym (ap (head_or q) e)) k.0))
  same_first (x ∷ b) [] q r a d e h k m n = absurd (n (subst Held (ap (head_or q) e) h.0))
  same_first (x ∷ b) (y ∷ c) q r a d e h k m n =
      let i = same_first b c q r a d (ap tail_of e) h.1 k.1 m n in
      (i.0, omega (arith, i.1))

  one_first : {places : List Place} {q r : Place} {n k : ℕ} → FirstOf t places q n → FirstOf t places r k → (q ≡ r) × (n ≡ k)
  one_first {q = q} {r = r} f g =
      let i = same_first f.before g.before q r f.after g.after (sym f.list ∙ g.list) f.held g.held f.broken g.broken in
      (i.0, omega (arith, i.1, f.number, g.number))

  first_not_all : {places : List Place} {q : Place} {n : ℕ} → FirstOf t places q n → AllHold t places → ⊥
  first_not_all {q = q} f h = f.broken (held_there f.before q f.after (subst (AllHold t) f.list h))

pub recheck_one_answer : RecheckOneAnswer
recheck_one_answer t m (Ok (Violated q r n)) (Ok (Violated q' r' n')) v w =
    let i = one_first t v.1 w.1 in
    let e = i.0 in
    let f = i.1 in
    let g = v.2 ∙ ap (λ (z : Place). rule_at z.place) e ∙ sym w.2 in
    cc
recheck_one_answer t m (Ok (Violated q r n)) (Ok (NothingViolated k)) v w = absurd (first_not_all t v.1 w.1)
recheck_one_answer t m (Ok (Violated q r n)) (Err e) v f = absurd ((recheck_one t m).none v.0 f)
recheck_one_answer t m (Ok (NothingViolated n)) (Ok (Violated q r k)) v w = absurd (first_not_all t w.1 v.1)
recheck_one_answer t m (Ok (NothingViolated n)) (Ok (NothingViolated k)) v w = ap (λ (x : ℕ). Ok (NothingViolated x)) (v.2 ∙ sym w.2)
recheck_one_answer t m (Ok (NothingViolated n)) (Err e) v f = absurd ((recheck_one t m).none v.0 f)
recheck_one_answer t m (Err e) (Ok (Violated q r n)) f v = absurd ((recheck_one t m).none v.0 f)
recheck_one_answer t m (Err e) (Ok (NothingViolated n)) f v = absurd ((recheck_one t m).none v.0 f)
recheck_one_answer t m (Err d) (Err e) f g =
    let i = (recheck_one t m).one f g in
    same_refusal i.0 i.1
