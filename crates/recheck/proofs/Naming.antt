-- A leg can be read at a place exactly where the request names the place. Assumes nothing.
use Prim.Native.Nat.{ℕ, ◌+◌, ◌<◌}
use mathlib.Core.Path.{◌≡◌, refl, ◌∙◌, sym, ap, subst}
use mathlib.Core.Bool.{Bool, true, false, ◌&&◌, ◌||◌, true≢false}
use mathlib.Core.List.{List}
use mathlib.Core.Logic.{◌⊎◌, inl, inr, ⊎_elim}
use lib.Dec.{T, eqb, ltb, eqb→eq, eqb_refl, ltb→lt, lt→ltb}
use Rattle.shape.specs.Legs.{end_of}
use Rattle.rules.specs.Places.{asked_at, place_of}
use Rattle.rules.specs.declared.Asked.{Asked}
use Rattle.rules.specs.declared.Asked.TheVariants as asked
use Rattle.rules.proofs.Asking.{places_are_asked}
use Rattle.recheck.specs.Listed.{read_beside, can_read}
use Rattle.recheck.specs.Theorems.{Named}

-- Tests that are true.
is_true : (b : Bool) → T b → b ≡ true
is_true true h = refl
is_true false h = absurd h

tests_true : (b : Bool) → b ≡ true → T b
tests_true b e = subst T (sym e) tt

equal_true : (x y : ℕ) → x ≡ y → eqb x y ≡ true
equal_true x y e = is_true (eqb x y) (subst (λ (z : ℕ). T (eqb x z)) e (eqb_refl x))

equal_is : (x y : ℕ) → eqb x y ≡ true → x ≡ y
equal_is x y e = eqb→eq x y (tests_true (eqb x y) e)

both : (a b : Bool) → a && b ≡ true → (a ≡ true) × (b ≡ true)
both true b e = (refl, e)
both false b e = absurd (true≢false (sym e))

either : (a b : Bool) → a || b ≡ true → (a ≡ true) ⊎ (b ≡ true)
either true b e = inl refl
either false b e = inr e

or_second : (a b : Bool) → b ≡ true → a || b ≡ true
or_second true b e = refl
or_second false b e = e

or_neither : (b : Bool) → (b ≡ true → ⊥) → b ≡ false
or_neither true n = absurd (n refl)
or_neither false n = refl

module _ (t : List ℕ) (m a : ℕ) where
  -- What is asked beside the leg's own places, in the request's words.
  NamedBeside : Asked → Type 0
  NamedBeside asked.Window = ⊥
  NamedBeside asked.Hop = (a ≡ m + 1) × (a < end_of t m)
  NamedBeside asked.Deadline = a + 1 ≡ end_of t m
  NamedBeside (asked.Overlap b) = b ≡ m

  beside_true : (q : Asked) → NamedBeside q → read_beside t m a q ≡ true
  unfolding NamedBeside
  beside_true asked.Window n = absurd n
  beside_true asked.Hop n =
      ap (λ (b : Bool). b && ltb a (end_of t m)) (equal_true a (m + 1) n.0) ∙ is_true (ltb a (end_of t m)) (lt→ltb a (end_of t m) n.1)
  beside_true asked.Deadline n = equal_true (a + 1) (end_of t m) n
  beside_true (asked.Overlap b) n = equal_true b m n

  beside_named : (q : Asked) → read_beside t m a q ≡ true → NamedBeside q
  unfolding NamedBeside
  beside_named asked.Window e = absurd (true≢false (sym e))
  beside_named asked.Hop e =
      let x = both (eqb a (m + 1)) (ltb a (end_of t m)) e in
      (equal_is a (m + 1) x.0, ltb→lt a (end_of t m) (tests_true (ltb a (end_of t m)) x.1))
  beside_named asked.Deadline e = equal_is (a + 1) (end_of t m) e
  beside_named (asked.Overlap b) e = equal_is b m e

  module _ (p : ℕ) where
    at_place : (q : Asked) → p ≡ place_of q → asked_at p ≡ q
    at_place q e = ap asked_at e ∙ places_are_asked.there q

    beside_at : (q : Asked) → p ≡ place_of q → NamedBeside q → can_read t m a p ≡ true
    unfolding can_read
    beside_at q e n = or_second (eqb a m) (read_beside t m a (asked_at p)) (ap (read_beside t m a) (at_place q e) ∙ beside_true q n)

    pub named_read : Named t m a p → can_read t m a p ≡ true
    unfolding can_read NamedBeside
    named_read (inl e) = ap (λ (b : Bool). b || read_beside t m a (asked_at p)) (equal_true a m e)
    named_read (inr (inl e)) = beside_at (asked.Overlap m) e refl
    named_read (inr (inr (inl (e, n)))) = beside_at asked.Hop e n
    named_read (inr (inr (inr (e, n)))) = beside_at asked.Deadline e n

    of_asked : (q : Asked) → p ≡ place_of q → NamedBeside q → Named t m a p
    unfolding NamedBeside
    of_asked asked.Window e n = absurd n
    of_asked asked.Hop e n = inr (inr (inl (e, n)))
    of_asked asked.Deadline e n = inr (inr (inr (e, n)))
    of_asked (asked.Overlap b) e n = inr (inl (e ∙ ap (λ (z : ℕ). place_of (asked.Overlap z)) n))

    pub read_named : can_read t m a p ≡ true → Named t m a p
    unfolding can_read
    read_named e =
        ⊎_elim
        (λ (h : eqb a m ≡ true). inl (equal_is a m h))
        (λ (h : read_beside t m a (asked_at p) ≡ true). of_asked (asked_at p) (sym (places_are_asked.back p)) (beside_named (asked_at p) h))
        (either (eqb a m) (read_beside t m a (asked_at p)) e)

    pub unnamed_unread : (Named t m a p → ⊥) → can_read t m a p ≡ false
    unnamed_unread n = or_neither (can_read t m a p) (λ e. n (read_named e))
