-- Refusals in their order have one answer, since each has and speaks only where those before it are clear. Assumes nothing.
use Rattle.std.specs.Prelude.{ℕ, Result, Ok, Err}
use mathlib.Core.Path.{◌≡◌, refl, ◌∙◌, sym, subst}
use mathlib.Core.Logic.{inl, inr}
use Rattle.basics.specs.Refusals.{Refusals, unless_at, unless, lowest, ◌then◌, ◌called◌, Told, OneFault, Exactly}
use Rattle.basics.specs.Cause.{refused}
use Rattle.basics.specs.declared.Cause.{Cause}
use Rattle.basics.specs.declared.Refusal.{Refusal}
use Rattle.basics.proofs.Lowest.{not_all, lowest_is_one, from_first}

pub unless_at_one : (c : Cause) (at : ℕ) (So : Type 0) → OneFault (unless_at c at So)
unless_at_one c at So = record { one = λ f g. (f.0 ∙ sym g.0, f.1 ∙ sym g.1); none = λ so f. f.2 so }

pub unless_one : (c : Cause) (So : Type 0) → OneFault (unless c So)
unless_one c So = unless_at_one c 0 So

pub lowest_one : (c : Cause) (Good : ℕ → Type 0) (count : ℕ) → OneFault (lowest c Good count)
lowest_one c Good count = record { one = λ f g. (f.0 ∙ sym g.0, lowest_is_one f.1 g.1); none = λ a f. not_all f.1 (from_first a) }

module _ {r s : Refusals} (x : OneFault r) (y : OneFault s) where
  one : {k l : Cause} {p q : ℕ} → (r then s).Fault k p → (r then s).Fault l q → (k ≡ l) × (p ≡ q)
  one (inl f) (inl g) = x.one f g
  one (inl f) (inr g) = absurd (x.none g.0 f)
  one (inr f) (inl g) = absurd (x.none f.0 g)
  one (inr f) (inr g) = y.one f.1 g.1

  none : {k : Cause} {p : ℕ} → (r then s).Clear → (r then s).Fault k p → ⊥
  none c (inl f) = x.none c.0 f
  none c (inr f) = y.none c.1 f.1

  pub then_one : OneFault (r then s)
  then_one = record { one = one; none = none }

pub called_one : {r : Refusals} {Name : Type 0} → OneFault r → (Name → r.Clear) → OneFault (r called Name)
called_one x to = record { one = x.one; none = λ n f. x.none (to n) f }

-- A refusal is its cause and its position.
pub same_refusal : {T : Type 0} {k l : Cause} {p q : ℕ} → k ≡ l → p ≡ q → refused {T = T} k p ≡ refused l q
same_refusal e f = rw (e, f) refl

-- What was told has no second answer, and tells exactly.
module _ {r : Refusals} (x : OneFault r) where
  pub told_one : (a b : Result (Unit {0}) Refusal) → Told r a → Told r b → a ≡ b
  told_one (Ok u) (Ok v) c d = refl
  told_one (Ok u) (Err f) c d = absurd (x.none c d)
  told_one (Err e) (Ok u) c d = absurd (x.none d c)
  told_one (Err e) (Err f) c d =
      same_refusal (x.one c d).0 (x.one c d).1

  pub told_exactly : (a : Result (Unit {0}) Refusal) → Told r a → Exactly r a
  told_exactly a h = record {
    clear = λ e. subst (Told r) e h;
    is_clear = λ c. told_one a (Ok tt) h c;
    cause = λ k p e. subst (Told r) e h;
    refusal = λ k p f. told_one a (refused k p) h f;
  }
