-- Marks on events: one set, and how many are missing.
use Rattle.std.specs.Prelude.{◌≡◌, cond, ℕ, zero, suc, ◌+◌, eqb}

-- j is given the value x in f, and the others stay.
pub record Put {A : Type 0} (f : ℕ → A) (j : ℕ) (x : A) (g : ℕ → A) : Type 0 where
  pub here : g j ≡ x
  pub there : (v : ℕ) → (v ≡ j → ⊥) → g v ≡ f v

-- How many of the first n are 0.
unfoldable pub unseen : (ℕ → ℕ) → ℕ → ℕ
unseen f zero = 0
unseen f (suc n) = unseen f n + cond (eqb (f n) 0) 1 0
