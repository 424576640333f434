-- What a test says that is true exactly where P holds. Assumes nothing.
use Rattle.std.specs.Prelude.{Bool, true, false, ◌≡◌, IsTrue, ◌↔◌}
use mathlib.Core.Bool.{true≢false}
use mathlib.Core.Path.{refl, ◌∙◌, sym}

pub refutes : {P : Type 0} {b : Bool} → (IsTrue b ↔ P) → b ≡ false → P → ⊥
refutes h e p = true≢false (sym (h.1 p) ∙ e)

pub is_false : {P : Type 0} → (P → ⊥) → IsTrue false ↔ P
is_false n = (λ e. absurd (true≢false (sym e)), λ p. absurd (n p))

pub is_true : {P : Type 0} → P → IsTrue true ↔ P
is_true p = (λ e. p, λ q. refl)

-- The same test of what holds in the same cases.
pub told_as : {P Q : Type 0} {b : Bool} → (P → Q) → (Q → P) → (IsTrue b ↔ P) → IsTrue b ↔ Q
told_as to from h = (λ e. to (h.0 e), λ q. h.1 (from q))
