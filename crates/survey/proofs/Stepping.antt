-- What a step of a survey tells: where the survey goes on from, and where one may begin. Assumes nothing.
use Prim.Native.Nat.{ℕ, ◌≤◌}
use mathlib.Core.Path.{◌≡◌, subst}
use mathlib.Core.List.{List}
use Rattle.std.specs.Prelude.{Result, Ok}
use native.Mathlib.Omega.{arith}
use Rattle.files.specs.declared.Cursor.{Cursor}
use Rattle.files.specs.declared.Returned.{Returned}
use Rattle.rules.specs.declared.Rule.{Rule}
use Rattle.checker.specs.Cursors.{CursorRight}
use Rattle.basics.specs.declared.Refusal.{Refusal}
use Rattle.checker.specs.Slices.{Starts}
use Rattle.checker.specs.Steps.{CursorTold}
use Rattle.checker.proofs.Whole.{start_right}
use Rattle.survey.specs.Steps.{Finds}
use Rattle.survey.specs.declared.Found.{Found}
use Rattle.survey.specs.declared.Found.TheVariants as found

-- What a loop over such steps keeps: the survey goes on from a right cursor, and each step takes some of the budget and not more than there is.
pub record Advances (t : List ℕ) (b n : ℕ) (e : Cursor) : Type 0 where
  pub right : CursorRight t e
  pub some : 1 ≤ n
  pub within : n ≤ b

pub advances : {t : List ℕ} (c : Cursor) {b n : ℕ} {d e : Cursor} {r : Rule} {told : Found} → told ≡ found.Violated d n r e → Finds t c b told → Advances t b n e
advances {t} c {b} {n} {d} {e} {r} q f =
    let v : Finds t c b (found.Violated d n r e) = subst (Finds t c b) q f in
    record { right = v.1.1; some = omega (arith, v.0.1.steps); within = v.0.1.within }

-- Where a survey may begin: at the cursor of a start, and at one that is clear of refusals.
pub granted_right : {t : List ℕ} {c : Cursor} {told : Result Cursor Returned} → told ≡ Ok c → Starts t told → CursorRight t c
granted_right {t} q s = start_right (subst (Starts t) q s)

pub clear_right : {t : List ℕ} {c : Cursor} {told : Result (Unit {0}) Refusal} → told ≡ Ok tt → CursorTold t c told → CursorRight t c
clear_right {t} {c} q s = subst (CursorTold t c) q s
