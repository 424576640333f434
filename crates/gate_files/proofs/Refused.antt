-- With which numbers list files are refused: each cause has its own. Assumes nothing.
use Prim.Native.Nat.{ℕ}
use mathlib.Core.Path.{◌≡◌}
use mathlib.Core.List.{List}
use mathlib.Core.Logic.{◌⊎◌, inl, inr}
use lib.ListN.{length}
use Rattle.basics.specs.declared.Cause.{Cause}
use Rattle.basics.specs.declared.Cause.TheVariants as cause
use Rattle.numbers.specs.Number.{NoNumber}
use Rattle.gate_files.specs.ListFiles.{ListUnread, write_list_refusals}
use Rattle.gate_files.specs.Theorems.{ListFileRefusalsAreThese}

no_number_refused : {s : List ℕ} {p : ℕ} {k : Cause} → NoNumber s p k → (k ≡ cause.BytesEnd) ⊎ ((k ≡ cause.UnfitNumber) ⊎ (k ≡ cause.NoRoom))
no_number_refused (inl (e, r)) = inl e
no_number_refused (inr (e, u)) = inr (inl e)

unread_refused : (s : List ℕ) (room : ℕ) (k : Cause) (p : ℕ) → ListUnread s room k p → (k ≡ cause.BytesEnd) ⊎ ((k ≡ cause.UnfitNumber) ⊎ (k ≡ cause.NoRoom))
unread_refused s room k p (inl c) = no_number_refused c.no_number
unread_refused s room k p (inr (e, f, t)) = inr (inr e)

unwritten_refused : (ws : List ℕ) (room : ℕ) (k : Cause) (p : ℕ) → (write_list_refusals ws room).Fault k p → (k ≡ cause.BytesEnd) ⊎ (k ≡ cause.NoRoom)
unwritten_refused ws room k p (inl f) = inl f.0
unwritten_refused ws room k p (inr f) = inr f.1.0

pub list_file_refusals_are_these : ListFileRefusalsAreThese
list_file_refusals_are_these = record {
  read = λ s b b' k p (u, h). unread_refused s (length b) k p u;
  written = λ ws b b' k p (u, h). unwritten_refused ws (length b) k p u;
}
