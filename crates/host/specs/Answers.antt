-- What the C host is told: the result and the number beside it, and the cursor in the lent bytes (document 01, "Files").
use Rattle.std.specs.Prelude.{ℕ, ◌+◌, List, Result, Ok, Err}
use Rattle.basics.specs.Cause.{number_of}
use Rattle.basics.specs.declared.Cause.{Cause}
use Rattle.numbers.specs.Series.{overlaid}
use Rattle.files.specs.Cursors.{cursor_file}
use Rattle.files.specs.declared.Cursor.{Cursor}
use Rattle.rules.specs.declared.Rule.{Rule}
use Rattle.rules.specs.declared.Rule.TheVariants as rule
use Rattle.files.specs.declared.Returned.{Returned}
use Rattle.checker.specs.declared.SliceAnswer.{SliceAnswer}
use Rattle.checker.specs.declared.SliceAnswer.TheVariants as answer
use Rattle.host.specs.declared.Answer.{Answer}

-- 100 plus the refusal number.
abbrev pub refused_result : ℕ → ℕ
refused_result k = 100 + k

-- 2 to 5 violated: window, hop, deadline, overlap.
abbrev pub rule_result : Rule → ℕ
rule_result rule.Window = 2
rule_result rule.Hop = 3
rule_result rule.Deadline = 4
rule_result rule.Overlap = 5

-- The answer with result r, and n beside it.
abbrev pub answered : ℕ → ℕ → Answer
answered r n = record { result = r; beside = n }

-- Refusal k: the result is 100 plus k. Beside it stands its position p, as the table of refusals has it: a byte, a link, a stream, a leg, or 0.
abbrev pub refusal : Cause → ℕ → Answer
refusal k p = answered (refused_result (number_of k)) p

-- A slice: 0 nothing violated, 1 paused, 2 to 5 violated, each with the steps beside it; or a refusal.
abbrev pub slice_answered : SliceAnswer → Answer
slice_answered (answer.Violated d n r) = answered (rule_result r) n
slice_answered (answer.NothingViolated d n) = answered 0 n
slice_answered (answer.Paused d n) = answered 1 n
slice_answered (answer.Refused e d) = refusal e.cause e.at

-- A start of a plan with n places: 0 granted, with n beside it; or a refusal. This 0 is no verdict.
abbrev pub start_answered : ℕ → Result Cursor Returned → Answer
start_answered n (Ok d) = answered 0 n
start_answered n (Err r) = refusal r.refusal.cause r.refusal.at

-- The lent bytes out with the bytes of the cursor d in front, and every other byte as it was.
abbrev pub with_cursor : List ℕ → Cursor → List ℕ
with_cursor out d = overlaid out 0 (cursor_file d)

-- The lent bytes after a slice, and after a start: the cursor that comes back lies in front; a refusal writes nothing.
abbrev pub bytes_after_slice : List ℕ → SliceAnswer → List ℕ
bytes_after_slice out (answer.Violated d n r) = with_cursor out d
bytes_after_slice out (answer.NothingViolated d n) = with_cursor out d
bytes_after_slice out (answer.Paused d n) = with_cursor out d
bytes_after_slice out (answer.Refused e d) = out

abbrev pub bytes_after_start : List ℕ → Result Cursor Returned → List ℕ
bytes_after_start out (Ok d) = with_cursor out d
bytes_after_start out (Err r) = out

-- The result alone, which is what conepalhui_slice gives.
abbrev pub result_alone : Answer → ℕ
result_alone a = a.result
