-- `host::answers::put_back` meets its contract: no cursor has more than 15 bytes. Assumes nothing.
use Rattle.std.proofs.Common.{ℕ, ◌≤◌, List, ◌≡◌, arith, length}
use Rattle.files.specs.Cursors.{WritesCursor}
use Rattle.files.specs.Theorems.{max_cursor_bytes}
use Rattle.files.specs.declared.Cursor.{Cursor}
use Rattle.std.specs.Prelude.{Result, Ok, Err}
use Rattle.files.specs.declared.Returned.{Returned}
use Rattle.files.proofs.ComeBack.{cursor_bytes_at_most}
use Rattle.host.specs.Answers.{with_cursor}
use Rattle.host.proofs.answers.put_back.Goals as goal

written : (d : Cursor) (b b' : List ℕ) (r : Result ℕ Returned) → max_cursor_bytes ≤ length b → WritesCursor d b r b' → b' ≡ with_cursor b d
written d b b' (Ok n) h l = l.after
written d b b' (Err e) h l = absurd (omega (arith, l.0.small, cursor_bytes_at_most.1 d))

pub returns : goal.returns
returns c =
    written _ _ _ c.write_cursor.result c.requires c.write_cursor.ensures
