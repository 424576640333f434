-- `files::look::after_header` meets its contract: the limits and the length of the header are known, and the records after it are looked through.
-- Assumes nothing.
use Rattle.std.proofs.Common.{inl, inr}
use Rattle.std.proofs.lemmas.Result.{err_from_is_err_and}
use Rattle.files.proofs.Looking.{Header, table_cut, table_over, table_file}
use Rattle.files.proofs.look.after_header.Goals.{In-Some}
use Rattle.files.proofs.look.after_header.Goals as goal

-- The header, once its limits are known.
abbrev header : (c : In-Some) → Header c.args.e c.args.bytes.now c.args.head.now c.args.next c.in-Some.size
header c = record { five = c.requires.head_len; row = c.requires.row; within = c.in-Some.ensures }

pub returns-in_err-end : goal.returns-in_err-end
returns-in_err-end c =
    let p = err_from_is_err_and c.from_residual.result c.from_residual.ensures.1 in
    rw (p.1, p.2) (inl (table_cut (header (goal.at.returns-in_err-end c).In-Some) c.in_err-end.ensures))

pub returns-in_err-end_of : goal.returns-in_err-end_of
returns-in_err-end_of c =
    let p = err_from_is_err_and c.from_residual-in_err-end_of.result c.from_residual-in_err-end_of.ensures.1 in
    let e = c.in_err-end_of.ensures in
    rw (p.1, p.2, e.1) (inr (inr (e.0, table_over (header (goal.at.returns-in_err-end_of c).In-Some) c.in_ok-end.ensures e.2)))

pub returns : goal.returns
returns c = table_file (header (goal.at.returns c).In-Some) c.in_ok-end.ensures c.in_ok-end_of.ensures
