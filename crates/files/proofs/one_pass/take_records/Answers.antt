-- `files::one_pass::take_records` meets its contract: the limits and the length of the header are known, and the records after it are taken.
-- Assumes nothing.
use Rattle.std.proofs.Common.{inl, inr, take}
use Rattle.std.proofs.lemmas.Result.{err_from_is_err_and}
use Rattle.table.specs.Layout.{current, head_words}
use Rattle.files.proofs.Looking.{Header}
use Rattle.files.proofs.OnePass.{five_words, records_cut, records_over, records_whole}
use Rattle.files.proofs.one_pass.take_records.Goals.{In-Some}
use Rattle.files.proofs.one_pass.take_records.Goals as goal

-- The header, once its limits are known.
abbrev header : (c : In-Some) → Header current c.args.bytes.now (take head_words c.args.words.now) c.args.next c.in-Some.size
header c = record { five = five_words c.args.words.now c.requires.max_table_words_in_bounds; row = c.requires.row; within = c.in-Some.ensures }

pub returns-in_err-end : goal.returns-in_err-end
returns-in_err-end c =
    let p = err_from_is_err_and c.from_residual.result c.from_residual.ensures.1 in
    let d = header (goal.at.returns-in_err-end c).In-Some in
    rw (p.1, p.2) (inl (records_cut c.args.words.now c.requires.max_table_words_in_bounds d c.in_err-end.ensures))

pub returns-in_err-end_of : goal.returns-in_err-end_of
returns-in_err-end_of c =
    let p = err_from_is_err_and c.from_residual-in_err-end_of.result c.from_residual-in_err-end_of.ensures.1 in
    let d = header (goal.at.returns-in_err-end_of c).In-Some in
    let e = c.in_err-end_of.ensures in
    rw (p.1, p.2, e.1) (inr (inr (e.0, records_over c.args.words.now c.requires.max_table_words_in_bounds d c.in_ok-end.ensures e.2)))

pub returns : goal.returns
returns c =
    let d = header (goal.at.returns c).In-Some in
    records_whole c.args.words.now c.requires.max_table_words_in_bounds d c.in_ok-end.ensures c.in_ok-end_of.ensures
