-- Reading a file of the first layout has one answer, and gives a table of today. Assumes nothing.
use mathlib.Core.Path.{◌≡◌, sym, subst}
use lib.ListN.{take}
use Rattle.numbers.specs.Series.{AllWords}
use Rattle.numbers.proofs.Overlay.{overlaid_taken}
use Rattle.table.specs.Layout.{first_layout, Sized}
use Rattle.files.proofs.OneAnswer.{read_plan_in_one_answer}
use Rattle.editions.specs.Converted.{converted}
use Rattle.editions.specs.Theorems.{ReadFirstOneAnswer, FirstGivesTables}
use Rattle.editions.proofs.Wider.{first_older, converted_sized, converted_words}

pub read_first_one_answer : ReadFirstOneAnswer
read_first_one_answer = read_plan_in_one_answer first_layout (converted first_layout)

pub first_gives_tables : FirstGivesTables
first_gives_tables s b b' n (u, f, l) =
    let e = l.count in
    let a = l.after in
    let t : take n b' ≡ converted first_layout u = rw (e, a) (overlaid_taken b (converted first_layout u)) in
    (subst Sized (sym t) (converted_sized first_older u f.complete), subst AllWords (sym t) (converted_words first_older u f.complete f.words))
