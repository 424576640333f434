-- `margins::turning::Turn::back` meets its contract. Assumes nothing.
use Rattle.margins.proofs.TurnLaws.{back_early, back_late}
use Rattle.margins.proofs.turning.Turn.back.Goals as goal

pub returns-then-r-q : goal.returns-then-r-q
returns-then-r-q c = search back_early

pub returns-then-q-r : goal.returns-then-q-r
returns-then-q-r c = search back_late
