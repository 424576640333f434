-- `margins::turning::Turn::ahead` meets its contract. Assumes nothing.
use Rattle.margins.proofs.TurnLaws.{ahead_late}
use Rattle.margins.proofs.turning.Turn.ahead.Goals as goal

pub returns-then-q-r : goal.returns-then-q-r
returns-then-q-r c = search ahead_late
