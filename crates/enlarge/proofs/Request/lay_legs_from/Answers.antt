-- `enlarge::Request::lay_legs_from` meets its contract: the legs passed are laid without waiting, and the next one starts when the frame is there. Assumes nothing.
use Rattle.std.proofs.Common.{◌≤◌, arith}
use Rattle.numbers.specs.Number.{max_word}
use Rattle.enlarge.proofs.LegTurns.{from_start, from_room, from_next, from_end}
use Rattle.enlarge.proofs.Request.lay_legs_from.Goals as goal

pub loop-link-init : goal.loop-link-init
loop-link-init c = let short : c.args.self.now.wanted.period ≤ max_word = omega arith in search from_start

pub copied-next-requires : goal.copied-next-requires
copied-next-requires c = search from_room

pub loop-link-preserved : goal.loop-link-preserved
loop-link-preserved c = search from_next

pub returns : goal.returns
returns c = search from_end
