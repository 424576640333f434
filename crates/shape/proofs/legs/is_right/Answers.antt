-- `shape::legs::is_right` meets its contract: the stream, the leg by itself, and after the first leg the route. Assumes nothing.
use Rattle.shape.proofs.RouteLaws.{other_stream, out_of_range_is, right_at_first, told_by_link}
use Rattle.shape.proofs.legs.is_right.Goals as goal

pub returns-then-leg-s : goal.returns-then-leg-s
returns-then-leg-s c = search other_stream

pub returns-then-not-is_in_range : goal.returns-then-not-is_in_range
returns-then-not-is_in_range c = search out_of_range_is

pub returns-then-a-first : goal.returns-then-a-first
returns-then-a-first c = search right_at_first

pub returns : goal.returns
returns c = search told_by_link
