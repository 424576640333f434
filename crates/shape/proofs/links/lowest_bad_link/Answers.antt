-- `shape::links::lowest_bad_link` meets its contract: every link passed is in range. Assumes nothing.
use Rattle.shape.proofs.LinkLaws.{link_wrong, link_passes}
use Rattle.shape.proofs.links.lowest_bad_link.Goals as goal

pub returns-then-not-is_in_range : goal.returns-then-not-is_in_range
returns-then-not-is_in_range c = search link_wrong

pub loop-i-preserved : goal.loop-i-preserved
loop-i-preserved c = search link_passes
