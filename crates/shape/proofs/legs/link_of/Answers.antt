-- `shape::legs::link_of` meets its contract: the leg and its link are records of the table's parts. Assumes nothing.
use Rattle.shape.proofs.RouteLaws.{link_lies, link_read}
use Rattle.shape.proofs.legs.link_of.Goals as goal

pub link_in-requires : goal.link_in-requires
link_in-requires c = search link_lies

pub returns : goal.returns
returns c = search link_read
