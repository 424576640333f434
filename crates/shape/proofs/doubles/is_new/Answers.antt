-- `shape::doubles::is_new` meets its contract: along the chain of the link's bucket every link passed has other ends. Assumes nothing.
use Rattle.shape.proofs.DoubleLaws.{chain_begins, earlier_link_lies, chain_meets, earlier_room, chain_less, chain_goes_on, chain_ends}
use Rattle.shape.proofs.doubles.is_new.Goals as goal

pub loop-c-init : goal.loop-c-init
loop-c-init c = search chain_begins

pub link_in-requires : goal.link_in-requires
link_in-requires c = search earlier_link_lies

pub returns-then-have_same_ends : goal.returns-then-have_same_ends
returns-then-have_same_ends c = search chain_meets

pub bounds-earlier-j : goal.bounds-earlier-j
bounds-earlier-j c = search earlier_room

pub loop-c-smaller : goal.loop-c-smaller
loop-c-smaller c = search chain_less

pub loop-c-preserved : goal.loop-c-preserved
loop-c-preserved c = search chain_goes_on

pub returns : goal.returns
returns c = search chain_ends
