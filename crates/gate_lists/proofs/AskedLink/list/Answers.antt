-- `gate_lists::AskedLink::list` meets its contract: the slots in front are those that were gathered. Assumes nothing.
use Rattle.gate_lists.proofs.Gathering.{gathered_front}
use Rattle.gate_lists.proofs.AskedLink.list.Goals as goal

pub list_slots-requires-clause-gathered : goal.list_slots-requires-clause-gathered
list_slots-requires-clause-gathered c = gathered_front _ _ _ _ _ c.gather-count.ensures.gathered
