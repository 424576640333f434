-- `gate_lists::AskedLink::write` meets its contract. Assumes nothing.
use Rattle.gate_lists.proofs.Refusing.{list_written}
use Rattle.gate_lists.proofs.AskedLink.write.Goals as goal

pub returns : goal.returns
returns c = list_written _ _ c.list.ensures.may_list _ _ _ _ _ c.in_ok-n.ensures.told c.write_list.ensures
