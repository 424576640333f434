-- `host::lists::list_table` meets its contract: how many bytes a list file has is a word. Assumes nothing.
use Rattle.std.proofs.Common.{arith}
use Rattle.host.proofs.Listing.{listed_small}
use Rattle.host.proofs.lists.list_table.Goals as goal

pub overflow_cast-result : goal.overflow_cast-result
overflow_cast-result c =
    omega (arith, listed_small _ _ _ _ c.in-Ok.is c.write_gate_list.ensures)
