-- `gate_files::write_list` meets its contract: an even number of words are whole pairs. Assumes nothing.
use Rattle.std.proofs.Common.{arith}
use Rattle.gate_files.proofs.Counting.{list_written}
use Rattle.gate_files.proofs.write_list.Goals as goal

pub returns : goal.returns
returns c = list_written c.file_size-size.ensures (omega arith) (omega arith) c.put_file.ensures
