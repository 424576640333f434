-- `host::conepalhui_convert_first` meets its contract: the words that were read are what the table of the file becomes. Assumes nothing.
use Rattle.std.proofs.Common.{rules}
use Rattle.host.proofs.Steps.{first_front, first_small, convert_refused, convert_on}
use Rattle.host.proofs.conepalhui_convert_first.Goals as goal

pub refused-requires : goal.refused-requires
refused-requires c =
    first_small _ _ _ c.in-Err.is (search rules) c.read_first.ensures

pub write_file-requires : goal.write_file-requires
write_file-requires c =
    (first_front _ _ _ c.in-Ok.is c.read_first.ensures).sized

pub returns-in-Err : goal.returns-in-Err
returns-in-Err c =
    convert_refused _ _ _ c.in-Err.is (search rules) c.read_first.ensures c.refused.ensures

pub returns-in-Ok : goal.returns-in-Ok
returns-in-Ok c =
    convert_on _ _ _ c.in-Ok.is c.read_first.ensures c.write_file.ensures
