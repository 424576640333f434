-- `host::admit::admit_table` meets its contract: what was laid into the call's own words is the enlarged table, and its file has room. Assumes nothing.
use Rattle.std.proofs.Common.{◌∙◌, ap}
use Rattle.std.specs.Prelude.{Ok}
use Rattle.host.proofs.Admitting.{table_refused, table_admitted, admitted_sized}
use Rattle.host.proofs.admit.admit_table.Goals as goal

pub write_file-written-requires : goal.write_file-written-requires
write_file-written-requires c =
    admitted_sized _ _ _ _ _ _ _ (c.in-Ok-Some.is ∙ ap Ok c.in-Ok-Some.field-0-is) c.admit_between.ensures

pub returns-in-Err : goal.returns-in-Err
returns-in-Err c =
    table_refused _ _ _ _ _ _ _ c.requires.own_room c.in-Err.is c.admit_between.ensures c.unadmitted_for.ensures

pub returns-in-Ok-Some : goal.returns-in-Ok-Some
returns-in-Ok-Some c =
    table_admitted _ _ _ _ _ _ _ (c.in-Ok-Some.is ∙ ap Ok c.in-Ok-Some.field-0-is) c.admit_between.ensures c.requires.own_room c.write_file-written.ensures
