-- `files::one_pass::take_plan` meets its contract: after a whole header `take_records` reads the rest. Assumes nothing.
use Rattle.files.proofs.OnePass.{header_taken}
use Rattle.files.proofs.one_pass.take_plan.Goals as goal

pub take_records-requires-clause-row : goal.take_records-requires-clause-row
take_records-requires-clause-row c = (header_taken c.args.words.now c.requires c.in_ok-next.ensures).1
