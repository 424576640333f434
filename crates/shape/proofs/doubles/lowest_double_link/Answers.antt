-- `shape::doubles::lowest_double_link` meets its contract: the buckets begin empty. Assumes nothing.
use Rattle.shape.proofs.DoubleLaws.{zeros_empty}
use Rattle.shape.proofs.doubles.lowest_double_link.Goals as goal

pub lowest_double_in-requires-clause-empty_buckets : goal.lowest_double_in-requires-clause-empty_buckets
lowest_double_in-requires-clause-empty_buckets c = search zeros_empty
