-- `enlarge::Request::sent_on` meets its contract: what is read is of the table's link. Assumes nothing.
use Rattle.enlarge.proofs.Sending.{sent}
use Rattle.enlarge.proofs.Request.sent_on.Goals as goal

pub returns : goal.returns
returns c = sent c.requires (rw c.of-plan.ensures at c.link-link.ensures.link) c.wire_time-wire.ensures (rw c.of-plan.ensures at c.precision.ensures)
