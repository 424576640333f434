-- `admission::Candidate::new_condition` meets its contract: a new leg asks that it ends within its period. Assumes nothing.
use Rattle.admission.proofs.Asking.{sends, leg_starts}
use Rattle.admission.proofs.Candidate.new_condition.Goals as goal

pub hold_on-hold-requires : goal.hold_on-hold-requires
hold_on-hold-requires c = let inside = rw (← c.self.view_is) at c.requires in rw (← c.self.view_is) (search sends)

pub window_condition-requires : goal.window_condition-requires
window_condition-requires c = let after = rw (← c.self.view_is) at c.after_of-after.ensures in search leg_starts
