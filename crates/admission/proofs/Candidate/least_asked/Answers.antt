-- `admission::Candidate::least_asked` meets its contract: the kept conditions allow what all legs ask. Assumes nothing.
use Rattle.std.proofs.Common.{refl}
use Rattle.offsets.proofs.Keeping.{holding_sound}
use Rattle.admission.proofs.Leasts.{asked_least, kept_room}
use Rattle.admission.proofs.Candidate.least_asked.Goals as goal

pub keep_all-requires : goal.keep_all-requires
keep_all-requires c = rw (← c.self.view_is) (kept_room c.self.invariant refl)

pub order-hints-requires : goal.order-hints-requires
order-hints-requires c = let held = rw (← c.self.view_is) at c.keep_all.ensures in search holding_sound

pub searched-requires-clause-all_sound : goal.searched-requires-clause-all_sound
searched-requires-clause-all_sound c = let held = rw (← c.self.view_is) at c.keep_all.ensures in search holding_sound

pub returns : goal.returns
returns c = let held = rw (← c.self.view_is) at c.keep_all.ensures in rw (← c.self.view_is) (asked_least c.args.limit c.args.from c.searched.result refl held c.searched.ensures)
