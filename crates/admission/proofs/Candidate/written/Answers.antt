-- `admission::Candidate::written` meets its contract: the enlarged table is laid for the offset that was found. Assumes nothing.
use Rattle.admission.proofs.Admitting.{may_lay, may_send, few_legs_may}
use Rattle.admission.proofs.Candidate.written.Goals as goal

pub lay_from-requires-clause-addable : goal.lay_from-requires-clause-addable
lay_from-requires-clause-addable c = let may = rw (← c.self.view_is) at c.requires.may_admit in search may_lay

pub lay_from-requires-clause-sends : goal.lay_from-requires-clause-sends
lay_from-requires-clause-sends c =
    let may = rw (← c.self.view_is) at c.requires.may_admit in
    let found = rw (← c.self.view_is) at c.requires.least_from in
    search may_send

pub enlarged_words-requires-clause-legs_le_max_legs : goal.enlarged_words-requires-clause-legs_le_max_legs
enlarged_words-requires-clause-legs_le_max_legs c = let may = rw (← c.self.view_is) at c.requires.may_admit in search few_legs_may
