-- `admission::early::judged` meets its contract. Assumes nothing.
use Rattle.std.proofs.Common.{rules}
use Rattle.admission.proofs.Refusing.{few_legs}
use Rattle.admission.proofs.early.judged.Goals as goal

pub enlarged_words-requires-clause-legs_le_max_legs : goal.enlarged_words-requires-clause-legs_le_max_legs
enlarged_words-requires-clause-legs_le_max_legs c = few_legs c.args.asked.now.wanted c.args.asked.now.route.now (search rules) (c.can_add.ensures.0 (search rules))
