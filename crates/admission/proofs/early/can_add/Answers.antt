-- `admission::early::can_add` meets its contract: what was laid is the table with the stream, and it was judged. Assumes nothing.
use Rattle.std.proofs.Common.{refl}
use Rattle.admission.proofs.Refusing.{full_streams, full_legs, judged_can}
use Rattle.admission.proofs.early.can_add.Goals as goal

pub returns-then-t-ge-MAX_STREAMS : goal.returns-then-t-ge-MAX_STREAMS
returns-then-t-ge-MAX_STREAMS c = full_streams c.args.asked.now.wanted c.args.asked.now.route.now c.requires refl c.if-t-ge-MAX_STREAMS.true

pub returns-then-t-route : goal.returns-then-t-route
returns-then-t-route c = full_legs c.args.asked.now.wanted c.args.asked.now.route.now c.requires refl c.if-t-route.true

pub returns : goal.returns
returns c = rw c.is_ok.ensures.value (judged_can c.args.asked.now.wanted c.args.asked.now.route.now c.requires _ c.lay_at_zero.ensures c.enlarged_words-n.ensures c.judged_shape.result c.judged_shape.ensures)
