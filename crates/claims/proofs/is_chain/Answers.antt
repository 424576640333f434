-- `claims::is_chain` meets its contract: what was looked at is linked, and a fault in it is a fault of the whole. Assumes nothing.
use mathlib.Core.Path.{sym, ap}
use Rattle.std.proofs.Common.{◌∙◌, ℕ, ◌<◌, arith, length, w64, SFits, to_z, to_z-of_z}
use borrow.Author.Tests.{eqb-true}
use Rattle.std.proofs.lemmas.Option.{slice_get_within, get_or_from_slice_get}
use Rattle.network.specs.Constraints.{network_of}
use Rattle.signed.proofs.Parts.{mag_abs}
use Rattle.claims.proofs.Linking.{Looking, none_yet, wrong_start, one_more, closes, is_below, not_closed}
use Rattle.claims.proofs.is_chain.Goals.{In-Some-named-2}
use Rattle.claims.proofs.is_chain.Goals as goal

abbrev here : In-Some-named-2 → Looking
here c =
    record {
      n = c.args.network.now.events;
      ws = c.args.network.now.constraints.now;
      ks = c.args.numbers.now;
      a = c.loop-number.number-index;
      at = c.loop-number.at;
      first = c.in-Some-named.begin.from;
      s = to_z w64 c.loop-number.sum-bits;
      seen = c.loop-number.seen;
      linked_so = c.loop-number.invariant;
      inside = c.loop-number-test.true;
      r = c.in-Some-named-2.c;
      known = c.in-Some-named-2.ensures.0;
      reads = c.in-Some-named-2.ensures.1;
    }

most-fits : (l : Looking) → SFits w64 l.r.most
most-fits l = record { sfits = omega (arith, mag_abs l.r.most, l.reads.most_in) }

pub loop-number-init : goal.loop-number-init
loop-number-init c = none_yet c.args.network.now.events c.args.network.now.constraints.now c.args.numbers.now c.in-Some-named.begin.from c.args.network.now.in_range
    (c.in-Some-named.ensures.1.from ∙ ap (λ (k : ℕ). (network_of c.args.network.now.constraints.now).from k) (sym (get_or_from_slice_get c.args.numbers.now 0 _ 0 (sym c.in-Some.ensures.value))))

pub returns-then-c-at : goal.returns-then-c-at
returns-then-c-at c = let l : Looking = here (goal.at.returns-then-c-at c).In-Some-named-2 in (λ h. absurd (cc), λ ch. absurd (wrong_start l c.if-c-at.true ch))

pub loop-number-preserved : goal.loop-number-preserved
loop-number-preserved c =
    let l : Looking = here (goal.at.loop-number-preserved c).In-Some-named-2 in
    let f : SFits w64 c.sum-sum.result = record { sfits = c.sum-sum.type_inv } in
    rw (to_z-of_z f) (one_more l c.sum-sum.result (c.sum-sum.ensures ∙ rw (to_z-of_z (most-fits l))) (search) (search))

pub returns-then-at-begin : goal.returns-then-at-begin
returns-then-at-begin c =
    let some : 0 < length c.args.numbers.now = slice_get_within c.args.numbers.now 0 _ (sym c.in-Some.ensures.value) in
    (λ h. closes c.loop-number.invariant (omega arith) (omega arith) c.if-at-begin.true h, λ ch. is_below c.loop-number.invariant (omega arith) (omega arith) ch)

pub returns-else-at-begin : goal.returns-else-at-begin
returns-else-at-begin c =
    let some : 0 < length c.args.numbers.now = slice_get_within c.args.numbers.now 0 _ (sym c.in-Some.ensures.value) in
    (λ h. absurd (c.if-at-begin.false (eqb-true _ _ h)), λ ch. absurd (not_closed c.loop-number.invariant (omega arith) (omega arith) c.if-at-begin.false ch))
