-- `gate_lists::AskedLink::list_slots` meets its contract. Assumes nothing.
use Rattle.std.proofs.Common.{◌≤◌, length, rules}
use Rattle.std.proofs.lemmas.Result.{err_from_is_err_and}
use Rattle.gate_lists.proofs.Listing.{list_none, cycle_refused, cycle_given, list_told}
use Rattle.gate_lists.proofs.AskedLink.list_slots.Goals as goal

pub returns-then-is_empty : goal.returns-then-is_empty
returns-then-is_empty c = list_none _ _ _ _ c.requires.gathered _ (search rules)

pub returns-in_err-cycle : goal.returns-in_err-cycle
returns-in_err-cycle c =
    let p = err_from_is_err_and c.from_residual.result c.from_residual.ensures.1 in
    rw (p.1, p.2) (cycle_refused _ _ _ _ c.requires.gathered c.args.words.now _ _ c.cycle_of.ensures c.in_err-cycle.ensures.value c.at.ensures)

pub returns : goal.returns
returns c =
    let cycle = cycle_given _ _ _ _ c.requires.gathered _ _ c.cycle_of.ensures c.in_ok-cycle.ensures.value in
    let some : 1 ≤ length c.args.slots.now = search rules in
    list_told _ _ _ _ c.requires.gathered _ cycle.0 cycle.1 some _ _ _ (search rules) c.write_pairs.ensures c.at-2.ensures c.ok_or-2.ensures.value
