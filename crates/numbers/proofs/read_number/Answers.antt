-- `numbers::read_number` meets its contract: after each byte `Passed` holds, and each way out of the loop is one of its laws.
-- Assumes nothing.
use Rattle.std.proofs.Common.{◌+◌, ◌-◌, ◌≡◌, refl, get_or, arith}
use Rattle.numbers.proofs.Passing.{passed_none, AtByte, byte_unfit, byte_last, byte_more, last_fits, more_fits}
use Rattle.numbers.proofs.read_number.Goals.{After-group_kind}
use Rattle.numbers.proofs.read_number.Goals as goal

-- The byte after the bytes that were passed, once its kind is told.
abbrev at_byte : After-group_kind → AtByte
at_byte c =
    record {
      s = c.args.bytes.now;
      at = c.args.at;
      next = c.loop-next.next;
      before = c.loop-next.next - c.args.at;
      weight = c.loop-next.weight;
      value = c.loop-next.value;
      b = get_or c.args.bytes.now c.loop-next.next 0;
      kind = c.group_kind.result;
      passed = c.loop-next.invariant;
      inside = c.loop-next-test.true;
      is = refl;
      byte = omega (arith, c.type_inv.bytes c.loop-next.next);
      told = c.group_kind.ensures;
    }

pub loop-next-init : goal.loop-next-init
loop-next-init c = let e : c.args.at - c.args.at ≡ 0 = omega arith in rw e (passed_none _ _)

pub returns-in-Bad : goal.returns-in-Bad
returns-in-Bad c = let a : AtByte = at_byte (goal.at.returns-in-Bad c).After-group_kind in rw c.at.ensures (byte_unfit a c.in-Bad.is)

pub overflow_mul-result : goal.overflow_mul-result
overflow_mul-result c = let a : AtByte = at_byte (goal.at.overflow_mul-result c).After-group_kind in let f = last_fits a c.in-Last.is in omega arith

pub overflow_add-result : goal.overflow_add-result
overflow_add-result c = let a : AtByte = at_byte (goal.at.overflow_add-result c).After-group_kind in let f = last_fits a c.in-Last.is in omega arith

pub overflow_cast-result : goal.overflow_cast-result
overflow_cast-result c = let a : AtByte = at_byte (goal.at.overflow_cast-result c).After-group_kind in let f = last_fits a c.in-Last.is in omega arith

pub returns-in-Last : goal.returns-in-Last
returns-in-Last c = let a : AtByte = at_byte (goal.at.returns-in-Last c).After-group_kind in byte_last a c.in-Last.is

pub overflow_mul-value : goal.overflow_mul-value
overflow_mul-value c = let a : AtByte = at_byte (goal.at.overflow_mul-value c).After-group_kind in let f = more_fits a c.in-More.is in omega arith

pub overflow_add-value : goal.overflow_add-value
overflow_add-value c = let a : AtByte = at_byte (goal.at.overflow_add-value c).After-group_kind in let f = more_fits a c.in-More.is in omega arith

pub overflow_mul-weight : goal.overflow_mul-weight
overflow_mul-weight c = let a : AtByte = at_byte (goal.at.overflow_mul-weight c).After-group_kind in let f = more_fits a c.in-More.is in omega arith

pub loop-next-preserved : goal.loop-next-preserved
loop-next-preserved c =
    let a : AtByte = at_byte (goal.at.loop-next-preserved c).After-group_kind in
    let e : c.loop-next.next + 1 - c.args.at ≡ c.loop-next.next - c.args.at + 1 = omega (arith, c.loop-next.auto.next) in
    rw e (byte_more a c.in-More.is)
