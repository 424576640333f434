-- What keeps the premise of a recheck. Assumes nothing.
use Prim.Native.Nat.{ℕ, ◌≤◌, ◌<◌}
use mathlib.Core.Path.{◌≡◌, ◌∙◌, sym, subst}
use mathlib.Core.List.{List}
use mathlib.Core.Logic.{⊎_elim}
use native.Mathlib.Omega.{arith}
use Rattle.basics.proofs.Splits.{eq_or_ne}
use Rattle.table.specs.Layout.{leg_count, leg_start, Sized}
use Rattle.table.specs.Records.{leg_at, moved, move_to}
use Rattle.table.specs.declared.Move.{Move}
use Rattle.table.proofs.Moved.{moved_length, moved_words, moved_other, moved_offset, moved_periods}
use Rattle.table.proofs.SameWords.{same_links, same_streams, same_legs}
use Rattle.shape.specs.Streams.{max_periods}
use Rattle.shape.specs.Shape.{WellFormedTable}
use Rattle.shape.specs.Moves.{SameButMoved}
use Rattle.shape.proofs.Moved.{moved_same, same_either_way, moves_keep_shape}
use Rattle.rules.specs.Rules.{RulesHold}
use Rattle.checker.specs.Accepted.{Accepted}
use Rattle.checker.specs.Moves.{CanMove}
use Rattle.checker.proofs.Moving.{shape_moved, legs_moved}
use Rattle.recheck.specs.Rechecks.{CanRecheck}
use Rattle.recheck.specs.Premise.{WasAccepted, SameButLeg}
use Rattle.recheck.specs.Theorems.{PremiseIsKept}
use Rattle.recheck.proofs.SameRecords.{other_legs, leg_moved, moved_twice, leg_is, same_rules}

-- Table t with leg m as it is in u has the legs of u.
module _ (t u : List ℕ) (m : ℕ) (c : CanRecheck t m) (d : SameButLeg t u m) (w : WellFormedTable u) where
  few : (leg_at u m).periods ≤ max_periods
  few = (w.legs m (omega (arith, c.leg, same_legs t u m c.shape.sized d.words))).in_range.periods

  abbrev back : Move
  back = move_to m (leg_at u m).offset (leg_at u m).periods

  from_other : SameButMoved u (moved t back)
  from_other = moved_twice u t (moved t back) (same_either_way t u c.shape (leg_moved t u m c.shape d few)) (moved_same t c.shape back c.leg few)

  legs_back : (b : ℕ) → b < leg_count u → leg_at u b ≡ leg_at (moved t back) b
  legs_back b h =
      let s = c.shape.sized in
      let l : b < leg_count t = omega (arith, same_legs t u m s d.words) in
      ⊎_elim
      (λ (e : b ≡ m). subst (λ (i : ℕ). leg_at u i ≡ leg_at (moved t back) i) (sym e)
      (leg_is (leg_at u m) (leg_at (moved t back) m) (from_other.leg_stream m (omega arith)) (from_other.leg_link m (omega arith))
      (sym (moved_offset t s back c.leg)) (sym (moved_periods t s back c.leg))))
      (λ (n : b ≡ m → ⊥). sym (moved_other t s back c.leg b l n ∙ other_legs t u m s d b l n))
      (eq_or_ne b m)

  premise_from_same : RulesHold u → WasAccepted t m
  premise_from_same r = record { offset = (leg_at u m).offset; periods = (leg_at u m).periods; at_most = few; rules = same_rules u (moved t back) w from_other legs_back r }

-- SameButLeg from one table to the next.
one_move : (t : List ℕ) (mv : Move) → Sized t → mv.leg < leg_count t → SameButLeg t (moved t mv) mv.leg
one_move t mv s h = record { long = sym (moved_length t s mv h); words = moved_words t s mv h }

same_place : (t u : List ℕ) (m : ℕ) → Sized t → SameButLeg t u m → leg_start t ≡ leg_start u
same_place t u m s d = omega (arith, same_links t u m s d.words, same_streams t u m s d.words)

same_back : (t u : List ℕ) (m : ℕ) → Sized t → SameButLeg t u m → SameButLeg u t m
same_back t u m s d = record {
  long = sym d.long;
  words = λ i h r o p. sym (d.words i (omega (arith, d.long)) r (λ e. o (omega (arith, e, same_place t u m s d))) (λ e. p (omega (arith, e, same_place t u m s d))));
}

same_on : (t u v : List ℕ) (m : ℕ) → Sized t → SameButLeg t u m → SameButLeg u v m → SameButLeg t v m
same_on t u v m s d f = record {
  long = d.long ∙ f.long;
  words = λ i h r o p.
      d.words i h r o p
      ∙ f.words i (omega (arith, d.long)) r (λ e. o (omega (arith, e, same_place t u m s d))) (λ e. p (omega (arith, e, same_place t u m s d)));
}

was_accepted : (t : List ℕ) (m : ℕ) → CanRecheck t m → WasAccepted t m → (u : List ℕ) × Accepted u × SameButLeg t u m
was_accepted t m c was =
    let mv : Move = move_to m was.offset was.periods in (
      moved t mv,
      record { shape = moves_keep_shape t (moved t mv) (moved_same t c.shape mv c.leg was.at_most) c.shape; rules = was.rules },
      one_move t mv c.shape.sized c.leg,
    )

module _ (t : List ℕ) (mv : Move) (w : WellFormedTable t) (can : CanMove t mv) where
  moved_can : CanRecheck (moved t mv) mv.leg
  moved_can = record { shape = shape_moved w can; leg = omega (arith, legs_moved w can, can.below) }

  from_moved : SameButLeg (moved t mv) t mv.leg
  from_moved = same_back t (moved t mv) mv.leg w.sized (one_move t mv w.sized can.below)

pub premise_is_kept : PremiseIsKept
premise_is_kept = record {
  same = λ t u m c d a. premise_from_same t u m c d a.shape a.rules;
  back = was_accepted;
  after_move = λ t mv a can. premise_from_same (moved t mv) t mv.leg (moved_can t mv a.shape can) (from_moved t mv a.shape can) a.shape a.rules;
  moved_again = λ t mv w was can.
      let u = was_accepted t mv.leg (record { shape = w; leg = can.below }) was in
      premise_from_same (moved t mv) u.0 mv.leg (moved_can t mv w can)
      (same_on (moved t mv) t u.0 mv.leg (shape_moved w can).sized (from_moved t mv w can) u.2) u.1.shape u.1.rules;
}
