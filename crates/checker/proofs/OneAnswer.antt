-- Start, slice and move have one answer. A violated place is passed by no other answer, and where two slices stopped is one place.
-- Assumes nothing.
use Prim.Native.Nat.{ℕ, ◌≤◌, ◌<◌}
use mathlib.Core.Path.{◌≡◌, ◌∙◌, sym, ap}
use mathlib.Core.List.{List}
use mathlib.Core.Logic.{inl, inr, ⊎_elim}
use native.Mathlib.Nat.{eq-or-lt_of_le}
use native.Mathlib.Omega.{arith}
use Rattle.std.specs.Prelude.{Ok, Err}
use Rattle.basics.specs.Refusals.{OneFault}
use Rattle.basics.specs.declared.Cause.{Cause}
use Rattle.basics.specs.declared.Cause.TheVariants as cause
use Rattle.basics.specs.declared.Refusal.{Refusal}
use Rattle.basics.proofs.Refusals.{unless_one, then_one, called_one}
use Rattle.basics.proofs.Splits.{lt_or_ge}
use Rattle.table.specs.Layout.{leg_count}
use Rattle.table.specs.declared.Move.{Move}
use Rattle.files.specs.declared.Cursor.{Cursor}
use Rattle.files.specs.declared.Returned.{Returned}
use Rattle.shape.proofs.OneShape.{shape_one, well_no_fault}
use Rattle.rules.specs.Places.{rule_at}
use Rattle.rules.specs.declared.Rule.{Rule}
use Rattle.places.specs.Order.{places_below, PlaceOrEnd}
use Rattle.places.proofs.Ranks.{end_rank, place_rank, rank_is_one}
use Rattle.checker.specs.Cursors.{cursor_rank, CursorRight, CursorFault, cursor_refusals}
use Rattle.checker.specs.Slices.{Went, Violates, Ends, Pauses}
use Rattle.checker.specs.Moves.{AtTheLesser, MoveAllowed, MoveFault, move_refusals}
use Rattle.checker.specs.Theorems.{StartOneAnswer, SliceOneAnswer, MoveOneAnswer}
use Rattle.checker.specs.declared.SliceAnswer.TheVariants as answer

-- Each refusal speaks where those before it are clear.
pub cursor_one : (t : List ℕ) (c : Cursor) → OneFault (cursor_refusals t c)
cursor_one t c =
    called_one
    (then_one (shape_one t) (then_one (unless_one cause.StaleCursor _) (unless_one cause.NoPlace _)))
    (λ r. (r.shape, (r.revision, r.stands)))

pub move_one : (t : List ℕ) (c : Cursor) (mv : Move) → OneFault (move_refusals t c mv)
move_one t c mv =
    called_one
    (then_one (cursor_one t c) (then_one (unless_one cause.NoLeg _) (then_one (unless_one cause.CannotRise _) (unless_one cause.TooLate _))))
    (λ m. (m.cursor, (m.can.below, (m.can.rises, m.can.periods))))

-- Two refusals of the same cause at the same position, and what is returned with them.
same_refusal : {d e : Refusal} → d.cause ≡ e.cause → d.at ≡ e.at → d ≡ e
same_refusal {d} {e} c a =
    let x : ◌≡◌ {A = Refusal} (record { cause = d.cause; at = d.at }) (record { cause = e.cause; at = e.at }) = cc in
    x

same_returned : {d e : Returned} → d.refusal ≡ e.refusal → d.cursor ≡ e.cursor → d ≡ e
same_returned {d} {e} r c =
    let x : ◌≡◌ {A = Returned} (record { refusal = d.refusal; cursor = d.cursor }) (record { refusal = e.refusal; cursor = e.cursor }) = cc in
    x

pub start_one_answer : StartOneAnswer
start_one_answer t (Ok d) (Ok e) p q = ap Ok (p.1 ∙ sym q.1)
start_one_answer t (Ok d) (Err e) w f = absurd (well_no_fault w.0 f.0)
start_one_answer t (Err d) (Ok e) f w = absurd (well_no_fault w.0 f.0)
start_one_answer t (Err d) (Err e) f g =
    let x = (shape_one t).one f.0 g.0 in
    ap Err (same_returned (same_refusal x.0 x.1) (f.1 ∙ sym g.1))

-- Two cursors of the same numbers.
same_numbers : (d e : Cursor) → d.revision ≡ e.revision → d.leg ≡ e.leg → d.place ≡ e.place → d ≡ e
same_numbers d e r l p =
    let x : ◌≡◌ {A = Cursor} (record { revision = d.revision; leg = d.leg; place = d.place }) (record { revision = e.revision; leg = e.leg; place = e.place }) = cc in
    x

-- Two cursors at one place.
pub one_cursor : {t : List ℕ} {d e : Cursor} → d.revision ≡ e.revision → PlaceOrEnd t d.leg d.place → PlaceOrEnd t e.leg e.place → cursor_rank d ≡ cursor_rank e → d ≡ e
one_cursor {d = d} {e = e} r s u h =
    let x = rank_is_one d.leg d.place e.leg e.place s u h in
    same_numbers d e r x.0 x.1

-- Two lessers of two places are one: each is one of the two, and no greater than the other.
not_greater : {c d e : Cursor} {leg : ℕ} → AtTheLesser c leg d → AtTheLesser c leg e → cursor_rank d ≤ cursor_rank e
not_greater a b =
    ⊎_elim
    (λ x. let m = ap places_below x.0 in omega (arith, a.given, x.1))
    (λ x. let m = ap places_below x.0 in omega (arith, a.to_leg, x.1))
    b.one

module _ {t : List ℕ} {c : Cursor} where
  pub right_no_fault : {k : Cause} {p : ℕ} → CursorRight t c → CursorFault t c k p → ⊥
  right_no_fault r f = (cursor_one t c).none r f

  -- No answer passes a violated place.
  not_past : {b m n : ℕ} {d e : Cursor} {r : Rule} → Went t c d n → Violates t c b e m r → cursor_rank e < cursor_rank d → ⊥
  not_past {e = e} w v h = v.broken (w.held e.leg e.place v.place (omega (arith, v.went.steps)) h)

  one_went : {d e : Cursor} {m n : ℕ} → Went t c d m → Went t c e n → PlaceOrEnd t d.leg d.place → PlaceOrEnd t e.leg e.place → cursor_rank d ≡ cursor_rank e → (d ≡ e) × (m ≡ n)
  one_went v w s u h = (one_cursor (v.revision ∙ sym w.revision) s u h, omega (arith, v.steps, w.steps))

  module _ {b : ℕ} where
    violated_one : {d e : Cursor} {m n : ℕ} {r s : Rule} → Violates t c b d m r → Violates t c b e n s → (d ≡ e) × ((m ≡ n) × (r ≡ s))
    violated_one {d} {e} v w =
        ⊎_elim
        (λ (h : cursor_rank d < cursor_rank e). absurd (not_past w.went v h))
        (λ (h : cursor_rank e ≤ cursor_rank d).
        ⊎_elim
        (λ (q : cursor_rank e ≡ cursor_rank d).
        let x = one_went v.went w.went (inl v.place) (inl w.place) (sym q) in
        (x.0, (omega (arith, x.1, v.steps, w.steps), v.rule ∙ ap (λ (z : Cursor). rule_at z.place) x.0 ∙ sym w.rule)))
        (λ (g : cursor_rank e < cursor_rank d). absurd (not_past v.went w g))
        (eq-or-lt_of_le h))
        (lt_or_ge (cursor_rank d) (cursor_rank e))

    violated_not_ended : {d e : Cursor} {m n : ℕ} {r : Rule} → Violates t c b d m r → Ends t c b e n → ⊥
    violated_not_ended v w = not_past w.went v (omega (arith, place_rank v.place, end_rank w.end))

    violated_not_paused : {d e : Cursor} {m n : ℕ} {r : Rule} → Violates t c b d m r → Pauses t c b e n → ⊥
    violated_not_paused v w = not_past w.went v (omega (arith, v.went.steps, v.steps, v.within, w.went.steps, w.used))

    ended_not_paused : {d e : Cursor} {m n : ℕ} → Ends t c b d m → Pauses t c b e n → ⊥
    ended_not_paused v w = omega (arith, v.went.steps, v.within, end_rank v.end, w.went.steps, w.used, place_rank w.place)

pub slice_one_answer : SliceOneAnswer
slice_one_answer t c b (answer.Violated d m r) (answer.Violated e n s) v w =
    let x = violated_one v.1 w.1 in
    let x0 = x.0 in
    let x1 = x.1.0 in
    let x2 = x.1.1 in
    cc
slice_one_answer t c b (answer.Violated d m r) (answer.NothingViolated e n) v w = absurd (violated_not_ended v.1 w.1)
slice_one_answer t c b (answer.Violated d m r) (answer.Paused e n) v w = absurd (violated_not_paused v.1 w.1)
slice_one_answer t c b (answer.Violated d m r) (answer.Refused l e) v f = absurd (right_no_fault v.0 f.0)
slice_one_answer t c b (answer.NothingViolated d m) (answer.Violated e n s) v w = absurd (violated_not_ended w.1 v.1)
slice_one_answer t c b (answer.NothingViolated d m) (answer.NothingViolated e n) v w =
    let x = one_went v.1.went w.1.went (inr v.1.end) (inr w.1.end) (omega (arith, end_rank v.1.end, end_rank w.1.end)) in
    let x0 = x.0 in
    let x1 = x.1 in
    cc
slice_one_answer t c b (answer.NothingViolated d m) (answer.Paused e n) v w = absurd (ended_not_paused v.1 w.1)
slice_one_answer t c b (answer.NothingViolated d m) (answer.Refused l e) v f = absurd (right_no_fault v.0 f.0)
slice_one_answer t c b (answer.Paused d m) (answer.Violated e n s) v w = absurd (violated_not_paused w.1 v.1)
slice_one_answer t c b (answer.Paused d m) (answer.NothingViolated e n) v w = absurd (ended_not_paused w.1 v.1)
slice_one_answer t c b (answer.Paused d m) (answer.Paused e n) v w =
    let y : cursor_rank d ≡ cursor_rank e = omega (arith, v.1.went.steps, v.1.used, w.1.went.steps, w.1.used) in
    let x = one_went v.1.went w.1.went (inl v.1.place) (inl w.1.place) y in
    let x0 = x.0 in
    let x1 = x.1 in
    cc
slice_one_answer t c b (answer.Paused d m) (answer.Refused l e) v f = absurd (right_no_fault v.0 f.0)
slice_one_answer t c b (answer.Refused k d) (answer.Violated e n s) f w = absurd (right_no_fault w.0 f.0)
slice_one_answer t c b (answer.Refused k d) (answer.NothingViolated e n) f w = absurd (right_no_fault w.0 f.0)
slice_one_answer t c b (answer.Refused k d) (answer.Paused e n) f w = absurd (right_no_fault w.0 f.0)
slice_one_answer t c b (answer.Refused k d) (answer.Refused l e) f g =
    let x = (cursor_one t c).one f.0 g.0 in
    let x0 : k ≡ l = same_refusal x.0 x.1 in
    let y = f.1 ∙ sym g.1 in
    cc

module _ {t : List ℕ} {c : Cursor} {leg : ℕ} where
  -- The lesser of two places stands where one of them does.
  pub lesser_stands : {d : Cursor} → CursorRight t c → leg < leg_count t → AtTheLesser c leg d → PlaceOrEnd t d.leg d.place
  lesser_stands r h a =
      ⊎_elim
      (λ e. rw (e.0, e.1) r.stands)
      (λ e. inl (record { leg = omega (arith, e.0); place = omega (arith, e.1) }))
      a.one

  moved_cursor_one : {d e : Cursor} → CursorRight t c → leg < leg_count t → d.revision ≡ e.revision → AtTheLesser c leg d → AtTheLesser c leg e → d ≡ e
  moved_cursor_one {d} {e} r h q a b =
      one_cursor q (lesser_stands r h a) (lesser_stands r h b) (omega (arith, not_greater a b, not_greater b a))

pub move_no_fault : {t : List ℕ} {c : Cursor} {mv : Move} {k : Cause} {p : ℕ} → MoveAllowed t c mv → MoveFault t c mv k p → ⊥
move_no_fault {t} {c} {mv} m f = (move_one t c mv).none m f

pub move_one_answer : MoveOneAnswer
move_one_answer t c mv (Ok d) (Ok e) u v p q = (
  ap Ok (moved_cursor_one p.allowed.cursor p.allowed.can.below (p.revision ∙ sym q.revision) p.lesser q.lesser),
  p.table ∙ sym q.table,
)
move_one_answer t c mv (Ok d) (Err e) u v m f = absurd (move_no_fault m.allowed f.0)
move_one_answer t c mv (Err d) (Ok e) u v f m = absurd (move_no_fault m.allowed f.0)
move_one_answer t c mv (Err d) (Err e) u v f g =
    let x = (move_one t c mv).one f.0 g.0 in
    (ap Err (same_returned (same_refusal x.0 x.1) (f.1 ∙ sym g.1)), f.2 ∙ sym g.2)
