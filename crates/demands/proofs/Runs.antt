-- What every run keeps: the table is well-formed, no cursor is of a later revision, and before each cursor of the table's revision all places hold.
-- Assumes nothing.
use Rattle.std.specs.Prelude.{Result, Ok, Err}
use Rattle.files.specs.declared.Returned.{Returned}
use Prim.Native.Nat.{ℕ, ◌+◌, ◌≤◌, ◌<◌}
use mathlib.Core.Path.{◌≡◌, ◌∙◌, sym, ap, subst}
use mathlib.Core.List.{List, [], ◌∷◌}
use mathlib.Core.Logic.{inl, inr, ⊎_elim}
use native.Mathlib.Omega.{arith}
use Rattle.basics.proofs.Splits.{lt_or_ge}
use Rattle.table.specs.Layout.{revision_of}
use Rattle.table.specs.Records.{moved}
use Rattle.table.specs.declared.Move.{Move}
use Rattle.shape.specs.Shape.{WellFormedTable}
use Rattle.shape.proofs.OneShape.{well_no_fault}
use Rattle.files.specs.declared.Cursor.{Cursor}
use Rattle.rules.proofs.Staying.{earlier_places_stay}
use Rattle.places.specs.Order.{IsPlace, IsEnd, PlaceOrEnd, HoldFrom}
use Rattle.places.proofs.Ranks.{below_mono}
use Rattle.checker.specs.Cursors.{cursor_rank, CursorRight}
use Rattle.checker.specs.Slices.{Starts, Slices, Went}
use Rattle.checker.specs.Moves.{CanMove, MoveRight, Moves}
use Rattle.checker.proofs.Moving.{same_but_moved, shape_moved, revision_moved, legs_moved, other_leg}
use Rattle.checker.proofs.OneAnswer.{lesser_stands}
use Rattle.checker.specs.declared.SliceAnswer.{SliceAnswer}
use Rattle.checker.specs.declared.SliceAnswer.TheVariants as answer
use Rattle.demands.specs.Runs.{Call, start, slice, move_leg, cursor_of_grant, cursor_of_answer, cursor_of, HandedOut, Run}
use Rattle.demands.proofs.Verdicts.{all_before}
use Rattle.demands.proofs.DemandTwo.{start_held}

-- A cursor of no later revision, before which all places hold where it is of this one.
pub record Kept (t : List ℕ) (c : Cursor) : Type 0 where
  pub old : c.revision ≤ revision_of t
  pub held : c.revision ≡ revision_of t → HoldFrom t 0 (cursor_rank c)

pub record Keeps (t : List ℕ) (calls : List Call) : Type 0 where
  pub shape : WellFormedTable t
  pub cursors : (c : Cursor) → HandedOut c calls → Kept t c

keeps_more : (t : List ℕ) (call : Call) (earlier : List Call) → Keeps t earlier → Kept t (cursor_of call) → Keeps t (call ∷ earlier)
keeps_more t call earlier i k = record {
  shape = i.shape;
  cursors = λ c out. ⊎_elim (λ (e : c ≡ cursor_of call). subst (Kept t) (sym e) k) (λ (o : HandedOut c earlier). i.cursors c o) out;
}

kept_start : (t : List ℕ) (g : Result Cursor Returned) → WellFormedTable t → Starts t g → Kept t (cursor_of_grant g)
kept_start t (Ok d) w s = record { old = omega (arith, ap (λ (c : Cursor). c.revision) s.1); held = λ e. start_held s }
kept_start t (Err d) w s = absurd (well_no_fault w s.0)

-- A slice goes from its cursor past places that hold.
kept_went : {t : List ℕ} {c d : Cursor} {n : ℕ} → CursorRight t c → Kept t c → Went t c d n → Kept t d
kept_went {t} {c} {d} r k w = record { old = omega (arith, w.revision); held = λ e. all_before t c (k.held r.revision) {d = d} w }

kept_slice : (t : List ℕ) (c : Cursor) (budget : ℕ) (r : SliceAnswer) → Kept t c → Slices t c budget r → Kept t (cursor_of_answer r)
kept_slice t c b (answer.Violated d n r) k s = kept_went s.0 k s.1.went
kept_slice t c b (answer.NothingViolated d n) k s = kept_went s.0 k s.1.went
kept_slice t c b (answer.Paused d n) k s = kept_went s.0 k s.1.went
kept_slice t c b (answer.Refused refusal d) k s = subst (Kept t) (sym s.1) k

-- A granted move: the moved leg comes after every place that the new cursor has passed, and older cursors have an older revision.
module _ (u : List ℕ) (c d : Cursor) (mv : Move) (m : MoveRight u c mv d (moved u mv)) where
  abbrev t : List ℕ
  t = moved u mv

  shape : WellFormedTable u
  shape = m.allowed.cursor.shape

  can : CanMove u mv
  can = m.allowed.can

  higher : revision_of t ≡ revision_of u + 1
  higher = revision_moved shape can

  held_moved : HoldFrom u 0 (cursor_rank c) → HoldFrom t 0 (cursor_rank d)
  held_moved h a p i from below =
      let l = legs_moved shape can in
      let low : a < mv.leg = ⊎_elim (λ (g : a < mv.leg). g) (λ (g : mv.leg ≤ a). absurd (omega (arith, below, m.lesser.to_leg, below_mono mv.leg a g))) (lt_or_ge a mv.leg) in
      let here : IsPlace u a p = record { leg = omega (arith, i.leg); place = i.place } in
      earlier_places_stay u t a p shape (same_but_moved shape can) here.leg i.place
      (λ b le. sym (other_leg shape can b (omega (arith, here.leg)) (λ e. omega (arith, e, low))))
      (h a p here from (omega (arith, below, m.lesser.given)))

  stands_moved : PlaceOrEnd t d.leg d.place
  stands_moved =
      let l = legs_moved shape can in
      ⊎_elim
      (λ (i : IsPlace u d.leg d.place). inl (record { leg = omega (arith, i.leg); place = i.place }))
      (λ (e : IsEnd u d.leg d.place). inr (record { leg = omega (arith, e.leg); place = e.place }))
      (lesser_stands m.allowed.cursor can.below m.lesser)

  pub right_moved : CursorRight t d
  right_moved = record { shape = shape_moved shape can; revision = m.revision ∙ sym higher; stands = stands_moved }

  kept_moved : Kept u c → Kept t d
  kept_moved k = record { old = omega (arith, m.revision, higher); held = λ e. held_moved (k.held m.allowed.cursor.revision) }

  older : (e : Cursor) → Kept u e → Kept t e
  older e k = record { old = omega (arith, k.old, higher); held = λ q. absurd (omega (arith, k.old, higher, q)) }

  keeps_moved : (earlier : List Call) → Keeps u earlier → Kept u c → Keeps t (move_leg c mv (Ok d) ∷ earlier)
  keeps_moved earlier i k =
      keeps_more t (move_leg c mv (Ok d)) earlier (record { shape = shape_moved shape can; cursors = λ e out. older e (i.cursors e out) }) (kept_moved k)

keeps_move : (t u : List ℕ) (c : Cursor) (mv : Move) (g : Result Cursor Returned) (earlier : List Call) → Keeps u earlier → Kept u c → Moves u c mv g t
    → Keeps t (move_leg c mv g ∷ earlier)
keeps_move t u c mv (Ok d) earlier i k m =
    let e = m.table in
    subst (λ (v : List ℕ). Keeps v (move_leg c mv (Ok d) ∷ earlier)) (sym e)
    (keeps_moved u c d mv (subst (MoveRight u c mv d) e m) earlier i k)
keeps_move t u c mv (Err d) earlier i k m =
    subst (λ (v : List ℕ). Keeps v (move_leg c mv (Err d) ∷ earlier)) (sym m.2)
    (keeps_more u (move_leg c mv (Err d)) earlier i (subst (Kept u) (sym m.1) k))

pub run_keeps : (calls : List Call) (t : List ℕ) → Run calls t → Keeps t calls
run_keeps [] t r = absurd r
run_keeps (start (Ok d) ∷ []) t r = record {
  shape = r.0;
  cursors = λ c out. ⊎_elim (λ (e : c ≡ d). subst (Kept t) (sym e) (kept_start t (Ok d) r.0 r)) (λ z. absurd z) out;
}
run_keeps (start (Err d) ∷ []) t r = absurd r
run_keeps (slice c b a ∷ []) t r = absurd r
run_keeps (move_leg c mv g ∷ []) t r = absurd r
run_keeps (start g ∷ call ∷ earlier) t (r, s) =
    let i = run_keeps (call ∷ earlier) t r in
    keeps_more t (start g) (call ∷ earlier) i (kept_start t g i.shape s)
run_keeps (slice c b a ∷ call ∷ earlier) t (r, out, s) =
    let i = run_keeps (call ∷ earlier) t r in
    keeps_more t (slice c b a) (call ∷ earlier) i (kept_slice t c b a (i.cursors c out) s)
run_keeps (move_leg c mv g ∷ call ∷ earlier) t (u, r, out, m) =
    let i = run_keeps (call ∷ earlier) u r in
    keeps_move t u c mv g (call ∷ earlier) i (i.cursors c out) m
