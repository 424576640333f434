-- Reading and writing have one answer. Of two rows in one file the longer goes on where the shorter ends, so a number that is cut short, a
-- header that passes a limit and a whole table exclude each other.
-- Assumes nothing.
use Prim.Native.Nat.{ℕ, ◌≤◌, ◌<◌}
use mathlib.Core.Path.{◌≡◌, refl, ◌∙◌, sym, ap}
use mathlib.Core.List.{List, ◌++◌}
use mathlib.Core.Logic.{inl, inr, ⊎_elim}
use lib.ListN.{length, take, length-append}
use lib.Seq.{length-take-le}
use native.Mathlib.Omega.{arith}
use Rattle.basics.specs.Refusals.{OneFault}
use Rattle.basics.specs.Cause.{refused}
use Rattle.basics.proofs.Refusals.{unless_one, then_one, same_refusal}
use Rattle.basics.specs.declared.Cause.{Cause}
use Rattle.basics.specs.declared.Cause.TheVariants as cause
use Rattle.numbers.specs.Series.{file_of, Row, Laid}
use Rattle.basics.proofs.Splits.{lt_or_ge}
use Rattle.numbers.proofs.OneNumber.{refused_once}
use Rattle.numbers.proofs.Overlay.{laid_once, laid_fits, too_small_once, overlaid_taken, overlaid_length}
use Rattle.numbers.proofs.Rows.{row_compare, row_same, row_stops, file_row}
use Rattle.table.specs.Layout.{current, head_words, words_in, LimitsIn, SizedIn, Sized}
use Rattle.table.specs.declared.Edition.{Edition}
use Rattle.table.proofs.Headers.{header_in_front, limits_same, words_same, same_header_back}
use Rattle.table.proofs.Sizes.{size_one, table_words_at_most}
use Rattle.files.specs.Reading.{IsFile, Cut, Over}
use Rattle.files.specs.Plan.{PlanDueIn, HeaderAboveIn, PlanFaultIn, PlanUnreadIn, InFront, as_it_stands, write_refusals}
use Rattle.files.specs.Cursors.{cursor_words, CursorDue, CursorComplete, ReadsCursor}
use Rattle.files.specs.Theorems.{ReadPlanInOneAnswer, ReadPlanOneAnswer, TakePlanOneAnswer, ReadingTakes, WritePlanOneAnswer, ReadCursorOneAnswer, WriteCursorOneAnswer}
use Rattle.std.specs.Prelude.{Ok, Err}
use Rattle.files.specs.declared.Cursor.{Cursor}

-- A file is a row of its words.
pub file_is_row : {Complete : List ℕ → Type 0} {s ws : List ℕ} → IsFile Complete s ws → Row s 0 ws (length s)
file_is_row {s = s} {ws = ws} f = rw f.bytes (file_row ws f.words)

-- Two numbers that are cut short are one, with one refusal.
pub cut_once : {Due : List ℕ → Type 0} {s : List ℕ} {k l : Cause} {p q : ℕ} → Cut Due s k p → Cut Due s l q → (k ≡ l) × (p ≡ q)
cut_once {s = s} {k = k} {l = l} {p = p} {q = q} c d =
    let a = row_stops c.ws d.ws k c.row c.no_number d.row in
    let b = row_stops d.ws c.ws l d.row d.no_number c.row in
    let e = (row_same c.ws d.ws c.row d.row (omega arith)).1 in
    (refused_once s p k l c.no_number (rw e d.no_number), e)

-- What stands in front of a number that is cut short begins with any other row.
cut_after : {Due : List ℕ → Type 0} {s : List ℕ} {k : Cause} {p next : ℕ} (c : Cut Due s k p) (ws : List ℕ) → Row s 0 ws next → (us : List ℕ) × (c.ws ≡ ws ++ us)
cut_after {k = k} c ws r =
    let i = row_compare ws c.ws r c.row (row_stops c.ws ws k c.row c.no_number r) in
    (i.0, i.1)

-- No number of a whole table is due.
sized_not_due : {v : Edition} (t us : List ℕ) → SizedIn v t → PlanDueIn v (t ++ us) → ⊥
sized_not_due {v} t us z (inl h) = omega (arith, length-append t us, z.head)
sized_not_due {v} t us z (inr (l, d)) = omega (arith, length-append t us, words_same v (header_in_front t us z.head), z.exact)

-- A header that passes a limit is the end of the file.
above_not_due : {v : Edition} (h us : List ℕ) → length h ≡ head_words → (LimitsIn v h → ⊥) → PlanDueIn v (h ++ us) → ⊥
above_not_due {v} h us f a (inl e) = omega (arith, length-append h us)
above_not_due {v} h us f a (inr (l, d)) = a (limits_same v (same_header_back (header_in_front h us (omega arith))) l)

cut_table : {v : Edition} {s : List ℕ} {k : Cause} {p next : ℕ} (t : List ℕ) → SizedIn v t → Row s 0 t next → Cut (PlanDueIn v) s k p → ⊥
cut_table t z r c = let i = cut_after c t r in sized_not_due t i.0 z (rw i.1 at c.due)

cut_above : {v : Edition} {s : List ℕ} {k : Cause} {p : ℕ} → HeaderAboveIn v s → Cut (PlanDueIn v) s k p → ⊥
cut_above a c = let i = cut_after c a.head a.row in above_not_due a.head i.0 a.five a.above (rw i.1 at c.due)

above_table : {v : Edition} {s : List ℕ} {next : ℕ} (t : List ℕ) → SizedIn v t → Row s 0 t next → HeaderAboveIn v s → ⊥
above_table {v} t z r a =
    let i = row_compare a.head t a.row r (omega (arith, a.five, z.head)) in
    let l = rw i.1 at z.limits in
    a.above (limits_same v (same_header_back (header_in_front a.head i.0 (omega (arith, a.five)))) l)

-- Of two whole tables in one file neither is longer.
not_longer : {v : Edition} {s : List ℕ} {a b : ℕ} (t u : List ℕ) → SizedIn v t → SizedIn v u → Row s 0 t a → Row s 0 u b → length t ≤ length u → length t ≡ length u
not_longer {v} t u z y r q h =
    let i = row_compare t u r q h in
    let e : u ≡ t ++ i.0 = i.1 in
    let w : words_in v t ≡ words_in v u = words_same v (header_in_front t i.0 z.head) ∙ ap (words_in v) (sym e) in
    omega (arith, z.exact, y.exact)

same_table : {v : Edition} {s : List ℕ} {a b : ℕ} (t u : List ℕ) → SizedIn v t → SizedIn v u → Row s 0 t a → Row s 0 u b → (t ≡ u) × (a ≡ b)
same_table t u z y r q =
    ⊎_elim
    (λ (h : length t < length u). row_same t u r q (not_longer t u z y r q (omega arith)))
    (λ (h : length u ≤ length t). row_same t u r q (sym (not_longer u t y z q r h)))
    (lt_or_ge (length t) (length u))

-- After the file of a table nothing is left over.
over_file : {v : Edition} {s : List ℕ} {p : ℕ} {t : List ℕ} → Over (SizedIn v) s p → IsFile (SizedIn v) s t → ⊥
over_file {t = t} o f =
    let e = (same_table o.ws t o.complete f.complete o.row (file_is_row f)).1 in
    omega (arith, o.left_over_lem)

-- What is wrong with a plan file is one thing, and nothing where it is the file of a table.
pub plan_fault_one : {v : Edition} (s : List ℕ) (k : Cause) (p : ℕ) (l : Cause) (q : ℕ) → PlanFaultIn v s k p → PlanFaultIn v s l q → (k ≡ l) × (p ≡ q)
plan_fault_one s k p l q (inl c) (inl d) = cut_once c d
plan_fault_one s k p l q (inl c) (inr (inl (e, f, h))) = absurd (cut_above h c)
plan_fault_one s k p l q (inl c) (inr (inr (e, o))) = absurd (cut_table o.ws o.complete o.row c)
plan_fault_one s k p l q (inr (inl (e, f, h))) (inl c) = absurd (cut_above h c)
plan_fault_one s k p l q (inr (inl (e, f, h))) (inr (inl (e', f', h'))) = (e ∙ sym e', f ∙ sym f')
plan_fault_one s k p l q (inr (inl (e, f, h))) (inr (inr (e', o))) = absurd (above_table o.ws o.complete o.row h)
plan_fault_one s k p l q (inr (inr (e, o))) (inl c) = absurd (cut_table o.ws o.complete o.row c)
plan_fault_one s k p l q (inr (inr (e, o))) (inr (inl (e', f', h))) = absurd (above_table o.ws o.complete o.row h)
plan_fault_one s k p l q (inr (inr (e, o))) (inr (inr (e', o'))) = (e ∙ sym e', (same_table o.ws o'.ws o.complete o'.complete o.row o'.row).1)

pub file_no_fault : {v : Edition} {s t : List ℕ} {k : Cause} {p : ℕ} → IsFile (SizedIn v) s t → PlanFaultIn v s k p → ⊥
file_no_fault {t = t} f (inl c) = cut_table t f.complete (file_is_row f) c
file_no_fault {t = t} f (inr (inl (e, g, h))) = above_table t f.complete (file_is_row f) h
file_no_fault f (inr (inr (e, o))) = over_file o f

pub same_file : {v : Edition} {s t u : List ℕ} → IsFile (SizedIn v) s t → IsFile (SizedIn v) s u → t ≡ u
same_file {t = t} {u = u} f g = (same_table t u f.complete g.complete (file_is_row f) (file_is_row g)).0

unread_one : {v : Edition} {given : List ℕ → List ℕ} (s : List ℕ) (room : ℕ) (k : Cause) (p : ℕ) (l : Cause) (q : ℕ) → PlanUnreadIn v given s room k p → PlanUnreadIn v given s room l q → (k ≡ l) × (p ≡ q)
unread_one s room k p l q (inl f) (inl g) = plan_fault_one s k p l q f g
unread_one s room k p l q (inl f) (inr (e, g, t)) = absurd (file_no_fault t.file f)
unread_one s room k p l q (inr (e, g, t)) (inl f) = absurd (file_no_fault t.file f)
unread_one s room k p l q (inr (e, g, t)) (inr (e', g', t')) = (e ∙ sym e', g ∙ sym g')

-- A file of a table that has room is not refused.
file_read : {v : Edition} {given : List ℕ → List ℕ} {s t b b' : List ℕ} {n p : ℕ} {k : Cause} → IsFile (SizedIn v) s t → Laid b 0 (given t) n b' → PlanUnreadIn v given s (length b) k p → ⊥
file_read f l (inl g) = file_no_fault f g
file_read {given = given} f l (inr (e, g, u)) = omega (arith, ap (λ (w : List ℕ). length (given w)) (same_file f u.file), u.long, l.count, l.room)

pub read_plan_in_one_answer : ReadPlanInOneAnswer
read_plan_in_one_answer v given s b b' b'' (Ok n) (Ok m) (t, f, l) (u, g, k) =
    let e = laid_once l (rw (same_file g f) at k) in
    let e0 = e.0 in
    (cc, e.1)
read_plan_in_one_answer v given s b b' b'' (Ok n) (Err d) (t, f, l) (u, g) = absurd (file_read f l u)
read_plan_in_one_answer v given s b b' b'' (Err d) (Ok n) (u, g) (t, f, l) = absurd (file_read f l u)
read_plan_in_one_answer v given s b b' b'' (Err d) (Err e) (u, g) (w, h) =
    let o = unread_one s _ d.cause d.at e.cause e.at u w in
    (same_refusal o.0 o.1, g ∙ sym h)

pub read_plan_one_answer : ReadPlanOneAnswer
read_plan_one_answer = read_plan_in_one_answer current as_it_stands

-- A table in front has as many words as are told.
front_length : {s w : List ℕ} {n : ℕ} (f : InFront s n w) → n ≡ length f.table
front_length {w = w} {n = n} f = sym (length-take-le n w f.inside) ∙ ap length f.is

pub take_plan_one_answer : TakePlanOneAnswer
take_plan_one_answer s w w' (Ok n) (Ok m) f g =
    let same = same_file f.file g.file in
    let e : n ≡ m = front_length f ∙ ap length same ∙ sym (front_length g) in
    (ap Ok e, λ k h. let q : n ≡ k = cc in rw (← q) (f.is ∙ same ∙ sym g.is ∙ ap (λ (i : ℕ). take i w') (sym e)))
take_plan_one_answer s w w' (Ok n) (Err d) f g = absurd (file_no_fault f.file g)
take_plan_one_answer s w w' (Err d) (Ok n) f g = absurd (file_no_fault g.file f)
take_plan_one_answer s w w' (Err d) (Err e) f g =
    let o = plan_fault_one s d.cause d.at e.cause e.at f g in
    (same_refusal o.0 o.1, λ n h. absurd (cc))

pub reading_takes : ReadingTakes
reading_takes s b b' (Ok n) room (t, f, l) = record {
  table = t;
  file = f;
  is = ap (λ (m : ℕ). take m b') l.count ∙ ap (take (length t)) l.after ∙ overlaid_taken b t;
  inside = omega (arith, l.room, ap length l.after, overlaid_length b 0 t (omega (arith, l.room, l.count)));
}
reading_takes s b b' (Err d) room (inl f, h) = f
reading_takes s b b' (Err d) room (inr x, h) = absurd (omega (arith, x.2.long, table_words_at_most.1 x.2.table x.2.file.complete))

pub write_one : (t : List ℕ) (room : ℕ) → OneFault (write_refusals t room)
write_one t room = then_one (size_one t) (unless_one cause.NoRoom _)

table_written : (t b b' : List ℕ) (n : ℕ) (k : Cause) (p : ℕ) → Sized t → Laid b 0 (file_of t) n b' → (write_refusals t (length b)).Fault k p → ⊥
table_written t b b' n k p z l f = (write_one t (length b)).none (z, omega (arith, l.count, l.room)) f

pub write_plan_one_answer : WritePlanOneAnswer
write_plan_one_answer t b b' b'' (Ok n) (Ok m) (z, l) (y, k) = let e = laid_once l k in let e0 = e.0 in (cc, e.1)
write_plan_one_answer t b b' b'' (Ok n) (Err d) (z, l) (u, g) = absurd (table_written t b b' n d.cause d.at z l u)
write_plan_one_answer t b b' b'' (Err d) (Ok n) (u, g) (z, l) = absurd (table_written t b b'' n d.cause d.at z l u)
write_plan_one_answer t b b' b'' (Err d) (Err e) (u, g) (v, h) = let o = (write_one t _).one u v in (same_refusal o.0 o.1, g ∙ sym h)

-- No number of a whole cursor is due, and after its file nothing is left over.
cut_cursor : {s : List ℕ} {k : Cause} {p next : ℕ} (ws : List ℕ) → CursorComplete ws → Row s 0 ws next → Cut CursorDue s k p → ⊥
cut_cursor ws w r c = let i = cut_after c ws r in omega (arith, ap length i.1, length-append ws i.0, c.due)

over_cursor : {s : List ℕ} {p : ℕ} {ws : List ℕ} → Over CursorComplete s p → IsFile CursorComplete s ws → ⊥
over_cursor {ws = ws} o f =
    let e = (row_same o.ws ws o.row (file_is_row f) (o.complete ∙ sym f.complete)).1 in
    omega (arith, o.left_over_lem)

cursor_read : {s : List ℕ} {k : Cause} {p : ℕ} (c : Cursor) → IsFile CursorComplete s (cursor_words c) → ReadsCursor s (refused k p) → ⊥
cursor_read c f (inl d) = cut_cursor (cursor_words c) f.complete (file_is_row f) d
cursor_read c f (inr (e, o)) = over_cursor o f

-- A cursor is its three words.
same_cursor : (c d : Cursor) → cursor_words c ≡ cursor_words d → c ≡ d
same_cursor c d e =
    let r : c.revision ≡ d.revision = cc in
    let l : c.leg ≡ d.leg = cc in
    let p : c.place ≡ d.place = cc in
    λ i. record { revision = r i; leg = l i; place = p i }

pub read_cursor_one_answer : ReadCursorOneAnswer
read_cursor_one_answer s (Ok c) (Ok d) f g =
    ap Ok (same_cursor c d (row_same (cursor_words c) (cursor_words d) (file_is_row f) (file_is_row g) refl).0)
read_cursor_one_answer s (Ok c) (Err e) f r = absurd (cursor_read c f r)
read_cursor_one_answer s (Err e) (Ok c) r f = absurd (cursor_read c f r)
read_cursor_one_answer s (Err e) (Err d) (inl c) (inl f) = let o = cut_once c f in same_refusal o.0 o.1
read_cursor_one_answer s (Err e) (Err d) (inl c) (inr (f, o)) = absurd (cut_cursor o.ws o.complete o.row c)
read_cursor_one_answer s (Err e) (Err d) (inr (f, o)) (inl c) = absurd (cut_cursor o.ws o.complete o.row c)
read_cursor_one_answer s (Err e) (Err d) (inr (f, o)) (inr (g, u)) =
    same_refusal (f ∙ sym g) (row_same o.ws u.ws o.row u.row (o.complete ∙ sym u.complete)).1

pub write_cursor_one_answer : WriteCursorOneAnswer
write_cursor_one_answer c b b' b'' (Ok n) (Ok m) l k = let e = laid_once l k in let e0 = e.0 in (cc, e.1)
write_cursor_one_answer c b b' b'' (Ok n) (Err r) l (t, h) = absurd (laid_fits l t)
write_cursor_one_answer c b b' b'' (Err r) (Ok n) (t, h) l = absurd (laid_fits l t)
write_cursor_one_answer c b b' b'' (Err r) (Err r') (t, h) (u, h') =
    let e = too_small_once t u in
    let k = e.0 in
    let p = e.1 in
    let d = h ∙ sym h' in
    (λ i. Err (record { refusal = record { cause = k i; at = p i }; cursor = d i }), e.2)
