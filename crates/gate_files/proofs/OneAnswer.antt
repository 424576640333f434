-- Reading and writing list files have one answer. No row of numbers is longer than one up to the end of the bytes, so a file is that of one list, and no
-- number of it is due.
-- Assumes nothing.
use Prim.Native.Nat.{ℕ, ◌≤◌, ◌<◌}
use mathlib.Core.Path.{◌≡◌, ◌∙◌, sym, ap}
use mathlib.Core.List.{List}
use mathlib.Core.Logic.{inl, inr, ⊎_elim}
use lib.ListN.{length, length-append}
use native.Mathlib.Omega.{arith}
use Rattle.basics.specs.Refusals.{OneFault}
use Rattle.basics.proofs.Refusals.{unless_at_one, unless_one, then_one, same_refusal}
use Rattle.basics.proofs.Splits.{lt_or_ge}
use Rattle.basics.specs.declared.Cause.{Cause}
use Rattle.basics.specs.declared.Cause.TheVariants as cause
use Rattle.numbers.specs.Series.{file_of, Row, Laid}
use Rattle.std.specs.Prelude.{Ok, Err}
use Rattle.numbers.proofs.Overlay.{laid_once}
use Rattle.numbers.proofs.Rows.{row_compare, row_same, row_stops, row_inside}
use Rattle.files.specs.Reading.{IsFile, Cut}
use Rattle.files.proofs.OneAnswer.{file_is_row, cut_once}
use Rattle.gate_files.specs.ListFiles.{WholePairs, ListDue, ListUnread, write_list_refusals}
use Rattle.gate_files.specs.Theorems.{ReadListOneAnswer, WriteListOneAnswer}
use Rattle.gate_files.proofs.Counting.{bytes_at_least}

-- No row is longer than one up to the end of the bytes: each number more would have a byte.
longest : {s : List ℕ} {p : ℕ} (vs ws : List ℕ) → Row s 0 vs p → Row s 0 ws (length s) → length vs ≤ length ws
longest vs ws r q =
    ⊎_elim
    (λ (h : length ws < length vs).
    let i = row_compare ws vs q r (omega arith) in
    omega (arith, row_inside vs r, i.2.ends, bytes_at_least i.0, ap length i.1, length-append ws i.0))
    (λ (h : length vs ≤ length ws). h)
    (lt_or_ge (length ws) (length vs))

same_list : {Complete : List ℕ → Type 0} {s ws vs : List ℕ} → IsFile Complete s ws → IsFile Complete s vs → ws ≡ vs
same_list {ws = ws} {vs = vs} f g =
    let r = file_is_row f in
    let q = file_is_row g in
    (row_same ws vs r q (omega (arith, longest ws vs r q, longest vs ws q r))).0

-- No number is due after a list.
not_due : {s ws : List ℕ} → IsFile WholePairs s ws → ListDue s ws → ⊥
not_due f (inl half) = half f.complete
not_due f (inr left) = omega (arith, ap length f.bytes)

list_not_cut : {s ws : List ℕ} {k : Cause} {p : ℕ} → IsFile WholePairs s ws → Cut (ListDue s) s k p → ⊥
list_not_cut {s} {ws} {k} f c =
    let r = file_is_row f in
    let e = (row_same c.ws ws c.row r (omega (arith, longest c.ws ws c.row r, row_stops c.ws ws k c.row c.no_number r))).0 in
    not_due f (rw e at c.due)

unread_one : (s : List ℕ) (room : ℕ) (k : Cause) (p : ℕ) (l : Cause) (q : ℕ) → ListUnread s room k p → ListUnread s room l q → (k ≡ l) × (p ≡ q)
unread_one s room k p l q (inl c) (inl d) = cut_once c d
unread_one s room k p l q (inl c) (inr (e, f, t)) = absurd (list_not_cut t.file c)
unread_one s room k p l q (inr (e, f, t)) (inl c) = absurd (list_not_cut t.file c)
unread_one s room k p l q (inr (e, f, t)) (inr (e', f', t')) = (e ∙ sym e', f ∙ sym f')

-- A list file that has room is not refused.
list_read : {s ws b b' : List ℕ} {n p : ℕ} {k : Cause} → IsFile WholePairs s ws → Laid b 0 ws n b' → ListUnread s (length b) k p → ⊥
list_read f l (inl c) = list_not_cut f c
list_read f l (inr (e, g, t)) = omega (arith, ap length (same_list f t.file), t.long, l.count, l.room)

pub read_list_one_answer : ReadListOneAnswer
read_list_one_answer s b b' b'' (Ok n) (Ok m) (ws, f, l) (vs, g, k) =
    let e = laid_once l (rw (same_list g f) at k) in
    let e0 = e.0 in
    (cc, e.1)
read_list_one_answer s b b' b'' (Ok n) (Err d) (ws, f, l) (u, g) = absurd (list_read f l u)
read_list_one_answer s b b' b'' (Err d) (Ok n) (u, g) (ws, f, l) = absurd (list_read f l u)
read_list_one_answer s b b' b'' (Err d) (Err e) (u, g) (w, h) =
    let o = unread_one s _ d.cause d.at e.cause e.at u w in
    (same_refusal o.0 o.1, g ∙ sym h)

write_one : (ws : List ℕ) (room : ℕ) → OneFault (write_list_refusals ws room)
write_one ws room = then_one (unless_at_one cause.BytesEnd (length (file_of ws)) _) (unless_one cause.NoRoom _)

list_written : (ws b b' : List ℕ) (n : ℕ) (k : Cause) (p : ℕ) → WholePairs ws → Laid b 0 (file_of ws) n b' → (write_list_refusals ws (length b)).Fault k p → ⊥
list_written ws b b' n k p w l f = (write_one ws (length b)).none (w, omega (arith, l.count, l.room)) f

pub write_list_one_answer : WriteListOneAnswer
write_list_one_answer ws b b' b'' (Ok n) (Ok m) (w, l) (v, k) = let e = laid_once l k in let e0 = e.0 in (cc, e.1)
write_list_one_answer ws b b' b'' (Ok n) (Err d) (w, l) (u, g) = absurd (list_written ws b b' n d.cause d.at w l u)
write_list_one_answer ws b b' b'' (Err d) (Ok n) (u, g) (w, l) = absurd (list_written ws b b'' n d.cause d.at w l u)
write_list_one_answer ws b b' b'' (Err d) (Err e) (u, g) (v, h) = let o = (write_one ws _).one u v in (same_refusal o.0 o.1, g ∙ sym h)
