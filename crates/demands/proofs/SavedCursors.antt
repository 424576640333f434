-- A saved cursor is found again whatever bytes come after it: it ends with its third byte below 128. It reads as the cursor that was written. Assumes nothing.
use Rattle.std.specs.Prelude.{Ok}
use Prim.Native.Nat.{ℕ, zero, suc, ◌≤◌, ◌<◌}
use mathlib.Core.Path.{◌≡◌, refl, ◌∙◌, sym, ap}
use mathlib.Core.List.{List, [], ◌∷◌, ◌++◌, append_assoc}
use mathlib.Core.Logic.{inl, inr}
use lib.ListN.{length, drop, get_or}
use native.Mathlib.Omega.{arith}
use borrow.Author.Tests.{lt-ltb, le-ltb}
use Rattle.numbers.specs.Number.{max_word, group_values, bytes_of, GoOn}
use Rattle.numbers.specs.Series.{AllWords, file_of}
use Rattle.numbers.proofs.OneNumber.{word_ended}
use Rattle.numbers.proofs.Overlay.{overlaid_front}
use Rattle.numbers.proofs.Rows.{file_cons, file_none}
use Rattle.table.specs.Layout.{Sized}
use Rattle.files.specs.Cursors.{cursor_words, cursor_file, ReadsCursor}
use Rattle.files.specs.declared.Cursor.{Cursor}
use Rattle.places.specs.Order.{PlaceOrEnd}
use Rattle.host.specs.Answers.{with_cursor}
use Rattle.demands.specs.HostRuns.{up_to_closing, saved_in}

-- A saved cursor is found again in front of any bytes.
closing_more : (n b : ℕ) (bs : List ℕ) → group_values ≤ b → up_to_closing (suc n) (b ∷ bs) ≡ b ∷ up_to_closing (suc n) bs
unfolding up_to_closing
closing_more n b bs h = rw (le-ltb b group_values h)

closing_last : (n b : ℕ) (bs : List ℕ) → b < group_values → up_to_closing (suc n) (b ∷ bs) ≡ b ∷ up_to_closing n bs
unfolding up_to_closing
closing_last n b bs h = rw (lt-ltb b group_values h)

closing_none : (bs : List ℕ) → up_to_closing zero bs ≡ []
unfolding up_to_closing
closing_none [] = refl
closing_none (b ∷ bs) = refl

closing_past : (n : ℕ) (before : List ℕ) (l : ℕ) (rest : List ℕ) → GoOn before → l < group_values
    → up_to_closing (suc n) (before ++ (l ∷ rest)) ≡ before ++ (l ∷ up_to_closing n rest)
closing_past n [] l rest g h = closing_last n l rest h
closing_past n (b ∷ bs) l rest g h = closing_more n b (bs ++ (l ∷ rest)) g.0 ∙ ap (λ (x : List ℕ). b ∷ x) (closing_past n bs l rest g.2 h)

closing_word : (n w : ℕ) (rest : List ℕ) → w ≤ max_word → up_to_closing (suc n) (bytes_of w ++ rest) ≡ bytes_of w ++ up_to_closing n rest
closing_word n w rest h =
    let e = word_ended w h in
    let split : (xs : List ℕ) → bytes_of w ++ xs ≡ e.before ++ (e.last ∷ xs)
    = λ xs. ap (λ (ys : List ℕ). ys ++ xs) e.whole ∙ append_assoc e.before (e.last ∷ []) xs in
    ap (up_to_closing (suc n)) (split rest) ∙ closing_past n e.before e.last rest e.go_on e.closed ∙ sym (split (up_to_closing n rest))

three : (a b c : ℕ) → file_of (a ∷ b ∷ c ∷ []) ≡ bytes_of a ++ (bytes_of b ++ (bytes_of c ++ []))
three a b c =
    file_cons a (b ∷ c ∷ []) ∙ ap (λ (x : List ℕ). bytes_of a ++ x) (file_cons b (c ∷ []) ∙ ap (λ (x : List ℕ). bytes_of b ++ x) (file_cons c [] ∙ ap (λ (x : List ℕ). bytes_of c ++ x) file_none))

saved_front : (out : List ℕ) (d : Cursor) → AllWords (cursor_words d) → saved_in (with_cursor out d) ≡ cursor_file d
saved_front out d w =
    let rest = drop (length (cursor_file d)) out in
    let a = bytes_of d.revision in
    let b = bytes_of d.leg in
    let c = bytes_of d.place in
    let e = three d.revision d.leg d.place in
    let split : cursor_file d ++ rest ≡ a ++ (b ++ (c ++ rest))
    = ap (λ (s : List ℕ). s ++ rest) e ∙ append_assoc a (b ++ (c ++ [])) rest ∙ ap (λ (s : List ℕ). a ++ s) (append_assoc b (c ++ []) rest ∙ ap (λ (s : List ℕ). b ++ s) (append_assoc c [] rest)) in
    ap (up_to_closing 3) (overlaid_front out (cursor_file d) ∙ split)
    ∙ closing_word 2 d.revision (b ++ (c ++ rest)) w.0
    ∙ ap (λ (s : List ℕ). a ++ s) (closing_word 1 d.leg (c ++ rest) w.1.0 ∙ ap (λ (s : List ℕ). b ++ s) (closing_word 0 d.place rest w.1.1.0 ∙ ap (λ (s : List ℕ). c ++ s) (closing_none rest)))
    ∙ sym e

-- What is read of the bytes that hold a cursor.
pub holds_cursor : (out out' : List ℕ) (d : Cursor) → AllWords (cursor_words d) → out' ≡ with_cursor out d → ReadsCursor (saved_in out') (Ok d)
holds_cursor out out' d w e = record { complete = refl; words = w; bytes = ap saved_in e ∙ saved_front out d w }

-- Every element of a list of words is one.
pub word_at : (ws : List ℕ) → AllWords ws → (i : ℕ) → get_or ws i 0 ≤ max_word
word_at [] w i = omega arith
word_at (x ∷ ws) w zero = w.0
word_at (x ∷ ws) w (suc i) = word_at ws w.1 i

standing_small : (t : List ℕ) (a p : ℕ) → Sized t → PlaceOrEnd t a p → (a ≤ max_word) × (p ≤ max_word)
standing_small t a p z (inl x) = (omega (arith, x.leg, z.limits.legs), omega (arith, x.leg, x.place, z.limits.legs))
standing_small t a p z (inr x) = (omega (arith, x.leg, z.limits.legs), omega (arith, x.place))

pub cursor_words_lem : (t : List ℕ) (d : Cursor) → Sized t → d.revision ≤ max_word → PlaceOrEnd t d.leg d.place → AllWords (cursor_words d)
cursor_words_lem t d z r s = let k = standing_small t d.leg d.place z s in (r, (k.0, (k.1, tt)))
