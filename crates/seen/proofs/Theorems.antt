-- One edition stands in front, so no copy is of two; a copy with nothing in front of it begins with another number than the mark. Assumes nothing.
use Prim.Native.Nat.{ℕ, ◌≤◌}
use mathlib.Core.Path.{◌≡◌, refl, ◌∙◌, sym, ap}
use mathlib.Core.List.{List, [], ◌∷◌, ◌++◌, append_assoc}
use mathlib.Core.Logic.{inl, inr}
use lib.ListN.{length, take}
use Rattle.numbers.specs.Number.{max_word, bytes_of}
use Rattle.numbers.specs.Series.{file_of}
use Rattle.std.specs.Prelude.{Ok}
use Rattle.numbers.proofs.Overlay.{overlaid_taken}
use Rattle.numbers.proofs.Rows.{file_cons, file_one}
use Rattle.seen.specs.Seen.{Kept}
use Rattle.seen.specs.Editions.{mark, Under, WritesFront, OfEdition}
use Rattle.seen.specs.Theorems.{EditionsPartCopies, WrittenIsKnown}
use Rattle.seen.proofs.Fronts.{under_once, copy_not_under}

told_once : (s : List ℕ) (d e : ℕ) → OfEdition s d → OfEdition s e → d ≡ e
told_once s d e (inl n) (inl m) = (under_once s n.under m.under).0
told_once s d e (inl n) (inr c) = absurd (copy_not_under s c.1 n.under)
told_once s d e (inr c) (inl m) = absurd (copy_not_under s c.1 m.under)
told_once s d e (inr c) (inr b) = c.0 ∙ sym b.0

pub editions_part_copies : EditionsPartCopies
editions_part_copies = record {
  one = λ s d e p q k h. (under_once s k.under h.under).0;
  first = λ s p e c k. copy_not_under s c k.under;
  told_once = told_once;
  copy_told = λ s e c. inl (record { rest = c.rest; first = c.copy.first; other = c.copy.other; under = c.under; kept = c.copy.kept });
}

-- What is written in front, and what comes after it.
front_written : (edition n : ℕ) (p o b b' : List ℕ) → edition ≤ max_word → WritesFront edition (length p) b (Ok n) b'
    → Under (take n b' ++ (p ++ o)) edition (bytes_of (length p) ++ (p ++ o))
front_written edition n p o b b' word laid =
    let front = file_of (mark ∷ edition ∷ length p ∷ []) in
    let taken : take n b' ≡ front = rw (laid.count, laid.after) (overlaid_taken b front) in
    let parts : front ≡ bytes_of mark ++ (bytes_of edition ++ bytes_of (length p)) =
    file_cons mark _ ∙ ap (λ (l : List ℕ). bytes_of mark ++ l) (file_cons edition _ ∙ ap (λ (l : List ℕ). bytes_of edition ++ l) (file_one (length p))) in
    record {
      word = word;
      whole = ap (λ (l : List ℕ). l ++ (p ++ o)) (taken ∙ parts) ∙ append_assoc (bytes_of mark) _ (p ++ o) ∙ ap (λ (l : List ℕ). bytes_of mark ++ l) (append_assoc (bytes_of edition) _ (p ++ o));
    }

pub written_is_known : WrittenIsKnown
written_is_known edition n p o b b' word small laid =
    let under = front_written edition n p o b b' word laid in
    let kept : Kept (bytes_of (length p) ++ (p ++ o)) p o = record { size = small; whole = refl } in (
      record { rest = _; under = under; known = record { first = p; other = o; kept = kept; is = inl refl } },
      record { rest = _; under = under; known = record { first = p; other = o; kept = kept; is = inr refl } },
    )
