-- The two layouts part where there is a leg: a file has one list of words, whatever layout it is read by, and with a leg the two lengths differ. Assumes nothing.
use Prim.Native.Nat.{ℕ, ◌≤◌, ◌<◌}
use mathlib.Core.Path.{◌≡◌, refl, ◌∙◌, sym, ap}
use mathlib.Core.List.{List, [], ◌∷◌, ◌++◌, append-nil}
use mathlib.Core.Logic.{⊎_elim}
use lib.ListN.{length, take, drop, length-append}
use lib.Seq.{take_all}
use native.Mathlib.Omega.{arith}
use Rattle.basics.proofs.Splits.{lt_or_ge}
use Rattle.numbers.specs.Number.{bytes_of}
use Rattle.numbers.specs.Series.{Row, file_of}
use Rattle.numbers.proofs.OneNumber.{number_bytes_at_most}
use Rattle.numbers.proofs.Rows.{file_cons, row_compare}
use Rattle.table.specs.Layout.{first_layout, leg_words, leg_count, SizedIn, Sized}
use Rattle.files.specs.Reading.{IsFile}
use Rattle.files.proofs.OneAnswer.{file_is_row}
use Rattle.editions.specs.Converted.{new_word, wider, converted}
use Rattle.editions.specs.Theorems.{LayoutsPart}
use Rattle.editions.proofs.Wider.{wider_none, first_older, limits_today}
use Rattle.editions.proofs.Records.{legs_at, new_legs, first_converted}

-- No number stands in no bytes.
nothing : {s : List ℕ} {n : ℕ} (us : List ℕ) → Row s n us n → us ≡ []
nothing [] r = refl
nothing (u ∷ us) r =
    absurd (omega (arith, r.ends, ap length (file_cons u us), length-append (bytes_of u) (file_of us), (number_bytes_at_most u).0))

same_row : {s : List ℕ} {n : ℕ} (ws vs : List ℕ) → Row s 0 ws n → Row s 0 vs n → length ws ≤ length vs → vs ≡ ws
same_row ws vs p q h = let i = row_compare ws vs p q h in i.1 ∙ ap (λ (x : List ℕ). ws ++ x) (nothing i.0 i.2) ∙ append-nil ws

-- Whatever is complete, a file is that of one list of words.
pub same_words : {Complete Other : List ℕ → Type 0} {s ws vs : List ℕ} → IsFile Complete s ws → IsFile Other s vs → vs ≡ ws
same_words {ws = ws} {vs = vs} f g =
    ⊎_elim
    (λ (h : length ws < length vs). same_row ws vs (file_is_row f) (file_is_row g) (omega arith))
    (λ (h : length vs ≤ length ws). sym (same_row vs ws (file_is_row g) (file_is_row f) h))
    (lt_or_ge (length ws) (length vs))

-- Without a leg the two sizes are one.
module _ (u : List ℕ) (none : leg_count u ≡ 0) where
  size_today : SizedIn first_layout u → Sized u
  size_today s = record { head = s.head; limits = limits_today first_older s.limits; exact = s.exact ∙ omega arith }

  size_first : Sized u → SizedIn first_layout u
  size_first s = record {
    head = s.head;
    limits = record { links = s.limits.links; streams = s.limits.streams; legs = s.limits.legs; precision = s.limits.precision };
    exact = s.exact ∙ omega arith;
  }

  same_table : SizedIn first_layout u → converted first_layout u ≡ u
  same_table s =
      let legs = drop (legs_at u) u in
      let no_legs : new_legs u ≡ []
      = ap (λ (n : ℕ). wider first_layout.leg leg_words new_word n legs) none ∙ wider_none first_layout.leg leg_words new_word legs in
      first_converted u s
      ∙ ap (λ (x : List ℕ). take (legs_at u) u ++ x) no_legs
      ∙ append-nil (take (legs_at u) u)
      ∙ take_all (legs_at u) u (omega (arith, s.exact))

pub layouts_part : LayoutsPart
layouts_part = record {
  with_a_leg = λ s t u f leg g. let e = same_words f g in let z = rw e at g.complete in omega (arith, f.complete.exact, z.exact);
  to_today = λ s u none f. (record { complete = size_today u none f.complete; words = f.words; bytes = f.bytes }, same_table u none f.complete);
  from_today = λ s u none f. record { complete = size_first u none f.complete; words = f.words; bytes = f.bytes };
}
