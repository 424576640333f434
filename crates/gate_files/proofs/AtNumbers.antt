-- List files at numbers: the bytes of the words are computed, and what follows them is due. Assumes nothing.
use Prim.Native.Nat.{ℕ, ◌≤◌}
use mathlib.Core.Path.{refl, sym, ap}
use mathlib.Core.List.{List, [], ◌∷◌, ◌++◌}
use mathlib.Core.Logic.{inl, inr}
use lib.ListN.{length, drop}
use native.Mathlib.Omega.{arith}
use Rattle.numbers.specs.Number.{max_word, NoNumber}
use Rattle.numbers.specs.Series.{Laid}
use Rattle.numbers.proofs.Computed.{file_bytes, file_is, total, small_words}
use Rattle.numbers.proofs.Overlay.{overlaid_front}
use Rattle.numbers.proofs.RefusalsAtNumbers.{cut_short, zero_second}
use Rattle.files.specs.Reading.{IsFile}
use Rattle.files.proofs.RefusalsAtNumbers.{cut}
use Rattle.gate_files.specs.ListFiles.{WholePairs, ListDue, ReadsList}
use Rattle.gate_files.specs.Theorems.{ListFilesAtNumbers}
use Rattle.basics.specs.Cause.{refused}
use Rattle.basics.specs.declared.Cause.{Cause}
use Rattle.basics.specs.declared.Cause.TheVariants as cause

one_pair : (mask duration : ℕ) → WholePairs (mask ∷ duration ∷ [])
one_pair mask duration = record { count = 1; words = refl }

half : {mask : ℕ} → WholePairs (mask ∷ []) → ⊥
half w = omega (arith, w.words)

list_file : (ws : List ℕ) → total ws ≤ max_word → WholePairs ws → IsFile WholePairs (file_bytes ws) ws
list_file ws h w = record { complete = w; words = small_words ws h; bytes = sym (file_is ws) }

-- What is laid from the start on, and the rest of the buffer after it.
laid : (b xs : List ℕ) → length xs ≤ length b → Laid b 0 xs (length xs) (xs ++ drop (length xs) b)
laid b xs h = record { count = refl; room = omega arith; after = sym (overlaid_front b xs) }

-- The words ws stand in front, and the number after them, which is due, is refused with k, whatever buffer is lent.
list_cut : (ws rest : List ℕ) (k : Cause) → total ws ≤ max_word → ListDue (file_bytes ws ++ rest) ws → NoNumber (file_bytes ws ++ rest) (length (file_bytes ws)) k
    → (b : List ℕ) → ReadsList (file_bytes ws ++ rest) b (refused k (length (file_bytes ws))) b
list_cut ws rest k h d n b = (inl (cut (ListDue (file_bytes ws ++ rest)) ws rest k h d n), refl)

pub list_files_at_numbers : ListFilesAtNumbers
list_files_at_numbers = record {
  one_pair = (128 ∷ 1344 ∷ [], list_file (128 ∷ 1344 ∷ []) (omega arith) (one_pair 128 1344), laid (5 ∷ 6 ∷ 7 ∷ []) (128 ∷ 1344 ∷ []) (omega arith));
  written_so = (one_pair 128 1344, rw (file_is (128 ∷ 1344 ∷ [])) (laid (1 ∷ 2 ∷ 3 ∷ 4 ∷ 5 ∷ []) (file_bytes (128 ∷ 1344 ∷ [])) (omega arith)));
  cut_short = list_cut (128 ∷ []) (0xC0 ∷ []) cause.BytesEnd (omega arith) (inl half) (cut_short _ 2 (omega arith, omega arith, tt) (omega arith)) _;
  half_a_pair = list_cut (127 ∷ 5 ∷ 127 ∷ []) [] cause.BytesEnd (omega arith) (inl (λ w. omega (arith, w.words))) (cut_short _ 3 tt (omega arith)) _;
  not_shortest =
      list_cut (127 ∷ 5 ∷ []) (0x80 ∷ 0 ∷ []) cause.UnfitNumber (omega arith) (inr (omega (arith, ap length (file_is (127 ∷ 5 ∷ []))))) (zero_second _ 2 0x80 [] refl (omega arith, omega arith)) _;
  small_room = (inr (refl, refl, record { list = 127 ∷ 5 ∷ []; file = list_file (127 ∷ 5 ∷ []) (omega arith) (one_pair 127 5); long = omega arith }), refl);
  no_pairs = ([], list_file [] (omega arith) (record { count = 0; words = refl }), laid [] [] (omega arith));
  half_not_written = (inl (refl, sym (ap length (file_is (128 ∷ 1344 ∷ 127 ∷ []))), λ w. omega (arith, w.words)), refl);
  no_room_lem = (inr (one_pair 128 1344, (refl, refl, λ h. omega (arith, h, ap length (file_is (128 ∷ 1344 ∷ []))))), refl);
}
