-- The refusals of files at numbers: the numbers in front are computed, and what follows them is due. Assumes nothing.
use Prim.Native.Nat.{ℕ, ◌≤◌, ◌<◌}
use mathlib.Core.Path.{refl, sym, ap}
use mathlib.Core.List.{List, [], ◌∷◌, ◌++◌}
use mathlib.Core.Logic.{inl, inr}
use lib.ListN.{length}
use native.Mathlib.Omega.{arith}
use Rattle.basics.specs.declared.Cause.{Cause}
use Rattle.basics.specs.declared.Cause.TheVariants as cause
use Rattle.numbers.specs.Number.{max_word, NoNumber}
use Rattle.numbers.proofs.Computed.{file_bytes, file_is, total, small_words, row_in_front}
use Rattle.numbers.proofs.RefusalsAtNumbers.{cut_short, zero_second}
use Rattle.table.specs.Layout.{max_links, InLimits, Sized}
use Rattle.files.specs.Reading.{Cut, Over}
use Rattle.files.specs.Plan.{PlanDue}
use Rattle.files.specs.Cursors.{CursorDue, CursorComplete, cursor_words}
use Rattle.files.specs.RefusalsAtNumbers.{FileRefused, links_above, four_bytes, PlanReadRefusalsAtNumbers, PlanWrittenRefusalsAtNumbers, SavedCursorRefusalsAtNumbers, FileRefusalsAtNumbers}

-- The words ws stand in front, and the number after them, which is due, is refused with k.
pub cut : (Due : List ℕ → Type 0) (ws rest : List ℕ) (k : Cause) → total ws ≤ max_word → Due ws → NoNumber (file_bytes ws ++ rest) (length (file_bytes ws)) k
    → Cut Due (file_bytes ws ++ rest) k (length (file_bytes ws))
cut Due ws rest k h d n = record { ws = ws; row = row_in_front ws rest h; due = d; no_number = n }

-- The words ws are complete, and a byte follows them.
over : (Complete : List ℕ → Type 0) (ws rest : List ℕ) → total ws ≤ max_word → Complete ws → length (file_bytes ws) < length (file_bytes ws ++ rest)
    → Over Complete (file_bytes ws ++ rest) (length (file_bytes ws))
over Complete ws rest h c l = record { ws = ws; row = row_in_front ws rest h; complete = c; left_over_lem = l }

plan_cut : (ws rest : List ℕ) (k : Cause) → total ws ≤ max_word → PlanDue ws → NoNumber (file_bytes ws ++ rest) (length (file_bytes ws)) k → FileRefused (file_bytes ws ++ rest) k (length (file_bytes ws))
plan_cut ws rest k h d n b = (inl (inl (cut PlanDue ws rest k h d n)), refl)

limits : (r n : ℕ) (ws : List ℕ) → n ≤ max_links → InLimits (r ∷ n ∷ 0 ∷ 0 ∷ 0 ∷ ws)
limits r n ws h = record { links = h; streams = omega arith; legs = omega arith; precision = omega arith }

-- A table of no link, no stream and no leg.
empty : (r : ℕ) → Sized (r ∷ 0 ∷ 0 ∷ 0 ∷ 0 ∷ [])
empty r = record { head = omega arith; limits = limits r 0 [] (omega arith); exact = refl }

-- Five zeros, and bytes after them.
zeros_over : (b : ℕ) (rest : List ℕ) → FileRefused (0 ∷ 0 ∷ 0 ∷ 0 ∷ 0 ∷ b ∷ rest) cause.LeftOver 5
zeros_over b rest buffer = (inl (inr (inr (refl, over Sized (0 ∷ 0 ∷ 0 ∷ 0 ∷ 0 ∷ []) (b ∷ rest) (omega arith) (empty 0) (omega arith)))), refl)

-- The header of one link and three of its numbers: the fourth is due.
link_due : PlanDue (0 ∷ 1 ∷ 0 ∷ 0 ∷ 0 ∷ 1 ∷ 2 ∷ 8 ∷ [])
link_due = inr (limits 0 1 _ (omega arith), omega arith)

pub plan_read_refusals_at_numbers : PlanReadRefusalsAtNumbers
plan_read_refusals_at_numbers = record {
  missing = plan_cut (0 ∷ 0 ∷ 0 ∷ []) [] cause.BytesEnd (omega arith) (inl (omega arith)) (cut_short _ 3 tt (omega arith));
  cut_short = plan_cut (0 ∷ 0 ∷ []) (0x80 ∷ []) cause.BytesEnd (omega arith) (inl (omega arith)) (cut_short _ 2 (omega arith, omega arith, tt) (omega arith));
  link_cut = plan_cut (0 ∷ 1 ∷ 0 ∷ 0 ∷ 0 ∷ 1 ∷ 2 ∷ 8 ∷ []) [] cause.BytesEnd (omega arith) link_due (cut_short _ 8 tt (omega arith));
  second_unfit = plan_cut (0 ∷ []) (0x80 ∷ 0 ∷ 0 ∷ []) cause.UnfitNumber (omega arith) (inl (omega arith)) (zero_second _ 1 0x80 (0 ∷ []) refl (omega arith, omega arith));
  link_unfit = plan_cut (0 ∷ 1 ∷ 0 ∷ 0 ∷ 0 ∷ 1 ∷ 2 ∷ 8 ∷ []) (0x80 ∷ 0 ∷ []) cause.UnfitNumber (omega arith) link_due (zero_second _ 8 0x80 [] refl (omega arith, omega arith));
  above = λ b. (
    inl
        (inr
        (inl (
          refl,
          refl,
          record {
            head = 0 ∷ links_above ∷ 0 ∷ 0 ∷ 0 ∷ [];
            next = 6;
            row = row_in_front (0 ∷ links_above ∷ 0 ∷ 0 ∷ 0 ∷ []) (0x80 ∷ 0 ∷ []) (omega arith);
            five = refl;
            above = λ h. omega (arith, h.links);
          },
        ))),
    refl,
  );
  above_missing = plan_cut (0 ∷ links_above ∷ 0 ∷ 0 ∷ []) [] cause.BytesEnd (omega arith) (inl (omega arith)) (cut_short _ 5 tt (omega arith));
  above_unfit = plan_cut (0 ∷ links_above ∷ 0 ∷ 0 ∷ []) (0x80 ∷ 0 ∷ []) cause.UnfitNumber (omega arith) (inl (omega arith)) (zero_second _ 5 0x80 [] refl (omega arith, omega arith));
  left_over_lem = zeros_over 0 [];
  left_over_unfit = zeros_over 0x80 (0 ∷ []);
  no_room_lem = (
    inr (
      refl,
      refl,
      record {
        table = 0 ∷ 0 ∷ 0 ∷ 0 ∷ 0 ∷ [];
        file = record { complete = empty 0; words = small_words (0 ∷ 0 ∷ 0 ∷ 0 ∷ 0 ∷ []) (omega arith); bytes = sym (file_is (0 ∷ 0 ∷ 0 ∷ 0 ∷ 0 ∷ [])) };
        long = omega arith;
      },
    ),
    refl,
  );
}

pub plan_written_refusals_at_numbers : PlanWrittenRefusalsAtNumbers
plan_written_refusals_at_numbers = record {
  four_words_is = (inl (inl (refl, refl, λ h. omega arith)), refl);
  above = (inl (inr (omega arith, inl (refl, refl, λ h. omega (arith, h.links)))), refl);
  word_more_is = (inl (inr (omega arith, inr (limits 0 0 _ (omega arith), (refl, refl, λ e. omega (arith, e))))), refl);
  no_room_lem = (inr (empty 300, (refl, refl, λ h. omega (arith, ap length (file_is (300 ∷ 0 ∷ 0 ∷ 0 ∷ 0 ∷ []))))), refl);
}

pub saved_cursor_refusals_at_numbers : SavedCursorRefusalsAtNumbers
saved_cursor_refusals_at_numbers = record {
  missing = inl (cut CursorDue (7 ∷ 1 ∷ []) [] cause.BytesEnd (omega arith) (omega arith) (cut_short _ 2 tt (omega arith)));
  cut_short = inl (cut CursorDue (7 ∷ []) (0x80 ∷ []) cause.BytesEnd (omega arith) (omega arith) (cut_short _ 1 (omega arith, omega arith, tt) (omega arith)));
  unfit = inl (cut CursorDue (7 ∷ []) (0x80 ∷ 0 ∷ []) cause.UnfitNumber (omega arith) (omega arith) (zero_second _ 1 0x80 [] refl (omega arith, omega arith)));
  left_over_lem = inr (refl, over CursorComplete (7 ∷ 1 ∷ 2 ∷ []) (0x80 ∷ 0 ∷ []) (omega arith) refl (omega arith));
  no_room_lem = (record { number = refl; position = refl; small = omega (arith, ap length (file_is (cursor_words four_bytes))); kept = refl }, refl);
}

pub file_refusals_at_numbers : FileRefusalsAtNumbers
file_refusals_at_numbers = record { plans_read = plan_read_refusals_at_numbers; plans_written = plan_written_refusals_at_numbers; cursors = saved_cursor_refusals_at_numbers }
