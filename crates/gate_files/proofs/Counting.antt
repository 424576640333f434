-- Bytes counted as numbers up to their end, and what the count tells of a list file. A number has a byte at least, so no more numbers stand than bytes.
-- Assumes nothing.
use Prim.Native.Nat.{ℕ, ◌+◌, ◌-◌, ◌/◌, ◌%◌, ◌≤◌, ◌<◌}
use mathlib.Core.Path.{◌≡◌, refl, sym, ap}
use mathlib.Core.List.{List, [], ◌∷◌}
use mathlib.Core.Logic.{inl, inr}
use lib.ListN.{length, length-append}
use native.Mathlib.Omega.{arith}
use Rattle.numbers.specs.Number.{bytes_of, NoNumber}
use Rattle.numbers.specs.Series.{file_of, Laid, overlaid}
use Rattle.numbers.specs.Steps.{Numbers, AllNumbers, Filled}
use Rattle.numbers.specs.Calls.{NumberStands}
use Rattle.numbers.proofs.OneNumber.{number_bytes_at_most}
use Rattle.numbers.proofs.Passing.{passed_none, passed_end}
use Rattle.numbers.proofs.Rows.{numbers_none, numbers_more, file_cons, row_inside, row_whole}
use Rattle.files.specs.Reading.{IsFile, Cut}
use Rattle.files.proofs.Looking.{filled_table}
use Rattle.gate_files.specs.ListFiles.{WholePairs, ListDue, TooLong, ReadsList, WritesList}
use Rattle.gate_files.specs.Steps.{Halted}
use Rattle.std.specs.Prelude.{Ok, Err}
use Rattle.basics.specs.declared.Refusal.{Refusal}
use Rattle.basics.specs.declared.Cause.{Cause}
use Rattle.basics.specs.declared.Cause.TheVariants as cause

-- Words have as many bytes at least.
pub bytes_at_least : (ws : List ℕ) → length ws ≤ length (file_of ws)
bytes_at_least [] = omega arith
bytes_at_least (w ∷ ws) = omega (arith, bytes_at_least ws, (number_bytes_at_most w).0, ap length (file_cons w ws), length-append (bytes_of w) (file_of ws))

-- While counting: n numbers stand up to at.
pub record Counting (s : List ℕ) (n at : ℕ) : Type 0 where
  pub numbers : Numbers s 0 n at
  pub few : n ≤ at
  pub inside : at ≤ length s

counting : {s : List ℕ} {n at : ℕ} → Numbers s 0 n at → Counting s n at
counting m = record { numbers = m; few = omega (arith, bytes_at_least m.ws, m.count, m.row.ends); inside = row_inside m.ws m.row }

pub counting_start : (s : List ℕ) → Counting s 0 0
counting_start s = counting (numbers_none s 0)

module _ {s : List ℕ} {n at : ℕ} (c : Counting s n at) where
  pub counting_end : length s ≤ at → Numbers s 0 n (length s)
  counting_end h = let e : at ≡ length s = omega (arith, c.inside) in rw e at c.numbers

  pub counting_stop : {k : Cause} {p : ℕ} → at < length s → (p ≡ at) × NoNumber s at k → Halted s k p
  counting_stop more r = record { ws = c.numbers.ws; row = rw r.0 c.numbers.row; on = omega (arith, r.0); no_number = rw r.0 r.1 }

  pub counting_next : {v next : ℕ} → NumberStands s at v next → Counting s (n + 1) next
  counting_next r = counting (numbers_more c.numbers r)

  pub counting_less : {v next : ℕ} → at < length s → NumberStands s at v next → length s - next < length s - at
  counting_less {v} more r = omega (arith, r.ends, (number_bytes_at_most v).0)

-- A number that is refused before the end of the bytes is due.
pub stop_cut : {s : List ℕ} {k : Cause} {p : ℕ} → Halted s k p → Cut (ListDue s) s k p
stop_cut h = record { ws = h.ws; row = h.row; due = inr (omega (arith, h.row.ends, h.on)); no_number = h.no_number }

-- Words are whole pairs exactly when their number is even.
pub pairs_even : {ws : List ℕ} → length ws % 2 ≡ 0 → WholePairs ws
pairs_even {ws} e = record { count = length ws / 2; words = omega arith }

pub half_odd : {ws : List ℕ} → 0 < length ws % 2 → WholePairs ws → ⊥
half_odd odd w = omega (arith, w.words)

-- Numbers stand up to the end of the bytes: the last of them is half a pair, or they are a list, which has room or not.
module _ {s : List ℕ} {n : ℕ} (stand : Numbers s 0 n (length s)) where
  pub numbers_stand : AllNumbers s 0 n
  numbers_stand = (length s, stand)

  pub half_cut : 0 < n % 2 → Cut (ListDue s) s cause.BytesEnd (length s)
  half_cut odd = record {
    ws = stand.ws;
    row = stand.row;
    due = inl (half_odd (rw stand.count odd));
    no_number = (passed_end (passed_none s (length s)) (omega arith)).1;
  }

  module _ (even : n % 2 ≡ 0) where
    list_is : IsFile WholePairs s stand.ws
    list_is = record { complete = pairs_even (rw stand.count even); words = stand.row.words; bytes = row_whole stand.ws stand.row (omega arith) }

    pub too_long_lem : {room : ℕ} → room < n → TooLong s room
    too_long_lem h = record { list = stand.ws; file = list_is; long = omega (arith, stand.count) }

    -- Either way that is what reading promises: 15 where the list has no room, and else its words, laid into the buffer.
    pub no_room_read : {b : List ℕ} {e : Refusal} → length b < n → e ≡ record { cause = cause.NoRoom; at = 0 } → ReadsList s b (Err e) b
    no_room_read h is = rw is (inr (refl, refl, too_long_lem h), refl)

    pub list_read : {b b' : List ℕ} → n ≤ length b → Filled s 0 n b b' → ReadsList s b (Ok n) b'
    list_read h l = (stand.ws, list_is, filled_table stand.ws list_is (sym stand.count) h l)

-- The same of writing an even number of words.
module _ {ws b : List ℕ} {n : ℕ} (size : n ≡ length (file_of ws)) (even : length ws % 2 ≡ 0) where
  pub no_room_written : {e : Refusal} → length b < n → e ≡ record { cause = cause.NoRoom; at = 0 } → WritesList ws b (Err e) b
  no_room_written h is = rw is (inr (pairs_even even, (refl, refl, λ room. omega arith)), refl)

  pub list_written : {b' : List ℕ} → n ≤ length b → b' ≡ overlaid b 0 (file_of ws) → WritesList ws b (Ok n) b'
  list_written h is = (pairs_even even, record { count = size; room = omega arith; after = is })
