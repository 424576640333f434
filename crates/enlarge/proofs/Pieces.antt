-- A table in pieces: which piece a part is, and which records it has. Assumes nothing.
use Prim.Native.Nat.{ℕ, ◌+◌, ◌*◌, ◌≤◌}
use mathlib.Core.Path.{◌≡◌, ◌∙◌, ap}
use mathlib.Core.List.{List, ◌++◌}
use lib.ListN.{length, get_or, take, drop, get_or-append}
use lib.Seq.{take_at, drop_at, get_or-append-add}
use native.Mathlib.Omega.{arith}
use Rattle.table.specs.Layout.{stream_words, leg_words}
use Rattle.table.specs.Records.{stream_in, leg_in}

-- The n words from start on are the piece that lies there.
pub piece_at : (front piece rest : List ℕ) (start n : ℕ) → length front ≡ start → length piece ≡ n → take n (drop start (front ++ (piece ++ rest))) ≡ piece
piece_at front piece rest start n a b = ap (take n) (drop_at front (piece ++ rest) start a) ∙ take_at piece rest n b

module _ (p q : List ℕ) where
  word_in_front : (i : ℕ) → i + 1 ≤ length p → get_or (p ++ q) i 0 ≡ get_or p i 0
  word_in_front i h = get_or-append p q 0 i (omega arith)

  word_after : (i j : ℕ) → i ≡ length p + j → get_or (p ++ q) i 0 ≡ get_or q j 0
  word_after i j e = ap (λ (k : ℕ). get_or (p ++ q) k 0) e ∙ get_or-append-add p q j 0

  -- A record of the first of two pieces, and one of the second, which has n before it.
  pub stream_in_front : (i : ℕ) → stream_words * i + stream_words ≤ length p → stream_in (p ++ q) i ≡ stream_in p i
  stream_in_front i h =
      let a = word_in_front (stream_words * i) (omega arith) in
      let b = word_in_front (stream_words * i + 1) (omega arith) in
      let c = word_in_front (stream_words * i + 2) (omega arith) in
      let d = word_in_front (stream_words * i + 3) (omega arith) in
      let e = word_in_front (stream_words * i + 4) (omega arith) in
      cc

  pub stream_after : (n j : ℕ) → length p ≡ stream_words * n → stream_in (p ++ q) (n + j) ≡ stream_in q j
  stream_after n j h =
      let a = word_after (stream_words * (n + j)) (stream_words * j) (omega arith) in
      let b = word_after (stream_words * (n + j) + 1) (stream_words * j + 1) (omega arith) in
      let c = word_after (stream_words * (n + j) + 2) (stream_words * j + 2) (omega arith) in
      let d = word_after (stream_words * (n + j) + 3) (stream_words * j + 3) (omega arith) in
      let e = word_after (stream_words * (n + j) + 4) (stream_words * j + 4) (omega arith) in
      cc

  pub leg_in_front : (i : ℕ) → leg_words * i + leg_words ≤ length p → leg_in (p ++ q) i ≡ leg_in p i
  leg_in_front i h =
      let a = word_in_front (leg_words * i) (omega arith) in
      let b = word_in_front (leg_words * i + 1) (omega arith) in
      let c = word_in_front (leg_words * i + 2) (omega arith) in
      let d = word_in_front (leg_words * i + 3) (omega arith) in
      cc

  pub leg_after : (n j : ℕ) → length p ≡ leg_words * n → leg_in (p ++ q) (n + j) ≡ leg_in q j
  leg_after n j h =
      let a = word_after (leg_words * (n + j)) (leg_words * j) (omega arith) in
      let b = word_after (leg_words * (n + j) + 1) (leg_words * j + 1) (omega arith) in
      let c = word_after (leg_words * (n + j) + 2) (leg_words * j + 2) (omega arith) in
      let d = word_after (leg_words * (n + j) + 3) (leg_words * j + 3) (omega arith) in
      cc
