-- Two tables whose words are the same but for the revision and the numbers of one leg: all else in them reads the same. Assumes nothing.
use Prim.Native.Nat.{ℕ, ◌+◌, ◌*◌, ◌≤◌, ◌<◌}
use mathlib.Core.Path.{◌≡◌, ◌∙◌, sym, ap}
use mathlib.Core.List.{List}
use lib.ListN.{length, get_or, take, drop}
use lib.Seq.{get_or-take, get_or-drop}
use native.Mathlib.Nat.{mul-le-mul_left, mul-suc}
use native.Mathlib.Omega.{arith}
use Rattle.table.specs.Layout.{link_words, stream_words, leg_words, link_count, stream_count, leg_count, precision_of, link_start, stream_start, leg_start, Sized}
use Rattle.table.specs.Records.{link_part, stream_part, leg_part, link_at, stream_at, leg_at, revision_at, offset_at, periods_at}

-- Record i of n records of w words: its word k lies before the end.
pub word_inside : (w n i k : ℕ) → i < n → k < w → w * i + k < w * n
word_inside w n i k h l = let m = mul-le-mul_left w h in let s = mul-suc w i in omega arith

-- A word of a part is a word of the table.
part_word : (t : List ℕ) (start n k : ℕ) → k < n → get_or (take n (drop start t)) k 0 ≡ get_or t (start + k) 0
part_word t start n k h = get_or-take n (drop start t) k 0 h ∙ get_or-drop start t k 0

-- The numbers of a move stand in its leg from the offset on. The others are the leg's stream and its link.
abbrev pub own_words : ℕ
own_words = 2

module _ (t u : List ℕ) (m : ℕ) (s : Sized t)
    (same : (i : ℕ) → i < length t → (i ≡ revision_at → ⊥) → (i ≡ offset_at t m → ⊥) → (i ≡ periods_at t m → ⊥) → get_or t i 0 ≡ get_or u i 0) where
  -- A word before the legs.
  front_word : (i : ℕ) → (i ≡ revision_at → ⊥) → i < leg_start t → get_or t i 0 ≡ get_or u i 0
  front_word i n h = same i (omega (arith, s.exact)) n (λ e. omega (arith, e)) (λ e. omega (arith, e))

  pub same_links : link_count t ≡ link_count u
  same_links = front_word 1 (λ e. omega (arith, e)) (omega arith)

  pub same_streams : stream_count t ≡ stream_count u
  same_streams = front_word 2 (λ e. omega (arith, e)) (omega arith)

  pub same_legs : leg_count t ≡ leg_count u
  same_legs = front_word 3 (λ e. omega (arith, e)) (omega arith)

  pub same_precision : precision_of t ≡ precision_of u
  same_precision = front_word 4 (λ e. omega (arith, e)) (omega arith)

  -- A word of another leg, and a word of this leg that is none of its numbers.
  leg_word : (b k : ℕ) → b < leg_count t → k < leg_words → ((b ≡ m) × (own_words ≤ k) → ⊥) → get_or t (leg_start t + (leg_words * b + k)) 0 ≡ get_or u (leg_start t + (leg_words * b + k)) 0
  leg_word b k h l n =
      same (leg_start t + (leg_words * b + k)) (omega (arith, word_inside leg_words (leg_count t) b k h l, s.exact))
      (λ e. omega (arith, e))
      (λ e. n (omega (arith, e), omega (arith, e)))
      (λ e. n (omega (arith, e), omega (arith, e)))

  -- The parts start at the same words, and are as long.
  link_part_is : (k : ℕ) → k < link_words * link_count t → get_or (link_part u) k 0 ≡ get_or u (link_start + k) 0
  link_part_is k h = part_word u link_start (link_words * link_count u) k (omega (arith, same_links))

  stream_part_is : (k : ℕ) → k < stream_words * stream_count t → get_or (stream_part u) k 0 ≡ get_or u (stream_start t + k) 0
  stream_part_is k h =
      let start : stream_start u ≡ stream_start t = omega (arith, same_links) in
      part_word u (stream_start u) (stream_words * stream_count u) k (omega (arith, same_streams)) ∙ ap (λ (n : ℕ). get_or u (n + k) 0) start

  leg_part_is : (k : ℕ) → k < leg_words * leg_count t → get_or (leg_part u) k 0 ≡ get_or u (leg_start t + k) 0
  leg_part_is k h =
      let start : leg_start u ≡ leg_start t = omega (arith, same_links, same_streams) in
      part_word u (leg_start u) (leg_words * leg_count u) k (omega (arith, same_legs)) ∙ ap (λ (n : ℕ). get_or u (n + k) 0) start

  -- They read the same, but for the numbers of the leg.
  link_same : (k : ℕ) → k < link_words * link_count t → get_or (link_part t) k 0 ≡ get_or (link_part u) k 0
  link_same k h =
      part_word t link_start (link_words * link_count t) k h ∙ front_word (link_start + k) (λ e. omega (arith, e)) (omega arith) ∙ sym (link_part_is k h)

  stream_same : (k : ℕ) → k < stream_words * stream_count t → get_or (stream_part t) k 0 ≡ get_or (stream_part u) k 0
  stream_same k h =
      part_word t (stream_start t) (stream_words * stream_count t) k h
      ∙ front_word (stream_start t + k) (λ e. omega (arith, e)) (omega arith)
      ∙ sym (stream_part_is k h)

  leg_same : (b k : ℕ) → b < leg_count t → k < leg_words → ((b ≡ m) × (own_words ≤ k) → ⊥) → get_or (leg_part t) (leg_words * b + k) 0 ≡ get_or (leg_part u) (leg_words * b + k) 0
  leg_same b k h l n =
      let i = word_inside leg_words (leg_count t) b k h l in
      part_word t (leg_start t) (leg_words * leg_count t) (leg_words * b + k) i ∙ leg_word b k h l n ∙ sym (leg_part_is (leg_words * b + k) i)

  pub same_link : (i : ℕ) → i < link_count t → link_at t i ≡ link_at u i
  unfolding link_at
  same_link i h =
      let r0 = link_same (link_words * i) (omega arith) in
      let r1 = link_same (link_words * i + 1) (omega arith) in
      let r2 = link_same (link_words * i + 2) (omega arith) in
      let r3 = link_same (link_words * i + 3) (omega arith) in
      cc

  pub same_stream : (i : ℕ) → i < stream_count t → stream_at t i ≡ stream_at u i
  unfolding stream_at
  same_stream i h =
      let r0 = stream_same (stream_words * i) (omega arith) in
      let r1 = stream_same (stream_words * i + 1) (omega arith) in
      let r2 = stream_same (stream_words * i + 2) (omega arith) in
      let r3 = stream_same (stream_words * i + 3) (omega arith) in
      let r4 = stream_same (stream_words * i + 4) (omega arith) in
      cc

  pub same_other : (b : ℕ) → b < leg_count t → (b ≡ m → ⊥) → leg_at t b ≡ leg_at u b
  unfolding leg_at
  same_other b h n =
      let z : leg_words * b + 0 ≡ leg_words * b = omega arith in
      let r0 = rw z at (leg_same b 0 h (omega arith) (λ e. n e.0)) in
      let r1 = leg_same b 1 h (omega arith) (λ e. n e.0) in
      let r2 = leg_same b 2 h (omega arith) (λ e. n e.0) in
      let r3 = leg_same b 3 h (omega arith) (λ e. n e.0) in
      cc

  pub same_leg_stream : (b : ℕ) → b < leg_count t → (leg_at t b).stream ≡ (leg_at u b).stream
  unfolding leg_at
  same_leg_stream b h = let z : leg_words * b + 0 ≡ leg_words * b = omega arith in rw z at (leg_same b 0 h (omega arith) (λ e. omega (arith, e.1)))

  pub same_leg_link : (b : ℕ) → b < leg_count t → (leg_at t b).link ≡ (leg_at u b).link
  unfolding leg_at
  same_leg_link b h = leg_same b 1 h (omega arith) (λ e. omega (arith, e.1))

  -- The numbers of the leg stand where those of the other table do.
  pub offset_there : m < leg_count t → (leg_at u m).offset ≡ get_or u (offset_at t m) 0
  unfolding leg_at
  offset_there h = leg_part_is (leg_words * m + 2) (word_inside leg_words (leg_count t) m 2 h (omega arith))

  pub periods_there : m < leg_count t → (leg_at u m).periods ≡ get_or u (periods_at t m) 0
  unfolding leg_at
  periods_there h = leg_part_is (leg_words * m + 3) (word_inside leg_words (leg_count t) m 3 h (omega arith))
