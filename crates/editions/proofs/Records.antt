-- What the table reads as that a table of the first layout becomes: word by word and record by record. Assumes nothing.
use Prim.Native.Nat.{ℕ, ◌+◌, ◌*◌, ◌≤◌, ◌<◌}
use mathlib.Core.Path.{◌≡◌, ◌∙◌, sym, ap}
use mathlib.Core.List.{List, ◌++◌, append_assoc}
use mathlib.Core.Logic.{⊎_elim}
use lib.ListN.{length, get_or, take, drop, length-drop, take-append-drop, get_or-append, get_or-eq_default}
use lib.Seq.{length-take-le, take_all, take-add, take-append-le, drop-append-le, drop_at, get_or-take, get_or-drop, get_or-append-add}
use native.Mathlib.Nat.{add-zero}
use native.Mathlib.Omega.{arith}
use Rattle.basics.proofs.Splits.{lt_or_ge}
use Rattle.table.specs.Layout.{first_layout, link_words, stream_words, leg_words, link_count, stream_count, leg_count, link_start, leg_start, stream_start_in, leg_start_in, SizedIn}
use Rattle.table.specs.Records.{link_part, stream_part, leg_part, link_in, stream_in, leg_in, link_at, stream_at, leg_at}
use Rattle.table.proofs.PartLaws.{link_of_part, stream_of_part, leg_of_part}
use Rattle.editions.specs.Converted.{new_word, wider, converted}
use Rattle.editions.specs.First.{first_links, first_streams, first_legs, first_link_at, first_stream_at, first_leg_at}
use Rattle.editions.specs.Theorems.{OldWordsAndZeros, in_its_period, OldRecords, ConvertedKeepsWords}
use Rattle.editions.proofs.Wider.{wider_length, wider_own, wider_new, wider_same, first_older, streams_there, legs_there, converted_long, converted_header}

-- A part that lies in the first words is that of any list with the same first words.
part_in_front : (u : List ℕ) (start n end : ℕ) (rest : List ℕ) → start + n ≤ end → end ≤ length u → take n (drop start (take end u ++ rest)) ≡ take n (drop start u)
part_in_front u start n end rest h l = same rest ∙ sym (same (drop end u)) ∙ ap (λ (x : List ℕ). take n (drop start x)) (take-append-drop end u)
  where
    same : (r : List ℕ) → take n (drop start (take end u ++ r)) ≡ take n (drop start (take end u))
    same r =
        let k = length-take-le end u l in
        ap (take n) (drop-append-le start (take end u) r (omega arith)) ∙ take-append-le n (drop start (take end u)) r (omega (arith, length-drop start (take end u)))

-- Where the legs start, in both layouts, and what the legs become.
abbrev pub legs_at : List ℕ → ℕ
legs_at u = leg_start_in first_layout u

abbrev pub new_legs : List ℕ → List ℕ
new_legs u = wider first_layout.leg leg_words new_word (leg_count u) (drop (legs_at u) u)

module _ (u : List ℕ) (s : SizedIn first_layout u) where
  -- All that comes before the legs stays.
  pub first_converted : converted first_layout u ≡ take (legs_at u) u ++ new_legs u
  unfolding converted
  first_converted =
      let from = stream_start_in first_layout u in
      let n = first_layout.stream * stream_count u in
      let same = wider_same first_layout.stream new_word (stream_count u) (drop from u) (streams_there first_older u s) in
      ap (λ (x : List ℕ). take from u ++ (x ++ new_legs u)) same
      ∙ sym (append_assoc (take from u) (take n (drop from u)) (new_legs u))
      ∙ ap (λ (x : List ℕ). x ++ new_legs u) (sym (take-add from n u))

  front_inside : legs_at u ≤ length u
  front_inside = omega (arith, s.exact)

  front_long : length (take (legs_at u) u) ≡ legs_at u
  front_long = length-take-le (legs_at u) u front_inside

  legs_inside : first_layout.leg * leg_count u ≤ length (drop (legs_at u) u)
  legs_inside = legs_there first_older u s

  new_legs_long : length (new_legs u) ≡ leg_words * leg_count u
  new_legs_long = wider_length first_layout.leg leg_words new_word (omega arith) (leg_count u) (drop (legs_at u) u) legs_inside

  -- The words of the legs.
  leg_word : (j : ℕ) → get_or (converted first_layout u) (legs_at u + j) 0 ≡ get_or (new_legs u) j 0
  leg_word j =
      ap (λ (x : List ℕ). get_or x (legs_at u + j) 0) first_converted
      ∙ ap (λ (k : ℕ). get_or (take (legs_at u) u ++ new_legs u) (k + j) 0) (sym front_long)
      ∙ get_or-append-add (take (legs_at u) u) (new_legs u) j 0

  pub old_words_and_zeros : OldWordsAndZeros u
  old_words_and_zeros = record {
    long = converted_long first_older u s ∙ omega arith;
    up_to_the_legs = λ i h.
        ap (λ (x : List ℕ). get_or x i 0) first_converted
        ∙ get_or-append (take (legs_at u) u) (new_legs u) 0 i (omega (arith, front_long))
        ∙ get_or-take (legs_at u) u i 0 h;
    own = λ a k h l.
        leg_word (leg_words * a + k)
        ∙ wider_own first_layout.leg leg_words new_word (omega arith) (leg_count u) (drop (legs_at u) u) a k legs_inside h l
        ∙ get_or-drop (legs_at u) u (first_layout.leg * a + k) 0;
    new = λ a h.
        leg_word (leg_words * a + first_layout.leg)
        ∙ wider_new first_layout.leg leg_words new_word (omega arith) (leg_count u) (drop (legs_at u) u) a first_layout.leg legs_inside h (omega arith) (omega arith);
  }

  same_links : link_count (converted first_layout u) ≡ link_count u
  same_links = sym ((converted_header first_older u s).word 1 (omega arith))

  same_streams : stream_count (converted first_layout u) ≡ stream_count u
  same_streams = sym ((converted_header first_older u s).word 2 (omega arith))

  same_legs : leg_count (converted first_layout u) ≡ leg_count u
  same_legs = sym ((converted_header first_older u s).word 3 (omega arith))

  -- The parts of what u becomes: links and streams are those of u, and the legs are made longer.
  link_part_is : link_part (converted first_layout u) ≡ first_links u
  link_part_is =
      ap (λ (n : ℕ). take (link_words * n) (drop link_start (converted first_layout u))) same_links
      ∙ ap (λ (x : List ℕ). take (link_words * link_count u) (drop link_start x)) first_converted
      ∙ part_in_front u link_start (link_words * link_count u) (legs_at u) (new_legs u) (omega arith) front_inside

  stream_part_is : stream_part (converted first_layout u) ≡ first_streams u
  stream_part_is =
      ap (λ (n : ℕ). take (stream_words * stream_count (converted first_layout u)) (drop (link_start + link_words * n) (converted first_layout u))) same_links
      ∙ ap (λ (n : ℕ). take (stream_words * n) (drop (stream_start_in first_layout u) (converted first_layout u))) same_streams
      ∙ ap (λ (x : List ℕ). take (stream_words * stream_count u) (drop (stream_start_in first_layout u) x)) first_converted
      ∙ part_in_front u (stream_start_in first_layout u) (stream_words * stream_count u) (legs_at u) (new_legs u) (omega arith) front_inside

  leg_part_is : leg_part (converted first_layout u) ≡ new_legs u
  leg_part_is =
      let start : leg_start (converted first_layout u) ≡ legs_at u = omega (arith, same_links, same_streams) in
      ap (λ (n : ℕ). take (leg_words * leg_count (converted first_layout u)) (drop n (converted first_layout u))) start
      ∙ ap (λ (x : List ℕ). take (leg_words * leg_count (converted first_layout u)) (drop (legs_at u) x)) first_converted
      ∙ ap (take (leg_words * leg_count (converted first_layout u))) (drop_at (take (legs_at u) u) (new_legs u) (legs_at u) front_long)
      ∙ take_all (leg_words * leg_count (converted first_layout u)) (new_legs u) (omega (arith, same_legs, new_legs_long))

  -- Word k of leg i; where there is no leg i both are 0.
  legs_long : length (first_legs u) ≡ first_layout.leg * leg_count u
  legs_long = length-take-le (first_layout.leg * leg_count u) (drop (legs_at u) u) legs_inside

  own_word : (i k : ℕ) → k < first_layout.leg → get_or (new_legs u) (leg_words * i + k) 0 ≡ get_or (first_legs u) (first_layout.leg * i + k) 0
  own_word i k l =
      ⊎_elim
      (λ (h : i < leg_count u).
      wider_own first_layout.leg leg_words new_word (omega arith) (leg_count u) (drop (legs_at u) u) i k legs_inside h l
      ∙ sym (get_or-take (first_layout.leg * leg_count u) (drop (legs_at u) u) (first_layout.leg * i + k) 0 (omega arith)))
      (λ (h : leg_count u ≤ i).
      get_or-eq_default (new_legs u) 0 (omega (arith, new_legs_long)) ∙ sym (get_or-eq_default (first_legs u) 0 (omega (arith, legs_long))))
      (lt_or_ge i (leg_count u))

  new_word_is : (i : ℕ) → get_or (new_legs u) (leg_words * i + first_layout.leg) 0 ≡ 0
  new_word_is i =
      ⊎_elim
      (λ (h : i < leg_count u).
      wider_new first_layout.leg leg_words new_word (omega arith) (leg_count u) (drop (legs_at u) u) i first_layout.leg legs_inside h (omega arith) (omega arith))
      (λ (h : leg_count u ≤ i). get_or-eq_default (new_legs u) 0 (omega (arith, new_legs_long)))
      (lt_or_ge i (leg_count u))

  pub link_reads : (i : ℕ) → link_at (converted first_layout u) i ≡ first_link_at u i
  link_reads i = sym (link_of_part (converted first_layout u) i) ∙ ap (λ (p : List ℕ). link_in p i) link_part_is

  pub stream_reads : (i : ℕ) → stream_at (converted first_layout u) i ≡ first_stream_at u i
  stream_reads i = sym (stream_of_part (converted first_layout u) i) ∙ ap (λ (p : List ℕ). stream_in p i) stream_part_is

  pub leg_reads : (i : ℕ) → leg_at (converted first_layout u) i ≡ in_its_period (first_leg_at u i)
  leg_reads i =
      let a : get_or (new_legs u) (leg_words * i) 0 ≡ get_or (first_legs u) (first_layout.leg * i) 0 = rw (add-zero (leg_words * i), add-zero (first_layout.leg * i)) at (own_word i 0 (omega arith)) in
      let b = own_word i 1 (omega arith) in
      let c = own_word i 2 (omega arith) in
      let d = new_word_is i in
      sym (leg_of_part (converted first_layout u) i) ∙ ap (λ (p : List ℕ). leg_in p i) leg_part_is ∙ cc

  pub old_records : OldRecords u
  old_records = record {
    revision = sym ((converted_header first_older u s).word 0 (omega arith));
    link_count_is = same_links;
    stream_count_is = same_streams;
    leg_count_is = same_legs;
    precision = sym ((converted_header first_older u s).word 4 (omega arith));
    link = link_reads;
    stream = stream_reads;
    leg = leg_reads;
  }

pub converted_keeps_words : ConvertedKeepsWords
converted_keeps_words u s = (old_words_and_zeros u s, old_records u s)
