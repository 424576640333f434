-- Numbers taken from a file into a buffer, record by record and each made longer, and the three parts that are the converted table.
-- Assumes nothing.
use Prim.Native.Nat.{ℕ, ◌+◌, ◌*◌, ◌-◌, ◌≤◌, ◌<◌}
use mathlib.Core.Path.{◌≡◌, refl, ◌∙◌, sym, ap, subst}
use mathlib.Core.List.{List, [], ◌∷◌, ◌++◌, append_assoc, append-nil}
use lib.ListN.{length, get_or, take, drop, replicate, length-append, length-drop, length-replicate, take-append-drop}
use lib.Seq.{length-take-le, take_at, drop_at, get_or-take, drop-drop}
use native.Mathlib.Nat.{mul-zero}
use native.Mathlib.Omega.{arith}
use Rattle.numbers.specs.Series.{Row, file_of, overlaid}
use Rattle.numbers.specs.Steps.{AllNumbers, Filled, Taken}
use Rattle.std.specs.Prelude.{Result, Ok, Err, IsOk, Option, Some, None}
use Rattle.std.specs.Option.{ok_or}
use Rattle.basics.specs.declared.Refusal.{Refusal}
use Rattle.numbers.proofs.Rows.{file_none, file_append, file_row, row_compare, row_stops, stands_front, words_take}
use Rattle.numbers.proofs.Overlay.{overlaid_all, overlaid_none, overlaid_append, overlaid_length}
use Rattle.table.specs.Layout.{current, head_words, link_words, stream_words, leg_words, link_count, stream_count, leg_count, stream_start_in, leg_start_in, table_words, LimitsIn, SizedIn}
use Rattle.table.specs.Size.{LimitsTold}
use Rattle.table.specs.declared.Edition.{Edition}
use Rattle.table.proofs.Headers.{SameHeader, limits_same, words_same, same_header_back}
use Rattle.files.specs.Reading.{IsFile}
use Rattle.editions.specs.Converted.{new_word, wider, converted, Older}
use Rattle.editions.specs.Steps.{FilledOn, FilledWider, Counted, Converts}
use Rattle.editions.proofs.Wider.{one_more, wider_none, wider_more, wider_length, wider_taken, limits_today, streams_there, legs_there, converted_long}

-- The first n words of a row stand, and the rest of the row after them.
pub row_part : {s : List ℕ} {at next : ℕ} (ws : List ℕ) (n : ℕ) → Row s at ws next → n ≤ length ws → AllNumbers s at n
row_part {s} {at} ws n r h =
    let e : file_of ws ≡ file_of (take n ws) ++ file_of (drop n ws) = ap file_of (sym (take-append-drop n ws)) ∙ file_append (take n ws) (drop n ws) in (
      at + length (file_of (take n ws)),
      record {
        ws = take n ws;
        count = length-take-le n ws h;
        row = record { words = words_take n ws r.words; stands = stands_front (file_of (take n ws)) (file_of (drop n ws)) (rw e at r.stands); ends = refl };
      },
    )

pub row_rest : {s : List ℕ} {at next mid : ℕ} (ws vs : List ℕ) (n : ℕ) → Row s at ws next → n ≤ length ws → Row s at vs mid → length vs ≡ n
    → (vs ≡ take n ws) × Row s mid (drop n ws) next
row_rest ws vs n r h q e =
    let i = row_compare vs ws q r (omega arith) in
    let t : ws ≡ vs ++ i.0 = i.1 in
    (rw t (sym (take_at vs i.0 n e)), rw (t, drop_at vs i.0 n e) i.2)

-- Numbers that stand are taken to the last one, into the words of a buffer from a position on.
module _ {s : List ℕ} {from : ℕ} (b : List ℕ) (count to : ℕ) (all : AllNumbers s from count) (room : to + count ≤ length b) where
  abbrev place : List ℕ
  place = take (to + count - to) (drop to b)

  place_long : length place ≡ count
  place_long = length-take-le (to + count - to) (drop to b) (omega (arith, length-drop to b)) ∙ omega arith

  pub taken_on : (r : Result ℕ Refusal) (b'' : List ℕ) {next : ℕ} → r ≡ Ok next → Taken s from place r b''
      → FilledOn s from count b to next (take to b ++ (b'' ++ drop (to + count - to) (drop to b)))
  unfolding overlaid
  taken_on r b'' {next} is told =
      let t : Taken s from place (Ok next) b'' = rw is at told in
      let n : length b'' ≡ count = t.0 ∙ place_long in
      let k : to + (to + count - to) ≡ to + length b'' = omega arith in
      record {
        ws = b'';
        count = n;
        row = t.1;
        after = ap (λ (x : List ℕ). take to b ++ (b'' ++ x)) (drop-drop (to + count - to) to b ∙ ap (λ (k : ℕ). drop k b) k);
      }

  pub taken_whole : (r : Result ℕ Refusal) (b'' : List ℕ) → Taken s from place r b'' → IsOk r
  taken_whole (Ok next) b'' told = refl
  taken_whole (Err e) b'' x =
      let ns = all.1 in
      absurd (omega (arith, row_stops x.ws ns.ws e.cause x.row x.no_number ns.row, x.short, ns.count, place_long))

-- Words from a position on that all became one value.
pub filled_with : (b : List ℕ) (to end v : ℕ) {part : List ℕ} → to ≤ end → part ≡ replicate (length (take (end - to) (drop to b))) v → end ≤ length b
    → take to b ++ (part ++ drop (end - to) (drop to b)) ≡ overlaid b to (replicate (end - to) v)
unfolding overlaid
filled_with b to end v {part} h is room =
    let n : length (take (end - to) (drop to b)) ≡ end - to = length-take-le (end - to) (drop to b) (omega (arith, length-drop to b)) in
    let k : to + length (replicate (end - to) v) ≡ to + (end - to) = omega (arith, length-replicate {A = ℕ} (end - to) v) in
    ap (λ (x : List ℕ). take to b ++ (x ++ drop (end - to) (drop to b))) (is ∙ ap (λ (m : ℕ). replicate m v) n)
    ∙ ap (λ (x : List ℕ). take to b ++ (replicate (end - to) v ++ x)) (drop-drop (end - to) to b ∙ ap (λ (m : ℕ). drop m b) (sym k))

-- Records being taken: those done lie in the buffer, and the rest is to come.
pub record Widening (s : List ℕ) (from n w g v : ℕ) (b : List ℕ) (to : ℕ) (out : List ℕ) (at next left : ℕ) : Type 0 where
  pub all : List ℕ
  pub done : List ℕ
  pub rest : List ℕ
  pub end : ℕ
  pub row : Row s from all end
  pub grows : w ≤ g
  pub count : length all ≡ w * n
  pub to_come : Row s at rest end
  pub whole : length rest ≡ w * left
  pub passed : next ≡ to + length done
  pub room : next + g * left ≤ length b
  pub out_is : out ≡ overlaid b to done
  pub so_far : done ++ wider w g v left rest ≡ wider w g v n all

pub widening_start : (s : List ℕ) (from n w g v : ℕ) (b : List ℕ) (to : ℕ) → AllNumbers s from (w * n) → (w ≤ g) × (to + g * n ≤ length b)
    → Widening s from n w g v b to b from to n
widening_start s from n w g v b to (next, ns) (z, h) = record {
  all = ns.ws;
  done = [];
  rest = ns.ws;
  end = next;
  row = ns.row;
  grows = z;
  count = ns.count;
  to_come = ns.row;
  whole = ns.count;
  passed = omega arith;
  room = h;
  out_is = sym (overlaid_none b to);
  so_far = refl;
}

module _ {s : List ℕ} {from n w g v : ℕ} {b : List ℕ} {to : ℕ} {out : List ℕ} {at next left : ℕ} (f : Widening s from n w g v b to out at next left) where
  pub widening_long : length out ≡ length b
  widening_long = ap length f.out_is ∙ overlaid_length b to f.done (omega (arith, f.passed, f.room))

  module _ (more : 0 < left) where
    pub widening_numbers : AllNumbers s at w
    widening_numbers = row_part f.rest w f.to_come (omega (arith, f.whole, one_more w left more))

    pub widening_room : next + g ≤ length b
    widening_room = omega (arith, f.room, one_more g left more)

    pub widening_filled : {out' : List ℕ} {at' : ℕ} → FilledOn s at w out next at' out' → length out' ≡ length b
    widening_filled t =
        ap length t.after ∙ overlaid_length out next t.ws (omega (arith, t.count, widening_room, widening_long, f.grows)) ∙ widening_long

    pub widening_next : {out' out'' : List ℕ} {at' : ℕ} → FilledOn s at w out next at' out' → out'' ≡ overlaid out' (next + w) (replicate (g - w) v)
        → Widening s from n w g v b to out'' at' (next + g) (left - 1)
    widening_next {out'} {out''} {at'} t p =
        let long : w ≤ length f.rest = omega (arith, f.whole, one_more w left more) in
        let q = row_rest f.rest t.ws w f.to_come long t.row t.count in
        let e : t.ws ≡ take w f.rest = q.0 in
        let r = length-replicate {A = ℕ} (g - w) v in
        let l = length-append f.done t.ws in
        let a = length-append (f.done ++ t.ws) (replicate (g - w) v) in
        let z = f.grows in
        let one : out' ≡ overlaid b to (f.done ++ t.ws)
        = t.after
        ∙ ap (λ (o : List ℕ). overlaid o next t.ws) f.out_is
        ∙ ap (λ (k : ℕ). overlaid (overlaid b to f.done) k t.ws) f.passed
        ∙ overlaid_append b to f.done (omega (arith, f.passed, f.room)) t.ws in
        let here : next + w ≡ to + length (f.done ++ t.ws) = omega (arith, f.passed, t.count) in
        let step = wider_more w g v left f.rest more in
        record {
          all = f.all;
          done = (f.done ++ t.ws) ++ replicate (g - w) v;
          rest = drop w f.rest;
          end = f.end;
          row = f.row;
          grows = f.grows;
          count = f.count;
          to_come = q.1;
          whole = omega (arith, length-drop w f.rest, f.whole, one_more w left more);
          passed = omega (arith, f.passed, t.count);
          room = omega (arith, f.room, one_more g left more);
          out_is = p
              ∙ ap (λ (o : List ℕ). overlaid o (next + w) (replicate (g - w) v)) one
              ∙ ap (λ (k : ℕ). overlaid (overlaid b to (f.done ++ t.ws)) k (replicate (g - w) v)) here
              ∙ overlaid_append b to (f.done ++ t.ws) (omega (arith, f.passed, f.room, one_more g left more, t.count)) (replicate (g - w) v);
          so_far = append_assoc (f.done ++ t.ws) (replicate (g - w) v) _
              ∙ append_assoc f.done t.ws _
              ∙ ap (λ (x : List ℕ). f.done ++ (x ++ (replicate (g - w) v ++ wider w g v (left - 1) (drop w f.rest)))) e
              ∙ ap (λ (x : List ℕ). f.done ++ x) (sym step)
              ∙ f.so_far;
        }

module _ {s : List ℕ} {from n w g : ℕ} {b : List ℕ} {to : ℕ} {out : List ℕ} {at next left : ℕ} (f : Widening s from n w g new_word b to out at next left) where
  pub widening_end : left ≤ 0 → FilledWider s from n w g b to at out
  widening_end h =
      let z : left ≡ 0 = omega arith in
      let none : f.rest ≡ [] = empty f.rest (f.whole ∙ ap (λ (k : ℕ). w * k) z ∙ mul-zero w) in
      let last = subst (λ (x : List ℕ). Row s at x f.end) none f.to_come in
      let there : f.end ≡ at = omega (arith, last.ends, ap length file_none) in
      let all_done : f.done ≡ wider w g new_word n f.all
      = sym (append-nil f.done) ∙ ap (λ (x : List ℕ). f.done ++ x) (sym (ap (λ (k : ℕ). wider w g new_word k f.rest) z ∙ wider_none w g new_word f.rest)) ∙ f.so_far in
      record { ws = f.all; count = f.count; row = subst (Row s from f.all) there f.row; after = f.out_is ∙ ap (overlaid b to) all_done }
    where
      empty : (us : List ℕ) → length us ≡ 0 → us ≡ []
      empty [] h = refl
      empty (u ∷ us) h = absurd (omega arith)

-- The three parts of a file of an older layout, taken one after the other.
module _ {e : Edition} {s : List ℕ} {N S G front : ℕ} {b : List ℕ} (o : Older e) (c : Counted e s N S G b) (front-is : front ≡ head_words + e.link * N) where
  row : Row s 0 c.table (length (file_of c.table))
  row = rw c.file.bytes (file_row c.table c.file.words)

  start : front ≡ stream_start_in e c.table
  start = front-is ∙ ap (λ (k : ℕ). head_words + e.link * k) c.links_are

  streams_sized : e.stream * S ≡ e.stream * stream_count c.table
  streams_sized = ap (λ (k : ℕ). e.stream * k) c.streams_are

  legs_sized : e.leg * G ≡ e.leg * leg_count c.table
  legs_sized = ap (λ (k : ℕ). e.leg * k) c.legs_are

  front_inside : front ≤ length c.table
  front_inside = omega (arith, start, c.file.complete.exact)

  streams_inside : e.stream * S ≤ length (drop front c.table)
  streams_inside = omega (arith, start, streams_sized, c.file.complete.exact, length-drop front c.table)

  legs_inside : e.leg * G ≤ length (drop (e.stream * S) (drop front c.table))
  legs_inside =
      omega
      (arith, start, streams_sized, legs_sized, c.file.complete.exact, length-drop front c.table, length-drop (e.stream * S) (drop front c.table))

  pub parts_room : front + stream_words * S + leg_words * G ≤ length b
  parts_room =
      let l : e.link * link_count c.table ≡ link_words * link_count c.table = ap (λ (k : ℕ). k * link_count c.table) o.link in
      omega (arith, start, c.streams_are, c.legs_are, c.fits)

  pub front_numbers : AllNumbers s 0 front
  front_numbers = row_part c.table front row front_inside

  module _ {b1 : List ℕ} {at1 : ℕ} (f1 : FilledOn s 0 front b 0 at1 b1) where
    pub front_long : length b1 ≡ length b
    front_long = ap length f1.after ∙ overlaid_length b 0 f1.ws (omega (arith, f1.count, parts_room))

    q1 : (f1.ws ≡ take front c.table) × Row s at1 (drop front c.table) (length (file_of c.table))
    q1 = row_rest c.table f1.ws front row front_inside f1.row f1.count

    pub streams_numbers : AllNumbers s at1 (e.stream * S)
    streams_numbers = row_part (drop front c.table) (e.stream * S) q1.1 streams_inside

    module _ {b2 : List ℕ} {at2 : ℕ} (f2 : FilledWider s at1 S e.stream stream_words b1 front at2 b2) where
      new_streams_is : List ℕ
      new_streams_is = wider e.stream stream_words new_word S f2.ws

      new_streams_long : length new_streams_is ≡ stream_words * S
      unfolding new_streams_is
      new_streams_long = wider_length e.stream stream_words new_word o.stream S f2.ws (omega (arith, f2.count))

      pub streams_long : length b2 ≡ length b
      unfolding new_streams_is
      streams_long = ap length f2.after ∙ overlaid_length b1 front new_streams_is (omega (arith, new_streams_long, parts_room, front_long)) ∙ front_long

      q2 : (f2.ws ≡ take (e.stream * S) (drop front c.table)) × Row s at2 (drop (e.stream * S) (drop front c.table)) (length (file_of c.table))
      q2 = row_rest (drop front c.table) f2.ws (e.stream * S) q1.1 streams_inside f2.row f2.count

      pub legs_numbers : AllNumbers s at2 (e.leg * G)
      legs_numbers = row_part (drop (e.stream * S) (drop front c.table)) (e.leg * G) q2.1 legs_inside

      module _ {b3 : List ℕ} {after at3 : ℕ} (after_is : after ≡ front + stream_words * S) (f3 : FilledWider s at2 G e.leg leg_words b2 after at3 b3) where
        new_legs_is : List ℕ
        new_legs_is = wider e.leg leg_words new_word G f3.ws

        q3 : f3.ws ≡ take (e.leg * G) (drop (front + e.stream * S) c.table)
        q3 =
            (row_rest (drop (e.stream * S) (drop front c.table)) f3.ws (e.leg * G) q2.1 legs_inside f3.row f3.count).0
            ∙ ap (take (e.leg * G)) (drop-drop (e.stream * S) front c.table)

        laid : b3 ≡ overlaid b 0 (f1.ws ++ (new_streams_is ++ new_legs_is))
        unfolding new_streams_is new_legs_is
        laid =
            let n1 : front ≡ 0 + length f1.ws = omega (arith, f1.count) in
            let l = length-append f1.ws new_streams_is in
            let n2 : after ≡ 0 + length (f1.ws ++ new_streams_is) = omega (arith, after_is, f1.count, new_streams_long) in
            let two : b2 ≡ overlaid b 0 (f1.ws ++ new_streams_is)
            = f2.after
            ∙ ap (λ (x : List ℕ). overlaid x front new_streams_is) f1.after
            ∙ ap (λ (k : ℕ). overlaid (overlaid b 0 f1.ws) k new_streams_is) n1
            ∙ overlaid_append b 0 f1.ws (omega (arith, f1.count, parts_room)) new_streams_is in
            f3.after
            ∙ ap (λ (x : List ℕ). overlaid x after new_legs_is) two
            ∙ ap (λ (k : ℕ). overlaid (overlaid b 0 (f1.ws ++ new_streams_is)) k new_legs_is) n2
            ∙ overlaid_append b 0 (f1.ws ++ new_streams_is) (omega (arith, f1.count, new_streams_long, parts_room)) new_legs_is
            ∙ ap (overlaid b 0) (append_assoc f1.ws new_streams_is new_legs_is)

        pub all_converted : Converts e s b b3
        unfolding new_streams_is new_legs_is converted
        all_converted =
            let t = c.table in
            let z = c.file.complete in
            let a = start in
            let d = c.streams_are in
            let g = c.legs_are in
            let w1 = q1.0 in
            let w2 = q2.0 in
            let w3 = q3 in
            let x1 : f1.ws ≡ take (stream_start_in e t) t = cc in
            let x2 : new_streams_is ≡ wider e.stream stream_words new_word (stream_count t) (take (e.stream * stream_count t) (drop (stream_start_in e t) t)) = cc in
            let x3 : new_legs_is ≡ wider e.leg leg_words new_word (leg_count t) (take (e.leg * leg_count t) (drop (leg_start_in e t) t)) = cc in
            let y2 = wider_taken e.stream stream_words new_word (stream_count t) (drop (stream_start_in e t) t) (streams_there o t z) in
            let y3 = wider_taken e.leg leg_words new_word (leg_count t) (drop (leg_start_in e t) t) (legs_there o t z) in
            let same : f1.ws ++ (new_streams_is ++ new_legs_is) ≡ converted e t = cc in
            record { table = t; file = c.file; after = laid ∙ ap (overlaid b 0) same }

-- The header of the file of an older table, taken into words of its own.
module _ {e : Edition} {s : List ℕ} (u : List ℕ) (file : IsFile (SizedIn e) s u) where
  file_is : Row s 0 u (length (file_of u))
  file_is = rw file.bytes (file_row u file.words)

  pub header_numbers : AllNumbers s 0 head_words
  header_numbers = row_part u head_words file_is file.complete.head

  module _ {b b' : List ℕ} (f : Filled s 0 head_words b b') (five : length b ≡ head_words) where
    pub old_header : SameHeader b' u
    old_header =
        let w = (row_rest u f.ws head_words file_is file.complete.head f.row f.count).0 in
        let a : b' ≡ take head_words u = f.after ∙ overlaid_all b f.ws (f.count ∙ sym five) ∙ w in
        record { word = λ i h. ap (λ (l : List ℕ). get_or l i 0) a ∙ get_or-take head_words u i 0 h }

    -- The header's size today is the length of what the table becomes, and no limit is passed.
    pub size_today : {n : ℕ} → Older e → n ≡ table_words b' → n ≡ length (converted e u)
    size_today o h = h ∙ words_same current old_header ∙ sym (converted_long o u file.complete)

    pub limits_kept : Older e → (LimitsIn current b' → ⊥) → ⊥
    limits_kept o h = h (limits_same current (same_header_back old_header) (limits_today o file.complete.limits))

-- What a header's limits tell, as an option with a refusal beside it: the words of its table, or that it passes a limit.
module _ {e : Edition} {h : List ℕ} where
  pub limits_given : (o : Option ℕ) (d : Refusal) {n : ℕ} → LimitsTold e h o → Ok n ≡ ok_or o d → LimitsTold e h (Some n)
  limits_given None d told is = absurd (cc)
  limits_given (Some m) d {n} told is = let same : n ≡ m = cc in rw same told

  pub limits_past : (o : Option ℕ) (d : Refusal) {x : Refusal} → LimitsTold e h o → Err x ≡ ok_or o d → ((LimitsIn e h → ⊥) → ⊥) → ⊥
  limits_past None d told is not = not told
  limits_past (Some m) d told is not = absurd (cc)
