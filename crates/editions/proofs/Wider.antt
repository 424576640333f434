-- Records made longer, word by word, and how long the table is that an older one becomes. Assumes nothing.
use Prim.Native.Nat.{ℕ, zero, suc, ◌+◌, ◌*◌, ◌-◌, ◌≤◌, ◌<◌}
use mathlib.Core.Path.{◌≡◌, refl, ◌∙◌, sym, ap}
use mathlib.Core.List.{List, [], ◌++◌, append_assoc}
use lib.ListN.{length, get_or, take, drop, replicate, length-append, length-drop, length-replicate, get_or-replicate, get_or-append}
use lib.Seq.{length-take-le, take-add, take_at, drop_at, get_or-take, get_or-drop, get_or-append-add}
use native.Mathlib.Nat.{mul-suc, mul-zero}
use native.Mathlib.Omega.{arith}
use Rattle.numbers.specs.Number.{max_word}
use Rattle.numbers.specs.Series.{AllWords}
use Rattle.numbers.proofs.Rows.{words_append, words_take, words_drop}
use Rattle.table.specs.Layout.{current, first_layout, link_words, stream_words, leg_words, link_count, stream_count, leg_count, stream_start_in, leg_start_in, table_words, LimitsIn, SizedIn, Sized}
use Rattle.table.specs.declared.Edition.{Edition}
use Rattle.table.proofs.Headers.{SameHeader, limits_same, words_same}
use Rattle.editions.specs.Converted.{new_word, wider, converted, Older}

-- One record more of w words.
pub one_more : (w n : ℕ) → 0 < n → w * n ≡ w + w * (n - 1)
one_more w zero h = absurd (omega arith)
one_more w (suc n) h = let e : suc n - 1 ≡ n = omega arith in rw e (let m = mul-suc w n in omega arith)

words_same_word : (n v : ℕ) → v ≤ max_word → AllWords (replicate n v)
words_same_word zero v h = tt
words_same_word (suc n) v h = (h, words_same_word n v h)

module _ (w g v : ℕ) where
  pub wider_none : (ws : List ℕ) → wider w g v 0 ws ≡ []
  unfolding wider
  wider_none ws = refl

  pub wider_more : (n : ℕ) (ws : List ℕ) → 0 < n → wider w g v n ws ≡ take w ws ++ (replicate (g - w) v ++ wider w g v (n - 1) (drop w ws))
  unfolding wider
  wider_more zero ws h = absurd (omega arith)
  wider_more (suc n) ws h = let e : suc n - 1 ≡ n = omega arith in rw e

  pub wider_words : (n : ℕ) (ws : List ℕ) → v ≤ max_word → AllWords ws → AllWords (wider w g v n ws)
  unfolding wider
  wider_words zero ws b h = tt
  wider_words (suc n) ws b h =
      words_append (take w ws) _ (words_take w ws h) (words_append (replicate (g - w) v) _ (words_same_word (g - w) v b) (wider_words n (drop w ws) b (words_drop w ws h)))

  -- Only the words of the n records are read.
  pub wider_taken : (n : ℕ) (ws : List ℕ) → w * n ≤ length ws → wider w g v n (take (w * n) ws) ≡ wider w g v n ws
  unfolding wider
  wider_taken zero ws h = refl
  wider_taken (suc n) ws h =
      let m : w * suc n ≡ w + w * n = (let k = mul-suc w n in omega arith) in
      let e : take (w * suc n) ws ≡ take w ws ++ take (w * n) (drop w ws) = ap (λ (k : ℕ). take k ws) m ∙ take-add w (w * n) ws in
      let l : length (take w ws) ≡ w = length-take-le w ws (omega arith) in
      let a : take w (take (w * suc n) ws) ≡ take w ws = ap (take w) e ∙ take_at (take w ws) (take (w * n) (drop w ws)) w l in
      let b : drop w (take (w * suc n) ws) ≡ take (w * n) (drop w ws) = ap (drop w) e ∙ drop_at (take w ws) (take (w * n) (drop w ws)) w l in
      let i = wider_taken n (drop w ws) (omega (arith, length-drop w ws)) in
      rw (a, b, i)

  module _ (grows : w ≤ g) where
    -- The record in front, made longer.
    front_long : (ws : List ℕ) → w ≤ length ws → length (take w ws ++ replicate (g - w) v) ≡ g
    front_long ws h = length-append (take w ws) (replicate (g - w) v) ∙ omega (arith, length-take-le w ws h, length-replicate {A = ℕ} (g - w) v)

    pub wider_length : (n : ℕ) (ws : List ℕ) → w * n ≤ length ws → length (wider w g v n ws) ≡ g * n
    unfolding wider
    wider_length zero ws h = sym (mul-zero g)
    wider_length (suc n) ws h =
        let m = mul-suc w n in
        let i = wider_length n (drop w ws) (omega (arith, length-drop w ws)) in
        let a = ap length (append_assoc (take w ws) (replicate (g - w) v) (wider w g v n (drop w ws))) in
        let b = length-append (take w ws ++ replicate (g - w) v) (wider w g v n (drop w ws)) in
        let f = front_long ws (omega arith) in
        let k = mul-suc g n in
        omega arith

    -- Word k of record i.
    pub wider_own : (n : ℕ) (ws : List ℕ) (i k : ℕ) → w * n ≤ length ws → i < n → k < w → get_or (wider w g v n ws) (g * i + k) 0 ≡ get_or ws (w * i + k) 0
    unfolding wider
    wider_own zero ws i k h l b = absurd (omega arith)
    wider_own (suc n) ws zero k h l b =
        let m = mul-suc w n in
        let t = length-take-le w ws (omega arith) in
        let z : g * 0 + k ≡ k = (let y = mul-zero g in omega arith) in
        let y : w * 0 + k ≡ k = (let x = mul-zero w in omega arith) in
        rw (z, y) (get_or-append (take w ws) _ 0 k (omega arith) ∙ get_or-take w ws k 0 b)
    wider_own (suc n) ws (suc i) k h l b =
        let m = mul-suc w n in
        let f = front_long ws (omega arith) in
        let z : g * suc i + k ≡ length (take w ws ++ replicate (g - w) v) + (g * i + k) = (let y = mul-suc g i in omega arith) in
        let y : w + (w * i + k) ≡ w * suc i + k = (let x = mul-suc w i in omega arith) in
        ap (λ (j : ℕ). get_or (take w ws ++ (replicate (g - w) v ++ wider w g v n (drop w ws))) j 0) z
        ∙ ap (λ (x : List ℕ). get_or x (length (take w ws ++ replicate (g - w) v) + (g * i + k)) 0) (sym (append_assoc (take w ws) (replicate (g - w) v) (wider w g v n (drop w ws))))
        ∙ get_or-append-add (take w ws ++ replicate (g - w) v) (wider w g v n (drop w ws)) (g * i + k) 0
        ∙ wider_own n (drop w ws) i k (omega (arith, length-drop w ws)) (omega arith) b
        ∙ get_or-drop w ws (w * i + k) 0
        ∙ ap (λ (j : ℕ). get_or ws j 0) y

    pub wider_new : (n : ℕ) (ws : List ℕ) (i k : ℕ) → w * n ≤ length ws → i < n → w ≤ k → k < g → get_or (wider w g v n ws) (g * i + k) 0 ≡ v
    unfolding wider
    wider_new zero ws i k h l a b = absurd (omega arith)
    wider_new (suc n) ws zero k h l a b =
        let m = mul-suc w n in
        let t = length-take-le w ws (omega arith) in
        let r = length-replicate {A = ℕ} (g - w) v in
        let z : g * 0 + k ≡ length (take w ws) + (k - w) = (let y = mul-zero g in omega arith) in
        ap (λ (j : ℕ). get_or (take w ws ++ (replicate (g - w) v ++ wider w g v n (drop w ws))) j 0) z
        ∙ get_or-append-add (take w ws) (replicate (g - w) v ++ wider w g v n (drop w ws)) (k - w) 0
        ∙ get_or-append (replicate (g - w) v) _ 0 (k - w) (omega arith)
        ∙ get_or-replicate (g - w) (k - w) v 0 (omega arith)
    wider_new (suc n) ws (suc i) k h l a b =
        let m = mul-suc w n in
        let f = front_long ws (omega arith) in
        let z : g * suc i + k ≡ length (take w ws ++ replicate (g - w) v) + (g * i + k) = (let y = mul-suc g i in omega arith) in
        ap (λ (j : ℕ). get_or (take w ws ++ (replicate (g - w) v ++ wider w g v n (drop w ws))) j 0) z
        ∙ ap (λ (x : List ℕ). get_or x (length (take w ws ++ replicate (g - w) v) + (g * i + k)) 0) (sym (append_assoc (take w ws) (replicate (g - w) v) (wider w g v n (drop w ws))))
        ∙ get_or-append-add (take w ws ++ replicate (g - w) v) (wider w g v n (drop w ws)) (g * i + k) 0
        ∙ wider_new n (drop w ws) i k (omega (arith, length-drop w ws)) (omega arith) a b

-- Records that are not made longer stay.
pub wider_same : (w v n : ℕ) (ws : List ℕ) → w * n ≤ length ws → wider w w v n ws ≡ take (w * n) ws
unfolding wider
wider_same w v zero ws h = rw (mul-zero w)
wider_same w v (suc n) ws h =
    let m : w * suc n ≡ w + w * n = (let k = mul-suc w n in omega arith) in
    let z : w - w ≡ 0 = omega arith in
    let i = wider_same w v n (drop w ws) (omega (arith, length-drop w ws)) in
    rw (z, i, m) (sym (take-add w (w * n) ws))

pub first_older : Older first_layout
first_older = record { link = refl; stream = omega arith; leg = omega arith; links = omega arith; streams = omega arith; legs = omega arith; precision = omega arith }

module _ {e : Edition} (o : Older e) where
  pub limits_today : {t : List ℕ} → LimitsIn e t → LimitsIn current t
  limits_today l = record {
    links = omega (arith, o.links, l.links);
    streams = omega (arith, o.streams, l.streams);
    legs = omega (arith, o.legs, l.legs);
    precision = omega (arith, o.precision, l.precision);
  }

  module _ (u : List ℕ) (s : SizedIn e u) where
    pub streams_there : e.stream * stream_count u ≤ length (drop (stream_start_in e u) u)
    streams_there = omega (arith, length-drop (stream_start_in e u) u, s.exact)

    pub legs_there : e.leg * leg_count u ≤ length (drop (leg_start_in e u) u)
    legs_there = omega (arith, length-drop (leg_start_in e u) u, s.exact)

    start_there : length (take (stream_start_in e u) u) ≡ stream_start_in e u
    start_there = length-take-le _ _ (omega (arith, s.exact))

    pub converted_long : length (converted e u) ≡ table_words u
    unfolding converted
    converted_long =
        let ss = wider e.stream stream_words new_word (stream_count u) (drop (stream_start_in e u) u) in
        let gs = wider e.leg leg_words new_word (leg_count u) (drop (leg_start_in e u) u) in
        let a = wider_length e.stream stream_words new_word o.stream (stream_count u) (drop (stream_start_in e u) u) streams_there in
        let b = wider_length e.leg leg_words new_word o.leg (leg_count u) (drop (leg_start_in e u) u) legs_there in
        let c = length-append (take (stream_start_in e u) u) (ss ++ gs) in
        let d = length-append ss gs in
        let l : e.link * link_count u ≡ link_words * link_count u = ap (λ (k : ℕ). k * link_count u) o.link in
        omega (arith, start_there)

    pub converted_header : SameHeader u (converted e u)
    unfolding converted
    converted_header = record {
      word = λ i b. sym (get_or-append (take (stream_start_in e u) u) _ 0 i (omega (arith, start_there)) ∙ get_or-take (stream_start_in e u) u i 0 (omega arith));
    }

    -- What an older table becomes is a table of today.
    pub converted_sized : Sized (converted e u)
    converted_sized =
        let l = converted_long in
        let w = words_same current converted_header in
        record { head = omega arith; limits = limits_same current converted_header (limits_today s.limits); exact = l ∙ w }

    pub converted_words : AllWords u → AllWords (converted e u)
    unfolding converted
    converted_words h =
        let ss = drop (stream_start_in e u) u in
        let gs = drop (leg_start_in e u) u in
        words_append (take (stream_start_in e u) u) _ (words_take (stream_start_in e u) u h)
        (words_append (wider e.stream stream_words new_word (stream_count u) ss) _
        (wider_words e.stream stream_words new_word (stream_count u) ss (omega arith) (words_drop (stream_start_in e u) u h))
        (wider_words e.leg leg_words new_word (leg_count u) gs (omega arith) (words_drop (leg_start_in e u) u h)))
