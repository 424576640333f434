-- Pairs behind which a stretch is added. Assumes nothing.
use Prim.Native.Nat.{ℕ, zero, suc, ◌+◌, ◌*◌, ◌-◌, ◌≤◌, ◌<◌}
use mathlib.Core.Path.{◌≡◌, refl, sym, ◌∙◌}
use mathlib.Core.List.{List}
use mathlib.Core.Logic.{⊎_elim}
use lib.ListN.{length, get_or, set, length-set}
use lib.Seq.{get_or-set_same, get_or-set_other}
use native.Mathlib.Omega.{arith}
use Rattle.basics.proofs.Splits.{lt_or_ge}
use Rattle.gates.specs.Pairs.{mask_of, duration_of, begin_of, ShowsAt, PairsRight, ListRight, max_pairs, max_cycle}
use Rattle.gates.specs.Steps.{Grows, longer, next, full, Room, RunTold, Unfinished}
use Rattle.gates.specs.Theorems.{OneMask}
use Rattle.gates.specs.declared.runs.Run.{Run}
use Rattle.std.specs.Prelude.{Option, Some, None}
use Rattle.gates.proofs.Begins.{begin_none, begin_next}

-- The first n pairs of two lists are the same.
pub record Alike (w v : List ℕ) (n : ℕ) : Type 0 where
  pub mask : (i : ℕ) → i < n → mask_of w i ≡ mask_of v i
  pub duration : (i : ℕ) → i < n → duration_of w i ≡ duration_of v i

pub begin_alike : (w v : List ℕ) (n : ℕ) → Alike w v n → (i : ℕ) → i ≤ n → begin_of w i ≡ begin_of v i
begin_alike w v n a zero h = begin_none w ∙ sym (begin_none v)
begin_alike w v n a (suc i) h =
    let z : suc i ≡ i + 1 = omega arith in
    rw z (omega (arith, begin_alike w v n a i (omega arith), a.duration i (omega arith), begin_next w i, begin_next v i))

pub pairs_alike : (R : ℕ → ℕ → Type 0) (w v : List ℕ) (n : ℕ) → Alike w v n → PairsRight R w n → PairsRight R v n
pairs_alike R w v n a p = record {
  lasts = λ i h. rw (a.duration i h) at (p.lasts i h);
  differ = λ i h e. p.differ i h (a.mask i (omega arith) ∙ e ∙ sym (a.mask (i + 1) h));
  right = λ i y h s.
      let b = begin_alike w v n a i (omega arith) in
      let d = a.duration i h in
      rw (a.mask i h) at (p.right i y h (record { begun = omega (arith, s.begun); not_ended = omega (arith, s.not_ended) }));
}

-- The same pairs, where what is right is right in another way.
pub list_also : (R Q : ℕ → ℕ → Type 0) (cycle : ℕ) (w : List ℕ) (n : ℕ) → ((x m : ℕ) → R x m → Q x m) → ListRight R cycle w n → ListRight Q cycle w n
list_also R Q cycle w n to p = record {
  pairs = record { lasts = p.pairs.lasts; differ = p.pairs.differ; right = λ i y h s. to y _ (p.pairs.right i y h s) };
  adds_up = p.adds_up;
}

-- The same pairs in another list.
pub list_alike : (R : ℕ → ℕ → Type 0) (cycle : ℕ) (w v : List ℕ) (n : ℕ) → Alike w v n → ListRight R cycle w n → ListRight R cycle v n
list_alike R cycle w v n a p = record { pairs = pairs_alike R w v n a p.pairs; adds_up = sym (begin_alike w v n a n (omega arith)) ∙ p.adds_up }

pub unfinished_also : (R Q : ℕ → ℕ → Type 0) (cycle : ℕ) (w : List ℕ) (n : ℕ) → ((x m : ℕ) → R x m → Q x m) → ((x m : ℕ) → Q x m → R x m) → Unfinished R cycle w n → Unfinished Q cycle w n
unfinished_also R Q cycle w n to from o = record {
  pairs = record { lasts = o.pairs.lasts; differ = o.pairs.differ; right = λ i y h s. to y _ (o.pairs.right i y h s) };
  short = o.short;
  changes = λ i e r. o.changes i e (from _ _ r);
}

-- Fewer of the pairs.
pairs_less : (R : ℕ → ℕ → Type 0) (w : List ℕ) (n k : ℕ) → k ≤ n → PairsRight R w n → PairsRight R w k
pairs_less R w n k h p = record {
  lasts = λ i b. p.lasts i (omega arith);
  differ = λ i b. p.differ i (omega arith);
  right = λ i y b. p.right i y (omega arith);
}

pub pairs_none : (R : ℕ → ℕ → Type 0) (w : List ℕ) → PairsRight R w 0
pairs_none R w = record { lasts = λ i b. absurd (omega arith); differ = λ i b. absurd (omega arith); right = λ i y b. absurd (omega arith) }

-- One pair more.
pub pairs_more : (R : ℕ → ℕ → Type 0) (w : List ℕ) (n : ℕ) → PairsRight R w n → 1 ≤ duration_of w n → ((j : ℕ) → n ≡ j + 1 → mask_of w j ≡ mask_of w n → ⊥)
    → ((y : ℕ) → ShowsAt w n y → R y (mask_of w n)) → PairsRight R w (n + 1)
pairs_more R w n p d m r = record {
  lasts = λ i h. ⊎_elim (λ (k : i < n). p.lasts i k) (λ (k : n ≤ i). let e : i ≡ n = omega arith in rw e d) (lt_or_ge i n);
  differ = λ i h.
      ⊎_elim (λ (k : i + 1 < n). p.differ i k) (λ (k : n ≤ i + 1). let e : n ≡ i + 1 = omega arith in rw e at (m i e)) (lt_or_ge (i + 1) n);
  right = λ i y h s. ⊎_elim (λ (k : i < n). p.right i y k s) (λ (k : n ≤ i). let e : i ≡ n = omega arith in rw e (r y (rw e at s))) (lt_or_ge i n);
}

module _ (R : ℕ → ℕ → Type 0) (words : List ℕ) (x e mask : ℕ) (ends : x < e) (right : (y : ℕ) → x ≤ y → y < e → R y mask) where
  -- The last pair made longer.
  pub grown_longer : (j : ℕ) → 2 * j + 1 < length words → PairsRight R words (j + 1) → begin_of words (j + 1) ≡ x → mask_of words j ≡ mask
      → (w : List ℕ) → w ≡ set words (2 * j + 1) (duration_of words j + (e - x)) → PairsRight R w (j + 1) × (begin_of w (j + 1) ≡ e)
  grown_longer j b p s m w q =
      let a : Alike words w j = record {
        mask = λ i h. sym (rw q (get_or-set_other words (2 * j + 1) (2 * i) (duration_of words j + (e - x)) 0 (λ z. omega arith)));
        duration = λ i h. sym (rw q (get_or-set_other words (2 * j + 1) (2 * i + 1) (duration_of words j + (e - x)) 0 (λ z. omega arith)));
      } in
      let mj : mask_of w j ≡ mask_of words j = rw q (get_or-set_other words (2 * j + 1) (2 * j) (duration_of words j + (e - x)) 0 (λ z. omega arith)) in
      let dj : duration_of w j ≡ duration_of words j + (e - x) = rw q (get_or-set_same words (2 * j + 1) (duration_of words j + (e - x)) 0 b) in
      let sj = begin_alike words w j a j (omega arith) in
      let t = begin_next words j in
      let u = begin_next w j in (
        pairs_more R w j (pairs_alike R words w j a (pairs_less R words (j + 1) j (omega arith) p)) (omega (arith, p.lasts j (omega arith)))
            (λ i h z. p.differ i (omega arith) (let h' : i + 1 ≡ j = omega arith in a.mask i (omega arith) ∙ z ∙ mj ∙ rw h'))
            (λ y z.
            rw mj
            (⊎_elim
            (λ (k : y < x). p.right j y (omega arith) (record { begun = omega (arith, z.begun); not_ended = omega arith }))
            (λ (k : x ≤ y). rw m (right y k (omega (arith, z.not_ended))))
            (lt_or_ge y x))),
        omega arith,
      )

  -- A pair added.
  pub grown_next : (n : ℕ) → 2 * n + 1 < length words → PairsRight R words n → begin_of words n ≡ x → ((j : ℕ) → n ≡ j + 1 → mask_of words j ≡ mask → ⊥)
      → (w : List ℕ) → w ≡ set (set words (2 * n) mask) (2 * n + 1) (e - x) → PairsRight R w (n + 1) × (begin_of w (n + 1) ≡ e)
  grown_next n b p s m w q =
      let other : (k : ℕ) → k < 2 * n → get_or w k 0 ≡ get_or words k 0 = λ k h.
      rw q (get_or-set_other (set words (2 * n) mask) (2 * n + 1) k (e - x) 0 (λ z. omega arith) ∙ get_or-set_other words (2 * n) k mask 0 (λ z. omega arith)) in
      let a : Alike words w n = record { mask = λ i h. sym (other (2 * i) (omega arith)); duration = λ i h. sym (other (2 * i + 1) (omega arith)) } in
      let mn : mask_of w n ≡ mask = rw q (get_or-set_other (set words (2 * n) mask) (2 * n + 1) (2 * n) (e - x) 0 (λ z. omega arith) ∙ get_or-set_same words (2 * n) mask 0 (omega arith)) in
      let dn : duration_of w n ≡ e - x = rw q (get_or-set_same (set words (2 * n) mask) (2 * n + 1) (e - x) 0 (simp length-set b)) in
      let sn = begin_alike words w n a n (omega arith) in
      let u = begin_next w n in (
        pairs_more R w n (pairs_alike R words w n a p) (omega arith)
            (λ i h z. m i h (a.mask i (omega arith) ∙ z ∙ mn))
            (λ y z. rw mn (right y (omega (arith, z.begun)) (omega (arith, z.not_ended)))),
        omega arith,
      )

  -- No room for a pair: the list has more.
  grown_full : OneMask R → (cycle n : ℕ) → e ≤ cycle → PairsRight R words n → begin_of words n ≡ x → ((j : ℕ) → n ≡ j + 1 → mask_of words j ≡ mask → ⊥) → Unfinished R cycle words n
  grown_full one cycle n b p s m = record {
    pairs = p;
    short = omega arith;
    changes = λ i z q. m i z (one x _ _ (rw s at q) (right x (omega arith) ends));
  }

-- The pairs up to instant x lie in the words.
pub record Writing (R : ℕ → ℕ → Type 0) (cycle : ℕ) (words : List ℕ) (x n : ℕ) : Type 0 where
  pub pairs : PairsRight R words n
  pub here : begin_of words n ≡ x
  pub to : x ≤ cycle
  pub count : n ≤ max_pairs
  pub long : length words ≡ 2 * max_pairs

abbrev pub Written : (ℕ → ℕ → Type 0) → ℕ → List ℕ → ℕ → Option ℕ → Type 0
Written R cycle words x (Some n) = Writing R cycle words x n
Written R cycle words x None = Unfinished R cycle words max_pairs

pub writing_start : (R : ℕ → ℕ → Type 0) (cycle : ℕ) (words : List ℕ) → length words ≡ 2 * max_pairs → Writing R cycle words 0 0
writing_start R cycle words h = record {
  pairs = pairs_none R words;
  here = begin_none words;
  to = omega arith;
  count = omega arith;
  long = h;
}

-- A stretch that fits the cycle fits behind the last pair.
pub writing_room : (R : ℕ → ℕ → Type 0) (cycle : ℕ) (words : List ℕ) (x n d : ℕ) → Writing R cycle words x n → x + d ≤ cycle → cycle ≤ max_cycle → Room words n d
writing_room R cycle words x n d w h b = record {
  long = w.long;
  count = w.count;
  fits = λ j e. let s = begin_next words j in let t = w.here in let u : begin_of words (j + 1) ≡ x = rw e at t in omega arith;
}

pub written : (R : ℕ → ℕ → Type 0) → OneMask R → (cycle : ℕ) (words : List ℕ) (x n : ℕ) (run : Run) (after : List ℕ) (r : Option ℕ) → Writing R cycle words x n → RunTold R x cycle run
    → Grows words n run.mask (run.until - x) after r → Written R cycle after run.until r
written R one cycle words x n run after r w t (longer j e m) =
    let k = grown_longer R words x run.until run.mask t.some t.right j (omega (arith, w.count, w.long)) (rw e at w.pairs) (rw e at w.here) m _ refl in
    record { pairs = rw e k.0; here = rw e k.1; to = t.within; count = w.count; long = simp length-set w.long }
written R one cycle words x n run after r w t (next m b) =
    let k = grown_next R words x run.until run.mask t.some t.right n (omega (arith, w.long)) w.pairs w.here m _ refl in
    record { pairs = k.0; here = k.1; to = t.within; count = omega arith; long = simp length-set w.long }
written R one cycle words x n run after r w t (full m b) =
    let e : n ≡ max_pairs = omega (arith, w.count) in
    rw e at (grown_full R words x run.until run.mask t.some t.right one cycle n t.within w.pairs w.here m)

pub written_all : (R : ℕ → ℕ → Type 0) (cycle : ℕ) (words : List ℕ) (x n : ℕ) → Writing R cycle words x n → cycle ≤ x → ListRight R cycle words n × (n ≤ max_pairs)
written_all R cycle words x n w h = (record { pairs = w.pairs; adds_up = omega (arith, w.here, w.to) }, w.count)

pub grows_long : (words : List ℕ) (n m d : ℕ) (after : List ℕ) (r : Option ℕ) → Grows words n m d after r → length after ≡ length words
grows_long words n m d after r (longer j e q) = simp length-set
grows_long words n m d after r (next q b) = simp length-set
grows_long words n m d after r (full q b) = refl
