-- Words laid over a buffer piece by piece: what is done stands there, and the rest is to come. Assumes nothing.
use Prim.Native.Nat.{ℕ, ◌+◌, ◌≤◌, ◌<◌}
use mathlib.Core.Path.{◌≡◌, refl, ◌∙◌, sym, ap}
use mathlib.Core.List.{List, [], ◌∷◌, ◌++◌, append_assoc, append-nil}
use lib.ListN.{length, get_or, set, drop, length-append}
use lib.Seq.{drop-cons, drop-length}
use native.Mathlib.Nat.{add-zero}
use native.Mathlib.Numerals.{add-one}
use native.Mathlib.Omega.{arith}
use Rattle.numbers.specs.Series.{overlaid}
use Rattle.numbers.proofs.Overlay.{overlaid_none, overlaid_append, overlaid_more, overlaid_length}
use Rattle.enlarge.specs.Steps.{LaidTo}

pub laid_long : {b : List ℕ} {at : ℕ} {xs : List ℕ} {next : ℕ} {b' : List ℕ} → LaidTo b at xs next b' → length b' ≡ length b
laid_long {b = b} {at = at} {xs = xs} l = ap length l.after ∙ overlaid_length b at xs (omega (arith, l.ends, l.room))

-- Two pieces laid one after the other are one piece.
pub after_then : {b : List ℕ} {at : ℕ} {xs : List ℕ} {mid : ℕ} {b' b'' : List ℕ} (ys : List ℕ) → LaidTo b at xs mid b' → b'' ≡ overlaid b' mid ys → b'' ≡ overlaid b at (xs ++ ys)
after_then {b = b} {at = at} {xs = xs} {mid = mid} ys l e =
    e
    ∙ ap (λ (x : List ℕ). overlaid x mid ys) l.after
    ∙ ap (λ (k : ℕ). overlaid (overlaid b at xs) k ys) l.ends
    ∙ overlaid_append b at xs (omega (arith, l.ends, l.room)) ys

pub laid_then : {b : List ℕ} {at : ℕ} {xs ys : List ℕ} {mid next : ℕ} {b' b'' : List ℕ} → LaidTo b at xs mid b' → LaidTo b' mid ys next b'' → LaidTo b at (xs ++ ys) next b''
laid_then {xs = xs} {ys = ys} l m = record {
  ends = omega (arith, l.ends, m.ends, length-append xs ys);
  room = omega (arith, m.room, laid_long l);
  after = after_then ys l m.after;
}

-- One word.
pub laid_word : (b : List ℕ) (at v : ℕ) → at < length b → LaidTo b at (v ∷ []) (at + 1) (set b at v)
laid_word b at v h = record {
  ends = refl;
  room = omega arith;
  after = ap (λ (x : List ℕ). set x at v) (sym (overlaid_none b at))
      ∙ ap (λ (k : ℕ). set (overlaid b at []) k v) (sym (add-zero at))
      ∙ overlaid_more b at [] v (omega arith);
}

-- The words whole are being laid over b from position at on, which made it out so far: rest is to come, from position next on.
pub record Laying (b : List ℕ) (at : ℕ) (whole rest out : List ℕ) (next : ℕ) : Type 0 where
  pub done : List ℕ
  pub laid : LaidTo b at done next out
  pub is : done ++ rest ≡ whole
  pub room : at + length whole ≤ length b

pub laying_start : {b : List ℕ} {at : ℕ} {whole : List ℕ} → at + length whole ≤ length b → Laying b at whole whole b at
laying_start {b = b} {at = at} h = record {
  done = [];
  laid = record { ends = sym (add-zero at); room = omega arith; after = sym (overlaid_none b at) };
  is = refl;
  room = h;
}

pub laying_long : {b : List ℕ} {at : ℕ} {whole rest out : List ℕ} {next : ℕ} → Laying b at whole rest out next → length out ≡ length b
laying_long f = laid_long f.laid

-- The next piece has room, and is laid.
module _ {b : List ℕ} {at : ℕ} {whole out : List ℕ} {next : ℕ} {xs : List ℕ} (piece rest : List ℕ) (f : Laying b at whole (piece ++ rest) out next) (is : xs ≡ piece) where
  pub laying_fits : next + length xs ≤ length out
  laying_fits =
      let a = length-append f.done (piece ++ rest) in
      let c = length-append piece rest in
      omega (arith, f.room, ap length f.is, f.laid.ends, laid_long f.laid, ap length is)

  pub laying_more : {out' : List ℕ} {next' : ℕ} → LaidTo out next xs next' out' → Laying b at whole rest out' next'
  laying_more l = record {
    done = f.done ++ xs;
    laid = laid_then f.laid l;
    is = append_assoc f.done xs rest ∙ ap (λ (x : List ℕ). f.done ++ (x ++ rest)) is ∙ f.is;
    room = f.room;
  }

pub laying_end : {b : List ℕ} {at : ℕ} {whole out : List ℕ} {next : ℕ} → Laying b at whole [] out next → LaidTo b at whole next out
laying_end f = rw (sym f.is, append-nil f.done) f.laid

-- What is left of a list from element i on: that element and the rest, or nothing at its end.
module _ (l : List ℕ) (i : ℕ) where
  pub left_on : i < length l → drop i l ≡ get_or l i 0 ∷ drop (i + 1) l
  left_on h = rw (add-one i) (drop-cons l i 0 h)

  pub left_none : i ≤ length l → length l ≤ i → drop i l ≡ []
  left_none h k = let e : i ≡ length l = omega arith in rw e (drop-length l)

-- Words copied one by one: i are done.
pub record Copying (from b : List ℕ) (at : ℕ) (out : List ℕ) (i : ℕ) : Type 0 where
  pub within : i ≤ length from
  pub laying : Laying b at from (drop i from) out (at + i)

pub copying_start : (from b : List ℕ) (at : ℕ) → at + length from ≤ length b → Copying from b at b 0
copying_start from b at h = record { within = omega arith; laying = rw (add-zero at) (laying_start h) }

module _ {from b : List ℕ} {at : ℕ} {out : List ℕ} {i : ℕ} (f : Copying from b at out i) where
  pub copying_long : length out ≡ length b
  copying_long = laying_long f.laying

  module _ (more : i < length from) where
    to_come : Laying b at from ((get_or from i 0 ∷ []) ++ drop (i + 1) from) out (at + i)
    to_come = rw (left_on from i more) at f.laying

    pub copying_room : at + i < length out
    copying_room = omega (arith, laying_fits (get_or from i 0 ∷ []) (drop (i + 1) from) to_come refl)

    pub copying_next : Copying from b at (set out (at + i) (get_or from i 0)) (i + 1)
    copying_next =
        let next : at + (i + 1) ≡ at + i + 1 = omega arith in
        record {
          within = omega arith;
          laying = rw next (laying_more (get_or from i 0 ∷ []) (drop (i + 1) from) to_come refl (laid_word out (at + i) (get_or from i 0) copying_room));
        }

  pub copying_end : length from ≤ i → LaidTo b at from (at + length from) out
  copying_end h =
      let all : i ≡ length from = omega (arith, f.within) in
      rw all at (laying_end (rw (left_none from i f.within h) at f.laying))
