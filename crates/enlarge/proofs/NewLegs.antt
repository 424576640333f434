-- The legs of the new stream, and when each starts. Assumes nothing.
use Prim.Native.Nat.{ℕ, zero, suc, ◌+◌, ◌*◌, ◌/◌, ◌%◌, ◌<◌}
use mathlib.Core.Path.{◌≡◌, refl, ◌∙◌, ap}
use mathlib.Core.List.{List, [], ◌∷◌}
use lib.ListN.{length, get_or}
use native.Mathlib.Nat.{mul-suc}
use native.Mathlib.Omega.{arith}
use Rattle.table.specs.Layout.{leg_words, stream_count, precision_of}
use Rattle.table.specs.Records.{leg_in, link_at}
use Rattle.table.specs.declared.Leg.{Leg}
use Rattle.rules.specs.Times.{wire_time}
use Rattle.enlarge.specs.Enlarged.{legs_at_zero, sent_on, legs_from}
use Rattle.enlarge.specs.Reads.{start_at}
use Rattle.enlarge.specs.declared.Wanted.{Wanted}
use Rattle.enlarge.proofs.Pieces.{leg_after}

-- The legs as they are before times are looked for, and without waiting.
abbrev pub leg_at_zero : List ℕ → ℕ → Leg
leg_at_zero t l = record { stream = stream_count t; link = l; offset = 0; periods = 0 }

abbrev pub leg_starting : List ℕ → Wanted → ℕ → ℕ → Leg
leg_starting t w start l = record { stream = stream_count t; link = l; offset = start % w.period; periods = start / w.period }

leg_later : (a b c d : ℕ) (rest : List ℕ) (j : ℕ) → leg_in (a ∷ b ∷ c ∷ d ∷ rest) (suc j) ≡ leg_in rest j
leg_later a b c d rest j = ap (leg_in (a ∷ b ∷ c ∷ d ∷ rest)) (let e : suc j ≡ 1 + j = omega arith in e) ∙ leg_after (a ∷ b ∷ c ∷ d ∷ []) rest 1 j refl

module _ (t : List ℕ) where
  pub zero_length : (route : List ℕ) → length (legs_at_zero t route) ≡ leg_words * length route
  unfolding legs_at_zero
  zero_length [] = refl
  zero_length (l ∷ route) = let i = zero_length route in let m = mul-suc leg_words (length route) in omega arith

  pub zero_leg_is : (route : List ℕ) (j : ℕ) → j < length route → leg_in (legs_at_zero t route) j ≡ leg_at_zero t (get_or route j 0)
  unfolding legs_at_zero
  zero_leg_is [] j h = absurd (omega arith)
  zero_leg_is (l ∷ route) zero h = refl
  zero_leg_is (l ∷ route) (suc j) h = leg_later _ _ _ _ (legs_at_zero t route) j ∙ zero_leg_is route j (omega arith)

module _ (t : List ℕ) (w : Wanted) where
  pub from_length : (x : ℕ) (route : List ℕ) → length (legs_from t w x route) ≡ leg_words * length route
  unfolding legs_from
  from_length x [] = refl
  from_length x (l ∷ route) = let i = from_length (sent_on t w x l) route in let m = mul-suc leg_words (length route) in omega arith

  pub from_leg : (x : ℕ) (route : List ℕ) (j : ℕ) → j < length route → leg_in (legs_from t w x route) j ≡ leg_starting t w (start_at t w x route j) (get_or route j 0)
  unfolding legs_from start_at
  from_leg x [] j h = absurd (omega arith)
  from_leg x (l ∷ route) zero h = refl
  from_leg x (l ∷ route) (suc j) h = leg_later _ _ _ _ (legs_from t w (sent_on t w x l) route) j ∙ from_leg (sent_on t w x l) route j (omega arith)

  -- The first leg starts at x, each later one when the frame of the leg before it is there; after the last leg stands when its frame has arrived.
  pub start_first : (x : ℕ) (route : List ℕ) → start_at t w x route 0 ≡ x
  unfolding start_at
  start_first x route = refl

  pub start_next : (x : ℕ) (route : List ℕ) (j : ℕ) → j < length route → start_at t w x route (j + 1) ≡ sent_on t w (start_at t w x route j) (get_or route j 0)
  unfolding start_at
  start_next x [] j h = absurd (omega arith)
  start_next x (l ∷ route) zero h = refl
  start_next x (l ∷ route) (suc j) h =
      ap (start_at t w x (l ∷ route)) (let e : suc j + 1 ≡ suc (j + 1) = omega arith in e) ∙ start_next (sent_on t w x l) route j (omega arith)

  pub sent_on_is : (start l : ℕ) → sent_on t w start l ≡ start + wire_time w.octets (link_at t l).rate + (link_at t l).propagation + precision_of t
  unfolding sent_on
  sent_on_is start l = refl

  -- All starts are as much later as the first one.
  pub start_shift : (x : ℕ) (route : List ℕ) (j : ℕ) → start_at t w x route j ≡ x + start_at t w 0 route j
  unfolding start_at
  start_shift x route zero = omega arith
  start_shift x [] (suc j) = omega arith
  start_shift x (l ∷ route) (suc j) =
      omega (arith, start_shift (sent_on t w x l) route j, start_shift (sent_on t w 0 l) route j, sent_on_is x l, sent_on_is 0 l)
