-- The earliest repeat of b that begins while a holds the link: the first that does not begin before a does, or that one and the first landing after it. Assumes nothing.
use Prim.Native.Nat.{ℕ, ◌+◌, ◌*◌, ◌-◌, ◌≤◌, ◌<◌}
use mathlib.Core.Path.{◌≡◌, refl, ◌∙◌, sym, ap, subst}
use mathlib.Core.Logic.{⊎_elim}
use native.Mathlib.Nat.{add-mul, mul_comm, mul-le-mul_right, one-mul, lt_of_mul-lt-mul_left}
use native.Mathlib.Omega.{arith}
use mir.Syntax.{w64}
use mir.Val.{Fits}
use Rattle.basics.proofs.Splits.{lt_or_ge}
use Rattle.overlap.specs.Meeting.{HoldsLink}
use Rattle.overlap.specs.declared.Slot.{Slot}
use Rattle.repeats.specs.Landings.{Lands, IsFirstLanding, LandsFirst, longest_period}
use Rattle.repeats.specs.Steps.{Brief, Enters, IsFirstBeginning, BeginsFirst, beginning_of, many_repeats}
use Rattle.repeats.specs.declared.Entry.{Entry}
use Rattle.repeats.specs.declared.Meeting.{Meeting}
use Rattle.std.specs.Prelude.{Option, Some, None}
use Rattle.repeats.specs.declared.landing.Landing.{Landing}
use Rattle.repeats.proofs.Circle.{one_more}

-- The beginning of repeat m of b, and the next repeat's.
next_repeat : (p k : ℕ) → (k + 1) * p ≡ k * p + p
next_repeat p k = let e = add-mul k 1 p in let o = one-mul p in omega arith

module _ (a b : Slot) (e : Entry) (brief : Brief a) (brief' : Brief b) (enters : Enters a b e) where
  -- A repeat of b at whose beginning a holds the link does not begin before a does.
  not_before : (k m : ℕ) → HoldsLink a k (b.offset + m * b.period) → e.second ≤ m
  not_before k m h = enters.least m (omega (arith, h.begun))

  begins_at_once : e.into < a.hold → IsFirstBeginning a b (beginning_of b e.first e.second)
  begins_at_once h =
      let at = enters.at in
      let n = next_repeat a.period e.first in
      record {
        holds = record { begun = omega arith; not_ended = omega arith };
        last = record { begun = omega arith; next_not = omega (arith, enters.into) };
        begins = refl;
        earliest = not_before;
      }

  module _ (out : a.hold ≤ e.into) where
    abbrev from : ℕ
    from = a.period - e.into

    abbrev to : ℕ
    to = from + (a.hold - 1)

    -- Where b begins while a holds the link, its steps since the entry land in the stretch.
    record Since (k m : ℕ) : Type 0 where
      pub steps : ℕ
      pub turns : ℕ
      pub second : m ≡ e.second + steps
      pub lands : Lands b.period a.period from to steps turns

    landed : (k m : ℕ) → HoldsLink a k (b.offset + m * b.period) → Since k m
    landed k m h =
        let at = enters.at in
        let into = enters.into in
        let up = not_before k m h in
        let j = m - e.second in
        let is : m ≡ e.second + j = omega arith in
        let split : m * b.period ≡ e.second * b.period + j * b.period =
        ap (λ (x : ℕ). x * b.period) is ∙ add-mul e.second j b.period in
        let later : e.first < k =
        ⊎_elim (λ (l : e.first < k). l) (λ (l : k ≤ e.first). absurd (omega (arith, h.not_ended, mul-le-mul_right a.period l))) (lt_or_ge e.first k) in
        let z = k - e.first - 1 in
        let ks : k ≡ e.first + 1 + z = omega arith in
        let turn : k * a.period ≡ e.first * a.period + a.period + z * a.period =
        ap (λ (x : ℕ). x * a.period) ks ∙ add-mul (e.first + 1) z a.period ∙ ap (λ (x : ℕ). x + z * a.period) (next_repeat a.period e.first) in
        let c = mul_comm j b.period in
        let d = mul_comm z a.period in
        let hold = brief.hold_from in
        record { steps = j; turns = z; second = is; lands = record { low = omega (arith, h.begun); high = omega (arith, h.not_ended) } }

    never_begins : ((k z : ℕ) → Lands b.period a.period from to k z → ⊥) → (k m : ℕ) → HoldsLink a k (b.offset + m * b.period) → ⊥
    never_begins none k m h = let l = landed k m h in none l.steps l.turns l.lands

    module _ (n y : ℕ) (first : IsFirstLanding b.period a.period from to n y) where
      begins_later : IsFirstBeginning a b (beginning_of b (e.first + 1 + y) (e.second + n))
      begins_later =
          let at = enters.at in
          let into = enters.into in
          let low = first.lands.low in
          let high = first.lands.high in
          let s = add-mul e.second n b.period in
          let t = add-mul (e.first + 1) y a.period in
          let u = next_repeat a.period e.first in
          let v = next_repeat a.period (e.first + 1 + y) in
          let c = mul_comm n b.period in
          let d = mul_comm y a.period in
          let hold = brief.hold_from in
          record {
            holds = record { begun = omega arith; not_ended = omega arith };
            last = record { begun = omega arith; next_not = omega arith };
            begins = refl;
            earliest = λ k m h. let l = landed k m h in let least = first.least l.steps l.turns l.lands in omega (arith, l.second);
          }

      -- The steps and the turns are few.
      few_steps : n < longest_period
      few_steps = omega (arith, first.few, brief.period_to)

      few_turns : y < longest_period
      few_turns =
          let m = one_more b.period n a.period first.few in
          let c = mul_comm b.period a.period in
          let some = brief'.period_from in
          let less : y < b.period = lt_of_mul-lt-mul_left a.period (omega (arith, first.lands.low)) in
          omega (arith, brief'.period_to)

-- The laws as the function goes by them.
module _ {a b : Slot} {e : Entry} (brief : Brief a) (brief' : Brief b) (enters : Enters a b e) where
  pub at_once : {x : Meeting} → e.into < a.hold → x ≡ beginning_of b e.first e.second → BeginsFirst a b (Some x)
  at_once h is = subst (IsFirstBeginning a b) (sym is) (begins_at_once a b e brief brief' enters h)

  module _ (out : a.hold ≤ e.into) where
    module _ {w : Option Landing} where
      pub never_at_all : w ≡ None → LandsFirst b.period a.period (a.period - e.into) (a.period - e.into + (a.hold - 1)) w → BeginsFirst a b None
      never_at_all is told = never_begins a b e brief brief' enters out (subst (LandsFirst _ _ _ _) is told)

      module _ {l : Landing} (is : w ≡ Some l) (told : LandsFirst b.period a.period (a.period - e.into) (a.period - e.into + (a.hold - 1)) w) where
        first : IsFirstLanding b.period a.period (a.period - e.into) (a.period - e.into + (a.hold - 1)) l.steps l.turns
        first = subst (LandsFirst _ _ _ _) is told

        pub after_steps : {x : Meeting} → x ≡ beginning_of b (e.first + 1 + l.turns) (e.second + l.steps) → BeginsFirst a b (Some x)
        after_steps at = subst (IsFirstBeginning a b) (sym at) (begins_later a b e brief brief' enters out l.steps l.turns first)

        -- What leads there fits 64 bits.
        pub first_fits : Fits w64 (e.first + 1 + l.turns)
        first_fits = record { fits = omega (arith, few_turns a b e brief brief' enters out l.steps l.turns first, enters.first_word) }

        pub second_many : e.second + l.steps ≤ many_repeats
        second_many = omega (arith, few_steps a b e brief brief' enters out l.steps l.turns first, enters.second_word)

        pub second_fits : Fits w64 (e.second + l.steps)
        second_fits = record { fits = omega (arith, second_many) }
