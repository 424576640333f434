-- Admissions have one answer and leave one memory, whole and in pieces; and pieces tell what a whole admission does. Assumes nothing.
use Prim.Native.Nat.{ℕ, ◌≤◌, ◌<◌}
use mathlib.Core.Path.{◌≡◌, refl, ◌∙◌, sym, ap}
use mathlib.Core.List.{List}
use mathlib.Core.Logic.{◌⊎◌, inl, inr, ⊎_elim}
use lib.ListN.{length}
use native.Mathlib.Omega.{arith}
use Rattle.basics.specs.Refusals.{Refusals, unless, ◌then◌, OneFault}
use Rattle.std.specs.Prelude.{Some, None, Ok, Err}
use Rattle.basics.specs.Cause.{refused}
use Rattle.basics.specs.declared.Cause.{Cause}
use Rattle.basics.specs.declared.Cause.TheVariants as cause
use Rattle.basics.proofs.Refusals.{unless_one, then_one, called_one, same_refusal}
use Rattle.basics.proofs.Splits.{lt_or_ge}
use Rattle.shape.proofs.OneShape.{shape_one}
use Rattle.offsets.proofs.Stepping.{none_joined}
use Rattle.offsets.proofs.Answers.{least_is_one}
use Rattle.enlarge.specs.declared.Wanted.{Wanted}
use Rattle.admission.specs.Admits.{Admission, early_refusals, Fits, SomeFits, AdmittedAt, WholeTold, NoneBetween, PieceTold, words_after}
use Rattle.admission.specs.Theorems.{ToldOneAnswer, PieceToldOneAnswer, AdmitOneAnswer, AdmitBetweenOneAnswer, PiecesMakeTheWhole}
use Rattle.admission.specs.AtNumbers.{admitted}

module _ (t : List ℕ) (w : Wanted) (route : List ℕ) (room : ℕ) where
  early_one : OneFault (early_refusals t w route room)
  early_one =
      called_one
      (then_one (shape_one t) (then_one (unless_one cause.CannotRise _) (then_one (unless_one cause.CannotAdd _) (then_one (unless_one cause.NoRoom _) (unless_one cause.NotAccepted _)))))
      (λ m. (m.shape, (m.rises, (m.can_add, (m.has_room, m.rules)))))

  -- The refusals with 18, which is not told where So holds.
  pub all_one : (So : Type 0) → OneFault (early_refusals t w route room then unless cause.NoOffset So)
  all_one So = then_one early_one (unless_one cause.NoOffset So)

  refused_one : (So : Type 0) {k l : Cause} {p q : ℕ}
      → (early_refusals t w route room then unless cause.NoOffset So).Fault k p → (early_refusals t w route room then unless cause.NoOffset So).Fault l q
      → ◌≡◌ {A = Admission} (refused k p) (refused l q)
  refused_one So f g = let x = (all_one So).one f g in same_refusal x.0 x.1

  admitted_one : (from x y m n : ℕ) → AdmittedAt t w route room from x m → AdmittedAt t w route room from y n → admitted x m ≡ admitted y n
  admitted_one from x y m n a b =
      let e : x ≡ y = least_is_one (Fits t w route) w.period from x y a.found b.found in
      let c : m ≡ n = a.count ∙ sym b.count in
      cc

  some_fits : {from x n : ℕ} → AdmittedAt t w route room from x n → SomeFits t w route from
  some_fits {x = x} a = record { offset = x; above = a.found.above; below = a.found.below; fits = a.found.has }

  admitted_not_refused : (So : Type 0) {from x n : ℕ} {k : Cause} {p : ℕ} → (SomeFits t w route from → So) → AdmittedAt t w route room from x n
      → (early_refusals t w route room then unless cause.NoOffset So).Fault k p → ⊥
  admitted_not_refused So so a f = (all_one So).none (a.may, so (some_fits a)) f

pub told_one_answer : ToldOneAnswer
told_one_answer t w route room (Ok (Some r)) (Ok (Some s)) a b = admitted_one t w route room 0 r.offset s.offset r.words s.words a b
told_one_answer t w route room (Ok (Some r)) (Err e) a f = absurd (admitted_not_refused t w route room (SomeFits t w route 0) (λ s. s) a f)
told_one_answer t w route room (Err e) (Ok (Some r)) f a = absurd (admitted_not_refused t w route room (SomeFits t w route 0) (λ s. s) a f)
told_one_answer t w route room (Err e) (Err h) f g = refused_one t w route room (SomeFits t w route 0) f g
told_one_answer t w route room (Ok None) b a c = absurd a
told_one_answer t w route room (Ok (Some r)) (Ok None) a b = absurd b
told_one_answer t w route room (Err e) (Ok None) a b = absurd b

-- What 18 of a piece is not told for.
abbrev More : List ℕ → Wanted → List ℕ → ℕ → ℕ → Type 0
More t w route from until = (until < w.period) ⊎ SomeFits t w route from

module _ (t : List ℕ) (w : Wanted) (route : List ℕ) (room from until : ℕ) where
  none_not_admitted : {x n : ℕ} → NoneBetween t w route room from until → AdmittedAt t w route room from x n → x < until → ⊥
  none_not_admitted {x} b a h = b.none x a.found.above h a.found.has

  none_not_refused : {k : Cause} {p : ℕ} → NoneBetween t w route room from until → (early_refusals t w route room then unless cause.NoOffset (More t w route from until)).Fault k p → ⊥
  none_not_refused b f = (all_one t w route room (More t w route from until)).none (b.may, inl b.not_the_end) f

pub piece_told_one_answer : PieceToldOneAnswer
piece_told_one_answer t w route room from until (Ok (Some r)) (Ok (Some s)) a b = admitted_one t w route room from r.offset s.offset r.words s.words a.0 b.0
piece_told_one_answer t w route room from until (Ok (Some r)) (Ok None) a b = absurd (none_not_admitted t w route room from until b a.0 a.1)
piece_told_one_answer t w route room from until (Ok (Some r)) (Err e) a f =
    absurd (admitted_not_refused t w route room (More t w route from until) (λ s. inr s) a.0 f)
piece_told_one_answer t w route room from until (Ok None) (Ok (Some r)) b a = absurd (none_not_admitted t w route room from until b a.0 a.1)
piece_told_one_answer t w route room from until (Ok None) (Ok None) a b = refl
piece_told_one_answer t w route room from until (Ok None) (Err e) b f = absurd (none_not_refused t w route room from until b f)
piece_told_one_answer t w route room from until (Err e) (Ok (Some r)) f a =
    absurd (admitted_not_refused t w route room (More t w route from until) (λ s. inr s) a.0 f)
piece_told_one_answer t w route room from until (Err e) (Ok None) f b = absurd (none_not_refused t w route room from until b f)
piece_told_one_answer t w route room from until (Err e) (Err h) f g = refused_one t w route room (More t w route from until) f g

-- One answer leaves one memory.
one_memory : (t : List ℕ) (w : Wanted) (route out out' out'' : List ℕ) (a b : Admission)
    → a ≡ b → out' ≡ words_after t w route out a → out'' ≡ words_after t w route out b → (a ≡ b) × (out' ≡ out'')
one_memory t w route out out' out'' a b e p q = (e, p ∙ ap (words_after t w route out) e ∙ sym q)

pub admit_one_answer : AdmitOneAnswer
admit_one_answer t w route out out' out'' a b p q =
    one_memory t w route out out' out'' a b (told_one_answer t w route (length out) a b p.answer q.answer) p.after q.after

pub admit_between_one_answer : AdmitBetweenOneAnswer
admit_between_one_answer t w route from until out out' out'' a b p q =
    one_memory t w route out out' out'' a b (piece_told_one_answer t w route (length out) from until a b p.answer q.answer) p.after q.after

-- A refusal, where other words stand for what 18 is not told for.
other_words : (r : Refusals) (So Too : Type 0) {k : Cause} {p : ℕ} → (Too → So) → (r then unless cause.NoOffset So).Fault k p → (r then unless cause.NoOffset Too).Fault k p
other_words r So Too too (inl f) = inl f
other_words r So Too too (inr f) = inr (f.0, (f.1.0, f.1.1, λ s. f.1.2 (too s)))

join : (t : List ℕ) (w : Wanted) (route : List ℕ) (room from m until : ℕ) (a : Admission)
    → from ≤ m → PieceTold t w route room from m (Ok None) → PieceTold t w route room m until a → PieceTold t w route room from until a
join t w route room from m until (Ok (Some r)) h none a = (
  record {
    may = a.0.may;
    found = record {
      above = omega (arith, a.0.found.above);
      below = a.0.found.below;
      has = a.0.found.has;
      least = none_joined (Fits t w route) from m r.offset none.none a.0.found.least;
    };
    count = a.0.count;
  },
  a.1,
)
join t w route room from m until (Ok None) h none a =
    record { may = a.may; none = none_joined (Fits t w route) from m until none.none a.none; not_the_end = a.not_the_end }
join t w route room from m until (Err e) h none f =
    other_words (early_refusals t w route room) (More t w route m until) (More t w route from until)
    (λ more.
    ⊎_elim
    (λ (e : until < w.period). inl e)
    (λ (s : SomeFits t w route from).
    ⊎_elim
    (λ (b : s.offset < m). absurd (none.none s.offset s.above b s.fits))
    (λ (b : m ≤ s.offset). inr (record { offset = s.offset; above = b; below = s.below; fits = s.fits }))
    (lt_or_ge s.offset m))
    more)
    f

whole : (t : List ℕ) (w : Wanted) (route : List ℕ) (room until : ℕ) (a : Admission) → (a ≡ Ok None → ⊥) → PieceTold t w route room 0 until a → WholeTold t w route room a
whole t w route room until (Ok (Some r)) ended a = a.0
whole t w route room until (Ok None) ended a = ended refl
whole t w route room until (Err e) ended f =
    other_words (early_refusals t w route room) (More t w route 0 until) (SomeFits t w route 0) (λ s. inr s) f

pub pieces_make_the_whole : PiecesMakeTheWhole
pieces_make_the_whole = record { join = join; whole = whole }
