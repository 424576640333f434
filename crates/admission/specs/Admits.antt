-- A slot for a new stream (document 02, L5): what an admission tells, by the cases of its answer, and what it writes, with the refusals 18 and 20, beside 19. No old leg moves.
-- w is what is wanted of the new stream, the route is the numbers of its links, in order, and room is how many words are lent for the enlarged table.
use Rattle.std.specs.Prelude.{ℕ, ◌≤◌, ◌<◌, ◌≡◌, List, ◌⊎◌, length, Option, Some, None, Result, Ok, Err}
use Rattle.basics.specs.Refusals.{Refusals, unless, ◌then◌, ◌called◌}
use Rattle.basics.specs.declared.Cause.TheVariants as cause
use Rattle.basics.specs.declared.Refusal.{Refusal}
use Rattle.numbers.specs.Number.{max_word}
use Rattle.numbers.specs.Series.{overlaid}
use Rattle.table.specs.Layout.{revision_of}
use Rattle.shape.specs.Shape.{WellFormedTable, shape_refusals}
use Rattle.rules.specs.Rules.{RulesHold}
use Rattle.checker.specs.Accepted.{Accepted}
use Rattle.offsets.specs.Search.{NoneFrom, LeastFrom}
use Rattle.enlarge.specs.Enlarged.{enlarged, enlarged_words, without_times}
use Rattle.enlarge.specs.declared.Wanted.{Wanted}
use Rattle.admission.specs.declared.Admitted.{Admitted}

-- What is answered: admitted, none yet (Ok None), or refused. 18: no first offset below the period fits (of a piece see PieceTold). 20: the stream would break a limit or the shape.
abbrev pub Admission : Type 0
Admission = Result (Option Admitted) Refusal

-- The stream breaks no limit and no shape: with it, all its legs at offset 0, the table is well-formed. (A period word above 7 comes with the times, and with it an offset does not fit: see Fits. What this says of limits, ranges and the route is in specs/Adding.antt.)
abbrev pub CanAdd : List ℕ → Wanted → List ℕ → Type 0
CanAdd t w route = WellFormedTable (without_times t w route)

-- An offset may be looked for: the table is well-formed, its revision can rise, the stream can be added, there is room for the enlarged table, and the rules hold of the table.
pub record MayAdmit (t : List ℕ) (w : Wanted) (route : List ℕ) (room : ℕ) : Type 0 where
  pub shape : WellFormedTable t
  pub rises : revision_of t < max_word
  pub can_add : CanAdd t w route
  pub has_room : enlarged_words t route ≤ room
  pub rules : RulesHold t

-- The refusals before an offset is looked for, in their order: 1 to 7, then 11, then 20, then 15, then 19.
abbrev pub early_refusals : List ℕ → Wanted → List ℕ → ℕ → Refusals
early_refusals t w route room =
    shape_refusals t
    then unless cause.CannotRise (revision_of t < max_word)
    then unless cause.CannotAdd (CanAdd t w route)
    then unless cause.NoRoom (enlarged_words t route ≤ room)
    then unless cause.NotAccepted (RulesHold t)
    called MayAdmit t w route room

-- x is a first offset that fits: with it, the enlarged table is accepted. (A well-formed table has no period word above 7.)
abbrev pub Fits : List ℕ → Wanted → List ℕ → ℕ → Type 0
Fits t w route x = Accepted (enlarged t w route x)

-- Some first offset from `from` on and below the period fits.
pub record SomeFits (t : List ℕ) (w : Wanted) (route : List ℕ) (from : ℕ) : Type 0 where
  pub offset : ℕ
  pub above : from ≤ offset
  pub below : offset < w.period
  pub fits : Fits t w route offset

-- Admitted at x: of the first offsets from `from` on and below the period it is the least that fits. n is how many words the enlarged table has.
pub record AdmittedAt (t : List ℕ) (w : Wanted) (route : List ℕ) (room from x n : ℕ) : Type 0 where
  pub may : MayAdmit t w route room
  pub found : LeastFrom (Fits t w route) w.period from x
  pub count : n ≡ enlarged_words t route

-- THE WHOLE ADMISSION: the least of all first offsets below the period that fits, or 18 where none does. It is never answered that none fits yet.
abbrev pub WholeTold : List ℕ → Wanted → List ℕ → ℕ → Admission → Type 0
WholeTold t w route room (Ok (Some a)) = AdmittedAt t w route room 0 a.offset a.words
WholeTold t w route room (Ok None) = ⊥
WholeTold t w route room (Err e) = (early_refusals t w route room then unless cause.NoOffset (SomeFits t w route 0)).Fault e.cause e.at

-- None fits yet: none from `from` up to but without `until`, which is not the end of the period.
pub record NoneBetween (t : List ℕ) (w : Wanted) (route : List ℕ) (room from until : ℕ) : Type 0 where
  pub may : MayAdmit t w route room
  pub none : NoneFrom (Fits t w route) from until
  pub not_the_end : until < w.period

-- A PIECE OF AN ADMISSION, among the first offsets from `from` up to but without `until`: the least of them that fits; that none of them does, where the period goes on after them; or 18, where the period ends with them or
-- before, and no first offset from `from` on and below the period fits. So 18 of a piece says nothing of first offsets below `from`.
abbrev pub PieceTold : List ℕ → Wanted → List ℕ → ℕ → ℕ → ℕ → Admission → Type 0
PieceTold t w route room from until (Ok (Some a)) = AdmittedAt t w route room from a.offset a.words × (a.offset < until)
PieceTold t w route room from until (Ok None) = NoneBetween t w route room from until
PieceTold t w route room from until (Err e) =
    (early_refusals t w route room then unless cause.NoOffset ((until < w.period) ⊎ SomeFits t w route from)).Fault e.cause e.at

-- The lent words after an admission: the enlarged table lies in front, and every other word is as it was. Any other answer writes nothing.
abbrev pub words_after : List ℕ → Wanted → List ℕ → List ℕ → Admission → List ℕ
words_after t w route out (Ok (Some a)) = overlaid out 0 (enlarged t w route a.offset)
words_after t w route out (Ok None) = out
words_after t w route out (Err e) = out

-- The calls. out are the lent words, which are out' after the call.
pub record Admits (t : List ℕ) (w : Wanted) (route out : List ℕ) (a : Admission) (out' : List ℕ) : Type 0 where
  pub answer : WholeTold t w route (length out) a
  pub after : out' ≡ words_after t w route out a

pub record AdmitsBetween (t : List ℕ) (w : Wanted) (route : List ℕ) (from until : ℕ) (out : List ℕ) (a : Admission) (out' : List ℕ) : Type 0 where
  pub answer : PieceTold t w route (length out) from until a
  pub after : out' ≡ words_after t w route out a
