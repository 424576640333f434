-- The refusals 1 to 7 at numbers: each with its number and its position, most of them where a later one is due too.
use Rattle.std.specs.Prelude.{ℕ, List, [], ◌∷◌}
use Rattle.basics.specs.declared.Cause.{Cause}
use Rattle.basics.specs.declared.Cause.TheVariants as cause
use Rattle.shape.specs.Shape.{WellFormedTable, ShapeFault}

-- The table t is refused with k at p, and is not well-formed.
pub record TableRefused (t : List ℕ) (k : Cause) (p : ℕ) : Type 0 where
  pub first : ShapeFault t k p
  pub not_well_formed : WellFormedTable t → ⊥

-- Four words and 257 links: 1 before 2 and 3.
abbrev pub four_words : List ℕ
four_words = 0 ∷ 257 ∷ 0 ∷ 0 ∷ []

-- A header alone. Where its numbers are at their limits it is too short, and nothing else.
abbrev pub header_of : ℕ → ℕ → ℕ → ℕ → List ℕ
header_of n s g p = 0 ∷ n ∷ s ∷ g ∷ p ∷ []

-- One word too many, and link 0 begins where it ends: 3 before 4.
abbrev pub word_more : List ℕ
word_more =
    0 ∷ 1 ∷ 0 ∷ 0 ∷ 0 ∷
    2 ∷ 2 ∷ 8 ∷ 500 ∷
    0 ∷ []

-- Link 1 is link 0 again, and link 2 begins where it ends: 4 before 5.
abbrev pub wrong_link : List ℕ
wrong_link =
    0 ∷ 3 ∷ 0 ∷ 0 ∷ 0 ∷
    1 ∷ 2 ∷ 8 ∷ 500 ∷
    1 ∷ 2 ∷ 8 ∷ 500 ∷
    2 ∷ 2 ∷ 8 ∷ 500 ∷ []

-- Link 2 has the ends of link 0, another rate and another propagation; stream 0 has no period: 5 before 6.
abbrev pub link_again : List ℕ
link_again =
    0 ∷ 3 ∷ 1 ∷ 0 ∷ 0 ∷
    1 ∷ 2 ∷ 8 ∷ 500 ∷
    2 ∷ 3 ∷ 8 ∷ 500 ∷
    1 ∷ 2 ∷ 80 ∷ 0 ∷
    0 ∷ 900 ∷ 64 ∷ 0 ∷ 1 ∷ []

-- Stream 1 begins with leg 0, and leg 0 names a link that is not there: 6 before 7.
abbrev pub wrong_stream : List ℕ
wrong_stream =
    0 ∷ 1 ∷ 2 ∷ 2 ∷ 0 ∷
    1 ∷ 2 ∷ 8 ∷ 500 ∷
    1000 ∷ 900 ∷ 64 ∷ 0 ∷ 1 ∷
    1000 ∷ 900 ∷ 64 ∷ 0 ∷ 1 ∷
    0 ∷ 1 ∷ 0 ∷ 0 ∷
    1 ∷ 0 ∷ 0 ∷ 0 ∷ []

-- The one stream is right and has one leg, but G is 2; leg 0 names a link that is not there: 6 at S, before 7.
abbrev pub fewer_legs : List ℕ
fewer_legs =
    0 ∷ 1 ∷ 1 ∷ 2 ∷ 0 ∷
    1 ∷ 2 ∷ 8 ∷ 500 ∷
    1000 ∷ 900 ∷ 64 ∷ 0 ∷ 1 ∷
    0 ∷ 1 ∷ 0 ∷ 0 ∷
    0 ∷ 0 ∷ 0 ∷ 0 ∷ []

-- Leg 1 begins at node 3, and leg 0 ended at node 2.
abbrev pub wrong_leg : List ℕ
wrong_leg =
    0 ∷ 2 ∷ 1 ∷ 2 ∷ 0 ∷
    1 ∷ 2 ∷ 8 ∷ 500 ∷
    3 ∷ 4 ∷ 8 ∷ 500 ∷
    1000 ∷ 900 ∷ 64 ∷ 0 ∷ 2 ∷
    0 ∷ 0 ∷ 0 ∷ 0 ∷
    0 ∷ 1 ∷ 0 ∷ 0 ∷ []

-- One stream of one leg, with this period, this deadline, and the leg so many periods late.
abbrev pub one_leg : (period deadline periods : ℕ) → List ℕ
one_leg period deadline periods =
    0 ∷ 1 ∷ 1 ∷ 1 ∷ 0 ∷
    1 ∷ 2 ∷ 8 ∷ 500 ∷
    period ∷ deadline ∷ 64 ∷ 0 ∷ 1 ∷
    0 ∷ 0 ∷ 0 ∷ periods ∷ []

-- Document 02's L4: a leg may lie 7 periods late, also a first leg, and not 8; a deadline may have 8 periods and not a nanosecond more, also where they are 4,294,967,288
-- ns, just inside a word; where they are more than a word holds, any word from 1 up is a deadline.
pub record LateAtNumbers : Type 0 where
  pub latest : WellFormedTable (one_leg 1000 8000 7)
  pub too_late_is : TableRefused (one_leg 1000 8000 8) cause.BadLeg 0
  pub due_too_late : TableRefused (one_leg 1000 8001 8) cause.BadStream 0
  pub word_full : WellFormedTable (one_leg 536870911 4294967288 7)
  pub word_over : TableRefused (one_leg 536870911 4294967289 7) cause.BadStream 0
  pub word_end : WellFormedTable (one_leg 536870912 4294967295 7)
  pub longest : WellFormedTable (one_leg 1000000000 4294967295 7)

pub record ShapeRefusalsAtNumbers : Type 0 where
  pub four_words_is : TableRefused four_words cause.NoHeader 0
  pub links_above_is : TableRefused (header_of 257 512 2048 1000000) cause.AboveLimit 0
  pub streams_above : TableRefused (header_of 256 513 2048 1000000) cause.AboveLimit 0
  pub legs_above : TableRefused (header_of 256 512 2049 1000000) cause.AboveLimit 0
  pub precision_above : TableRefused (header_of 256 512 2048 1000001) cause.AboveLimit 0
  pub at_the_limits : TableRefused (header_of 256 512 2048 1000000) cause.WrongLength 0
  pub word_more_is : TableRefused word_more cause.WrongLength 0
  pub link : TableRefused wrong_link cause.BadLink 2
  pub link_again_lem : TableRefused link_again cause.DoubleLink 2
  pub stream : TableRefused wrong_stream cause.BadStream 1
  pub fewer_legs_lem : TableRefused fewer_legs cause.BadStream 1
  pub leg : TableRefused wrong_leg cause.BadLeg 1
  pub late : LateAtNumbers
