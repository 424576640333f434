-- Admissions at numbers: Plan A with leg 2 at 672, which is accepted, and a third stream over link 0; the order of the refusals; and streams for which nothing fits.
use Rattle.std.specs.Prelude.{ℕ, ◌*◌, ◌≤◌, List, [], ◌∷◌, Some, None, Ok}
use Rattle.basics.specs.Cause.{refused}
use Rattle.basics.specs.declared.Cause.TheVariants as cause
use Rattle.table.specs.PlanA.{plan_with, revised_a, plan_a, plan_a_of, hold_a}
use Rattle.shape.specs.Streams.{max_period, max_periods_due}
use Rattle.rules.specs.Rules.{Overlap}
use Rattle.checker.specs.Accepted.{Accepted}
use Rattle.enlarge.specs.Enlarged.{enlarged}
use Rattle.enlarge.specs.declared.Wanted.{Wanted}
use Rattle.admission.specs.Admits.{Admission, WholeTold, PieceTold}

-- Plan A with leg 2 at 672.
abbrev pub accepted_a : List ℕ
accepted_a = plan_with (revised_a 0 0 1176 hold_a)

-- A stream of 64 octets, over link 0.
abbrev pub third : ℕ → ℕ → Wanted
third period deadline = record { period = period; deadline = deadline; octets = 64 }

abbrev pub over_link0 : List ℕ
over_link0 = 0 ∷ []

-- A stream that cannot be added: a frame has 64 octets or more.
abbrev pub short_frame : Wanted
short_frame = record { period = 100000; deadline = 2000; octets = 63 }

-- Admitted at an offset, the enlarged table having so many words.
abbrev pub admitted : ℕ → ℕ → Admission
admitted offset words = Ok (Some (record { offset = offset; words = words }))

pub record AdmissionsAtNumbers : Type 0 where
  -- Leg 0 holds link 0 from 0 up to 672 in each period of 100,000, leg 2 from 672 up to 1,344 in each of 150,000. The third stream's least first offset is 1,344, and with 1,343 it meets leg 2. The
  -- table has then 44 words.
  pub least : WholeTold accepted_a (third 100000 2000) over_link0 44 (admitted 1344 44)
  pub accepted : Accepted (enlarged accepted_a (third 100000 2000) over_link0 1344)
  pub one_less : Overlap (enlarged accepted_a (third 100000 2000) over_link0 1343) 3 2 → ⊥
  -- Its frame arrives 576 + 500 + 100 ns after it is sent: a deadline of 1,176 ns will do, and 1,175 will not, whatever the offset.
  pub just_due : WholeTold accepted_a (third 100000 1176) over_link0 44 (admitted 1344 44)
  pub too_late_is : WholeTold accepted_a (third 100000 1175) over_link0 44 (refused cause.NoOffset 0)
  -- A period of 600 ns is shorter than the frame and the gap after it.
  pub too_short : WholeTold accepted_a (third 600 2000) over_link0 44 (refused cause.NoOffset 0)
  -- A period of 100,001 has no divisor with 100,000 but 1: the stream meets leg 0 some day, wherever it begins (case 8 of document 01).
  pub none_fits : WholeTold accepted_a (third 100001 2000) over_link0 44 (refused cause.NoOffset 0)
  -- In pieces: none below 1,344; the piece with 1,344 tells it; after it, the piece that begins there tells it too.
  pub none_yet : PieceTold accepted_a (third 100000 2000) over_link0 44 0 1344 (Ok None)
  pub piece : PieceTold accepted_a (third 100000 2000) over_link0 44 1000 1345 (admitted 1344 44)
  -- The order: 11 before 20, 20 before 15, 15 before 19, 19 before 18. Plan A itself is not accepted.
  pub eleven : WholeTold (plan_a_of 4294967295) short_frame over_link0 0 (refused cause.CannotRise 0)
  pub twenty : WholeTold plan_a short_frame over_link0 0 (refused cause.CannotAdd 0)
  pub fifteen : WholeTold plan_a (third 100000 1175) over_link0 43 (refused cause.NoRoom 0)
  pub nineteen : WholeTold plan_a (third 100000 1175) over_link0 44 (refused cause.NotAccepted 0)

-- One link, of 1 Gb/s and 500 ns, and no stream.
abbrev pub empty_link : List ℕ
empty_link = 0 ∷ 1 ∷ 0 ∷ 0 ∷ 0 ∷ 1 ∷ 2 ∷ 8 ∷ 500 ∷ []

-- The link with a stream that holds it all the time: its period is as long as it holds the link.
abbrev pub full_link : List ℕ
full_link = enlarged empty_link (third 672 1076) over_link0 0

-- The stream is admitted at 0, in 18 words. After that nothing fits over the link, whatever its period and its deadline.
pub record FullLinkAtNumbers : Type 0 where
  pub filled : WholeTold empty_link (third 672 1076) over_link0 18 (admitted 0 18)
  pub full : (period deadline : ℕ) → 1 ≤ period → period ≤ max_period → 1 ≤ deadline → deadline ≤ max_periods_due * period
      → WholeTold full_link (third period deadline) over_link0 27 (refused cause.NoOffset 0)
