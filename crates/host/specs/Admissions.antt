-- What the calls for C promise that admit one stream to the plan of a plan file (document 02, L5): the answer, and every lent byte. plan is the plan file, w what is wanted of the new
-- stream, and the route the numbers of its links, in order. file is lent for the plan file of the enlarged table, and is file' after the call.
use Rattle.std.specs.Prelude.{ℕ, ◌/◌, ◌≡◌, List, ◌⊎◌, length, Result, Ok, Err, Option, Some, None}
use Rattle.basics.specs.Cause.{number_of}
use Rattle.basics.specs.declared.Cause.{Cause}
use Rattle.basics.specs.declared.Refusal.{Refusal}
use Rattle.numbers.specs.Number.{max_number_bytes}
use Rattle.numbers.specs.Series.{file_of, overlaid}
use Rattle.table.specs.Layout.{Sized}
use Rattle.files.specs.Reading.{IsFile}
use Rattle.files.specs.Plan.{PlanFault}
use Rattle.enlarge.specs.Enlarged.{enlarged}
use Rattle.enlarge.specs.declared.Wanted.{Wanted}
use Rattle.admission.specs.Admits.{WholeTold, PieceTold}
use Rattle.admission.specs.declared.Admitted.{Admitted}
use Rattle.host.specs.declared.admit.AdmissionAnswer.{AdmissionAnswer}
use Rattle.host.specs.Answers.{refused_result}

abbrev pub wanting : ℕ → ℕ → ℕ → Wanted
wanting period deadline octets = record { period = period; deadline = deadline; octets = octets }

-- The answer with result r, n beside it, and the offset x.
abbrev pub admission : ℕ → ℕ → ℕ → AdmissionAnswer
admission r n x = record { result = r; beside = n; offset = x }

-- Refusal k at p: the result is 100 plus k, the position stands beside it, and there is no offset.
abbrev pub unadmitted : Cause → ℕ → AdmissionAnswer
unadmitted k p = admission (refused_result (number_of k)) p 0

-- How many words of an enlarged table the file has room for: each number may have 5 bytes. So 15 is due where file has fewer bytes than 5 for each word of it.
abbrev pub words_in : List ℕ → ℕ
words_in file = length file / max_number_bytes

-- What is answered to an admission to the table t. Admitted: 0, with the size of the new plan file and the first offset. None yet: 1, with the offset to look on from. Refused: 100 plus
-- the number.
abbrev pub admission_answered : List ℕ → Wanted → List ℕ → ℕ → Result (Option Admitted) Refusal → AdmissionAnswer
admission_answered t w route until (Ok (Some g)) = admission 0 (length (file_of (enlarged t w route g.offset))) g.offset
admission_answered t w route until (Ok None) = admission 1 0 until
admission_answered t w route until (Err e) = unadmitted e.cause e.at

-- The lent bytes after it. Admitted: the plan file of the enlarged table lies in front, and every other byte is as it was. Otherwise nothing is written.
abbrev pub bytes_after_admission : List ℕ → Wanted → List ℕ → List ℕ → Result (Option Admitted) Refusal → List ℕ
bytes_after_admission t w route file (Ok (Some g)) = overlaid file 0 (file_of (enlarged t w route g.offset))
bytes_after_admission t w route file (Ok None) = file
bytes_after_admission t w route file (Err e) = file

-- An admission to the table t: given is what is told of it.
pub record AdmittedTo (Told : Result (Option Admitted) Refusal → Type 0) (t : List ℕ) (w : Wanted) (route : List ℕ) (until : ℕ) (file : List ℕ) (a : AdmissionAnswer) (file' : List ℕ) : Type 0 where
  pub given : Result (Option Admitted) Refusal
  pub told : Told given
  pub answer : a ≡ admission_answered t w route until given
  pub after : file' ≡ bytes_after_admission t w route file given

-- Refused for a fault of the plan file: the answer is its number and position, and nothing is written.
pub record PlanNotRead (plan file : List ℕ) (a : AdmissionAnswer) (file' : List ℕ) : Type 0 where
  pub cause : Cause
  pub at : ℕ
  pub fault : PlanFault plan cause at
  pub answer : a ≡ unadmitted cause at
  pub kept : file' ≡ file

-- The plan reader refuses the file; or it is the file of a table, and Then says the rest for this table.
abbrev pub AfterReading : List ℕ → List ℕ → (List ℕ → AdmissionAnswer → List ℕ → Type 0) → AdmissionAnswer → List ℕ → Type 0
AfterReading plan file Then a file' = PlanNotRead plan file a file' ⊎ ((t : List ℕ) × IsFile Sized plan t × Then t a file')

-- THE WHOLE ADMISSION. The refusals in their order: 12, 13, 2 and 14 of the plan file, then 4 to 7 of its table, 11, 20, 15, 19, 18.
abbrev pub HostAdmits : List ℕ → Wanted → List ℕ → List ℕ → AdmissionAnswer → List ℕ → Type 0
HostAdmits plan w route file =
    AfterReading plan file (λ (t : List ℕ). AdmittedTo (WholeTold t w route (words_in file)) t w route w.period file)

-- A PIECE OF AN ADMISSION, among the first offsets from `from` up to but without `until`.
abbrev pub AdmitsTable : List ℕ → Wanted → List ℕ → ℕ → ℕ → List ℕ → AdmissionAnswer → List ℕ → Type 0
AdmitsTable t w route from until file = AdmittedTo (PieceTold t w route (words_in file) from until) t w route until file

abbrev pub HostAdmitsBetween : List ℕ → Wanted → List ℕ → ℕ → ℕ → List ℕ → AdmissionAnswer → List ℕ → Type 0
HostAdmitsBetween plan w route from until file = AfterReading plan file (λ (t : List ℕ). AdmitsTable t w route from until file)
