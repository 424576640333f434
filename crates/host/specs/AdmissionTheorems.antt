-- What is proved of the calls for C that admit one stream.
use Rattle.std.specs.Prelude.{ℕ, ◌+◌, ◌*◌, ◌≤◌, ◌≡◌, List, ◌⊎◌, length, Ok, Err, None}
use Rattle.basics.specs.Cause.{number_of}
use Rattle.basics.specs.declared.Refusal.{Refusal}
use Rattle.basics.specs.declared.Cause.{Cause}
use Rattle.basics.specs.declared.Cause.TheVariants as cause
use Rattle.numbers.specs.Number.{max_number_bytes}
use Rattle.table.specs.Layout.{Sized}
use Rattle.files.specs.Reading.{IsFile}
use Rattle.files.specs.Plan.{PlanFault}
use Rattle.files.specs.Theorems.{max_file_bytes}
use Rattle.enlarge.specs.Enlarged.{enlarged_words}
use Rattle.enlarge.specs.declared.Wanted.{Wanted}
use Rattle.host.specs.declared.admit.AdmissionAnswer.{AdmissionAnswer}
use Rattle.host.specs.Answers.{refused_result}
use Rattle.host.specs.Theorems.{OneAnswer}
use Rattle.host.specs.Admissions.{admission, unadmitted, words_in, admission_answered, HostAdmits, HostAdmitsBetween}

-- One answer and one memory.
abbrev pub HostAdmitOneAnswer : Type 0
HostAdmitOneAnswer = (plan : List ℕ) (w : Wanted) (route file : List ℕ) → OneAnswer AdmissionAnswer (List ℕ) (HostAdmits plan w route file)

abbrev pub HostAdmitBetweenOneAnswer : Type 0
HostAdmitBetweenOneAnswer =
    (plan : List ℕ) (w : Wanted) (route : List ℕ) (from until : ℕ) (file : List ℕ)
    → OneAnswer AdmissionAnswer (List ℕ) (HostAdmitsBetween plan w route from until file)

-- Only an admission writes: where the result is not 0, a refusal or none yet, the bytes are as they were.
pub record HostAdmissionsWriteNothing : Type 0 where
  pub whole : (plan : List ℕ) (w : Wanted) (route file : List ℕ) (a : AdmissionAnswer) (file' : List ℕ)
      → HostAdmits plan w route file a file' → 1 ≤ a.result → file' ≡ file
  pub between : (plan : List ℕ) (w : Wanted) (route : List ℕ) (from until : ℕ) (file : List ℕ) (a : AdmissionAnswer) (file' : List ℕ)
      → HostAdmitsBetween plan w route from until file a file' → 1 ≤ a.result → file' ≡ file

-- A fault of the plan file comes before all else, and 2, 12, 13 and 14 are told for such a fault alone.
pub record PlanFaultsBeforeAdmissions : Type 0 where
  pub whole : (plan : List ℕ) (w : Wanted) (route file : List ℕ) (k : Cause) (p : ℕ) (a : AdmissionAnswer) (file' : List ℕ)
      → PlanFault plan k p → HostAdmits plan w route file a file' → a ≡ unadmitted k p
  pub between : (plan : List ℕ) (w : Wanted) (route : List ℕ) (from until : ℕ) (file : List ℕ) (k : Cause) (p : ℕ) (a : AdmissionAnswer) (file' : List ℕ)
      → PlanFault plan k p → HostAdmitsBetween plan w route from until file a file' → a ≡ unadmitted k p
  pub no_other : (plan : List ℕ) (w : Wanted) (route : List ℕ) (from until : ℕ) (file : List ℕ) (k : Cause) (p : ℕ) (file' : List ℕ)
      → (number_of k ≡ 2) ⊎ ((12 ≤ number_of k) × (number_of k ≤ 14)) → HostAdmitsBetween plan w route from until file (unadmitted k p) file' → PlanFault plan k p

-- Room. So many words have room in the file exactly where it has 5 bytes for each. Whoever lends that much for the enlarged table is not refused with 15, nor is whoever lends as many bytes as the
-- longest plan file may have.
pub record AdmissionRoomIsEnough : Type 0 where
  pub five_bytes : (file : List ℕ) (n : ℕ) → (n ≤ words_in file → max_number_bytes * n ≤ length file) × (max_number_bytes * n ≤ length file → n ≤ words_in file)
  pub for_the_table : (plan t : List ℕ) (w : Wanted) (route : List ℕ) (from until : ℕ) (file : List ℕ) (a : AdmissionAnswer) (file' : List ℕ)
      → IsFile Sized plan t → max_number_bytes * enlarged_words t route ≤ length file
      → HostAdmitsBetween plan w route from until file a file' → a.result ≡ refused_result (number_of cause.NoRoom) → ⊥
  pub whole : (plan : List ℕ) (w : Wanted) (route file : List ℕ) (a : AdmissionAnswer) (file' : List ℕ)
      → max_file_bytes ≤ length file → HostAdmits plan w route file a file' → a.result ≡ refused_result (number_of cause.NoRoom) → ⊥
  pub between : (plan : List ℕ) (w : Wanted) (route : List ℕ) (from until : ℕ) (file : List ℕ) (a : AdmissionAnswer) (file' : List ℕ)
      → max_file_bytes ≤ length file → HostAdmitsBetween plan w route from until file a file' → a.result ≡ refused_result (number_of cause.NoRoom) → ⊥

-- Where none fits yet up to but without m, a call for the first offsets from m on answers and writes what one call for both pieces does. And a call for a piece from 0 on, if its result is
-- not 1, answers and writes what a whole admission does. All calls are given the same plan file, stream, route and bytes.
pub record HostPiecesMakeTheWhole : Type 0 where
  pub join : (plan : List ℕ) (w : Wanted) (route : List ℕ) (from m until : ℕ) (file first : List ℕ) (a : AdmissionAnswer) (file' : List ℕ)
      → from ≤ m → HostAdmitsBetween plan w route from m file (admission 1 0 m) first → HostAdmitsBetween plan w route m until file a file'
      → HostAdmitsBetween plan w route from until file a file'
  pub whole : (plan : List ℕ) (w : Wanted) (route : List ℕ) (until : ℕ) (file : List ℕ) (a : AdmissionAnswer) (file' : List ℕ)
      → (a.result ≡ 1 → ⊥) → HostAdmitsBetween plan w route 0 until file a file' → HostAdmits plan w route file a file'

-- The refusals of an admission: 2, 4 to 7, 11 to 15, and 18 to 20.
abbrev pub AdmissionRefusal : ℕ → Type 0
AdmissionRefusal k = (k ≡ 2) ⊎ (((4 ≤ k) × (k ≤ 7)) ⊎ (((11 ≤ k) × (k ≤ 15)) ⊎ ((18 ≤ k) × (k ≤ 20))))

-- The result r tells one of them.
pub record TellsRefusal (r : ℕ) : Type 0 where
  pub number : ℕ
  pub is : AdmissionRefusal number
  pub told : r ≡ refused_result number

-- Which results there are: 0 and 1, where 1 is of a piece alone, or one of these refusals.
pub record AdmissionResultsAreThese : Type 0 where
  pub whole : (plan : List ℕ) (w : Wanted) (route file : List ℕ) (a : AdmissionAnswer) (file' : List ℕ)
      → HostAdmits plan w route file a file' → (a.result ≡ 0) ⊎ TellsRefusal a.result
  pub between : (plan : List ℕ) (w : Wanted) (route : List ℕ) (from until : ℕ) (file : List ℕ) (a : AdmissionAnswer) (file' : List ℕ)
      → HostAdmitsBetween plan w route from until file a file' → (a.result ≡ 0) ⊎ ((a.result ≡ 1) ⊎ TellsRefusal a.result)

-- The answers at the paper's numbers, and the refusals' numbers.
pub record AdmissionsOfThePaper : Type 0 where
  pub none_yet : (t : List ℕ) (w : Wanted) (route : List ℕ) (until : ℕ) → admission_answered t w route until (Ok None) ≡ admission 1 0 until
  pub refused : (t : List ℕ) (w : Wanted) (route : List ℕ) (until : ℕ) (e : Refusal) → admission_answered t w route until (Err e) ≡ admission (100 + number_of e.cause) e.at 0
  pub bytes : max_number_bytes ≡ 5
  pub none_fits : number_of cause.NoOffset ≡ 18
  pub not_accepted_lem : number_of cause.NotAccepted ≡ 19
  pub not_added : number_of cause.CannotAdd ≡ 20
