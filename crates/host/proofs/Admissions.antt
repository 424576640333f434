-- Each call for C that admits one stream has one answer and leaves one memory, since what is told has one answer. Each stage has its refusals. 15 is due only where the file has fewer than 5 bytes for
-- each word of the enlarged table, which has no more words than the largest table. Assumes nothing.
use Rattle.host.proofs.Laws.{number_once}
use Rattle.std.specs.Prelude.{Ok, Err, Some, None}
use Rattle.basics.specs.Cause.{number_of, refused}
use Rattle.basics.specs.declared.Cause.{Cause}
use Rattle.basics.specs.declared.Cause.TheVariants as cause
use Prim.Native.Nat.{ℕ, ◌*◌, ◌≤◌}
use mathlib.Core.Path.{◌≡◌, refl, ◌∙◌, sym, ap, subst}
use mathlib.Core.List.{List}
use mathlib.Core.Logic.{◌⊎◌, inl, inr}
use native.Mathlib.Omega.{arith}
use lib.ListN.{length}
use Rattle.numbers.specs.Number.{max_number_bytes}
use Rattle.table.specs.Layout.{Sized}
use Rattle.files.specs.Reading.{IsFile}
use Rattle.files.specs.Plan.{PlanFault}
use Rattle.files.specs.Theorems.{max_file_bytes}
use Rattle.files.proofs.OneAnswer.{plan_fault_one, file_no_fault, same_file}
use Rattle.files.proofs.Refused.{plan_refused}
use Rattle.shape.proofs.Refused.{sized_refused}
use Rattle.enlarge.specs.Enlarged.{enlarged_words}
use Rattle.enlarge.specs.declared.Wanted.{Wanted}
use Rattle.admission.specs.Admits.{early_refusals, WholeTold, PieceTold, Admission}
use Rattle.admission.proofs.OneAnswer.{told_one_answer, piece_told_one_answer, pieces_make_the_whole}
use Rattle.host.specs.declared.admit.AdmissionAnswer.{AdmissionAnswer}
use Rattle.host.specs.Answers.{refused_result}
use Rattle.host.specs.Theorems.{OneAnswer}
use Rattle.host.specs.Admissions.{admission, unadmitted, words_in, admission_answered, bytes_after_admission, AdmittedTo, AfterReading, HostAdmits, HostAdmitsBetween}
use Rattle.host.specs.AdmissionTheorems.{HostAdmitOneAnswer, HostAdmitBetweenOneAnswer, HostAdmissionsWriteNothing, PlanFaultsBeforeAdmissions, AdmissionRoomIsEnough, HostPiecesMakeTheWhole, AdmissionRefusal, TellsRefusal, AdmissionResultsAreThese, AdmissionsOfThePaper}
use Rattle.host.proofs.Admitting.{few_words}

abbrev result_of : AdmissionAnswer → ℕ
result_of a = a.result

-- One answer.
admitted_one : (Told : Admission → Type 0) → ((a b : Admission) → Told a → Told b → a ≡ b)
    → (t : List ℕ) (w : Wanted) (route : List ℕ) (until : ℕ) (file : List ℕ) → OneAnswer AdmissionAnswer (List ℕ) (AdmittedTo Told t w route until file)
admitted_one Told one t w route until file a b x y u v =
    let e = one u.given v.given u.told v.told in
    (u.answer ∙ ap (admission_answered t w route until) e ∙ sym v.answer, u.after ∙ ap (bytes_after_admission t w route file) e ∙ sym v.after)

after_reading_one : (plan file : List ℕ) (Then : List ℕ → AdmissionAnswer → List ℕ → Type 0) → ((t : List ℕ) → OneAnswer AdmissionAnswer (List ℕ) (Then t))
    → OneAnswer AdmissionAnswer (List ℕ) (AfterReading plan file Then)
after_reading_one plan file Then one a b x y (inl u) (inl v) =
    let e = plan_fault_one plan u.cause u.at v.cause v.at u.fault v.fault in (
      u.answer ∙ ap (λ (k : Cause). unadmitted k u.at) e.0 ∙ ap (unadmitted v.cause) e.1 ∙ sym v.answer,
      u.kept ∙ sym v.kept,
    )
after_reading_one plan file Then one a b x y (inl u) (inr v) = absurd (file_no_fault v.1 u.fault)
after_reading_one plan file Then one a b x y (inr u) (inl v) = absurd (file_no_fault u.1 v.fault)
after_reading_one plan file Then one a b x y (inr (t, f, u)) (inr (s, g, v)) = one t a b x y u (subst (λ (k : List ℕ). Then k b y) (same_file g f) v)

pub host_admit_one_answer : HostAdmitOneAnswer
host_admit_one_answer plan w route file =
    after_reading_one plan file (λ (t : List ℕ). AdmittedTo (WholeTold t w route (words_in file)) t w route w.period file)
    (λ t. admitted_one (WholeTold t w route (words_in file)) (told_one_answer t w route (words_in file)) t w route w.period file)

pub host_admit_between_one_answer : HostAdmitBetweenOneAnswer
host_admit_between_one_answer plan w route from until file =
    after_reading_one plan file (λ (t : List ℕ). AdmittedTo (PieceTold t w route (words_in file) from until) t w route until file)
    (λ t. admitted_one (PieceTold t w route (words_in file) from until) (piece_told_one_answer t w route (words_in file) from until) t w route until file)

-- Only an admission writes.
given_keeps : (t : List ℕ) (w : Wanted) (route : List ℕ) (until : ℕ) (file : List ℕ) (g : Admission) (a : AdmissionAnswer) (file' : List ℕ)
    → a ≡ admission_answered t w route until g → file' ≡ bytes_after_admission t w route file g → 1 ≤ a.result → file' ≡ file
given_keeps t w route until file (Ok (Some g)) a file' e f h = absurd (omega (arith, ap result_of e, h))
given_keeps t w route until file (Ok None) a file' e f h = f
given_keeps t w route until file (Err d) a file' e f h = f

whole_keeps : (plan : List ℕ) (w : Wanted) (route file : List ℕ) (a : AdmissionAnswer) (file' : List ℕ) → HostAdmits plan w route file a file' → 1 ≤ a.result → file' ≡ file
whole_keeps plan w route file a file' (inl x) h = x.kept
whole_keeps plan w route file a file' (inr (t, f, x)) h = given_keeps t w route w.period file x.given a file' x.answer x.after h

piece_keeps : (plan : List ℕ) (w : Wanted) (route : List ℕ) (from until : ℕ) (file : List ℕ) (a : AdmissionAnswer) (file' : List ℕ)
    → HostAdmitsBetween plan w route from until file a file' → 1 ≤ a.result → file' ≡ file
piece_keeps plan w route from until file a file' (inl x) h = x.kept
piece_keeps plan w route from until file a file' (inr (t, f, x)) h = given_keeps t w route until file x.given a file' x.answer x.after h

pub host_admissions_write_nothing : HostAdmissionsWriteNothing
host_admissions_write_nothing = record { whole = whole_keeps; between = piece_keeps }

-- With which numbers an admission to a table of the right size is refused, and not with those of the plan file: 4 to 7; 11; 15; or 18 to 20.
abbrev OfAdmission : ℕ → Type 0
OfAdmission k = ((4 ≤ k) × (k ≤ 7)) ⊎ ((k ≡ 11) ⊎ ((k ≡ 15) ⊎ ((18 ≤ k) × (k ≤ 20))))

early_refusal : (t : List ℕ) (w : Wanted) (route : List ℕ) (room : ℕ) (k : Cause) (p : ℕ) → Sized t → (early_refusals t w route room).Fault k p → OfAdmission (number_of k)
early_refusal t w route room k p z (inl f) = inl (sized_refused t k p z f)
early_refusal t w route room k p z (inr (s, inl f)) = inr (inl (ap number_of f.0))
early_refusal t w route room k p z (inr (s, inr (r, inl f))) = inr (inr (inr (omega (arith, ap number_of f.0), omega (arith, ap number_of f.0))))
early_refusal t w route room k p z (inr (s, inr (r, inr (c, inl f)))) = inr (inr (inl (ap number_of f.0)))
early_refusal t w route room k p z (inr (s, inr (r, inr (c, inr (h, f))))) = inr (inr (inr (omega (arith, ap number_of f.0), omega (arith, ap number_of f.0))))

piece_refusal : (t : List ℕ) (w : Wanted) (route : List ℕ) (room from until : ℕ) (k : Cause) (p : ℕ) → Sized t → PieceTold t w route room from until (refused k p) → OfAdmission (number_of k)
piece_refusal t w route room from until k p z (inl f) = early_refusal t w route room k p z f
piece_refusal t w route room from until k p z (inr (m, f)) = inr (inr (inr (omega (arith, ap number_of f.0), omega (arith, ap number_of f.0))))

whole_refusal : (t : List ℕ) (w : Wanted) (route : List ℕ) (room : ℕ) (k : Cause) (p : ℕ) → Sized t → WholeTold t w route room (refused k p) → OfAdmission (number_of k)
whole_refusal t w route room k p z (inl f) = early_refusal t w route room k p z f
whole_refusal t w route room k p z (inr (m, f)) = inr (inr (inr (omega (arith, ap number_of f.0), omega (arith, ap number_of f.0))))

-- A fault of the plan file comes first.
first_fault : (plan file : List ℕ) (Then : List ℕ → AdmissionAnswer → List ℕ → Type 0) (k : Cause) (p : ℕ) (a : AdmissionAnswer) (file' : List ℕ)
    → PlanFault plan k p → AfterReading plan file Then a file' → a ≡ unadmitted k p
first_fault plan file Then k p a file' f (inl x) =
    let e = plan_fault_one plan x.cause x.at k p x.fault f in
    x.answer ∙ ap (λ (l : Cause). unadmitted l x.at) e.0 ∙ ap (unadmitted k) e.1
first_fault plan file Then k p a file' f (inr (t, g, x)) = absurd (file_no_fault g f)

-- The numbers of the plan file and those of an admission have none in common.
abbrev OfFile : ℕ → Type 0
OfFile k = (k ≡ 2) ⊎ ((12 ≤ k) × (k ≤ 14))

none_in_common : (k : ℕ) → OfFile k → OfAdmission k → ⊥
none_in_common k (inl e) (inl x) = omega (arith, x.0)
none_in_common k (inl e) (inr (inl x)) = omega (arith, x)
none_in_common k (inl e) (inr (inr (inl x))) = omega (arith, x)
none_in_common k (inl e) (inr (inr (inr x))) = omega (arith, x.0)
none_in_common k (inr e) (inl x) = omega (arith, e.0, x.1)
none_in_common k (inr e) (inr (inl x)) = omega (arith, e.0, x)
none_in_common k (inr e) (inr (inr (inl x))) = omega (arith, e.1, x)
none_in_common k (inr e) (inr (inr (inr x))) = omega (arith, e.1, x.0)

not_given : (t : List ℕ) (w : Wanted) (route : List ℕ) (room from until : ℕ) (k : Cause) (p : ℕ) (g : Admission)
    → Sized t → OfFile (number_of k) → PieceTold t w route room from until g → unadmitted k p ≡ admission_answered t w route until g → ⊥
not_given t w route room from until k p (Ok (Some g)) z f told e = omega (arith, ap result_of e)
not_given t w route room from until k p (Ok None) z f told e = omega (arith, ap result_of e)
not_given t w route room from until k p (Err d) z f told e =
    let same : number_of d.cause ≡ number_of k = omega (arith, ap result_of e) in
    none_in_common (number_of k) f (subst OfAdmission same (piece_refusal t w route room from until d.cause d.at z told))

of_the_file : (plan : List ℕ) (w : Wanted) (route : List ℕ) (from until : ℕ) (file : List ℕ) (k : Cause) (p : ℕ) (file' : List ℕ)
    → OfFile (number_of k) → HostAdmitsBetween plan w route from until file (unadmitted k p) file' → PlanFault plan k p
of_the_file plan w route from until file k p file' f (inl x) =
    let e : x.cause ≡ k = number_once x.cause k (omega (arith, ap result_of x.answer)) in
    let at : x.at ≡ p = sym (ap (λ (a : AdmissionAnswer). a.beside) x.answer) in
    subst (λ (q : ℕ). PlanFault plan k q) at (subst (λ (j : Cause). PlanFault plan j x.at) e x.fault)
of_the_file plan w route from until file k p file' f (inr (t, g, x)) =
    absurd (not_given t w route (words_in file) from until k p x.given g.complete f x.told x.answer)

pub plan_faults_before_admissions : PlanFaultsBeforeAdmissions
plan_faults_before_admissions = record {
  whole = λ plan w route file k p a file' f x.
      first_fault plan file (λ (t : List ℕ). AdmittedTo (WholeTold t w route (words_in file)) t w route w.period file) k p a file' f x;
  between = λ plan w route from until file k p a file' f x.
      first_fault plan file (λ (t : List ℕ). AdmittedTo (PieceTold t w route (words_in file) from until) t w route until file) k p a file' f x;
  no_other = of_the_file;
}

-- Room.
five_bytes : (file : List ℕ) (n : ℕ) → (n ≤ words_in file → max_number_bytes * n ≤ length file) × (max_number_bytes * n ≤ length file → n ≤ words_in file)
five_bytes file n = (λ h. omega arith, λ h. omega arith)

-- 15 is told only where the stream can be added and there is no room for its words.
early_room : (t : List ℕ) (w : Wanted) (route : List ℕ) (room : ℕ) (k : Cause) (p : ℕ) → Sized t → (enlarged_words t route ≤ room) ⊎ (max_file_bytes ≤ max_number_bytes * room)
    → number_of k ≡ 15 → (early_refusals t w route room).Fault k p → ⊥
early_room t w route room k p z enough e (inl f) = omega (arith, (sized_refused t k p z f).1)
early_room t w route room k p z enough e (inr (s, inl f)) = omega (arith, ap number_of f.0)
early_room t w route room k p z enough e (inr (s, inr (r, inl f))) = omega (arith, ap number_of f.0)
early_room t w route room k p z (inl enough) e (inr (s, inr (r, inr (c, inl f)))) = f.2 enough
early_room t w route room k p z (inr enough) e (inr (s, inr (r, inr (c, inl f)))) = f.2 (omega (arith, enough, few_words w route s c))
early_room t w route room k p z enough e (inr (s, inr (r, inr (c, inr (h, f))))) = omega (arith, ap number_of f.0)

piece_room : (t : List ℕ) (w : Wanted) (route : List ℕ) (room from until : ℕ) (g : Admission) (a : AdmissionAnswer)
    → Sized t → (enlarged_words t route ≤ room) ⊎ (max_file_bytes ≤ max_number_bytes * room)
    → PieceTold t w route room from until g → a ≡ admission_answered t w route until g → a.result ≡ refused_result (number_of cause.NoRoom) → ⊥
piece_room t w route room from until (Ok (Some g)) a z enough told e r = omega (arith, ap result_of e, r)
piece_room t w route room from until (Ok None) a z enough told e r = omega (arith, ap result_of e, r)
piece_room t w route room from until (Err d) a z enough (inl f) e r = early_room t w route room d.cause d.at z enough (omega (arith, ap result_of e, r)) f
piece_room t w route room from until (Err d) a z enough (inr (m, f)) e r = omega (arith, ap result_of e, r, ap number_of f.0)

whole_room : (t : List ℕ) (w : Wanted) (route : List ℕ) (room : ℕ) (g : Admission) (a : AdmissionAnswer)
    → Sized t → (enlarged_words t route ≤ room) ⊎ (max_file_bytes ≤ max_number_bytes * room)
    → WholeTold t w route room g → a ≡ admission_answered t w route w.period g → a.result ≡ refused_result (number_of cause.NoRoom) → ⊥
whole_room t w route room (Ok (Some g)) a z enough told e r = omega (arith, ap result_of e, r)
whole_room t w route room (Ok None) a z enough told e r = absurd told
whole_room t w route room (Err d) a z enough (inl f) e r = early_room t w route room d.cause d.at z enough (omega (arith, ap result_of e, r)) f
whole_room t w route room (Err d) a z enough (inr (m, f)) e r = omega (arith, ap result_of e, r, ap number_of f.0)

plan_not_room : (plan : List ℕ) (k : Cause) (p : ℕ) (a : AdmissionAnswer) → PlanFault plan k p → a ≡ unadmitted k p → a.result ≡ refused_result (number_of cause.NoRoom) → ⊥
plan_not_room plan k p a f e r = by (plan_refused plan k p f)
  where
    by : (number_of k ≡ 2) ⊎ ((12 ≤ number_of k) × (number_of k ≤ 14)) → ⊥
    by (inl x) = omega (arith, ap result_of e, r, x)
    by (inr x) = omega (arith, ap result_of e, r, x.1)

full : (file : List ℕ) → max_file_bytes ≤ length file → max_file_bytes ≤ max_number_bytes * words_in file
full file h = omega arith

for_the_table : (plan t : List ℕ) (w : Wanted) (route : List ℕ) (from until : ℕ) (file : List ℕ) (a : AdmissionAnswer) (file' : List ℕ)
    → IsFile Sized plan t → max_number_bytes * enlarged_words t route ≤ length file
    → HostAdmitsBetween plan w route from until file a file' → a.result ≡ refused_result (number_of cause.NoRoom) → ⊥
for_the_table plan t w route from until file a file' is h (inl x) r = plan_not_room plan x.cause x.at a x.fault x.answer r
for_the_table plan t w route from until file a file' is h (inr (u, f, x)) r =
    let same : t ≡ u = same_file is f in
    let enough : enlarged_words t route ≤ words_in file = (five_bytes file (enlarged_words t route)).1 h in
    piece_room u w route (words_in file) from until x.given a f.complete (inl (subst (λ (v : List ℕ). enlarged_words v route ≤ words_in file) same enough)) x.told x.answer r

whole_full : (plan : List ℕ) (w : Wanted) (route file : List ℕ) (a : AdmissionAnswer) (file' : List ℕ)
    → max_file_bytes ≤ length file → HostAdmits plan w route file a file' → a.result ≡ refused_result (number_of cause.NoRoom) → ⊥
whole_full plan w route file a file' h (inl x) r = plan_not_room plan x.cause x.at a x.fault x.answer r
whole_full plan w route file a file' h (inr (t, f, x)) r =
    whole_room t w route (words_in file) x.given a f.complete (inr (full file h)) x.told x.answer r

piece_full : (plan : List ℕ) (w : Wanted) (route : List ℕ) (from until : ℕ) (file : List ℕ) (a : AdmissionAnswer) (file' : List ℕ)
    → max_file_bytes ≤ length file → HostAdmitsBetween plan w route from until file a file' → a.result ≡ refused_result (number_of cause.NoRoom) → ⊥
piece_full plan w route from until file a file' h (inl x) r = plan_not_room plan x.cause x.at a x.fault x.answer r
piece_full plan w route from until file a file' h (inr (t, f, x)) r =
    piece_room t w route (words_in file) from until x.given a f.complete (inr (full file h)) x.told x.answer r

pub admission_room_is_enough : AdmissionRoomIsEnough
admission_room_is_enough = record { five_bytes = five_bytes; for_the_table = for_the_table; whole = whole_full; between = piece_full }

-- Pieces. An answer of 1 tells that none fits yet.
none_given : (t : List ℕ) (w : Wanted) (route : List ℕ) (room from m : ℕ) (g : Admission)
    → PieceTold t w route room from m g → admission 1 0 m ≡ admission_answered t w route m g → PieceTold t w route room from m (Ok None)
none_given t w route room from m (Ok (Some g)) told e = absurd (omega (arith, ap result_of e))
none_given t w route room from m (Ok None) told e = told
none_given t w route room from m (Err d) told e = absurd (omega (arith, ap result_of e))

join : (plan : List ℕ) (w : Wanted) (route : List ℕ) (from m until : ℕ) (file first : List ℕ) (a : AdmissionAnswer) (file' : List ℕ)
    → from ≤ m → HostAdmitsBetween plan w route from m file (admission 1 0 m) first → HostAdmitsBetween plan w route m until file a file'
    → HostAdmitsBetween plan w route from until file a file'
join plan w route from m until file first a file' h (inl x) y = absurd (omega (arith, ap result_of x.answer))
join plan w route from m until file first a file' h (inr x) (inl y) = inl y
join plan w route from m until file first a file' h (inr (t, f, x)) (inr (u, g, y)) =
    let room = words_in file in
    let none = none_given t w route room from m x.given x.told x.answer in
    let here = subst (λ (v : List ℕ). PieceTold v w route room from m (Ok None)) (same_file f g) none in
    inr (
      u,
      g,
      record {
        given = y.given;
        told = pieces_make_the_whole.join u w route room from m until y.given h here y.told;
        answer = y.answer;
        after = y.after;
      },
    )

-- What none yet is answered with is of no matter to the whole, of which it is never told.
whole_answered : (t : List ℕ) (w : Wanted) (route : List ℕ) (room until : ℕ) (g : Admission)
    → WholeTold t w route room g → admission_answered t w route until g ≡ admission_answered t w route w.period g
whole_answered t w route room until (Ok (Some g)) told = refl
whole_answered t w route room until (Ok None) told = absurd told
whole_answered t w route room until (Err d) told = refl

whole : (plan : List ℕ) (w : Wanted) (route : List ℕ) (until : ℕ) (file : List ℕ) (a : AdmissionAnswer) (file' : List ℕ)
    → (a.result ≡ 1 → ⊥) → HostAdmitsBetween plan w route 0 until file a file' → HostAdmits plan w route file a file'
whole plan w route until file a file' ended (inl x) = inl x
whole plan w route until file a file' ended (inr (t, f, x)) =
    let not_yet : x.given ≡ (Ok None) → ⊥ = λ e. ended (ap result_of (x.answer ∙ ap (admission_answered t w route until) e)) in
    let told = pieces_make_the_whole.whole t w route (words_in file) until x.given not_yet x.told in
    inr (
      t,
      f,
      record { given = x.given; told = told; answer = x.answer ∙ whole_answered t w route (words_in file) until x.given told; after = x.after },
    )

-- A piece that goes up to the end of the period is not answered with none yet.
piece_ends : (t : List ℕ) (w : Wanted) (route : List ℕ) (room : ℕ) (g : Admission)
    → PieceTold t w route room 0 w.period g → (admission_answered t w route w.period g).result ≡ 1 → ⊥
piece_ends t w route room (Ok (Some g)) told e = omega (arith, e)
piece_ends t w route room (Ok None) told e = omega (arith, told.not_the_end)
piece_ends t w route room (Err d) told e = omega (arith, e)

pub period_ends : (plan : List ℕ) (w : Wanted) (route file : List ℕ) (a : AdmissionAnswer) (file' : List ℕ) → HostAdmitsBetween plan w route 0 w.period file a file' → a.result ≡ 1 → ⊥
period_ends plan w route file a file' (inl x) e = omega (arith, e, ap result_of x.answer)
period_ends plan w route file a file' (inr (t, f, x)) e = piece_ends t w route (words_in file) x.given x.told (sym (ap result_of x.answer) ∙ e)

pub host_pieces_make_the_whole : HostPiecesMakeTheWhole
host_pieces_make_the_whole = record { join = join; whole = whole }

-- Which results there are.
of_admission : (k : ℕ) → OfAdmission k → AdmissionRefusal k
of_admission k (inl x) = inr (inl x)
of_admission k (inr (inl x)) = inr (inr (inl (omega (arith, x), omega (arith, x))))
of_admission k (inr (inr (inl x))) = inr (inr (inl (omega (arith, x), omega (arith, x))))
of_admission k (inr (inr (inr x))) = inr (inr (inr x))

of_plan : (k : Cause) → (number_of k ≡ 2) ⊎ ((12 ≤ number_of k) × (number_of k ≤ 14)) → AdmissionRefusal (number_of k)
of_plan k (inl x) = inl x
of_plan k (inr x) = inr (inr (inl (omega (arith, x.0), omega (arith, x.1))))

tells : (k : Cause) (p : ℕ) (a : AdmissionAnswer) → a ≡ unadmitted k p → AdmissionRefusal (number_of k) → TellsRefusal a.result
tells k p a e is = record { number = number_of k; is = is; told = ap result_of e }

whole_result : (t : List ℕ) (w : Wanted) (route : List ℕ) (room : ℕ) (g : Admission) (a : AdmissionAnswer)
    → Sized t → WholeTold t w route room g → a ≡ admission_answered t w route w.period g → (a.result ≡ 0) ⊎ TellsRefusal a.result
whole_result t w route room (Ok (Some g)) a z told e = inl (ap result_of e)
whole_result t w route room (Ok None) a z told e = absurd told
whole_result t w route room (Err d) a z told e = inr (tells d.cause d.at a e (of_admission (number_of d.cause) (whole_refusal t w route room d.cause d.at z told)))

piece_result : (t : List ℕ) (w : Wanted) (route : List ℕ) (room from until : ℕ) (g : Admission) (a : AdmissionAnswer)
    → Sized t → PieceTold t w route room from until g → a ≡ admission_answered t w route until g → (a.result ≡ 0) ⊎ ((a.result ≡ 1) ⊎ TellsRefusal a.result)
piece_result t w route room from until (Ok (Some g)) a z told e = inl (ap result_of e)
piece_result t w route room from until (Ok None) a z told e = inr (inl (ap result_of e))
piece_result t w route room from until (Err d) a z told e = inr (inr (tells d.cause d.at a e (of_admission (number_of d.cause) (piece_refusal t w route room from until d.cause d.at z told))))

whole_these : (plan : List ℕ) (w : Wanted) (route file : List ℕ) (a : AdmissionAnswer) (file' : List ℕ)
    → HostAdmits plan w route file a file' → (a.result ≡ 0) ⊎ TellsRefusal a.result
whole_these plan w route file a file' (inl x) = inr (tells x.cause x.at a x.answer (of_plan x.cause (plan_refused plan x.cause x.at x.fault)))
whole_these plan w route file a file' (inr (t, f, x)) = whole_result t w route (words_in file) x.given a f.complete x.told x.answer

piece_these : (plan : List ℕ) (w : Wanted) (route : List ℕ) (from until : ℕ) (file : List ℕ) (a : AdmissionAnswer) (file' : List ℕ)
    → HostAdmitsBetween plan w route from until file a file' → (a.result ≡ 0) ⊎ ((a.result ≡ 1) ⊎ TellsRefusal a.result)
piece_these plan w route from until file a file' (inl x) =
    inr (inr (tells x.cause x.at a x.answer (of_plan x.cause (plan_refused plan x.cause x.at x.fault))))
piece_these plan w route from until file a file' (inr (t, f, x)) = piece_result t w route (words_in file) from until x.given a f.complete x.told x.answer

pub admission_results_are_these : AdmissionResultsAreThese
admission_results_are_these = record { whole = whole_these; between = piece_these }

pub admissions_of_the_paper : AdmissionsOfThePaper
admissions_of_the_paper = record {
  none_yet = λ t w route until. refl;
  refused = λ t w route until e. refl;
  bytes = refl;
  none_fits = refl;
  not_accepted_lem = refl;
  not_added = refl;
}
