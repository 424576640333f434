-- What an admission to the table of a plan file found, carried to the call's statement. The words that a call lends of its own are enough, since no enlarged table has more words than the
-- largest table, and no number of its file more than 5 bytes. Assumes nothing.
use Rattle.admission.specs.declared.Admitted.{Admitted}
use Rattle.std.specs.Prelude.{Ok, Err, Some, None}
use Rattle.basics.specs.declared.Cause.{Cause}
use Rattle.basics.specs.declared.Refusal.{Refusal}
use Prim.Native.Nat.{ℕ, ◌/◌, ◌≤◌}
use mathlib.Core.Path.{◌≡◌, refl, ◌∙◌, sym, ap, subst}
use mathlib.Core.List.{List}
use mathlib.Core.Logic.{inl, inr}
use native.Mathlib.Omega.{arith}
use lib.ListN.{length, take}
use Rattle.numbers.specs.Number.{max_number_bytes}
use Rattle.numbers.specs.Series.{file_of}
use Rattle.numbers.proofs.Overlay.{overlaid_taken}
use Rattle.numbers.proofs.Rows.{file_length}
use Rattle.table.specs.Layout.{max_table_words, Sized}
use Rattle.shape.specs.Shape.{WellFormedTable}
use Rattle.enlarge.specs.Enlarged.{enlarged, enlarged_words}
use Rattle.enlarge.specs.declared.Wanted.{Wanted}
use Rattle.enlarge.proofs.Grown.{grown_long}
use Rattle.enlarge.proofs.NewLegs.{from_length}
use Rattle.enlarge.proofs.Ranges.{wanted_in_range}
use Rattle.admission.specs.Admits.{CanAdd, MayAdmit, early_refusals, AdmittedAt, PieceTold, AdmitsBetween, Admission}
use Rattle.host.specs.declared.Answer.{Answer}
use Rattle.host.specs.declared.admit.AdmissionAnswer.{AdmissionAnswer}
use Rattle.host.specs.Calls.{WritesFile}
use Rattle.host.specs.Admissions.{admission, unadmitted, AdmitsTable}
use Rattle.host.specs.Steps.{OwnRoom}

-- A stream can be added only where the enlarged table has no more words than the largest.
pub few_words : {t : List ℕ} (w : Wanted) (route : List ℕ) → WellFormedTable t → CanAdd t w route → enlarged_words t route ≤ max_table_words
few_words {t} w route s can =
    let r = wanted_in_range t w route s.sized can in
    omega (arith, r.streams, r.legs, s.sized.limits.links)

-- So an admission in words of the call's own tells what one tells that is lent as many words as the file has room for.
module _ (t : List ℕ) (w : Wanted) (route : List ℕ) {bytes own : ℕ} (room : OwnRoom bytes own) where
  may_anyway : MayAdmit t w route own → MayAdmit t w route (bytes / max_number_bytes)
  may_anyway m =
      record { shape = m.shape; rises = m.rises; can_add = m.can_add; has_room = omega (arith, m.has_room, room.in_the_file); rules = m.rules }

  early_anyway : (k : Cause) (p : ℕ) → (early_refusals t w route own).Fault k p → (early_refusals t w route (bytes / max_number_bytes)).Fault k p
  early_anyway k p (inl f) = inl f
  early_anyway k p (inr (s, inl f)) = inr (s, inl f)
  early_anyway k p (inr (s, inr (r, inl f))) = inr (s, inr (r, inl f))
  early_anyway k p (inr (s, inr (r, inr (can, inl f)))) =
      inr (s, inr (r, inr (can, inl (f.0, f.1, λ h. f.2 (room.enough (enlarged_words t route) h (few_words w route s can))))))
  early_anyway k p (inr (s, inr (r, inr (can, inr (h, f))))) =
      let more : enlarged_words t route ≤ bytes / max_number_bytes = omega (arith, h, room.in_the_file) in
      inr (s, inr (r, inr (can, inr (more, f))))

  told_anyway : (from until : ℕ) (a : Admission) → PieceTold t w route own from until a → PieceTold t w route (bytes / max_number_bytes) from until a
  told_anyway from until (Ok (Some g)) a = (record { may = may_anyway a.0.may; found = a.0.found; count = a.0.count }, a.1)
  told_anyway from until (Ok None) a = record { may = may_anyway a.may; none = a.none; not_the_end = a.not_the_end }
  told_anyway from until (Err d) (inl f) = inl (early_anyway d.cause d.at f)
  told_anyway from until (Err d) (inr (m, f)) = inr (may_anyway m, f)

-- What was given, and what is left in the call's own words.
module _ (t : List ℕ) (w : Wanted) (route : List ℕ) (from until : ℕ) (own own' : List ℕ) {given : Admission} where
  this_given : (a : Admission) → given ≡ a → AdmitsBetween t w route from until own given own' → AdmitsBetween t w route from until own a own'
  this_given a e h = subst (λ (b : Admission). AdmitsBetween t w route from until own b own') e h

  module _ {file : List ℕ} (room : OwnRoom (length file) (length own)) where
    pub table_refused : {a : AdmissionAnswer} {q : Refusal} → given ≡ Err q → AdmitsBetween t w route from until own given own' → a ≡ unadmitted q.cause q.at
        → AdmitsTable t w route from until file a file
    table_refused {a} {q} e h f =
        record { given = Err q; told = told_anyway t w route room from until (Err q) (this_given (Err q) e h).answer; answer = f; after = refl }

  -- Admitted, the enlarged table lies in front. It is a table, and its file has room.
  module _ {g : Admitted} (e : given ≡ Ok (Some g)) (h : AdmitsBetween t w route from until own given own') where
    at_x : AdmittedAt t w route (length own) from g.offset g.words
    at_x = (this_given (Ok (Some g)) e h).answer.0

    long : length (enlarged t w route g.offset) ≡ enlarged_words t route
    long = grown_long t w (length route) _ at_x.may.shape.sized (from_length t w g.offset route)

    in_front : take g.words own' ≡ enlarged t w route g.offset
    in_front =
        ap (λ (m : ℕ). take m own') (at_x.count ∙ sym long) ∙ ap (take (length (enlarged t w route g.offset))) (this_given (Ok (Some g)) e h).after
        ∙ overlaid_taken own (enlarged t w route g.offset)

    pub admitted_sized : Sized (take g.words own')
    admitted_sized = subst Sized (sym in_front) at_x.found.has.shape.sized

    file_fits : (file : List ℕ) → OwnRoom (length file) (length own) → length (file_of (enlarged t w route g.offset)) ≤ length file
    file_fits file room =
        let words : enlarged_words t route ≤ length file / max_number_bytes = omega (arith, at_x.may.has_room, room.in_the_file) in
        omega (arith, file_length (enlarged t w route g.offset), long)

    pub table_admitted : {file file' : List ℕ} {written : Answer} → OwnRoom (length file) (length own) → WritesFile (take g.words own') file written file'
        → AdmitsTable t w route from until file (admission written.result written.beside g.offset) file'
    table_admitted {file} {file'} {written} room wrote = given_by (subst (λ (u : List ℕ). WritesFile u file written file') in_front wrote)
      where
        given_by : WritesFile (enlarged t w route g.offset) file written file' → AdmitsTable t w route from until file (admission written.result written.beside g.offset) file'
        given_by (inl r) = absurd (r.fault.2 (file_fits file room))
        given_by (inr y) = record {
          given = Ok (Some g);
          told = told_anyway t w route room from until (Ok (Some g)) (this_given (Ok (Some g)) e h).answer;
          answer = ap (λ (b : Answer). admission b.result b.beside g.offset) y.1.answer;
          after = y.1.after;
        }
