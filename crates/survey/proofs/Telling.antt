-- A survey notes exactly the violated places: what a slice has passed holds, and each slice begins where the one before it ended, or one place further. Assumes nothing.
use Prim.Native.Nat.{ℕ, ◌+◌, ◌≤◌, ◌<◌}
use mathlib.Core.Path.{◌≡◌, refl, sym, subst}
use mathlib.Core.List.{List, [], ◌∷◌}
use Rattle.std.specs.Prelude.{Ok}
use mathlib.Core.Logic.{inl, inr, ⊎_elim}
use native.Mathlib.Omega.{arith}
use Rattle.basics.proofs.Splits.{lt_or_ge}
use Rattle.files.specs.declared.Cursor.{Cursor}
use Rattle.rules.specs.Rules.{RulesHold}
use Rattle.rules.specs.Places.{PlaceHolds}
use Rattle.places.specs.Order.{rank, IsPlace, HoldFrom, place_count}
use Rattle.places.proofs.Ranks.{place_rank, end_rank, order_by_leg, rank_one}
use Rattle.checker.specs.Cursors.{cursor_rank}
use Rattle.checker.specs.Slices.{Starts}
use Rattle.checker.specs.declared.SliceAnswer.{SliceAnswer}
use Rattle.checker.specs.declared.SliceAnswer.TheVariants as answer
use Rattle.checker.proofs.Whole.{start_rank, all_held, broken_rules}
use Rattle.recheck.specs.Listed.{place_at}
use Rattle.recheck.specs.Theorems.{In, InOrder}
use Rattle.recheck.specs.declared.Place.{Place}
use Rattle.survey.specs.Survey.{Surveys, noted}
use Rattle.survey.specs.Theorems.{AllViolated, SurveysTellAll, NothingNoted}

-- The same from a rank on.
record From (t : List ℕ) (n : ℕ) (places : List Place) : Type 0 where
  places_is : (q : Place) → In q places → IsPlace t q.leg q.place
  after : (q : Place) → In q places → n ≤ rank q.leg q.place
  violated : (q : Place) → In q places → PlaceHolds t q.leg q.place → ⊥
  all : (a p : ℕ) → IsPlace t a p → n ≤ rank a p → (PlaceHolds t a p → ⊥) → In (place_at a p) places
  in_order : InOrder places
  none : places ≡ [] → HoldFrom t n (place_count t)

-- A list that begins with something is not empty.
not_empty : {A : Type 0} {x : A} {rest : List A} → x ∷ rest ≡ [] → ⊥
not_empty e = let z : ◌≡◌ {A = ℕ} 0 1 = cc in omega arith

module _ (t : List ℕ) where
  -- Nothing is violated from a rank on.
  none_from : {n : ℕ} → HoldFrom t n (place_count t) → From t n []
  none_from h = record {
    places_is = λ q i. absurd i;
    after = λ q i. absurd i;
    violated = λ q i. absurd i;
    all = λ a p i from broken. absurd (broken (h a p i from (place_rank {t = t} i)));
    in_order = tt;
    none = λ e. h;
  }

  -- What was passed holds, so nothing more is violated from there on.
  earlier_from : {n m : ℕ} {places : List Place} → n ≤ m → HoldFrom t n m → From t m places → From t n places
  earlier_from {n} {m} {places} l h f = record {
    places_is = f.places_is;
    after = λ q i. omega (arith, f.after q i);
    violated = f.violated;
    all = λ a p i from broken. ⊎_elim
        (λ (b : rank a p < m). absurd (broken (h a p i from b)))
        (λ (b : m ≤ rank a p). f.all a p i b broken)
        (lt_or_ge (rank a p) m);
    in_order = f.in_order;
    none = λ e a p i from below. ⊎_elim
        (λ (b : rank a p < m). h a p i from b)
        (λ (b : m ≤ rank a p). f.none e a p i b below)
        (lt_or_ge (rank a p) m);
  }

  -- A violated place, and those right after it on.
  one_more : {a p : ℕ} {places : List Place} → IsPlace t a p → (PlaceHolds t a p → ⊥) → From t (rank a p + 1) places → From t (rank a p) (place_at a p ∷ places)
  one_more {a} {p} {places} i broken f = record {
    places_is = λ q. ⊎_elim (λ (e : q ≡ place_at a p). subst (λ (z : Place). IsPlace t z.leg z.place) (sym e) i) (f.places_is q);
    after = λ q. ⊎_elim
        (λ (e : q ≡ place_at a p). subst (λ (z : Place). rank a p ≤ rank z.leg z.place) (sym e) (omega arith))
        (λ (k : In q places). omega (arith, f.after q k));
    violated = λ q. ⊎_elim (λ (e : q ≡ place_at a p). subst (λ (z : Place). PlaceHolds t z.leg z.place → ⊥) (sym e) broken) (f.violated q);
    all = λ b s j from bad. ⊎_elim
        (λ (h : rank b s < rank a p + 1).
        let same = rank_one t b s a p (inl j) (inl i) (omega arith) in
        let e = same.0 in
        let g = same.1 in
        inl cc)
        (λ (h : rank a p + 1 ≤ rank b s). inr (f.all b s j h bad))
        (lt_or_ge (rank b s) (rank a p + 1));
    in_order = (λ r k. (order_by_leg t a p r.leg r.place (inl i) (inl (f.places_is r k))).0 (omega (arith, f.after r k)), f.in_order);
    none = λ e. absurd (not_empty e);
  }

  told_from : (c : Cursor) (answers : List SliceAnswer) → Surveys t c answers → From t (cursor_rank c) (noted answers)
  told_from c [] s = absurd s
  told_from c (answer.Violated d n r ∷ rest) s =
      let v = s.0.answers.1 in
      let e = s.1.0 in
      let further = subst (λ m. From t m (noted rest)) s.1.1.next (told_from e rest s.1.2) in
      earlier_from (omega (arith, v.went.steps)) v.went.held (one_more v.place v.broken further)
  told_from c (answer.NothingViolated d n ∷ []) s =
      let v = s.0.answers.1 in
      none_from (subst (HoldFrom t (cursor_rank c)) (end_rank v.end) v.went.held)
  told_from c (answer.NothingViolated d n ∷ (r ∷ rest)) s = absurd (not_empty s.1)
  told_from c (answer.Paused d n ∷ rest) s =
      let v = s.0.answers.1 in
      earlier_from (omega (arith, v.went.steps)) v.went.held (told_from d rest s.1)
  told_from c (answer.Refused e d ∷ rest) s = absurd s

  whole : {places : List Place} → From t 0 places → AllViolated t places
  whole f = record { places_is = f.places_is; violated = f.violated; all = λ a p i. f.all a p i (omega arith); in_order = f.in_order }

from_start : (t : List ℕ) (c : Cursor) (answers : List SliceAnswer) → Starts t (Ok c) → Surveys t c answers → From t 0 (noted answers)
from_start t c answers s v = subst (λ m. From t m (noted answers)) (start_rank s) (told_from t c answers v)

pub surveys_tell_all : SurveysTellAll
surveys_tell_all t c answers s v = whole t (from_start t c answers s v)

-- Where the rules hold, a list of violated places is empty.
none_of : {t : List ℕ} (qs : List Place) → AllViolated t qs → RulesHold t → qs ≡ []
none_of [] f h = refl
none_of {t} (q ∷ qs) f h = absurd (broken_rules t q.leg q.place (f.places_is q (inl refl)) (f.violated q (inl refl)) h)

pub nothing_noted : NothingNoted
nothing_noted = record {
  holds = λ t c answers s v e. all_held t ((from_start t c answers s v).none e);
  nothing = λ t c answers s v h. none_of (noted answers) (surveys_tell_all t c answers s v) h;
}
