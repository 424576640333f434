-- The forms of copies at numbers: the numbers in front are computed, and what stands in front stands there in one way. Assumes nothing.
use Prim.Native.Nat.{ℕ, ◌<◌}
use mathlib.Core.Path.{◌≡◌, refl, ◌∙◌, sym, ap}
use mathlib.Core.List.{List, [], ◌∷◌, ◌++◌}
use mathlib.Core.Logic.{inl, inr, ⊎_elim}
use lib.ListN.{length, get_or}
use native.Mathlib.Nat.{mul-zero}
use native.Mathlib.Omega.{arith}
use Rattle.numbers.specs.Number.{bytes_of}
use Rattle.numbers.specs.Calls.{NumberStands}
use Rattle.numbers.proofs.Computed.{file_bytes, file_is, small_words, row_in_front}
use Rattle.numbers.proofs.Rows.{file_one}
use Rattle.table.specs.Layout.{current, first_layout, SizedIn}
use Rattle.table.specs.declared.Edition.{Edition}
use Rattle.files.proofs.OneAnswer.{file_no_fault}
use Rattle.seen.specs.Seen.{Kept, PlanFile, Copy}
use Rattle.seen.specs.Editions.{mark, Under, KnownUnder, CopyUnder, OnlyUnder, OfEdition}
use Rattle.seen.specs.Theorems.{empty_plan, kept_under_two, kept_under_none, leg_under_none, leg_of_today, two_plans, too_long, left_over, CopiesAtNumbers}
use Rattle.seen.proofs.Laws.{kept_once, cut_kept}
use Rattle.seen.proofs.Fronts.{under_once, no_small_mark, plan_bytes, copy_not_under}

number_is : (v : ℕ) → bytes_of v ≡ file_bytes (v ∷ [])
number_is v = sym (file_one v) ∙ file_is (v ∷ [])

-- A header alone is a table of any layout.
header_alone : (e : Edition) → SizedIn e (9 ∷ 0 ∷ 0 ∷ 0 ∷ 0 ∷ [])
header_alone e = record {
  head = omega arith;
  limits = record { links = omega arith; streams = omega arith; legs = omega arith; precision = omega arith };
  exact = rw (mul-zero e.link, mul-zero e.stream, mul-zero e.leg) refl;
}

plan : (e : Edition) → PlanFile e empty_plan
plan e = (
  9 ∷ 0 ∷ 0 ∷ 0 ∷ 0 ∷ [],
  record {
    complete = header_alone e;
    words = small_words (9 ∷ 0 ∷ 0 ∷ 0 ∷ 0 ∷ []) (omega arith);
    bytes = sym (file_is (9 ∷ 0 ∷ 0 ∷ 0 ∷ 0 ∷ []));
  },
)

one_plan : Kept kept_under_none empty_plan []
one_plan = record { size = omega arith; whole = rw (number_is 5) }

copy : (e : Edition) → Copy e kept_under_none
copy e = record { first = empty_plan; other = []; kept = one_plan; plan = plan e; rest = inl refl }

under_two : Under kept_under_two 2 kept_under_none
under_two = record { word = omega arith; whole = rw (number_is mark, number_is 2) }

under_300 : Under two_plans 300 (0x03 ∷ 0x0A ∷ 0x0B ∷ 0x0C ∷ 0x0D ∷ 0x0E ∷ [])
under_300 = record { word = omega arith; whole = rw (number_is mark, number_is 300) }

two_plans_lem : Kept (0x03 ∷ 0x0A ∷ 0x0B ∷ 0x0C ∷ 0x0D ∷ 0x0E ∷ []) (0x0A ∷ 0x0B ∷ 0x0C ∷ []) (0x0D ∷ 0x0E ∷ [])
two_plans_lem = record { size = omega arith; whole = rw (number_is 3) }

-- Three bytes are too few for a plan file.
no_plan_files : CopyUnder two_plans 300 → ⊥
no_plan_files c =
    let same = (under_once two_plans c.under under_300).1 in
    let first = (kept_once _ _ _ _ _ two_plans_lem (rw same at c.copy.kept)).0 in
    omega (arith, plan_bytes c.copy.plan, ap length first)

-- Six bytes are promised, and five are there.
six : NumberStands (0x06 ∷ empty_plan) 0 6 1
six = record { word = omega arith; stands = record { rest = empty_plan; there = rw (number_is 6) }; ends = rw (number_is 6) }

under_too_long : Under too_long 2 (0x06 ∷ empty_plan)
under_too_long = record { word = omega arith; whole = rw (number_is mark, number_is 2) }

too_long_lem : (e : ℕ) → OfEdition too_long e → ⊥
too_long_lem e (inl n) =
    let same = (under_once too_long n.under under_too_long).1 in
    cut_kept (0x06 ∷ empty_plan) six (inr (omega arith)) n.first n.other (rw same at n.kept)
too_long_lem e (inr c) = copy_not_under too_long c.1 under_too_long

-- What is known is one of the two parts.
another : KnownUnder kept_under_two 2 (0x08 ∷ 0x00 ∷ 0x00 ∷ 0x00 ∷ 0x00 ∷ []) → ⊥
another k =
    let same = (under_once kept_under_two k.under under_two).1 in
    let part = kept_once _ _ _ _ _ one_plan (rw same at k.known.kept) in
    ⊎_elim
    (λ e. let z : ◌≡◌ {A = ℕ} 9 8 = ap (λ (l : List ℕ). get_or l 0 0) (sym part.0 ∙ e) in omega (arith, z))
    (λ e. let z : ◌≡◌ {A = ℕ} 0 5 = ap length (sym part.1 ∙ e) in omega (arith, z))
    k.known.is

both : KnownUnder two_plans 300 (0x0A ∷ 0x0B ∷ 0x0C ∷ 0x0D ∷ 0x0E ∷ []) → ⊥
both k =
    let same = (under_once two_plans k.under under_300).1 in
    let part = kept_once _ _ _ _ _ two_plans_lem (rw same at k.known.kept) in
    ⊎_elim
    (λ e. let z : ◌≡◌ {A = ℕ} 3 5 = ap length (sym part.0 ∙ e) in omega (arith, z))
    (λ e. let z : ◌≡◌ {A = ℕ} 2 5 = ap length (sym part.1 ∙ e) in omega (arith, z))
    k.known.is

not_only : (p : List ℕ) → OnlyUnder two_plans 300 p → ⊥
not_only p k =
    let same = (under_once two_plans k.under under_300).1 in
    omega (arith, ap length (kept_once _ _ _ _ _ two_plans_lem (rw same at k.kept)).1)

-- What begins with a small number names no edition, so it has to be a copy; and the parts of a copy are plan files.
small_front : (s : List ℕ) {n next : ℕ} → NumberStands s 0 n next → n < mark → (e : ℕ) → (Copy first_layout s → ⊥) → OfEdition s e → ⊥
small_front s h small e none (inl n) = no_small_mark s h small n.under
small_front s h small e none (inr c) = none c.1

three : NumberStands (0x03 ∷ 0x0A ∷ 0x0B ∷ 0x0C ∷ []) 0 3 1
three = record { word = omega arith; stands = record { rest = 0x0A ∷ 0x0B ∷ 0x0C ∷ []; there = rw (number_is 3) }; ends = rw (number_is 3) }

three_kept : Kept (0x03 ∷ 0x0A ∷ 0x0B ∷ 0x0C ∷ []) (0x0A ∷ 0x0B ∷ 0x0C ∷ []) []
three_kept = record { size = omega arith; whole = rw (number_is 3) }

no_file : (e : ℕ) → OfEdition (0x03 ∷ 0x0A ∷ 0x0B ∷ 0x0C ∷ []) e → ⊥
no_file e = small_front _ three (omega arith) e (λ c. omega (arith, plan_bytes c.plan, ap length (kept_once _ _ _ _ _ three_kept c.kept).0))

five : NumberStands left_over 0 5 1
five = record { word = omega arith; stands = record { rest = 0x09 ∷ 0x00 ∷ 0x00 ∷ 0x00 ∷ 0x00 ∷ 0x00 ∷ []; there = rw (number_is 5) }; ends = rw (number_is 5) }

left_over_kept : Kept left_over empty_plan (0x00 ∷ [])
left_over_kept = record { size = omega arith; whole = rw (number_is 5) }

left_over_lem : (e : ℕ) → OfEdition left_over e → ⊥
left_over_lem e = small_front _ five (omega arith) e (λ c.
    let o = (kept_once _ _ _ _ _ left_over_kept c.kept).1 in
    ⊎_elim
    (λ z. omega (arith, ap length (sym o ∙ z)))
    (λ f. omega (arith, plan_bytes f, ap length o))
    c.rest)

-- One leg in the first layout, with nothing after it, and with a byte after it.
abbrev leg789 : List ℕ
leg789 = 0 ∷ 0 ∷ 0 ∷ 1 ∷ 0 ∷ 7 ∷ 8 ∷ 9 ∷ []

leg_sized : SizedIn first_layout leg789
leg_sized = record { head = omega arith; limits = record { links = omega arith; streams = omega arith; legs = omega arith; precision = omega arith }; exact = refl }

leg_kept : Kept leg_under_none leg789 []
leg_kept = record { size = omega arith; whole = rw (number_is 8) }

unnamed_leg : OfEdition leg_under_none 1
unnamed_leg = inr (
  refl,
  record {
    first = leg789;
    other = [];
    kept = leg_kept;
    plan = (leg789, record { complete = leg_sized; words = small_words leg789 (omega arith); bytes = sym (file_is leg789) });
    rest = inl refl;
  },
)

nine : NumberStands leg_of_today 0 9 1
nine = record { word = omega arith; stands = record { rest = leg789 ++ (0 ∷ []); there = rw (number_is 9) }; ends = rw (number_is 9) }

today_kept : Kept leg_of_today (leg789 ++ (0 ∷ [])) []
today_kept = record { size = omega arith; whole = rw (number_is 9) }

not_of_today : (e : ℕ) → OfEdition leg_of_today e → ⊥
not_of_today e = small_front _ nine (omega arith) e (λ c.
    let same = (kept_once _ _ _ _ _ today_kept c.kept).0 in
    let plan : PlanFile first_layout (leg789 ++ (0 ∷ [])) = rw same at c.plan in
    file_no_fault plan.1 (inr (inr (refl, record { ws = leg789; row = row_in_front leg789 (0 ∷ []) (omega arith); complete = leg_sized; left_over_lem = omega arith }))))

pub copies_at_numbers : CopiesAtNumbers
copies_at_numbers = record {
  copied = record { rest = kept_under_none; under = under_two; copy = copy current };
  not_three = λ c. omega (arith, (under_once kept_under_two under_two c.under).0);
  seen = record { rest = kept_under_none; under = under_two; known = record { first = empty_plan; other = []; kept = one_plan; is = inl refl } };
  not_seen_three = λ k. omega (arith, (under_once kept_under_two under_two k.under).0);
  another = another;
  both = both;
  only = record { rest = kept_under_none; under = under_two; kept = one_plan };
  not_only_three = λ p k. omega (arith, (under_once kept_under_two under_two k.under).0);
  not_only = not_only;
  named = inl (record { rest = kept_under_none; first = empty_plan; other = []; under = under_two; kept = one_plan });
  first = record { rest = _; under = under_300; known = record { first = _; other = _; kept = two_plans_lem; is = inl refl } };
  other = record { rest = _; under = under_300; known = record { first = _; other = _; kept = two_plans_lem; is = inr refl } };
  form_alone = inl (record { rest = _; first = _; other = _; under = under_300; kept = two_plans_lem });
  no_plan_files = no_plan_files;
  unnamed = inr (refl, copy first_layout);
  unnamed_leg = unnamed_leg;
  not_of_today = not_of_today;
  unknown = λ e p k. copy_not_under kept_under_none (copy first_layout) k.under;
  too_long_lem = too_long_lem;
  no_file = no_file;
  left_over_lem = left_over_lem;
}
