-- What stands in front is two numbers, and a number is read in one way: so there is one edition in front, and one thing after it. Where a number
-- that is not the mark stands in front, as in a copy without an edition, no edition does. Assumes nothing.
use Prim.Native.Nat.{ℕ, ◌+◌, ◌≤◌, ◌<◌}
use mathlib.Core.Path.{◌≡◌, refl, ◌∙◌, sym, ap}
use mathlib.Core.List.{List, [], ◌∷◌, ◌++◌}
use mathlib.Core.Logic.{inl, inr}
use lib.ListN.{length, drop, length-drop, length-append}
use native.Mathlib.Omega.{arith}
use Rattle.std.specs.Prelude.{None, ◌↔◌}
use Rattle.basics.specs.declared.Cause.{Cause}
use Rattle.numbers.specs.Number.{bytes_of, NoNumber}
use Rattle.numbers.specs.Series.{file_of}
use Rattle.numbers.specs.Calls.{NumberStands}
use Rattle.numbers.proofs.OneNumber.{same_word, number_bytes_at_most, word_not_refused}
use Rattle.numbers.proofs.Rows.{stands_after, file_cons, file_length}
use Rattle.table.specs.Layout.{current, first_layout, head_words}
use Rattle.table.specs.declared.Edition.{Edition}
use Rattle.seen.specs.Seen.{Kept, Known, PlanFile, Copy, Splits}
use Rattle.seen.specs.Editions.{mark, Under, KnownUnder, CopyUnder, OnlyUnder, OfEdition}
use Rattle.seen.proofs.Laws.{kept_number, kept_once}

-- What comes after a number that stands at a position.
number_after : (s : List ℕ) {at v next : ℕ} (h : NumberStands s at v next) → drop next s ≡ h.stands.rest
number_after s h = rw h.ends (stands_after h.stands)

-- A number ends within the bytes.
number_within : (s : List ℕ) {at v next : ℕ} → NumberStands s at v next → next ≤ length s
number_within s {at} {v} {next} h =
    let l = ap length h.stands.there ∙ length-append (bytes_of v) h.stands.rest in
    omega (arith, length-drop at s, (number_bytes_at_most v).0, h.ends)

-- Two readings of the number at a position are one.
number_once : (s : List ℕ) {at v next w end : ℕ} → NumberStands s at v next → NumberStands s at w end → (v ≡ w) × (next ≡ end)
number_once s {at} {v} {next} {w} {end} h k =
    let one = same_word s at v w h.word k.word h.stands k.stands in
    (one, h.ends ∙ ap (λ (x : ℕ). at + length (bytes_of x)) one ∙ sym k.ends)

-- The two numbers of what is kept under an edition.
mark_end : ℕ
mark_end = 0 + length (bytes_of mark)

module _ {s : List ℕ} {e : ℕ} {q : List ℕ} (u : Under s e q) where
  under_mark : NumberStands s 0 mark mark_end
  unfolding mark_end
  under_mark = record { word = omega arith; stands = record { rest = bytes_of e ++ q; there = u.whole }; ends = refl }

  under_edition : NumberStands s mark_end e (mark_end + length (bytes_of e))
  unfolding mark_end under_mark
  under_edition = record { word = u.word; stands = record { rest = q; there = stands_after under_mark.stands }; ends = refl }

-- Two numbers that stand in front, the first of them the mark.
two_numbers : (s : List ℕ) {at e next : ℕ} → NumberStands s 0 mark at → NumberStands s at e next → Under s e (drop next s)
two_numbers s {at} {e} {next} h k = record {
  word = k.word;
  whole = h.stands.there ∙ ap (λ (l : List ℕ). bytes_of mark ++ l) (sym (number_after s h) ∙ k.stands.there ∙ ap (λ (l : List ℕ). bytes_of e ++ l) (sym (number_after s k)));
}

-- The edition that was read is the one under which s is kept.
under_read : (s : List ℕ) {at d next e : ℕ} {q : List ℕ} → NumberStands s 0 mark at → NumberStands s at d next → Under s e q → (d ≡ e) × (drop next s ≡ q)
unfolding under_edition
under_read s {at} {d} {next} {e} {q} h k u =
    let m = number_once s h (under_mark u) in
    let k' = rw m.1 at k in
    let n = number_once s k' (under_edition u) in
    (n.0, rw n.1 (number_after s (under_edition u)))

-- s is kept under one edition, and one thing comes after it.
pub under_once : (s : List ℕ) {d e : ℕ} {r q : List ℕ} → Under s d r → Under s e q → (d ≡ e) × (r ≡ q)
under_once s u v =
    let a = under_read s (under_mark u) (under_edition u) u in
    let b = under_read s (under_mark u) (under_edition u) v in
    (b.0, sym a.1 ∙ b.1)

-- A plan file has as many bytes as its header has words, or more: each word has a byte or more.
words_bytes : (t : List ℕ) → length t ≤ length (file_of t)
words_bytes [] = omega arith
words_bytes (w ∷ ws) = omega (arith, words_bytes ws, ap length (file_cons w ws) ∙ length-append (bytes_of w) (file_of ws), (number_bytes_at_most w).0)

pub plan_bytes : {e : Edition} {p : List ℕ} → PlanFile e p → head_words ≤ length p
plan_bytes (t, f) = omega (arith, words_bytes t, f.complete.head, ap length f.bytes)

-- And fewer than the mark says.
plan_short : {p : List ℕ} → PlanFile first_layout p → length p < mark
plan_short (t, f) =
    let z = f.complete in
    omega (arith, file_length t, z.exact, z.limits.links, z.limits.streams, z.limits.legs, ap length f.bytes)

-- What begins with a smaller number than the mark is kept under no edition.
pub no_small_mark : (s : List ℕ) {n next e : ℕ} {q : List ℕ} → NumberStands s 0 n next → n < mark → Under s e q → ⊥
no_small_mark s h small u = omega (arith, (number_once s h (under_mark u)).0)

-- A copy with nothing in front of it is kept under no edition.
pub copy_not_under : (s : List ℕ) {e : ℕ} {q : List ℕ} → Copy first_layout s → Under s e q → ⊥
copy_not_under s c = no_small_mark s (kept_number c.kept) (plan_short c.plan)

-- The two numbers in front, as they were read.
module _ (s : List ℕ) where
  pub no_mark : {k : Cause} → NoNumber s 0 k → (e : ℕ) (q : List ℕ) → Under s e q → ⊥
  no_mark {k} none e q u = word_not_refused s 0 mark k (omega arith) (under_mark u).stands none

  pub other_mark : {v at : ℕ} → NumberStands s 0 v at → (v ≡ mark → ⊥) → (e : ℕ) (q : List ℕ) → Under s e q → ⊥
  other_mark first n e q u = n (number_once s first (under_mark u)).0

  module _ {v at : ℕ} (first : NumberStands s 0 v at) (m : v ≡ mark) where
    mark_is : NumberStands s 0 mark at
    mark_is = rw m at first

    pub no_edition : {k : Cause} → NoNumber s at k → (e : ℕ) (q : List ℕ) → Under s e q → ⊥
    no_edition {k} none e q u =
        let end : at ≡ mark_end = (number_once s mark_is (under_mark u)).1 in
        word_not_refused s mark_end e k u.word (under_edition u).stands (rw end at none)

    pub front_within : {e next : ℕ} → NumberStands s at e next → next ≤ length s
    front_within second = number_within s second

    pub front_read : {e next : ℕ} → NumberStands s at e next → Under s e (drop next s)
    front_read second = two_numbers s mark_is second

-- s is kept under one edition and no other.
pub named_other : (s : List ℕ) {d e : ℕ} {r : List ℕ} → Under s d r → (d ≡ e → ⊥) → (q : List ℕ) → Under s e q → ⊥
named_other s u n q v = n (under_once s u v).0

-- What comes after the edition tells.
module _ (s : List ℕ) {e : ℕ} {r : List ℕ} (u : Under s e r) where
  pub rest_known : {p : List ℕ} {R : Type 0} → R ↔ Known r p → R ↔ KnownUnder s e p
  rest_known told = (
    λ t. record { rest = r; under = u; known = told.0 t },
    λ k. let same = (under_once s k.under u).1 in told.1 (rw same at k.known),
  )

  pub rest_copied : {R : Type 0} → R ↔ Copy current r → R ↔ CopyUnder s e
  rest_copied told = (
    λ t. record { rest = r; under = u; copy = told.0 t },
    λ k. let same = (under_once s k.under u).1 in told.1 (rw same at k.copy),
  )

  kept_after_front : {q o t : List ℕ} → Under s e t → Kept t q o → Kept r q o
  kept_after_front v k = let same = (under_once s v u).1 in rw same at k

  pub named_nothing : Splits r None → (d : ℕ) → OfEdition s d → ⊥
  named_nothing none d (inl n) = let same = (under_once s n.under u).1 in none n.first n.other (rw same at n.kept)
  named_nothing none d (inr c) = copy_not_under s c.1 u

  pub none_only : Splits r None → (q : List ℕ) → OnlyUnder s e q → ⊥
  none_only none q k = none q [] (kept_after_front k.under k.kept)

-- The plan that was kept alone is all that follows, and where another one follows it none was.
module _ {s : List ℕ} {e : ℕ} {r p o : List ℕ} (u : Under s e r) (kept : Kept r p o) where
  pub only_other : (o ≡ [] → ⊥) → (q : List ℕ) → OnlyUnder s e q → ⊥
  only_other more q k = more (sym (kept_once r p o q [] kept (kept_after_front s u k.under k.kept)).1)

  pub only_first : o ≡ [] → OnlyUnder s e p
  only_first none = record { rest = r; under = u; kept = rw (sym none) kept }
