-- The numbers of a list, linked one after the other: a chain at the end, or none. Assumes nothing.
use mathlib.Core.Path.{◌≡◌, refl, sym, ap, subst, ◌∙◌}
use mathlib.Core.Bool.{Bool, true, false, cond}
use mathlib.Core.List.{List}
use mathlib.Core.Logic.{⊎_elim}
use Prim.Native.Nat.{ℕ, zero, suc, ◌+◌, ◌-◌, ◌<◌}
use native.Mathlib.Omega.{arith}
use native.Mathlib.Numerals.{add-one}
use lib.IntN.{ℤ, pos, ◌+ℤ◌}
use lib.Signed.{◌<ℤ◌, lt_z, lt_z_yes}
use lib.Dec.{T}
use lib.ListN.{length, set, replicate, length-set, length-replicate}
use Rattle.network.specs.Network.{total}
use Rattle.network.specs.Constraints.{network_of, numbers_of, constraint_count, NetworkInRange}
use Rattle.network.specs.Marks.{Put}
use Rattle.network.specs.Steps.{Reads}
use Rattle.network.specs.declared.Constraint.{Constraint}
use Rattle.network.proofs.Marks.{put, all, one_less, none_seen}
use Rattle.claims.specs.Claims.{IsChain}
use Rattle.claims.specs.Steps.{Linked, marked_in, marks_of}
use Rattle.basics.proofs.Splits.{lt_or_ge, eq_or_ne}
use Rattle.signed.proofs.Parts.{abs_add}

abbrev number : Bool → ℕ
number b = cond b 1 0

pub none_yet : (n : ℕ) (ws : List ℤ) (ks : List ℕ) (first : ℕ) → NetworkInRange n ws → first ≡ (network_of ws).from (numbers_of ks 0) → Linked n ws ks 0 first first (pos 0) (replicate 128 false)
unfolding total
none_yet n ws ks first f e =
    record {
      range = f;
      long = length-replicate {A = Bool} 128 false;
      count = omega (arith, none_seen (marks_of (replicate 128 false)) (marks_of (replicate 128 false)) n (λ v z. ap number (all 128 v false)));
      known = λ b z. absurd (omega arith);
      linked = λ b z. absurd (omega arith);
      begins = e;
      stands = λ b z. absurd (omega arith);
      starts = λ z. refl;
      once = λ b d h z. absurd (omega arith);
      marked = λ b z. absurd (omega arith);
      found = λ u y z. let e : marked_in (replicate 128 false) u ≡ false = all 128 u false in absurd (cc);
      sum = refl;
      small = omega arith;
    }

-- One number of the list, and the constraint that it names.
pub record Looking : Type 0 where
  pub n : ℕ
  pub ws : List ℤ
  pub ks : List ℕ
  pub a : ℕ
  pub at : ℕ
  pub first : ℕ
  pub s : ℤ
  pub seen : List Bool
  pub linked_so : Linked n ws ks a at first s seen
  pub inside : a < length ks
  pub r : Constraint
  pub known : numbers_of ks a < constraint_count ws
  pub reads : Reads (network_of ws) n (numbers_of ks a) r

module _ (l : Looking) where
  open l use {n, ws, ks, a, at, first, s, seen, linked_so, inside, r, known, reads}

  pub wrong_start : (r.from ≡ at → ⊥) → IsChain ws ks → ⊥
  wrong_start ne ch = at_case a refl
    where
      at_case : (b : ℕ) → b ≡ a → ⊥
      at_case zero q = ne (reads.from ∙ ap (λ (x : ℕ). (network_of ws).from (numbers_of ks x)) (sym q) ∙ sym linked_so.begins ∙ sym (linked_so.starts (sym q)))
      at_case (suc b) q =
          ne
          (reads.from
          ∙ ap (λ (x : ℕ). (network_of ws).from (numbers_of ks x)) (omega arith)
          ∙ sym (ch.linked b (omega arith))
          ∙ sym (linked_so.stands b (omega arith)))

  pub twice : marked_in seen r.from ≡ true → IsChain ws ks → ⊥
  twice y ch = let g : (b : ℕ) × (b < a) × ((network_of ws).from (numbers_of ks b) ≡ r.from) = linked_so.found r.from reads.from_in y in ch.once g.0 a g.1 inside (g.2 ∙ reads.from)

  pub one_more : (y : ℤ) → y ≡ s +ℤ r.most → r.from ≡ at → marked_in seen r.from ≡ false → Linked n ws ks (a + 1) r.to first y (set seen r.from true)
  unfolding total
  one_more y is here new =
      record {
        range = linked_so.range;
        long = simp length-set linked_so.long;
        count = omega (arith, linked_so.count, one_less (marks_of seen) (marks_of (set seen r.from true)) n r.from 0 reads.from_in (ap number new) (record { here = ap number mark.here; there = λ v ne. ap number (mark.there v ne) }));
        known = λ b z. ⊎_elim (λ q. linked_so.known b q) (λ q. let d : a ≡ b = omega arith in subst (λ x. numbers_of ks x < constraint_count ws) d known) (lt_or_ge b a);
        linked = λ b z.
            ⊎_elim
            (λ q. linked_so.linked b q)
            (λ q. let d : a ≡ b + 1 = omega arith in sym (linked_so.stands b (sym d)) ∙ sym here ∙ reads.from ∙ ap (λ (x : ℕ). (network_of ws).from (numbers_of ks x)) d)
            (lt_or_ge (b + 1) a);
        begins = linked_so.begins;
        stands = λ b z. let d : a ≡ b = omega arith in reads.to ∙ ap (λ (x : ℕ). (network_of ws).to (numbers_of ks x)) d;
        starts = λ z. absurd (omega arith);
        once = λ b d h k e.
            ⊎_elim
            (λ q. linked_so.once b d h q e)
            (λ q.
            let i : d ≡ a = omega arith
            in let m : marked_in seen r.from ≡ true = ap (marked_in seen) (reads.from ∙ ap (λ (x : ℕ). (network_of ws).from (numbers_of ks x)) (sym i) ∙ sym e) ∙ linked_so.marked b (omega arith)
            in absurd (cc))
            (lt_or_ge d a);
        marked = λ b z.
            ⊎_elim
            (λ q. still ((network_of ws).from (numbers_of ks b)) (linked_so.marked b q))
            (λ q. let d : b ≡ a = omega arith in ap (λ (x : ℕ). marked_in (set seen r.from true) ((network_of ws).from (numbers_of ks x))) d ∙ ap (marked_in (set seen r.from true)) (sym reads.from) ∙ mark.here)
            (lt_or_ge b a);
        found = λ u q z.
            ⊎_elim
            (λ d. (a, omega arith, sym reads.from ∙ sym d))
            (λ d.
            let o : (b : ℕ) × (b < a) × ((network_of ws).from (numbers_of ks b) ≡ u) = linked_so.found u q (sym (mark.there u d) ∙ z)
            in (o.0, omega (arith, o.1), o.2))
            (eq_or_ne u r.from);
        sum = rw (add-one a) (is ∙ rw (linked_so.sum, reads.most));
        small = rw is (omega (arith, abs_add s r.most, linked_so.small, reads.most_in));
      }
    where
      mark : Put (marked_in seen) r.from true (marked_in (set seen r.from true))
      mark = put seen r.from true false (omega (arith, linked_so.long, reads.from_in, linked_so.range.size.events))

      still : (u : ℕ) → marked_in seen u ≡ true → marked_in (set seen r.from true) u ≡ true
      still u h = ⊎_elim (λ d. ap (marked_in (set seen r.from true)) d ∙ mark.here) (λ d. mark.there u d ∙ h) (eq_or_ne u r.from)

yes : (b : Bool) → T b → b ≡ true
yes true t = refl
yes false t = absurd t

-- All numbers looked at.
module _ {n : ℕ} {ws : List ℤ} {ks : List ℕ} {a at first : ℕ} {s : ℤ} {seen : List Bool} (c : Linked n ws ks a at first s seen) (whole : a ≡ length ks) (some : 0 < a) where
  ends_at : at ≡ (network_of ws).to (numbers_of ks (a - 1))
  ends_at = c.stands (a - 1) (omega arith)

  -- They are a chain where they end at the event at which they begin, and their sum is below zero.
  pub closes : at ≡ first → lt_z s (pos 0) ≡ true → IsChain ws ks
  closes e below =
      record {
        some = omega arith;
        known = λ b h. c.known b (omega arith);
        linked = λ b h. c.linked b (omega arith);
        closed = λ b h. sym (c.stands b (omega arith)) ∙ e ∙ c.begins;
        once = λ b d h k. c.once b d h (omega arith);
        negative = subst (λ z. z <ℤ pos 0) (c.sum ∙ ap (total (network_of ws) (numbers_of ks)) whole) (lt_z_yes (rw below tt));
      }

  pub is_below : IsChain ws ks → lt_z s (pos 0) ≡ true
  is_below ch = yes (lt_z s (pos 0)) (subst (λ z. z <ℤ pos 0) (sym (c.sum ∙ ap (total (network_of ws) (numbers_of ks)) whole)) ch.negative).lt

  pub not_closed : (at ≡ first → ⊥) → IsChain ws ks → ⊥
  not_closed ne ch = ne (ends_at ∙ ch.closed (a - 1) (omega arith) ∙ sym c.begins)
