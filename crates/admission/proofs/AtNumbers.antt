-- Admissions at numbers: where two slots share an instant the offset does not fit, and where they do not, by the divisor, it fits. Assumes nothing.
use Prim.Native.Nat.{ℕ, zero, suc, ◌+◌, ◌*◌, ◌%◌, ◌≤◌, ◌<◌}
use mathlib.Core.Path.{◌≡◌, refl, ◌∙◌, sym, ap, subst}
use mathlib.Core.List.{List}
use mathlib.Core.Logic.{inl, inr, ⊎_elim}
use lib.ListN.{get_or}
use native.Mathlib.Nat.{dvd-sub, mod-eq_of_lt}
use native.Mathlib.Omega.{arith}
use Rattle.basics.proofs.Splits.{lt_or_ge}
use Rattle.table.specs.Records.{link_at, stream_at, leg_at}
use Rattle.table.specs.declared.Link.{Link}
use Rattle.table.specs.declared.Stream.{Stream}
use Rattle.table.specs.declared.Leg.{Leg}
use Rattle.table.specs.PlanA.{PlanReadsSo, plan_with, revised_a, plan_a, hold_a}
use Rattle.table.proofs.PartLaws.{plans_read_so}
use Rattle.shape.specs.Shape.{WellFormedTable}
use Rattle.shape.specs.Legs.{link_of, stream_of}
use Rattle.shape.proofs.AtNumbers.{plan_a_is_well_formed, plans_are_well_formed, like_a_in_range}
use Rattle.overlap.specs.Meeting.{NeverMeet}
use Rattle.overlap.specs.Divisor.{IsGcd}
use Rattle.overlap.specs.Theorems.{in100000, in150000}
use Rattle.overlap.specs.declared.Slot.{Slot}
use Rattle.overlap.proofs.Law.{divisor_law, meeting_is_symmetric, shared_instant}
use Rattle.overlap.proofs.AtNumbers.{overlap_at_numbers}
use Rattle.rules.specs.Times.{hold_time, slot_of}
use Rattle.rules.specs.Rules.{Overlap, RulesHold}
use Rattle.rules.proofs.Said.{overlap_says}
use Rattle.rules.proofs.AtNumbers.{accepted_plan_exists, gap_cases}
use Rattle.offsets.specs.Conditions.{slot_from}
use Rattle.enlarge.specs.Enlarged.{enlarged}
use Rattle.admission.specs.Admits.{CanAdd, MayAdmit, Fits, SomeFits, AdmittedAt}
use Rattle.admission.specs.AtNumbers.{accepted_a, third, over_link0, short_frame, AdmissionsAtNumbers}
use Rattle.enlarge.proofs.Ranges.{wanted_in_range}
use Rattle.admission.specs.Steps.{Ready, after_of, new_hold, Asks}
use Rattle.admission.proofs.OverLink.{InRange, HasLink, can_add, starts, holds, arrives}
use Rattle.admission.proofs.Asking.{same_slot}
use Rattle.admission.proofs.Fitting.{new_beside, legs_fit, fits_by_legs}

-- Plan A with leg 2 at an offset: the slots and the link of its legs 0 and 2.
abbrev plan : ℕ → List ℕ
plan o = plan_with (revised_a 0 0 1176 o)

held : hold_time 64 8 ≡ 672
held = gap_cases.held.0

module _ (o : ℕ) where
  reads : PlanReadsSo (revised_a 0 0 1176 o)
  reads = plans_read_so (revised_a 0 0 1176 o)

  -- The slot of a leg of 64 octets over link 0.
  slot : (a offset period : ℕ) (l : Leg) (s : Stream) → leg_at (plan o) a ≡ l → stream_at (plan o) l.stream ≡ s → l.link ≡ 0 → s.octets ≡ 64 → l.offset ≡ offset → s.period ≡ period
      → slot_of (plan o) a ≡ record { offset = offset; period = period; hold = 672 }
  slot a offset period l s leg stream link octets at repeats =
      let its : stream_of (plan o) a ≡ s = ap (λ (z : Leg). stream_at (plan o) z.stream) leg ∙ stream in
      let on : link_of (plan o) a ≡ link_at (plan o) 0 = ap (λ (z : Leg). link_at (plan o) z.link) leg ∙ ap (link_at (plan o)) link in
      same_slot (slot_of (plan o) a) (record { offset = offset; period = period; hold = 672 })
      (ap (λ (z : Leg). z.offset) leg ∙ at)
      (ap (λ (z : Stream). z.period) its ∙ repeats)
      (ap (λ (z : Stream). hold_time z.octets (link_of (plan o) a).rate) its
      ∙ ap (λ (n : ℕ). hold_time n (link_of (plan o) a).rate) octets
      ∙ ap (λ (z : Link). hold_time 64 z.rate) (on ∙ reads.link_0)
      ∙ held)

  slot_0 : slot_of (plan o) 0 ≡ in100000 0 672
  slot_0 = slot 0 0 100000 _ _ reads.leg_0 reads.stream_0 refl refl refl refl

  slot_2 : slot_of (plan o) 2 ≡ in150000 o 672
  slot_2 = slot 2 o 150000 _ _ reads.leg_2 reads.stream_1 refl refl refl refl

  link_0 : (leg_at (plan o) 0).link ≡ 0
  link_0 = ap (λ (l : Leg). l.link) reads.leg_0

  link_1 : (leg_at (plan o) 1).link ≡ 1
  link_1 = ap (λ (l : Leg). l.link) reads.leg_1

  link_2 : (leg_at (plan o) 2).link ≡ 0
  link_2 = ap (λ (l : Leg). l.link) reads.leg_2

  has_link : HasLink (plan o)
  has_link = record { shape = plan_a_is_well_formed 0 1176 o; link = reads.link_0; some = omega arith; few = omega arith }

-- Plan A itself is not accepted: at instant 0 both legs hold link 0.
not_accepted_lem : RulesHold plan_a → ⊥
not_accepted_lem r =
    shared_instant (in150000 0 672) (in100000 0 672) 0 0 0 (record { begun = omega arith; not_ended = omega arith }) (record { begun = omega arith; not_ended = omega arith })
    (subst (λ (z : Slot). NeverMeet z (in100000 0 672)) (slot_2 0)
    (subst (NeverMeet (slot_of plan_a 2)) (slot_0 0) ((overlap_says plan_a 2 0).0 (r.overlap 2 0 (omega arith) (omega arith) (λ e. omega (arith, e))) (link_2 0 ∙ sym (link_0 0)))))

module _ (p d : ℕ) (range : InRange p d) where
  ready : Ready accepted_a (third p d) over_link0
  ready = record {
    shape = accepted_plan_exists.shape;
    can_add = can_add accepted_a (has_link hold_a) p d range;
    rules = accepted_plan_exists.rules;
  }

  may : MayAdmit accepted_a (third p d) over_link0 44
  may = record { shape = ready.shape; rises = omega arith; can_add = ready.can_add; has_room = omega arith; rules = ready.rules }

  new_slot : (x : ℕ) → x < p → slot_from (after_of accepted_a (third p d) over_link0 0) p (new_hold accepted_a (third p d) over_link0 0) x ≡ record { offset = x; period = p; hold = 672 }
  new_slot x h =
      let s = starts accepted_a (has_link hold_a) p d range in
      let k = holds accepted_a (has_link hold_a) p d range in
      let o : (x + after_of accepted_a (third p d) over_link0 0) % p ≡ x = ap (λ (n : ℕ). n % p) (let e : x + after_of accepted_a (third p d) over_link0 0 ≡ x = omega arith in e) ∙ mod-eq_of_lt h in
      same_slot _ _ o refl k

  -- What fits never meets legs 0 and 2.
  never : (x a : ℕ) (s : Slot) → x < p → a < 3 → slot_of accepted_a a ≡ s → (leg_at accepted_a a).link ≡ 0 → Fits accepted_a (third p d) over_link0 x → NeverMeet (record { offset = x; period = p; hold = 672 }) s
  never x a s h l is link f =
      subst (λ (z : Slot). NeverMeet z s) (new_slot x h)
      (subst (NeverMeet _) is (((fits_by_legs accepted_a (third p d) over_link0 ready x f).asked a (omega arith)).beside l 0 (omega arith) (sym link)))

  -- At no offset does it end within a period of less than 672 ns.
  none_ends : p < 672 → SomeFits accepted_a (third p d) over_link0 0 → ⊥
  none_ends short f =
      omega (
        arith,
        ((fits_by_legs accepted_a (third p d) over_link0 ready f.offset f.fits).asked 3 (omega arith)).window 0 (omega arith) refl,
        holds accepted_a (has_link hold_a) p d range,
      )

  -- At no offset does it keep a deadline of less than 1,176 ns.
  none_in_time : d < 1176 → SomeFits accepted_a (third p d) over_link0 0 → ⊥
  none_in_time late f = omega (arith, (fits_by_legs accepted_a (third p d) over_link0 ready f.offset f.fits).in_time, arrives accepted_a (has_link hold_a) p d range)

-- Shares an instant with a slot: below 672 with leg 0, from there on and below 1,344 with leg 2.
module _ (d : ℕ) (range : InRange 100000 d) where
  sooner : (x : ℕ) → x < 1344 → Fits accepted_a (third 100000 d) over_link0 x → ⊥
  sooner x h f =
      ⊎_elim
      (λ (l : x < 672).
      shared_instant (in100000 x 672) (in100000 0 672) 0 0 x (record { begun = omega arith; not_ended = omega arith }) (record { begun = omega arith; not_ended = omega arith })
      (never 100000 d range x 0 (in100000 0 672) (omega arith) (omega arith) (slot_0 hold_a) (link_0 hold_a) f))
      (λ (l : 672 ≤ x).
      shared_instant (in100000 x 672) (in150000 672 672) 0 0 x (record { begun = omega arith; not_ended = omega arith }) (record { begun = omega arith; not_ended = omega arith })
      (never 100000 d range x 2 (in150000 672 672) (omega arith) (omega arith) (slot_2 hold_a) (link_2 hold_a) f))
      (lt_or_ge x 672)

  -- At 1,344 it is clear of both.
  hundred : IsGcd 100000 100000 100000
  hundred = record { left = ∣ (1, refl) ∣₁; right = ∣ (1, refl) ∣₁; greatest = λ e p q. p }

  fifty : IsGcd 100000 150000 50000
  fifty = record { left = ∣ (2, refl) ∣₁; right = ∣ (3, refl) ∣₁; greatest = λ e p q. dvd-sub e q p }

  clear_of_0 : NeverMeet (in100000 1344 672) (in100000 0 672)
  clear_of_0 =
      (divisor_law (in100000 1344 672) (in100000 0 672) 100000 98656 (omega arith) (omega arith) (omega arith) (omega arith) hundred
      (record { below = omega arith; same = refl })
      ).1 (record { first = omega arith; second = omega arith })

  clear_of_2 : NeverMeet (in100000 1344 672) (in150000 672 672)
  clear_of_2 =
      (divisor_law (in100000 1344 672) (in150000 672 672) 50000 49328 (omega arith) (omega arith) (omega arith) (omega arith) fifty
      (record { below = omega arith; same = refl })
      ).1 (record { first = omega arith; second = omega arith })

  beside : (a : ℕ) (s : Slot) → slot_of accepted_a a ≡ s → NeverMeet (in100000 1344 672) s → (j : ℕ) → j < 1
      → NeverMeet (slot_from (after_of accepted_a (third 100000 d) over_link0 j) 100000 (new_hold accepted_a (third 100000 d) over_link0 j) 1344) (slot_of accepted_a a)
  beside a s is clear zero h =
      subst (λ (z : Slot). NeverMeet z (slot_of accepted_a a)) (sym (new_slot 100000 d range 1344 (omega arith))) (subst (NeverMeet (in100000 1344 672)) (sym is) clear)
  beside a s is clear (suc j) h = absurd (omega arith)

  asked : (a : ℕ) → a < 4 → Asks accepted_a (third 100000 d) over_link0 a 1344
  asked zero h = record { beside = λ l j k link. beside 0 _ (slot_0 hold_a) clear_of_0 j k; window = λ j k is. absurd (omega arith) }
  asked (suc zero) h = record { beside = λ l j k link. absurd (other j k link); window = λ j k is. absurd (omega arith) }
    where
      other : (j : ℕ) → j < 1 → get_or over_link0 j 0 ≡ (leg_at accepted_a 1).link → ⊥
      other zero k link = omega (arith, link, link_1 hold_a)
      other (suc j) k link = omega arith
  asked (suc (suc zero)) h = record { beside = λ l j k link. beside 2 _ (slot_2 hold_a) clear_of_2 j k; window = λ j k is. absurd (omega arith) }
  asked (suc (suc (suc zero))) h = record { beside = λ l j k link. absurd (omega arith); window = window }
    where
      window : (j : ℕ) → j < 1 → 3 ≡ 3 + j → (1344 + after_of accepted_a (third 100000 d) over_link0 j) % 100000 + new_hold accepted_a (third 100000 d) over_link0 j ≤ 100000
      window zero k is = omega (arith, ap (λ (s : Slot). s.offset) (new_slot 100000 d range 1344 (omega arith)), holds accepted_a (has_link hold_a) 100000 d range)
      window (suc j) k is = absurd (omega arith)
  asked (suc (suc (suc (suc a)))) h = absurd (omega arith)

  soon : (j : ℕ) → j < 1 → 1344 + after_of accepted_a (third 100000 d) over_link0 j < 8 * 100000
  soon zero h = omega (arith, starts accepted_a (has_link hold_a) 100000 d range)
  soon (suc j) h = absurd (omega arith)

  fits : 1176 ≤ d → Fits accepted_a (third 100000 d) over_link0 1344
  fits due = legs_fit accepted_a (third 100000 d) over_link0 (ready 100000 d range) 1344 (record { soon = soon; in_time = omega (arith, arrives accepted_a (has_link hold_a) 100000 d range); asked = asked })

  least : 1176 ≤ d → (from : ℕ) → from ≤ 1344 → AdmittedAt accepted_a (third 100000 d) over_link0 44 from 1344 44
  least due from h = record {
    may = may 100000 d range;
    found = record { above = h; below = omega arith; has = fits due; least = λ z f l p. sooner z l p };
    count = refl;
  }

  one_less : Overlap (enlarged accepted_a (third 100000 d) over_link0 1343) 3 2 → ⊥
  one_less r =
      shared_instant (in100000 1343 672) (in150000 672 672) 0 0 1343 (record { begun = omega arith; not_ended = omega arith }) (record { begun = omega arith; not_ended = omega arith })
      (subst (λ (z : Slot). NeverMeet z (in150000 672 672)) (new_slot 100000 d range 1343 (omega arith))
      (subst (NeverMeet _) (slot_2 hold_a) (new_beside accepted_a (third 100000 d) over_link0 (ready 100000 d range) 1343 0 2 (omega arith) (omega arith) r (sym (link_2 hold_a)))))

-- With a period of 100,001 it meets leg 0 wherever it begins.
never_fits : SomeFits accepted_a (third 100001 2000) over_link0 0 → ⊥
never_fits f =
    let range : InRange 100001 2000 = (omega arith, omega arith, omega arith, omega arith) in
    overlap_at_numbers.no_offsets (in100000 0 672) (record { offset = f.offset; period = 100001; hold = 672 }) refl refl (omega arith) (omega arith)
    (meeting_is_symmetric _ _ (never 100001 2000 range f.offset 0 (in100000 0 672) f.below (omega arith) (slot_0 hold_a) (link_0 hold_a) f.fits))

pub admissions_at_numbers : AdmissionsAtNumbers
admissions_at_numbers =
    let at2000 : InRange 100000 2000 = (omega arith, omega arith, omega arith, omega arith) in
    let at1176 : InRange 100000 1176 = (omega arith, omega arith, omega arith, omega arith) in
    let at1175 : InRange 100000 1175 = (omega arith, omega arith, omega arith, omega arith) in
    let at600 : InRange 600 2000 = (omega arith, omega arith, omega arith, omega arith) in
    let at100001 : InRange 100001 2000 = (omega arith, omega arith, omega arith, omega arith) in
    let short : (t : List ℕ) → WellFormedTable t → CanAdd t short_frame over_link0 → ⊥ = λ t s can. omega (arith, (wanted_in_range t short_frame over_link0 s.sized can).stream.octets_from) in
    record {
      least = least 2000 at2000 (omega arith) 0 (omega arith);
      accepted = fits 2000 at2000 (omega arith);
      one_less = one_less 2000 at2000;
      just_due = least 1176 at1176 (omega arith) 0 (omega arith);
      too_late_is = inr (may 100000 1175 at1175, (refl, refl, none_in_time 100000 1175 at1175 (omega arith)));
      too_short = inr (may 600 2000 at600, (refl, refl, none_ends 600 2000 at600 (omega arith)));
      none_fits = inr (may 100001 2000 at100001, (refl, refl, never_fits));
      none_yet = record { may = may 100000 2000 at2000; none = λ z f l p. sooner 2000 at2000 z l p; not_the_end = omega arith };
      piece = (least 2000 at2000 (omega arith) 1000 (omega arith), omega arith);
      eleven = inl (inr (plans_are_well_formed _ (like_a_in_range 4294967295 100000 2352 150000 0 1176 0 (omega arith, omega arith, omega arith, omega arith, omega arith)), inl (refl, refl, λ h. omega arith)));
      twenty = inl (inr (plan_a_is_well_formed 0 1176 0, inr (omega arith, inl (refl, refl, short plan_a (plan_a_is_well_formed 0 1176 0)))));
      fifteen = inl (inr (plan_a_is_well_formed 0 1176 0, inr (omega arith, inr (can_add plan_a (has_link 0) 100000 1175 at1175, inl (refl, refl, λ h. omega arith)))));
      nineteen = inl (inr (plan_a_is_well_formed 0 1176 0, inr (omega arith, inr (can_add plan_a (has_link 0) 100000 1175 at1175, inr (omega arith, (refl, refl, not_accepted_lem))))));
    }
