-- A link that is held all the time: at every instant the leg that fills it holds it, so whatever begins there meets it. Assumes nothing.
use Prim.Native.Nat.{ℕ, zero, suc, ◌+◌, ◌*◌, ◌/◌, ◌%◌, ◌≤◌, ◌<◌}
use mathlib.Core.Path.{◌≡◌, refl, ◌∙◌, sym, ap, subst}
use mathlib.Core.Logic.{inr}
use native.Mathlib.Nat.{mod-lt, div-add-mod'}
use native.Mathlib.Omega.{arith}
use Rattle.table.specs.Layout.{leg_count}
use Rattle.table.specs.Records.{link_at}
use Rattle.table.proofs.PartLaws.{link_of_part}
use Rattle.shape.specs.Links.{LinkInRange}
use Rattle.shape.specs.Streams.{max_periods_due}
use Rattle.shape.specs.Shape.{WellFormedTable}
use Rattle.shape.proofs.Rates.{gigabit}
use Rattle.shape.proofs.StreamLaws.{legs_none}
use Rattle.overlap.specs.Meeting.{NeverMeet}
use Rattle.overlap.proofs.Law.{shared_instant}
use Rattle.rules.specs.Times.{slot_of}
use Rattle.rules.specs.Rules.{RulesHold}
use Rattle.offsets.specs.Conditions.{slot_from}
use Rattle.checker.specs.Accepted.{Accepted}
use Rattle.enlarge.specs.Enlarged.{legs_from}
use Rattle.enlarge.specs.Reads.{Grown}
use Rattle.admission.specs.Admits.{MayAdmit, SomeFits}
use Rattle.admission.specs.AtNumbers.{third, over_link0, empty_link, full_link, FullLinkAtNumbers}
use Rattle.admission.specs.Steps.{Ready, after_of, new_hold, Asks}
use Rattle.admission.proofs.OverLink.{InRange, HasLink, can_add, starts, holds, arrives}
use Rattle.admission.proofs.Asking.{same_slot}
use Rattle.admission.proofs.NewLegs as new
use Rattle.admission.proofs.Fitting.{legs_fit, fits_by_legs}

link_0 : link_at empty_link 0 ≡ record { from = 1; to = 2; rate = 8; propagation = 500 }
link_0 = sym (link_of_part empty_link 0)

empty_shape : WellFormedTable empty_link
empty_shape = record {
  sized = record {
    head = omega arith;
    limits = record { links = omega arith; streams = omega arith; legs = omega arith; precision = omega arith };
    exact = refl;
  };
  links = links;
  new_links = λ i h j l e. absurd (omega arith);
  streams = λ i h. absurd (omega arith);
  counts = legs_none empty_link;
  legs = λ a h. absurd (omega arith);
}
  where
    links : (i : ℕ) → i < 1 → LinkInRange (link_at empty_link i)
    links zero h =
        subst LinkInRange (sym link_0)
        (record { from_node = omega arith; to_node = omega arith; different = λ e. omega (arith, e); rate = gigabit; propagation = omega arith })
    links (suc i) h = absurd (omega arith)

empty_rules : RulesHold empty_link
empty_rules = record {
  window = λ a h. absurd (omega arith);
  hop = λ a h. absurd (omega arith);
  deadline = λ a h. absurd (omega arith);
  overlap = λ a b h k e. absurd (omega arith);
}

empty_link_lem : HasLink empty_link
empty_link_lem = record { shape = empty_shape; link = link_0; some = omega arith; few = omega arith }

-- The first stream is admitted at 0.
range_672 : InRange 672 1076
range_672 = (omega arith, omega arith, omega arith, omega arith)

empty_ready : Ready empty_link (third 672 1076) over_link0
empty_ready = record { shape = empty_shape; can_add = can_add empty_link empty_link_lem 672 1076 range_672; rules = empty_rules }

after_0 : after_of empty_link (third 672 1076) over_link0 0 ≡ 0
after_0 = starts empty_link empty_link_lem 672 1076 range_672

hold_0 : new_hold empty_link (third 672 1076) over_link0 0 ≡ 672
hold_0 = holds empty_link empty_link_lem 672 1076 range_672

accepted : Accepted full_link
accepted = legs_fit empty_link (third 672 1076) over_link0 empty_ready 0 (record { soon = soon; in_time = omega (arith, arrives empty_link empty_link_lem 672 1076 range_672); asked = asked })
  where
    soon : (j : ℕ) → j < 1 → 0 + after_of empty_link (third 672 1076) over_link0 j < max_periods_due * 672
    soon zero h = omega (arith, after_0)
    soon (suc j) h = absurd (omega arith)

    window : (j : ℕ) → j < 1 → (0 + after_of empty_link (third 672 1076) over_link0 j) % 672 + new_hold empty_link (third 672 1076) over_link0 j ≤ 672
    window zero h = omega (arith, ap (λ (n : ℕ). (0 + n) % 672) after_0, hold_0)
    window (suc j) h = absurd (omega arith)

    asked : (a : ℕ) → a < 1 → Asks empty_link (third 672 1076) over_link0 a 0
    asked a h = record { beside = λ l j k link. absurd (omega arith); window = λ j k is. window j k }

-- The leg that fills the link.
filling : slot_of full_link 0 ≡ record { offset = 0; period = 672; hold = 672 }
filling =
    new.new_slot empty_link (third 672 1076) over_link0 0 empty_shape.sized 0 (omega arith)
    ∙ same_slot _ _ (ap (λ (n : ℕ). (0 + n) % 672) after_0) refl hold_0

full_link_0 : link_at full_link 0 ≡ record { from = 1; to = 2; rate = 8; propagation = 500 }
full_link_0 = (new.reads empty_link (third 672 1076) over_link0 0 empty_shape.sized).link 0 ∙ link_0

module _ (p d : ℕ) (range : InRange p d) where
  read : Grown empty_link (third 672 1076) 1 (legs_from empty_link (third 672 1076) 0 over_link0) full_link
  read = new.reads empty_link (third 672 1076) over_link0 0 empty_shape.sized

  has_link : HasLink full_link
  has_link = record {
    shape = accepted.shape;
    link = full_link_0;
    some = omega (arith, read.link_count_is);
    few = omega (arith, read.stream_count_is, read.leg_count_is);
  }

  full_ready : Ready full_link (third p d) over_link0
  full_ready = record { shape = accepted.shape; can_add = can_add full_link has_link p d range; rules = accepted.rules }

  full_hold : new_hold full_link (third p d) over_link0 0 ≡ 672
  full_hold = holds full_link has_link p d range

  -- The new leg's first repeat begins at y, and at y the other leg holds the link in its repeat y / 672.
  none : SomeFits full_link (third p d) over_link0 0 → ⊥
  none f =
      let y = (f.offset + after_of full_link (third p d) over_link0 0) % p in
      let new-one = slot_from (after_of full_link (third p d) over_link0 0) p (new_hold full_link (third p d) over_link0 0) f.offset in
      let rest = div-add-mod' y 672 in
      let below : y % 672 < 672 = mod-lt y (omega arith) in
      let legs : 0 < leg_count full_link = omega (arith, read.leg_count_is) in
      let clear = ((fits_by_legs full_link (third p d) over_link0 full_ready f.offset f.fits).asked 0 (omega arith)).beside legs 0 (omega arith)
      (sym (new.new_link empty_link (third 672 1076) over_link0 0 empty_shape.sized 0 (omega arith))) in
      shared_instant new-one (record { offset = 0; period = 672; hold = 672 }) 0 (y / 672) y
      (record { begun = omega arith; not_ended = omega (arith, full_hold) })
      (record { begun = omega arith; not_ended = omega arith })
      (subst (NeverMeet new-one) filling clear)

  may : MayAdmit full_link (third p d) over_link0 27
  may = record {
    shape = accepted.shape;
    rises = omega (arith, read.revision);
    can_add = can_add full_link has_link p d range;
    has_room = omega (arith, read.link_count_is, read.stream_count_is, read.leg_count_is);
    rules = accepted.rules;
  }

pub full_link_at_numbers : FullLinkAtNumbers
full_link_at_numbers = record {
  filled = record {
    may = record { shape = empty_shape; rises = omega arith; can_add = empty_ready.can_add; has_room = omega arith; rules = empty_rules };
    found = record { above = omega arith; below = omega arith; has = accepted; least = λ z f l p. omega arith };
    count = refl;
  };
  full = λ p d a b c e. inr (may p d (a, b, c, e), (refl, refl, none p d (a, b, c, e)));
}
