-- A leg and its link as they are read, and its route so far: what they tell of the leg. Assumes nothing.
use Rattle.std.specs.Prelude.{ℕ, ◌+◌, ◌*◌, ◌≤◌, ◌<◌, ◌≡◌, List, length, Bool, true, false, IsTrue, ◌↔◌}
use mathlib.Core.Path.{◌∙◌, sym, ap}
use Rattle.table.specs.Layout.{link_words, link_count, leg_count, Sized}
use Rattle.table.specs.Records.{link_part, leg_part, link_in, leg_in, leg_at}
use Rattle.table.specs.declared.Link.{Link}
use Rattle.table.specs.declared.Leg.{Leg}
use Rattle.table.proofs.PartLaws.{link_inside, link_of_part, leg_of_part}
use Rattle.shape.specs.Legs.{link_of, LegInRange, LegRight}
use Rattle.shape.specs.Routes.{AtLeg, GoesOn}
use Rattle.shape.proofs.Tests.{refutes, is_false, is_true}
use Rattle.shape.proofs.LegLaws.{at_inside, own_stream, right_where, first_goes_on, told_by_route}

-- A leg's record lies in the part, and is the table's; so does the record of its link.
module _ {t legs : List ℕ} {a : ℕ} (z : Sized t) (inside : a < leg_count t) (of : legs ≡ leg_part t) where
  module _ {leg : Leg} (is : leg ≡ leg_in legs a) where
    leg_is : leg ≡ leg_at t a
    leg_is = is ∙ rw of (leg_of_part t a)

    module _ {links : List ℕ} (of-links : links ≡ link_part t) where
      pub link_lies : (leg_at t a).link < link_count t → link_words * leg.link + link_words ≤ length links
      link_lies h = rw (of-links, leg_is) (link_inside t z _ h)

      pub link_read : {link : Link} → link ≡ link_in links leg.link → link ≡ link_of t a
      link_read e = e ∙ rw (of-links, leg_is) (link_of_part t _)

module _ {t : List ℕ} {s first a : ℕ} (l : AtLeg t s first a) where
  -- As the leg is read: what its stream and its link tell.
  module _ {legs : List ℕ} (of : legs ≡ leg_part t) where
    module _ {leg : Leg} (is : leg ≡ leg_in legs a) where
      its_leg : leg ≡ leg_at t a
      its_leg = leg_is l.before.sized (at_inside l) of is

      pub other_stream : (leg.stream ≡ s → ⊥) → IsTrue false ↔ LegRight t a
      other_stream n = is_false (λ r. n (ap (λ (x : Leg). x.stream) its_leg ∙ own_stream l r))

      -- What was told of the leg by itself.
      module _ {told : Bool} (h : IsTrue told ↔ LegInRange (link_count t) leg) where
        pub out_of_range_is : told ≡ false → IsTrue false ↔ LegRight t a
        out_of_range_is e = is_false (λ r. refutes h e (let k = r.in_range in rw its_leg k))

        module _ (clear : told ≡ true) (own : leg.stream ≡ s) where
          own_leg : (leg_at t a).stream ≡ s
          own_leg = sym (ap (λ (x : Leg). x.stream) its_leg) ∙ own

          in_range : LegInRange (link_count t) (leg_at t a)
          in_range = let k = h.0 clear in rw its_leg at k

          pub right_at_first : a ≡ first → IsTrue true ↔ LegRight t a
          right_at_first e = is_true (right_where l own_leg in_range (first_goes_on l own_leg in_range.link e))

          module _ {links : List ℕ} (of-links : links ≡ link_part t) where
            pub told_by_link : {r : Bool} {link : Link} → link ≡ link_in links leg.link → (IsTrue r ↔ GoesOn t first a link) → IsTrue r ↔ LegRight t a
            told_by_link {link = link} e g =
                let read = link_read l.before.sized (at_inside l) of is of-links e in
                told_by_route l own_leg in_range (rw read at g)
