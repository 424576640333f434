-- The rules at numbers with Plan C, whose records compute from its words. Assumes nothing.
use Prim.Native.Nat.{ℕ, zero, suc, ◌+◌, ◌≤◌, ◌<◌}
use mathlib.Core.Path.{◌≡◌, refl, ap}
use mathlib.Core.List.{List}
use mathlib.Core.Logic.{inl, inr, ⊎_elim}
use native.Mathlib.Omega.{arith}
use Rattle.table.specs.PlanC.{PlanCNumbers, plan_c, deadlines_c, offsets_c}
use Rattle.table.specs.declared.Stream.{Stream}
use Rattle.shape.specs.Legs.{first_of, end_of}
use Rattle.shape.proofs.Reading.{stream_on, stream_on_is}
use Rattle.shape.proofs.PlanC.{plan_c_is_well_formed}
use Rattle.overlap.proofs.Law.{shared_instant}
use Rattle.rules.specs.Times.{start_time, wire_time, hold_time, lasting}
use Rattle.rules.specs.Rules.{Overlap}
use Rattle.rules.specs.Places.{asked_at}
use Rattle.rules.specs.CasesOfPlanC.{CasesOfPlanC, ReadsOfPlanC, CasesOfPlanCArePlans}
use Rattle.rules.proofs.Judging.{not_last_has_no_deadline, overlap_says_of}
use Rattle.rules.proofs.CasePlans.{slot_of}
use Rattle.rules.proofs.Computed.{Near, frame, hop, no_hop, in_time, late, apart}

module _ (n : PlanCNumbers) (small : n.deadline_1 + n.deadline_2 + n.offset_2 + n.offset_3 ≤ 20000) where
  near : (a : ℕ) → a < 6 → Near (plan_c n) a
  unfolding start_time wire_time hold_time lasting
  near zero h = record { repeats = omega arith; lasts = (omega arith, omega arith); small = omega arith }
  near (suc zero) h = record { repeats = omega arith; lasts = (omega arith, omega arith); small = omega arith }
  near (suc (suc zero)) h = record { repeats = omega arith; lasts = (omega arith, omega arith); small = omega arith }
  near (suc (suc (suc zero))) h = record { repeats = omega arith; lasts = (omega arith, omega arith); small = omega arith }
  near (suc (suc (suc (suc zero)))) h = record { repeats = omega arith; lasts = (omega arith, omega arith); small = omega arith }
  near (suc (suc (suc (suc (suc zero))))) h = record { repeats = omega arith; lasts = (omega arith, omega arith); small = omega arith }
  near (suc (suc (suc (suc (suc (suc a)))))) h = absurd (omega arith)

  meet_on_link_4 : Overlap (plan_c n) 5 4 → ⊥
  unfolding hold_time lasting
  meet_on_link_4 o =
      shared_instant
      _
      _
      0
      0
      1300
      (record { begun = omega arith; not_ended = omega arith })
      (record { begun = omega arith; not_ended = omega arith })
      ((overlap_says_of (plan_c n) 5 4 4 _ _ _ (frame (plan_c n) (omega arith) near 5 (omega arith)) (frame (plan_c n) (omega arith) near 4 (omega arith)).link refl
      (slot_of (plan_c n) 5 _ (frame (plan_c n) (omega arith) near 5 (omega arith))) (slot_of (plan_c n) 4 _ (frame (plan_c n) (omega arith) near 4 (omega arith)))).1
      o)

pub cases_of_plan_c : CasesOfPlanC
unfolding start_time wire_time lasting
cases_of_plan_c = record {
  hop_middle = (
    hop (plan_c (offsets_c 2014 3128)) (omega arith) (near (offsets_c 2014 3128) (omega arith)) 2 1 (omega arith) refl (omega arith),
    no_hop (plan_c (offsets_c 2013 3128)) (omega arith) (near (offsets_c 2013 3128) (omega arith)) 2 1 (omega arith) refl (omega arith) (omega arith),
  );
  hop_last = (
    hop (plan_c (offsets_c 2014 3128)) (omega arith) (near (offsets_c 2014 3128) (omega arith)) 3 2 (omega arith) refl (omega arith),
    no_hop (plan_c (offsets_c 2014 3127)) (omega arith) (near (offsets_c 2014 3127) (omega arith)) 3 2 (omega arith) refl (omega arith) (omega arith),
  );
  deadline_last = (
    in_time (plan_c (deadlines_c 11118 776)) (omega arith) (near (deadlines_c 11118 776) (omega arith)) 3 (omega arith) (omega arith) (omega arith),
    late (plan_c (deadlines_c 11117 776)) (omega arith) (near (deadlines_c 11117 776) (omega arith)) 3 (omega arith) (omega arith) refl (omega arith),
  );
  deadline_middle = not_last_has_no_deadline (plan_c (deadlines_c 1 776)) 2 _ (frame (plan_c (deadlines_c 1 776)) (omega arith) (near (deadlines_c 1 776) (omega arith)) 2 (omega arith)) (omega arith);
  deadline_only = (
    in_time (plan_c (deadlines_c 11118 776)) (omega arith) (near (deadlines_c 11118 776) (omega arith)) 4 (omega arith) (omega arith) (omega arith),
    late (plan_c (deadlines_c 11118 775)) (omega arith) (near (deadlines_c 11118 775) (omega arith)) 4 (omega arith) (omega arith) refl (omega arith),
  );
  other_way = apart (plan_c (offsets_c 2014 3128)) (omega arith) (near (offsets_c 2014 3128) (omega arith)) 1 0 (λ e. absurd (omega (arith, e)));
  same_from = apart (plan_c (offsets_c 2014 3128)) (omega arith) (near (offsets_c 2014 3128) (omega arith)) 2 0 (λ e. absurd (omega (arith, e)));
  same_to = apart (plan_c (offsets_c 2014 3128)) (omega arith) (near (offsets_c 2014 3128) (omega arith)) 4 1 (λ e. absurd (omega (arith, e)));
  same_link = meet_on_link_4 (offsets_c 2014 3128) (omega arith);
}

-- The first leg of the stream of a leg of Plan C, and the leg after its last.
abbrev c : List ℕ
c = plan_c (offsets_c 2014 3128)

first_is : (a : ℕ) → first_of c a ≡ (stream_on c a).first
first_is a = ap (λ (s : Stream). s.first) (stream_on_is c a)

end_is : (a : ℕ) → end_of c a ≡ (stream_on c a).first + (stream_on c a).count
end_is a = omega (arith, first_is a, ap (λ (s : Stream). s.count) (stream_on_is c a))

pub reads_of_plan_c : ReadsOfPlanC
unfolding asked_at
reads_of_plan_c = record {
  hop_first = λ b. ⊎_elim (λ e. e) (λ r. omega (arith, r.0, r.1, first_is 4));
  hop_last = (inr (omega (arith, first_is 3), omega arith), λ b. ⊎_elim (λ e. inl e) (λ r. inr (omega (arith, r.1))));
  deadline_last = (inr (omega (arith, end_is 3), omega (arith, first_is 3)), λ b. ⊎_elim (λ e. inl e) (λ r. inr (omega (arith, r.1, first_is 3))));
  deadline_middle = λ b. ⊎_elim (λ e. e) (λ r. omega (arith, r.0, end_is 2));
  window = λ b. ⊎_elim (λ e. e) (λ r. absurd r);
  overlap = (inr refl, λ b. ⊎_elim (λ e. inl e) (λ r. inr r));
}

pub cases_of_plan_c_are_plans : CasesOfPlanCArePlans
cases_of_plan_c_are_plans n from-1 to-1 from-2 to-2 = plan_c_is_well_formed n (from-1, to-1) (from-2, to-2)
