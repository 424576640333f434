-- The enlarged table at numbers, computed: what each link adds to a start is read of the plan's links. Assumes nothing.
use Prim.Native.Nat.{ℕ, ◌+◌}
use mathlib.Core.Path.{◌≡◌, refl, ◌∙◌, ap}
use native.Mathlib.Omega.{arith}
use Rattle.table.specs.Records.{link_at}
use Rattle.table.specs.declared.Link.{Link}
use Rattle.table.proofs.PartLaws.{plans_read_so}
use Rattle.rules.specs.Times.{wire_time}
use Rattle.rules.proofs.AtNumbers.{starred_cases}
use Rattle.enlarge.specs.Enlarged.{grown, legs_at_zero, sent_on, legs_from}
use Rattle.enlarge.specs.Reads.{start_at}
use Rattle.enlarge.specs.AtNumbers.{numbers_six, plan_six, wanted_new, EnlargedAtNumbers}
use Rattle.enlarge.proofs.NewLegs.{sent_on_is}

-- What a link adds to a start.
added : (x l wire propagation : ℕ) → wire_time 64 (link_at plan_six l).rate ≡ wire → (link_at plan_six l).propagation ≡ propagation → sent_on plan_six wanted_new x l ≡ x + wire + propagation + 100
added x l wire propagation a b = omega (arith, sent_on_is plan_six wanted_new x l)

over_0 : (x : ℕ) → sent_on plan_six wanted_new x 0 ≡ x + 1176
over_0 x =
    let l = (plans_read_so numbers_six).link_0 in
    added x 0 576 500 (ap (λ (k : Link). wire_time 64 k.rate) l ∙ starred_cases.case_1.0) (ap (λ (k : Link). k.propagation) l) ∙ omega arith

over_1 : (x : ℕ) → sent_on plan_six wanted_new x 1 ≡ x + 58400
over_1 x =
    let l = (plans_read_so numbers_six).link_1 in
    added x 1 57600 700 (ap (λ (k : Link). wire_time 64 k.rate) l ∙ starred_cases.case_2) (ap (λ (k : Link). k.propagation) l) ∙ omega arith

pub enlarged_at_numbers : EnlargedAtNumbers
unfolding grown legs_at_zero legs_from start_at
enlarged_at_numbers = record {
  carried = rw (over_0 3824);
  not_yet = rw (over_0 3823);
  arrives = rw (over_0 3824) (over_1 5000);
  whole_period = refl;
  past_period = refl;
  two_periods = refl;
  without_times_lem = refl;
}
