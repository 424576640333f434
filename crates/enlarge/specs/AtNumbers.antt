-- The enlarged table at numbers: a plan like Plan B, with links that differ, and a stream over both.
use Rattle.std.specs.Prelude.{◌≡◌, List, [], ◌∷◌, ℕ}
use Rattle.table.specs.PlanA.{PlanNumbers, plan_with}
use Rattle.enlarge.specs.Enlarged.{without_times, legs_from, enlarged}
use Rattle.enlarge.specs.Reads.{start_at}
use Rattle.enlarge.specs.declared.Wanted.{Wanted}

-- Plan B of revision 6 with its slow link at 10 Mb/s.
abbrev pub numbers_six : PlanNumbers
numbers_six = record {
  revision = 6;
  rate_1 = 800;
  propagation_1 = 700;
  period_0 = 100000;
  deadline_0 = 90000;
  period_1 = 150000;
  deadline_1 = 12840;
  octets_1 = 1522;
  offset_0 = 0;
  offset_1 = 1177;
  offset_2 = 672;
}

abbrev pub plan_six : List ℕ
plan_six = plan_with numbers_six

abbrev pub wanted_new : Wanted
wanted_new = record { period = 5000; deadline = 12345; octets = 64 }

pub record EnlargedAtNumbers : Type 0 where
  -- A frame of 64 octets is over link 0 in 576 + 500 + 100 ns. Sent at 3,824 it is sent on at 5,000, just when a period is over: the second leg lies one period late, at offset 0.
  pub carried : enlarged plan_six wanted_new (0 ∷ 1 ∷ []) 3824
      ≡ 7 ∷ 2 ∷ 3 ∷ 5 ∷ 100 ∷
      1 ∷ 2 ∷ 8 ∷ 500 ∷
      2 ∷ 3 ∷ 800 ∷ 700 ∷
      100000 ∷ 90000 ∷ 64 ∷ 0 ∷ 2 ∷
      150000 ∷ 12840 ∷ 1522 ∷ 2 ∷ 1 ∷
      5000 ∷ 12345 ∷ 64 ∷ 3 ∷ 2 ∷
      0 ∷ 0 ∷ 0 ∷ 0 ∷
      0 ∷ 1 ∷ 1177 ∷ 0 ∷
      1 ∷ 0 ∷ 672 ∷ 0 ∷
      2 ∷ 0 ∷ 3824 ∷ 0 ∷
      2 ∷ 1 ∷ 0 ∷ 1 ∷ []
  -- A nanosecond sooner it lies in the first period.
  pub not_yet : legs_from plan_six wanted_new 3823 (0 ∷ 1 ∷ []) ≡ 2 ∷ 0 ∷ 3823 ∷ 0 ∷ 2 ∷ 1 ∷ 4999 ∷ 0 ∷ []
  -- Over link 1 it is in 57,600 + 700 + 100 ns.
  pub arrives : start_at plan_six wanted_new 3824 (0 ∷ 1 ∷ []) 2 ≡ 63400
  -- A start of exactly T, and of T + 1.
  pub whole_period : legs_from plan_six wanted_new 5000 (1 ∷ []) ≡ 2 ∷ 1 ∷ 0 ∷ 1 ∷ []
  pub past_period : legs_from plan_six wanted_new 5001 (1 ∷ []) ≡ 2 ∷ 1 ∷ 1 ∷ 1 ∷ []
  -- Two whole periods and a rest are carried at once.
  pub two_periods : legs_from plan_six wanted_new 12345 (1 ∷ []) ≡ 2 ∷ 1 ∷ 2345 ∷ 2 ∷ []
  -- Before times are looked for.
  pub without_times_lem : without_times plan_six wanted_new (1 ∷ [])
      ≡ 7 ∷ 2 ∷ 3 ∷ 4 ∷ 100 ∷
      1 ∷ 2 ∷ 8 ∷ 500 ∷
      2 ∷ 3 ∷ 800 ∷ 700 ∷
      100000 ∷ 90000 ∷ 64 ∷ 0 ∷ 2 ∷
      150000 ∷ 12840 ∷ 1522 ∷ 2 ∷ 1 ∷
      5000 ∷ 12345 ∷ 64 ∷ 3 ∷ 1 ∷
      0 ∷ 0 ∷ 0 ∷ 0 ∷
      0 ∷ 1 ∷ 1177 ∷ 0 ∷
      1 ∷ 0 ∷ 672 ∷ 0 ∷
      2 ∷ 1 ∷ 0 ∷ 0 ∷ []
