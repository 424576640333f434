-- A run of the calls for C at numbers, byte by byte: Plan A's file, its violated place found in two slices, then document 01's case 12.
use Rattle.std.specs.Prelude.{ℕ, zero, suc, ◌≡◌, List, [], ◌∷◌, ◌++◌}
use Rattle.table.specs.Records.{move_to}
use Rattle.files.specs.Theorems.{plan_a_file}
use Rattle.rules.specs.declared.Rule.TheVariants as rule
use Rattle.host.specs.Answers.{answered}
use Rattle.host.specs.Calls.{lent}
use Rattle.demands.specs.Verdicts.{violated, nothing_violated}
use Rattle.demands.specs.HostRuns.{HostCall, start, slice, move_leg, SliceMade, HostRun}
use Rattle.demands.specs.DemandThreeForC.{HostGives, HostSince, HostRenews, host_budgets, HostHasVerdict}

-- Plan A's file with revision 1 and leg 2 at 672, and how many bytes it has.
abbrev pub moved_file : List ℕ
moved_file =
    0x01 ∷ 0x02 ∷ 0x02 ∷ 0x03 ∷ 0x64 ∷
    0x01 ∷ 0x02 ∷ 0x08 ∷ 0xF4 ∷ 0x03 ∷
    0x02 ∷ 0x03 ∷ 0x08 ∷ 0xF4 ∷ 0x03 ∷
    0xA0 ∷ 0x8D ∷ 0x06 ∷ 0xB0 ∷ 0x12 ∷ 0x40 ∷ 0x00 ∷ 0x02 ∷
    0xF0 ∷ 0x93 ∷ 0x09 ∷ 0xD0 ∷ 0x0F ∷ 0x40 ∷ 0x02 ∷ 0x01 ∷
    0x00 ∷ 0x00 ∷ 0x00 ∷ 0x00 ∷
    0x00 ∷ 0x01 ∷ 0x98 ∷ 0x09 ∷ 0x00 ∷
    0x01 ∷ 0x00 ∷ 0xA0 ∷ 0x05 ∷ 0x00 ∷ []

abbrev pub moved_bytes : ℕ
moved_bytes = 45

-- A saved cursor of three bytes, and 15 lent bytes with it in front. All of them were 0 before the first call.
abbrev pub zeros : ℕ → List ℕ
zeros zero = []
zeros (suc n) = 0 ∷ zeros n

abbrev pub saved : ℕ → ℕ → ℕ → List ℕ
saved revision leg place = revision ∷ leg ∷ place ∷ []

abbrev pub left : ℕ → ℕ → ℕ → List ℕ
left revision leg place = revision ∷ leg ∷ place ∷ zeros 12

-- A start: granted, 12 places.
abbrev pub begun_in_c : List HostCall
begun_in_c = start (answered 0 12) (left 0 0 0) ∷ []

-- A slice of 10 places pauses at (2,3). One of 5 finds that place violated: the result is 5, overlap, after 1 step.
abbrev pub ten : HostCall
ten = slice (saved 0 0 0) 10 (answered 1 10) (left 0 2 3)

abbrev pub two_slices : List HostCall
two_slices = slice (saved 0 2 3) 5 (answered 5 1) (left 0 2 3) ∷ ten ∷ []

abbrev pub violated_in_c : List HostCall
violated_in_c = two_slices ++ begun_in_c

-- A move of leg 2 to 672 in its first period, for which 4 bytes more are lent than its file has: granted, with the file's length, and cursor (2,0) of revision 1.
abbrev pub move_in_c : HostCall
move_in_c = move_leg (saved 0 2 3) (move_to 2 672 0) (answered 0 moved_bytes) (lent (moved_file ++ zeros 4) (left 1 2 0))

-- Then a slice of 5 accepts with 5 steps.
abbrev pub accepted_in_c : List HostCall
accepted_in_c = slice (saved 1 2 0) 5 (answered 0 5) (left 1 3 0) ∷ move_in_c ∷ violated_in_c

pub record HostRunsAtNumbers : Type 0 where
  pub violates : HostRun violated_in_c plan_a_file
  pub tells_place : HostGives (answered 5 1) (left 0 2 3) (violated 2 3 rule.Overlap)
  pub accepts : HostRun accepted_in_c moved_file
  pub tells_none : HostGives (answered 0 5) (left 1 3 0) nothing_violated
  -- The two slices have all that demand 3 asks for, and their verdict; the first alone has none.
  pub renewed : HostRenews (start (answered 0 12) (left 0 0 0)) × HostRenews move_in_c
  pub asked_for : HostSince two_slices (start (answered 0 12) (left 0 0 0)) × (host_budgets two_slices ≡ 15)
  pub has_verdict : HostHasVerdict two_slices
  pub no_verdict : HostHasVerdict (ten ∷ []) → ⊥
  -- An older cursor of the run may be given again, and the check may be started again.
  pub older : HostRun (ten ∷ violated_in_c) plan_a_file
  pub started_again : HostRun (start (answered 0 12) (left 0 0 0) ∷ violated_in_c) plan_a_file
  -- A saved cursor that no call left, here that of the end, would be believed, and no run has such a slice.
  pub altered : SliceMade plan_a_file (saved 0 3 0) 0 (answered 0 0) (left 0 3 0)
  pub not_left : HostRun (slice (saved 0 3 0) 0 (answered 0 0) (left 0 3 0) ∷ begun_in_c) plan_a_file → ⊥
