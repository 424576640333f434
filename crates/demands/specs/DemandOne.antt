-- Demand 1: any table, file, cursor, budget or move may be handed in. Each call ends with an answer or with a numbered refusal whose cause is fixed.
-- A refused call changes no lent memory, and gives back any cursor it was given.
use Rattle.std.specs.Prelude.{ℕ, ◌≡◌, List, ℤ, Err}
use Rattle.basics.specs.Cause.{refused}
use Rattle.basics.specs.declared.Cause.{Cause}
use Rattle.numbers.specs.Calls.{WritesNumber}
use Rattle.numbers.specs.Theorems.{ReadNumberOneAnswer, WriteNumberOneAnswer}
use Rattle.table.specs.declared.Move.{Move}
use Rattle.files.specs.Plan.{ReadsPlan, WritesPlan}
use Rattle.files.specs.Cursors.{WritesCursor}
use Rattle.files.specs.Theorems.{ReadPlanOneAnswer, WritePlanOneAnswer, ReadCursorOneAnswer, WriteCursorOneAnswer}
use Rattle.files.specs.declared.Cursor.{Cursor}
use Rattle.editions.specs.Reading.{ReadsFirst}
use Rattle.editions.specs.Theorems.{ReadFirstOneAnswer}
use Rattle.checker.specs.Slices.{no_cursor, Starts, Slices}
use Rattle.checker.specs.Moves.{Moves}
use Rattle.checker.specs.Theorems.{StartOneAnswer, SliceOneAnswer, MoveOneAnswer}
use Rattle.recheck.specs.Theorems.{RecheckOneAnswer}
use Rattle.margins.specs.Theorems.{MarginOneAnswer, NearestOneAnswer}
use Rattle.meeting.specs.Theorems.{MeetingOneAnswer}
use Rattle.gate_files.specs.ListFiles.{ReadsList, WritesList}
use Rattle.gate_files.specs.Theorems.{ReadListOneAnswer, WriteListOneAnswer}
use Rattle.gate_lists.specs.Lists.{WritesGateList}
use Rattle.gate_lists.specs.Theorems.{GateListOneAnswer}
use Rattle.enlarge.specs.declared.Wanted.{Wanted}
use Rattle.admission.specs.Admits.{Admits, AdmitsBetween}
use Rattle.admission.specs.Theorems.{AdmitOneAnswer, AdmitBetweenOneAnswer}
use Rattle.host.specs.Theorems.{HostStartOneAnswer, HostSliceOneAnswer, HostSliceFullOneAnswer, HostMoveOneAnswer, HostConvertOneAnswer, HostRefusalsWriteNothing}
use Rattle.host.specs.AdmissionTheorems.{HostAdmitOneAnswer, HostAdmitBetweenOneAnswer, HostAdmissionsWriteNothing}
use Rattle.host.specs.RecheckTheorems.{HostRecheckOneAnswer}
use Rattle.host.specs.ExplainTheorems.{HostMeetingOneAnswer, HostMarginOneAnswer, HostNearestOneAnswer}
use Rattle.host.specs.GateTheorems.{HostGatesOneAnswer, HostReadGatesOneAnswer, HostGateRefusalsWriteNothing}
use Rattle.claims.specs.Theorems.{TestTimesOneAnswer, TestChainOneAnswer}
use Rattle.solver.specs.Solving.{SolvesWith}
use Rattle.solver.specs.Theorems.{SolveOneAnswer}
use Rattle.network_host.specs.Theorems.{HostSolveOneAnswer, HostTestTimesOneAnswer, HostTestChainOneAnswer, HostSolveRefusalsWriteNothing}
use Rattle.checker.specs.declared.SliceAnswer.TheVariants as answer

-- The statement of each public call holds for one answer at most, but that one of several chains may be given where a network has no times. That it holds for one is
-- the contract of the call, which the code is proved to meet.
pub record OneAnswerEach : Type 0 where
  pub read_number : ReadNumberOneAnswer
  pub write_number : WriteNumberOneAnswer
  pub read_plan : ReadPlanOneAnswer
  pub write_plan : WritePlanOneAnswer
  pub read_cursor : ReadCursorOneAnswer
  pub write_cursor : WriteCursorOneAnswer
  pub start : StartOneAnswer
  pub slice : SliceOneAnswer
  pub move_leg : MoveOneAnswer
  pub recheck : RecheckOneAnswer
  pub meeting : MeetingOneAnswer
  pub margin_at : MarginOneAnswer
  pub nearest_at : NearestOneAnswer
  pub admit : AdmitOneAnswer
  pub admit_between : AdmitBetweenOneAnswer
  pub write_gate_list : GateListOneAnswer
  pub read_list : ReadListOneAnswer
  pub write_list : WriteListOneAnswer
  pub host_start : HostStartOneAnswer
  pub host_slice : HostSliceOneAnswer
  pub host_slice_full : HostSliceFullOneAnswer
  pub host_move : HostMoveOneAnswer
  pub read_first : ReadFirstOneAnswer
  pub host_convert : HostConvertOneAnswer
  pub host_recheck : HostRecheckOneAnswer
  pub host_meeting : HostMeetingOneAnswer
  pub host_margin : HostMarginOneAnswer
  pub host_nearest : HostNearestOneAnswer
  pub host_admit : HostAdmitOneAnswer
  pub host_admit_between : HostAdmitBetweenOneAnswer
  pub host_gates : HostGatesOneAnswer
  pub host_read_gates : HostReadGatesOneAnswer
  pub solve : SolveOneAnswer
  pub test_times : TestTimesOneAnswer
  pub test_chain : TestChainOneAnswer
  pub host_solve : HostSolveOneAnswer
  pub host_test_times : HostTestTimesOneAnswer
  pub host_test_chain : HostTestChainOneAnswer

-- A refused call leaves the lent memory b, or the table t, as it was, and gives back the cursor c. A start is given none, and gives 0, 0, 0. The calls
-- that are not named here are lent nothing to write and are given no cursor.
pub record RefusalsLoseNothing : Type 0 where
  pub write_number : (x at : ℕ) (k : Cause) (p : ℕ) (b b' : List ℕ) → WritesNumber x at b (refused k p) b' → b' ≡ b
  pub read_plan : (s b b' : List ℕ) (k : Cause) (p : ℕ) → ReadsPlan s b (refused k p) b' → b' ≡ b
  pub read_first : (s b b' : List ℕ) (k : Cause) (p : ℕ) → ReadsFirst s b (refused k p) b' → b' ≡ b
  pub write_plan : (t b b' : List ℕ) (k : Cause) (p : ℕ) → WritesPlan t b (refused k p) b' → b' ≡ b
  pub write_cursor : (c d : Cursor) (b b' : List ℕ) (k : Cause) (p : ℕ) → WritesCursor c b (Err (record { refusal = record { cause = k; at = p }; cursor = d })) b' → (b' ≡ b) × (d ≡ c)
  pub start : (t : List ℕ) (d : Cursor) (k : Cause) (p : ℕ) → Starts t (Err (record { refusal = record { cause = k; at = p }; cursor = d })) → d ≡ no_cursor
  pub slice : (t : List ℕ) (c d : Cursor) (budget : ℕ) (k : Cause) (p : ℕ) → Slices t c budget (answer.Refused (record { cause = k; at = p }) d) → d ≡ c
  pub move_leg : (t t' : List ℕ) (c d : Cursor) (mv : Move) (k : Cause) (p : ℕ) → Moves t c mv (Err (record { refusal = record { cause = k; at = p }; cursor = d })) t' → (t' ≡ t) × (d ≡ c)
  pub admit : (t : List ℕ) (w : Wanted) (route out out' : List ℕ) (k : Cause) (p : ℕ) → Admits t w route out (refused k p) out' → out' ≡ out
  pub admit_between : (t : List ℕ) (w : Wanted) (route : List ℕ) (from until : ℕ) (out out' : List ℕ) (k : Cause) (p : ℕ) → AdmitsBetween t w route from until out (refused k p) out' → out' ≡ out
  pub write_gate_list : (t : List ℕ) (l : ℕ) (b b' : List ℕ) (k : Cause) (p : ℕ) → WritesGateList t l b (refused k p) b' → b' ≡ b
  pub read_list : (s b b' : List ℕ) (k : Cause) (p : ℕ) → ReadsList s b (refused k p) b' → b' ≡ b
  pub write_list : (ws b b' : List ℕ) (k : Cause) (p : ℕ) → WritesList ws b (refused k p) b' → b' ≡ b
  pub host : HostRefusalsWriteNothing
  pub host_admissions : HostAdmissionsWriteNothing
  pub host_gate_lists : HostGateRefusalsWriteNothing
  pub solve : (n : ℕ) (k : Cause) (p : ℕ) (ws times : List ℤ) (b b' : List ℕ) → SolvesWith n ws b (refused k p) times b' → b' ≡ b
  pub host_solve : HostSolveRefusalsWriteNothing

pub record DemandOne : Type 0 where
  pub one_answer : OneAnswerEach
  pub nothing_lost : RefusalsLoseNothing
