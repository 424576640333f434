-- Demand 1, from the statements and theorems of each call. Assumes nothing.
use Rattle.numbers.proofs.OneNumber.{read_number_one_answer, write_number_one_answer}
use Rattle.files.proofs.OneAnswer.{read_plan_one_answer, write_plan_one_answer, read_cursor_one_answer, write_cursor_one_answer}
use Rattle.editions.proofs.Answers.{read_first_one_answer}
use Rattle.checker.proofs.OneAnswer.{start_one_answer, slice_one_answer, move_one_answer}
use Rattle.recheck.proofs.OneAnswer.{recheck_one_answer}
use Rattle.margins.proofs.Deciding.{margin_one_answer}
use Rattle.margins.proofs.NearLaws.{nearest_one_answer}
use Rattle.meeting.proofs.OneAnswer.{meeting_one_answer}
use Rattle.gate_files.proofs.OneAnswer.{read_list_one_answer, write_list_one_answer}
use Rattle.gate_lists.proofs.OneAnswer.{gate_list_one_answer}
use Rattle.admission.proofs.OneAnswer.{admit_one_answer, admit_between_one_answer}
use Rattle.host.proofs.OneAnswer.{host_start_one_answer, host_slice_one_answer, host_slice_full_one_answer, host_move_one_answer, host_convert_one_answer}
use Rattle.host.proofs.Admissions.{host_admit_one_answer, host_admit_between_one_answer, host_admissions_write_nothing}
use Rattle.host.proofs.Rechecks.{host_recheck_one_answer}
use Rattle.host.proofs.Explaining.{host_meeting_one_answer, host_margin_one_answer, host_nearest_one_answer}
use Rattle.host.proofs.GateLists.{host_gates_one_answer, host_read_gates_one_answer, host_gate_refusals_write_nothing}
use Rattle.claims.proofs.OneAnswer.{test_times_one_answer, test_chain_one_answer}
use Rattle.solver.proofs.OneAnswer.{solve_one_answer}
use Rattle.network_host.proofs.OneAnswer.{host_solve_one_answer, host_test_times_one_answer, host_test_chain_one_answer, host_solve_refusals_write_nothing}
use Rattle.host.proofs.Outcomes.{host_refusals_write_nothing}
use Rattle.demands.specs.DemandOne.{OneAnswerEach, RefusalsLoseNothing, DemandOne}

pub one_answer_each : OneAnswerEach
one_answer_each = record {
  read_number = read_number_one_answer;
  write_number = write_number_one_answer;
  read_plan = read_plan_one_answer;
  write_plan = write_plan_one_answer;
  read_cursor = read_cursor_one_answer;
  write_cursor = write_cursor_one_answer;
  start = start_one_answer;
  slice = slice_one_answer;
  move_leg = move_one_answer;
  recheck = recheck_one_answer;
  meeting = meeting_one_answer;
  margin_at = margin_one_answer;
  nearest_at = nearest_one_answer;
  admit = admit_one_answer;
  admit_between = admit_between_one_answer;
  write_gate_list = gate_list_one_answer;
  read_list = read_list_one_answer;
  write_list = write_list_one_answer;
  host_start = host_start_one_answer;
  host_slice = host_slice_one_answer;
  host_slice_full = host_slice_full_one_answer;
  host_move = host_move_one_answer;
  read_first = read_first_one_answer;
  host_convert = host_convert_one_answer;
  host_recheck = host_recheck_one_answer;
  host_meeting = host_meeting_one_answer;
  host_margin = host_margin_one_answer;
  host_nearest = host_nearest_one_answer;
  host_admit = host_admit_one_answer;
  host_admit_between = host_admit_between_one_answer;
  host_gates = host_gates_one_answer;
  host_read_gates = host_read_gates_one_answer;
  solve = solve_one_answer;
  test_times = test_times_one_answer;
  test_chain = test_chain_one_answer;
  host_solve = host_solve_one_answer;
  host_test_times = host_test_times_one_answer;
  host_test_chain = host_test_chain_one_answer;
}

pub refusals_lose_nothing : RefusalsLoseNothing
refusals_lose_nothing = record {
  write_number = λ x at k p b b' w. w.kept;
  read_plan = λ s b b' k p w. w.1;
  read_first = λ s b b' k p w. w.1;
  write_plan = λ t b b' k p w. w.1;
  write_cursor = λ c d b b' k p w. (w.0.kept, w.1);
  start = λ t d k p w. w.1;
  slice = λ t c d b k p w. w.1;
  move_leg = λ t t' c d mv k p w. (w.2, w.1);
  admit = λ t w route out out' k p a. a.after;
  admit_between = λ t w route from until out out' k p a. a.after;
  write_gate_list = λ t l b b' k p w. w.1;
  read_list = λ s b b' k p w. w.1;
  write_list = λ ws b b' k p w. w.1;
  host = host_refusals_write_nothing;
  host_admissions = host_admissions_write_nothing;
  host_gate_lists = host_gate_refusals_write_nothing;
  solve = λ n k p ws times b b' w. w.2;
  host_solve = host_solve_refusals_write_nothing;
}

pub demand_one : DemandOne
demand_one = record { one_answer = one_answer_each; nothing_lost = refusals_lose_nothing }
