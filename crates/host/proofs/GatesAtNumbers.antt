-- The calls for C on gate lists at numbers: the plan files are those of the tables, whose lists are known. Assumes nothing.
use Rattle.std.specs.Prelude.{Result, Ok}
use Rattle.basics.specs.Cause.{refused}
use Rattle.basics.specs.declared.Cause.TheVariants as cause
use Rattle.basics.specs.declared.Refusal.{Refusal}
use Prim.Native.Nat.{ℕ, ◌≤◌}
use mathlib.Core.Path.{refl}
use mathlib.Core.List.{List}
use mathlib.Core.Logic.{inr}
use native.Mathlib.Omega.{arith}
use Rattle.numbers.specs.Number.{max_word}
use Rattle.numbers.specs.Series.{file_of}
use Rattle.numbers.proofs.Computed.{total, small_words}
use Rattle.table.specs.Layout.{Sized}
use Rattle.table.specs.PlanA.{PlanNumbers, plan_with, like_a, offsets_a, hold_a}
use Rattle.files.specs.Reading.{IsFile}
use Rattle.gate_files.proofs.AtNumbers.{list_files_at_numbers}
use Rattle.gate_lists.specs.Lists.{WritesGateList}
use Rattle.gate_lists.specs.AtNumbers.{list_of_a}
use Rattle.gate_lists.proofs.AtNumbers.{gate_lists_at_numbers}
use Rattle.host.specs.GateLists.{gates_answered, HostListsGates}
use Rattle.host.specs.GateTheorems.{HostGatesAtNumbers}

sized : (n : PlanNumbers) → Sized (plan_with n)
sized n =
    record { head = omega arith; limits = record { links = omega arith; streams = omega arith; legs = omega arith; precision = omega arith }; exact = refl }

-- The file of such a plan, and what its table is answered.
file : (n : PlanNumbers) → total (plan_with n) ≤ max_word → IsFile Sized (file_of (plan_with n)) (plan_with n)
file n h = record { complete = sized n; words = small_words (plan_with n) h; bytes = refl }

listed : (n : PlanNumbers) (l : ℕ) (list list' : List ℕ) (r : Result ℕ Refusal) → total (plan_with n) ≤ max_word → WritesGateList (plan_with n) l list r list'
    → HostListsGates (file_of (plan_with n)) l list (gates_answered r) list'
listed n l list list' r h w = inr (plan_with n, file n h, record { given = r; writes = w; answer = refl })

pub host_gates_at_numbers : HostGatesAtNumbers
host_gates_at_numbers =
    let at = gate_lists_at_numbers in
    record {
      plan_a_is = λ list h. listed (offsets_a 0 1176 hold_a) 0 list _ (Ok 32) (omega arith) (at.written list h);
      small_room = λ list h. listed (offsets_a 0 1176 hold_a) 0 list list (refused cause.NoRoom 0) (omega arith) (at.no_room_lem list h);
      read_back = λ words h. record {
        given = Ok 16;
        reads = (
          list_of_a,
          record { complete = record { count = 8; words = refl }; words = small_words list_of_a (omega arith); bytes = refl },
          record { count = refl; room = h; after = refl },
        );
        answer = refl;
      };
      not_accepted_lem = λ list. listed (offsets_a 0 1176 0) 0 list list (refused cause.NotAccepted 0) (omega arith) (at.not_accepted_lem list);
      no_link_is = λ list. listed (offsets_a 0 1176 0) 2 list list (refused cause.NoLink 0) (omega arith) (at.no_link_is list);
      long_cycle_is = λ list. listed (like_a 0 700000000 2352 800000000 0 1176 hold_a) 0 list list (refused cause.LongCycle 0) (omega arith) (at.long_cycle_is list);
      pairs_1025 = λ list. listed (like_a 0 2000 2352 1024000 1 1177 673) 0 list list (refused cause.TooManyPairs 0) (omega arith) (at.pairs_1025 list);
      half_a_pair = record { given = refused cause.BytesEnd 3; reads = list_files_at_numbers.half_a_pair; answer = refl };
    }
