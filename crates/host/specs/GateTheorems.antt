-- What is proved of the calls for C that write and read gate lists.
use Rattle.std.specs.Prelude.{ℕ, ◌+◌, ◌*◌, ◌≤◌, ◌≡◌, List, [], ◌∷◌, ◌⊎◌, length, take, Ok}
use Rattle.basics.specs.Cause.{number_of, refused}
use Rattle.basics.specs.declared.Cause.{Cause}
use Rattle.basics.specs.declared.Cause.TheVariants as cause
use Rattle.numbers.specs.Series.{file_of, overlaid}
use Rattle.table.specs.Layout.{Sized}
use Rattle.table.specs.PlanA.{plan_a}
use Rattle.files.specs.Reading.{IsFile}
use Rattle.files.specs.Plan.{PlanFault}
use Rattle.gates.specs.Pairs.{max_pairs}
use Rattle.gate_lists.specs.GateList.{IsGateList}
use Rattle.gate_lists.specs.Theorems.{max_list_bytes}
use Rattle.gate_lists.specs.AtNumbers.{accepted_a, list_of_a, comb, slow_a}
use Rattle.host.specs.declared.Answer.{Answer}
use Rattle.host.specs.Answers.{refused_result, answered, refusal}
use Rattle.host.specs.Theorems.{OneAnswer, Keeps}
use Rattle.host.specs.GateLists.{gates_answered, HostListsGates, in_word, read_gates_answered, HostReadsGates}

-- One answer and one memory.
abbrev pub HostGatesOneAnswer : Type 0
HostGatesOneAnswer = (plan : List ℕ) (l : ℕ) (list : List ℕ) → OneAnswer Answer (List ℕ) (HostListsGates plan l list)

abbrev pub HostReadGatesOneAnswer : Type 0
HostReadGatesOneAnswer = (list words : List ℕ) → OneAnswer Answer (List ℕ) (HostReadsGates list words)

-- A refusal writes nothing.
pub record HostGateRefusalsWriteNothing : Type 0 where
  pub gates : (plan : List ℕ) (l : ℕ) (list : List ℕ) → Keeps (List ℕ) list (HostListsGates plan l list)
  pub read_gates : (list words : List ℕ) → Keeps (List ℕ) words (HostReadsGates list words)

-- A fault of the plan file comes before all else, and 2, 12, 13 and 14 are told for such a fault alone.
pub record PlanFaultsBeforeGates : Type 0 where
  pub first : (plan : List ℕ) (l : ℕ) (list : List ℕ) (k : Cause) (p : ℕ) (a : Answer) (list' : List ℕ) → PlanFault plan k p → HostListsGates plan l list a list' → a ≡ refusal k p
  pub no_other : (plan : List ℕ) (l : ℕ) (list : List ℕ) (k : Cause) (p : ℕ) (list' : List ℕ)
      → (number_of k ≡ 2) ⊎ ((12 ≤ number_of k) × (number_of k ≤ 14)) → HostListsGates plan l list (refusal k p) list' → PlanFault plan k p

-- Room: 10,240 bytes are enough for any list file.
abbrev pub GateRoomIsEnough : Type 0
GateRoomIsEnough =
    (plan : List ℕ) (l : ℕ) (list : List ℕ) (a : Answer) (list' : List ℕ) → max_list_bytes ≤ length list
    → HostListsGates plan l list a list' → a.result ≡ refused_result (number_of cause.NoRoom) → ⊥

-- BACK AGAIN. The bytes that conepalhui_gates wrote are read by conepalhui_read_gates as the gate list of the link, where there is room for 2,048 words.
abbrev pub HostListsComeBack : Type 0
HostListsComeBack =
    (plan : List ℕ) (l : ℕ) (list list' words words' : List ℕ) (n : ℕ) (a : Answer)
    → HostListsGates plan l list (answered 0 n) list' → HostReadsGates (take n list') words a words' → 2 * max_pairs ≤ length words
    → (t : List ℕ) × (ws : List ℕ) × IsFile Sized plan t × IsGateList t l ws × (a ≡ answered 0 (length ws)) × (words' ≡ overlaid words 0 ws)

-- The refusals of a gate list: 2, 4 to 7, 12 to 15, 19, and 21 to 23.
abbrev pub GateRefusal : ℕ → Type 0
GateRefusal k = (k ≡ 2) ⊎ (((4 ≤ k) × (k ≤ 7)) ⊎ (((12 ≤ k) × (k ≤ 15)) ⊎ ((k ≡ 19) ⊎ ((21 ≤ k) × (k ≤ 23)))))

-- The result r tells one of them.
pub record TellsGateRefusal (r : ℕ) : Type 0 where
  pub number : ℕ
  pub is : GateRefusal number
  pub told : r ≡ refused_result number

-- Which results there are: 0, or one of these refusals; of a list file that is read 0, or 12, 13 or 15.
pub record GateResultsAreThese : Type 0 where
  pub gates : (plan : List ℕ) (l : ℕ) (list : List ℕ) (a : Answer) (list' : List ℕ) → HostListsGates plan l list a list' → (a.result ≡ 0) ⊎ TellsGateRefusal a.result
  pub read_gates : (list words : List ℕ) (a : Answer) (words' : List ℕ) → HostReadsGates list words a words'
      → (a.result ≡ 0) ⊎ ((a.result ≡ 112) ⊎ ((a.result ≡ 113) ⊎ (a.result ≡ 115)))

-- The answers at the paper's numbers, and the refusals' numbers. A number that a word holds is told as it is, and each larger one as the largest word.
pub record GatesOfThePaper : Type 0 where
  pub listed : (n : ℕ) → gates_answered (Ok n) ≡ answered 0 n
  pub not_listed : (k : Cause) (p : ℕ) → gates_answered (refused k p) ≡ answered (100 + number_of k) p
  pub taken : (n : ℕ) → n ≤ 4294967295 → read_gates_answered (Ok n) ≡ answered 0 n
  pub not_taken : (k : Cause) (p : ℕ) → p ≤ 4294967295 → read_gates_answered (refused k p) ≡ answered (100 + number_of k) p
  pub past_a_word : (n : ℕ) → 4294967296 ≤ n → in_word n ≡ 4294967295
  pub not_accepted_lem : number_of cause.NotAccepted ≡ 19
  pub long_cycle_is : number_of cause.LongCycle ≡ 21
  pub too_many : number_of cause.TooManyPairs ≡ 22
  pub no_link_is : number_of cause.NoLink ≡ 23
  pub room : max_list_bytes ≡ 10240

-- At numbers, with the plans of crates/gate_lists/specs/AtNumbers.antt. The file of Plan A with leg 2 at 672: the list of link 0 has 32 bytes, 31 are too few, and 16 words are read
-- back. Plan A's own file; a cycle of 5.6 s; 1,025 pairs. And a mask without a duration, which is told before 15.
pub record HostGatesAtNumbers : Type 0 where
  pub plan_a_is : (list : List ℕ) → 32 ≤ length list → HostListsGates (file_of accepted_a) 0 list (answered 0 32) (overlaid list 0 (file_of list_of_a))
  pub small_room : (list : List ℕ) → length list ≡ 31 → HostListsGates (file_of accepted_a) 0 list (answered 115 0) list
  pub read_back : (words : List ℕ) → 16 ≤ length words → HostReadsGates (file_of list_of_a) words (answered 0 16) (overlaid words 0 list_of_a)
  pub not_accepted_lem : (list : List ℕ) → HostListsGates (file_of plan_a) 0 list (answered 119 0) list
  pub no_link_is : (list : List ℕ) → HostListsGates (file_of plan_a) 2 list (answered 123 0) list
  pub long_cycle_is : (list : List ℕ) → HostListsGates (file_of slow_a) 0 list (answered 121 0) list
  pub pairs_1025 : (list : List ℕ) → HostListsGates (file_of (comb 1)) 0 list (answered 122 0) list
  pub half_a_pair : HostReadsGates (0x7F ∷ 0x05 ∷ 0x7F ∷ []) [] (answered 112 3) []
