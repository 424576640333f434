-- What the calls for C promise that write the gate list of a link, and that read a list file (document 02, L7): the answer, and all that is lent. plan is the plan file, l the link, and list
-- the bytes that are lent for the list file, or those that are read. What is lent to be written is list' or words' after the call.
use Rattle.std.specs.Prelude.{ℕ, ◌≡◌, List, ltb, Result, Ok, Err}
use Rattle.basics.specs.Pick.{pick}
use Rattle.basics.specs.declared.Refusal.{Refusal}
use Rattle.numbers.specs.Number.{max_word}
use Rattle.gate_files.specs.ListFiles.{ReadsList}
use Rattle.gate_lists.specs.Lists.{WritesGateList}
use Rattle.host.specs.declared.Answer.{Answer}
use Rattle.host.specs.Answers.{answered, refusal}
use Rattle.host.specs.Refusals.{AfterPlan}

-- What is answered to the writing of a gate list: 0, with how many bytes its file has; or a refusal.
abbrev pub gates_answered : Result ℕ Refusal → Answer
gates_answered (Ok n) = answered 0 n
gates_answered (Err e) = refusal e.cause e.at

-- The gate list of link l of the table t, written as a file: given is what is told of it.
pub record ListsGates (t : List ℕ) (l : ℕ) (list : List ℕ) (a : Answer) (list' : List ℕ) : Type 0 where
  pub given : Result ℕ Refusal
  pub writes : WritesGateList t l list given list'
  pub answer : a ≡ gates_answered given

-- A GATE LIST. The plan reader refuses the file; or it is the file of a table, and the gate list of its link l is written. The refusals in their order: 12, 13, 2 and 14 of the plan file,
-- then 4 to 7 of its table, then 23, 19, 21, 22 and 15.
abbrev pub HostListsGates : List ℕ → ℕ → List ℕ → Answer → List ℕ → Type 0
HostListsGates plan l list = AfterPlan (List ℕ) plan list (λ (t : List ℕ). ListsGates t l list)

-- A number as a word holds it: itself, or the largest word where it is larger. A list file in memory may have more bytes than a word can count.
abbrev pub in_word : ℕ → ℕ
in_word n = pick (ltb max_word n) max_word n

-- What is answered to the reading of a list file: 0, with how many words its list has; or a refusal.
abbrev pub read_gates_answered : Result ℕ Refusal → Answer
read_gates_answered (Ok n) = answered 0 (in_word n)
read_gates_answered (Err e) = refusal e.cause (in_word e.at)

-- A LIST FILE READ, into the words that are lent for it: given is what is told of it.
pub record HostReadsGates (list words : List ℕ) (a : Answer) (words' : List ℕ) : Type 0 where
  pub given : Result ℕ Refusal
  pub reads : ReadsList list words given words'
  pub answer : a ≡ read_gates_answered given
