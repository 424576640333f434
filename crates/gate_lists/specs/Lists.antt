-- What the call promises that writes the gate list of a link as a list file, by the cases of its answer, with the refusals 21, 22 and 23 (document 02, L7). No guard band is
-- written, and the precision plays no part: a list says when the link is held, by one clock that begins at instant 0.
use Rattle.std.specs.Prelude.{ℕ, ◌*◌, ◌≤◌, ◌<◌, ◌≡◌, List, length, Result, Ok, Err}
use Rattle.basics.specs.Refusals.{Refusals, unless, ◌then◌, ◌called◌}
use Rattle.basics.specs.declared.Cause.TheVariants as cause
use Rattle.basics.specs.declared.Refusal.{Refusal}
use Rattle.numbers.specs.Series.{file_of, Laid}
use Rattle.table.specs.Layout.{link_count}
use Rattle.shape.specs.Shape.{WellFormedTable, shape_refusals}
use Rattle.rules.specs.Rules.{RulesHold}
use Rattle.gates.specs.Pairs.{max_cycle, max_pairs}
use Rattle.gate_lists.specs.GateList.{CycleOf, IsGateList}

-- A list may be asked for: the table is well-formed and has the link, and the rules hold of it.
pub record MayList (t : List ℕ) (l : ℕ) : Type 0 where
  pub shape : WellFormedTable t
  pub link : l < link_count t
  pub rules : RulesHold t

-- The link's cycle is at most 1,000,000,000 ns.
pub record ShortCycle (t : List ℕ) (l : ℕ) : Type 0 where
  pub cycle : ℕ
  pub is : CycleOf t l cycle
  pub short : cycle ≤ max_cycle

-- Its list has at most 1,024 pairs. (It has one list at most, so this is that of HasRoom and that which is written.)
pub record FewPairs (t : List ℕ) (l : ℕ) : Type 0 where
  pub list : List ℕ
  pub is : IsGateList t l list
  pub few : length list ≤ 2 * max_pairs

-- The file of its list has at most so many bytes.
pub record HasRoom (t : List ℕ) (l room : ℕ) : Type 0 where
  pub list : List ℕ
  pub is : IsGateList t l list
  pub fits : length (file_of list) ≤ room

-- The refusals before the list is looked at, in their order: 1 to 7, then 23, then 19.
abbrev pub may_list_refusals : List ℕ → ℕ → Refusals
may_list_refusals t l = shape_refusals t then unless cause.NoLink (l < link_count t) then unless cause.NotAccepted (RulesHold t) called MayList t l

-- Then 21, then 22.
abbrev pub length_refusals : List ℕ → ℕ → Refusals
length_refusals t l = unless cause.LongCycle (ShortCycle t l) then unless cause.TooManyPairs (FewPairs t l)

-- And all of them, with 15 at the end.
abbrev pub list_refusals : List ℕ → ℕ → ℕ → Refusals
list_refusals t l room = may_list_refusals t l then length_refusals t l then unless cause.NoRoom (HasRoom t l room)

-- WRITING THE GATE LIST of link l of table t to the bytes b, which makes them b': its file lies in the first bytes, every other is what it was, and the answer is how many; or a
-- refusal, and nothing changes.
abbrev pub WritesGateList : List ℕ → ℕ → List ℕ → Result ℕ Refusal → List ℕ → Type 0
WritesGateList t l b (Ok n) b' = (list_refusals t l (length b)).Clear × ((ws : List ℕ) × IsGateList t l ws × Laid b 0 (file_of ws) n b')
WritesGateList t l b (Err e) b' = (list_refusals t l (length b)).Fault e.cause e.at × (b' ≡ b)
