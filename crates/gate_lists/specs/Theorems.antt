-- What is proved of gate lists.
use Rattle.std.specs.Prelude.{ℕ, ◌+◌, ◌*◌, ◌≤◌, ◌<◌, ◌≡◌, List, ◌⊎◌, length, take, Result, Ok}
use Rattle.basics.specs.Cause.{number_of, refused}
use Rattle.basics.specs.declared.Cause.{Cause}
use Rattle.basics.specs.declared.Cause.TheVariants as cause
use Rattle.basics.specs.declared.Refusal.{Refusal}
use Rattle.numbers.specs.Number.{max_number_bytes}
use Rattle.numbers.specs.Series.{AllWords, file_of, overlaid}
use Rattle.table.specs.Layout.{link_count, leg_count}
use Rattle.table.specs.Records.{leg_at}
use Rattle.overlap.specs.Meeting.{HoldsLink}
use Rattle.rules.specs.Times.{slot_of}
use Rattle.checker.specs.Accepted.{Accepted}
use Rattle.gates.specs.Holding.{held_mask, idle_mask}
use Rattle.gates.specs.Pairs.{mask_of, duration_of, ShowsAt, max_pairs, max_cycle}
use Rattle.gate_files.specs.ListFiles.{WholePairs, ReadsList}
use Rattle.gate_lists.specs.GateList.{CycleOf, RightMask, IsGateList}
use Rattle.gate_lists.specs.Lists.{MayList, ShortCycle, WritesGateList}

-- A link has at most one gate list.
abbrev pub OneGateList : Type 0
OneGateList = (t : List ℕ) (l : ℕ) (ws vs : List ℕ) → IsGateList t l ws → IsGateList t l vs → ws ≡ vs

-- The call has one answer and leaves one memory.
abbrev pub GateListOneAnswer : Type 0
GateListOneAnswer =
    (t : List ℕ) (l : ℕ) (b b' b'' : List ℕ) (r r' : Result ℕ Refusal) → WritesGateList t l b r b' → WritesGateList t l b r' b'' → (r ≡ r') × (b' ≡ b'')

-- FOR EVER. A switch repeats the list of a link of an accepted table without end. In every pass, one cycle after the other, a pair that shows has the right mask.
abbrev pub GateListsRepeat : Type 0
GateListsRepeat =
    (t : List ℕ) (l c : ℕ) (ws : List ℕ) → Accepted t → CycleOf t l c → IsGateList t l ws
    → (pass i y : ℕ) → 2 * i < length ws → ShowsAt ws i y → RightMask t l (y + pass * c) (mask_of ws i)

-- The pair i of ws shows at instant x, in some pass of c ns.
pub record ShowsEver (ws : List ℕ) (c i x : ℕ) : Type 0 where
  pub pass : ℕ
  pub instant : ℕ
  pub is : x ≡ instant + pass * c
  pub there : 2 * i < length ws
  pub shows : ShowsAt ws i instant

-- OPEN FOR EACH FRAME. At every instant at which a leg of an accepted table holds its link, now or in any later repeat, some pair of the link's repeated list shows, and each that does has mask 128.
pub record GatesOpenForFrames : Type 0 where
  pub some_shows : (t : List ℕ) (a c : ℕ) (ws : List ℕ) → Accepted t → a < leg_count t → CycleOf t (leg_at t a).link c → IsGateList t (leg_at t a).link ws
      → (x : ℕ) → (i : ℕ) × ShowsEver ws c i x
  pub is_open : (t : List ℕ) (a k x c i : ℕ) (ws : List ℕ) → Accepted t → a < leg_count t → CycleOf t (leg_at t a).link c → IsGateList t (leg_at t a).link ws
      → HoldsLink (slot_of t a) k x → ShowsEver ws c i x → mask_of ws i ≡ held_mask

-- ALONE. At each instant at most one leg of an accepted table holds a link, in one of its repeats. (Holds that follow each other without a break share one pair.)
abbrev pub OneLegAtATime : Type 0
OneLegAtATime =
    (t : List ℕ) (a b k m x : ℕ) → Accepted t → a < leg_count t → b < leg_count t → (leg_at t a).link ≡ (leg_at t b).link
    → HoldsLink (slot_of t a) k x → HoldsLink (slot_of t b) m x → (a ≡ b) × (k ≡ m)

-- What a list of a short cycle has: whole pairs of words, the masks 128 and 127, and durations up to the longest cycle.
pub record GateListWords (ws : List ℕ) : Type 0 where
  pub whole : WholePairs ws
  pub words : AllWords ws
  pub masks : (i : ℕ) → 2 * i < length ws → (mask_of ws i ≡ held_mask) ⊎ (mask_of ws i ≡ idle_mask)
  pub durations : (i : ℕ) → 2 * i < length ws → (1 ≤ duration_of ws i) × (duration_of ws i ≤ max_cycle)

abbrev pub GateListsAreWords : Type 0
GateListsAreWords = (t : List ℕ) (l : ℕ) (ws : List ℕ) → ShortCycle t l → IsGateList t l ws → GateListWords ws

-- BACK AGAIN. The bytes that the call wrote are read as the link's list, where there is room for 2,048 words.
abbrev pub GateListsComeBack : Type 0
GateListsComeBack =
    (t : List ℕ) (l n : ℕ) (b b' words words' : List ℕ) (r : Result ℕ Refusal)
    → WritesGateList t l b (Ok n) b' → ReadsList (take n b') words r words' → 2 * max_pairs ≤ length words
    → (ws : List ℕ) × IsGateList t l ws × (r ≡ Ok (length ws)) × (words' ≡ overlaid words 0 ws)

-- EVERY LINK of an accepted table has a cycle and a gate list, however long they are.
pub record GateListsExist : Type 0 where
  pub cycle : (t : List ℕ) (l : ℕ) → Accepted t → (c : ℕ) × CycleOf t l c
  pub list : (t : List ℕ) (l : ℕ) → Accepted t → (ws : List ℕ) × IsGateList t l ws

-- So 21, 22 and 15 mean that the link's cycle, its list or its file is too long.
pub record ListRefusalsMean : Type 0 where
  pub long : (t : List ℕ) (l p : ℕ) (b b' : List ℕ) → WritesGateList t l b (refused cause.LongCycle p) b' → (c : ℕ) × CycleOf t l c × (max_cycle < c)
  pub many : (t : List ℕ) (l p : ℕ) (b b' : List ℕ) → WritesGateList t l b (refused cause.TooManyPairs p) b' → (ws : List ℕ) × IsGateList t l ws × (2 * max_pairs < length ws)
  pub room : (t : List ℕ) (l p : ℕ) (b b' : List ℕ) → WritesGateList t l b (refused cause.NoRoom p) b' → (ws : List ℕ) × IsGateList t l ws × (length b < length (file_of ws))

-- Which refusals there are: 1 to 7, and at 0: 23, 19, 21, 22 and 15.
pub record GateListRefusal (k : Cause) (p : ℕ) : Type 0 where
  pub which : ((number_of cause.NoHeader ≤ number_of k) × (number_of k ≤ number_of cause.BadLeg)) ⊎ (((k ≡ cause.NoLink) ⊎ ((k ≡ cause.NotAccepted) ⊎ ((k ≡ cause.LongCycle) ⊎ ((k ≡ cause.TooManyPairs) ⊎ (k ≡ cause.NoRoom))))) × (p ≡ 0))

abbrev pub GateListRefusalsAreThese : Type 0
GateListRefusalsAreThese = (t : List ℕ) (l : ℕ) (k : Cause) (p : ℕ) (b b' : List ℕ) → WritesGateList t l b (refused k p) b' → GateListRefusal k p

-- Where the list of one link may be asked for, that of every link may.
abbrev pub OneTestForAll : Type 0
OneTestForAll = (t : List ℕ) (l m : ℕ) → MayList t l → m < link_count t → MayList t m

-- With 10,240 bytes or more there is never too little room.
abbrev pub max_list_bytes : ℕ
max_list_bytes = max_number_bytes * (2 * max_pairs)

pub record ListRoomIsEnough : Type 0 where
  pub is : max_list_bytes ≡ 10240
  pub enough : (t : List ℕ) (l p : ℕ) (b b' : List ℕ) → max_list_bytes ≤ length b → WritesGateList t l b (refused cause.NoRoom p) b' → ⊥
