-- What is proved of masks, cycles and gate lists.
use Rattle.std.specs.Prelude.{ℕ, ◌+◌, ◌*◌, ◌≤◌, ◌<◌, ◌≡◌, List}
use Rattle.overlap.specs.Meeting.{NeverMeet}
use Rattle.overlap.specs.declared.Slot.{Slot}
use Rattle.gates.specs.Holding.{Right}
use Rattle.gates.specs.Pairs.{mask_of, duration_of, ShowsAt, ListRight}
use Rattle.gates.specs.Cycle.{CommonMultiple, IsCycle}
use Rattle.gates.specs.Steps.{Kept, Unfinished}

-- At most one mask is right at an instant.
abbrev pub OneMask : (ℕ → ℕ → Type 0) → Type 0
OneMask R = (x a b : ℕ) → R x a → R x b → a ≡ b

abbrev pub OneMaskIsRight : Type 1
OneMaskIsRight = (S : Slot → Type 0) → OneMask (Right S)

-- A link has at most one cycle.
abbrev pub OneCycle : Type 1
OneCycle = (S : Slot → Type 0) (c d : ℕ) → IsCycle S c → IsCycle S d → c ≡ d

-- n pairs and m pairs are the same: as many, and each with the same mask and duration.
pub record SamePairs (words : List ℕ) (n : ℕ) (other : List ℕ) (m : ℕ) : Type 0 where
  pub count : n ≡ m
  pub mask : (i : ℕ) → i < n → mask_of words i ≡ mask_of other i
  pub duration : (i : ℕ) → i < n → duration_of words i ≡ duration_of other i

-- AT MOST ONE LIST is right for a cycle, where at most one mask is right at an instant.
abbrev pub OneList : Type 1
OneList =
    (R : ℕ → ℕ → Type 0) → OneMask R → (cycle : ℕ) (words : List ℕ) (n : ℕ) (other : List ℕ) (m : ℕ)
    → ListRight R cycle words n → ListRight R cycle other m → SamePairs words n other m

-- Where n right pairs end before the cycle does, and the mask must change there, each right list has more than n.
abbrev pub UnfinishedIsShorter : Type 1
UnfinishedIsShorter =
    (R : ℕ → ℕ → Type 0) → OneMask R → (cycle : ℕ) (words : List ℕ) (n : ℕ) (other : List ℕ) (m : ℕ)
    → Unfinished R cycle words n → ListRight R cycle other m → n < m

-- Each slot on the link holds it at least 1 ns and keeps its window, in a period that is a word.
abbrev pub AllKept : (Slot → Type 0) → Type 0
AllKept S = (s : Slot) → S s → Kept s

-- ONE CYCLE SAYS ALL, where each slot keeps its window. A mask is right at an instant exactly when it is right a common multiple of the periods later. So a right list,
-- repeated without end, has the right mask in every pass; and at every instant below the cycle one of its pairs shows.
abbrev pub CycleRepeats : Type 1
CycleRepeats = (S : Slot → Type 0) (c : ℕ) → AllKept S → CommonMultiple S c → (x m : ℕ) → (Right S x m → Right S (x + c) m) × (Right S (x + c) m → Right S x m)

abbrev pub RightForEver : Type 1
RightForEver =
    (S : Slot → Type 0) (c : ℕ) (words : List ℕ) (n : ℕ) → AllKept S → CommonMultiple S c → ListRight (Right S) c words n
    → (pass i y : ℕ) → i < n → ShowsAt words i y → Right S (y + pass * c) (mask_of words i)

-- A pair of the list that shows at instant y.
pub record Shown (words : List ℕ) (n y : ℕ) : Type 0 where
  pub pair : ℕ
  pub there : pair < n
  pub shows : ShowsAt words pair y

abbrev pub SomePairShows : Type 1
SomePairShows = (R : ℕ → ℕ → Type 0) (c : ℕ) (words : List ℕ) (n y : ℕ) → ListRight R c words n → y < c → Shown words n y

-- A slot that holds its link for its whole period is alone on it: any other meets it.
abbrev pub WholePeriodIsAlone : Type 0
WholePeriodIsAlone = (a b : Slot) → a.hold ≡ a.period → 1 ≤ a.period → 1 ≤ b.period → 1 ≤ b.hold → NeverMeet a b → ⊥
