-- What the inner functions of this crate tell.
use Rattle.std.specs.Prelude.{ℕ, ◌+◌, ◌*◌, ◌≤◌, ◌<◌, ◌≡◌, List, ◌⊎◌, length, get_or, set, Option, Some, None}
use Rattle.std.specs.Int.{◌∣◌}
use Rattle.numbers.specs.Number.{max_word}
use Rattle.overlap.specs.Meeting.{HoldsLink}
use Rattle.overlap.specs.declared.Slot.{Slot}
use Rattle.gates.specs.Holding.{Held}
use Rattle.gates.specs.Pairs.{mask_of, duration_of, begin_of, PairsRight, ListRight, max_pairs, max_cycle}
use Rattle.gates.specs.Cycle.{IsCycle}
use Rattle.gates.specs.declared.runs.Sees.{Sees}
use Rattle.gates.specs.declared.runs.Sees.TheVariants as sees
use Rattle.gates.specs.declared.runs.Look.{Look}
use Rattle.gates.specs.declared.runs.Run.{Run}
use Rattle.gates.specs.declared.slots.StoredSlot.{StoredSlot}

-- A slot whose period is a word, that holds its link at least 1 ns and keeps its window.
pub record Kept (s : Slot) : Type 0 where
  pub period : s.period ≤ max_word
  pub hold : 1 ≤ s.hold
  pub window : s.offset + s.hold ≤ s.period

-- A slot as it is kept; no list has one behind its end.
abbrev pub widened : StoredSlot → Slot
widened s = record { offset = s.offset; period = s.period; hold = s.hold }

abbrev pub no_slot : StoredSlot
no_slot = record { offset = 0; period = 0; hold = 0 }

-- Slot i of a list.
abbrev pub slot_in : List StoredSlot → ℕ → Slot
slot_in slots i = widened (get_or slots i no_slot)

-- s is one of the first n slots of a list.
pub record InSlots (slots : List StoredSlot) (n : ℕ) (s : Slot) : Type 0 where
  pub which : ℕ
  pub there : which < n
  pub is : s ≡ slot_in slots which

-- A list has n slots, and each keeps its window.
pub record Slots (slots : List StoredSlot) (n : ℕ) : Type 0 where
  pub room : n ≤ length slots
  pub kept : (i : ℕ) → i < n → Kept (slot_in slots i)

-- A list whose slots all keep their windows, and the slots that are in it.
abbrev pub AllSlots : List StoredSlot → Type 0
AllSlots slots = Slots slots (length slots)

abbrev pub AnySlot : List StoredSlot → Slot → Type 0
AnySlot slots s = InSlots slots (length slots) s

-- slots' is slots with one slot more, s, beside the first n.
pub record Added (slots : List StoredSlot) (n : ℕ) (s : Slot) (slots' : List StoredSlot) : Type 0 where
  pub size : length slots' ≡ length slots
  pub old : (r : Slot) → InSlots slots n r → InSlots slots' (n + 1) r
  pub new : InSlots slots' (n + 1) s
  pub no_other : (r : Slot) → InSlots slots' (n + 1) r → (r ≡ s) ⊎ InSlots slots n r

-- A slot holds its link at instant x in one of its repeats.
pub record HeldBy (s : Slot) (x : ℕ) : Type 0 where
  pub turn : ℕ
  pub holds : HoldsLink s turn x

-- The latest instant that is looked at.
abbrev pub max_instant : ℕ
max_instant = 1152921504606846976

-- From x up to but without e, at least one instant, P is so.
pub record Stretch (P : ℕ → Type 0) (x e : ℕ) : Type 0 where
  pub some : x < e
  pub all : (y : ℕ) → x ≤ y → y < e → P y

-- What is seen from x on: P at each instant up to but without e, or at none of them.
abbrev pub Seen : (ℕ → Type 0) → ℕ → Sees → Type 0
Seen P x (sees.Held e) = Stretch P x e
Seen P x (sees.Idle e) = Stretch (λ (y : ℕ). P y → ⊥) x e

abbrev pub up_to : Sees → ℕ
up_to (sees.Held e) = e
up_to (sees.Idle e) = e

-- r is the lesser of a and b.
pub record Least (a b r : ℕ) : Type 0 where
  pub first : r ≤ a
  pub second : r ≤ b
  pub greatest : (k : ℕ) → k < a → k < b → k < r

-- The slots below i of a list were asked from x on. The link is held up to but without the look's end; where that is x itself, none of them holds it up to but without the other instant.
pub record Looked (slots : List StoredSlot) (n x limit i : ℕ) (l : Look) : Type 0 where
  pub to : i ≤ n
  pub on : x ≤ l.end
  pub short : l.end ≤ limit
  pub held : (y : ℕ) → x ≤ y → y < l.end → Held (InSlots slots n) y
  pub some : x < l.until
  pub within : l.until ≤ limit
  pub idle : l.end ≡ x → (j y : ℕ) → j < i → x ≤ y → y < l.until → HeldBy (slot_in slots j) y → ⊥

-- A run: the right mask from x on, up to but without its end, at least one instant and not beyond a limit.
pub record RunTold (R : ℕ → ℕ → Type 0) (x limit : ℕ) (r : Run) : Type 0 where
  pub some : x < r.until
  pub within : r.until ≤ limit
  pub right : (y : ℕ) → x ≤ y → y < r.until → R y r.mask

-- a and b divide r, and r divides whatever both divide.
pub record IsLcm (a b r : ℕ) : Type 0 where
  pub positive : 1 ≤ r
  pub left : a ∣ r
  pub right : b ∣ r
  pub least : (m : ℕ) → a ∣ m → b ∣ m → r ∣ m

-- The cycle, or that it passes the limit.
abbrev pub CycleTold : (Slot → Type 0) → Option ℕ → Type 0
CycleTold S (Some c) = IsCycle S c × (c ≤ max_cycle)
CycleTold S None = (c : ℕ) → IsCycle S c → max_cycle < c

-- A stretch added behind n pairs: the last pair gets longer, or a pair is added, or the list is full.
pub data Grows (words : List ℕ) (n mask lasting : ℕ) : List ℕ → Option ℕ → Type 0 where
  longer : (j : ℕ) → n ≡ j + 1 → mask_of words j ≡ mask → Grows words n mask lasting (set words (2 * j + 1) (duration_of words j + lasting)) (Some n)
  next : ((j : ℕ) → n ≡ j + 1 → mask_of words j ≡ mask → ⊥) → n < max_pairs → Grows words n mask lasting (set (set words (2 * n) mask) (2 * n + 1) lasting) (Some (n + 1))
  full : ((j : ℕ) → n ≡ j + 1 → mask_of words j ≡ mask → ⊥) → max_pairs ≤ n → Grows words n mask lasting words None

-- What adding a stretch behind n pairs asks: words for a full list, and a duration of the last pair that stays a word.
pub record Room (words : List ℕ) (n lasting : ℕ) : Type 0 where
  pub long : length words ≡ 2 * max_pairs
  pub count : n ≤ max_pairs
  pub fits : (j : ℕ) → n ≡ j + 1 → duration_of words j + lasting ≤ max_word

-- n right pairs end before the cycle does, at an instant at which the mask must change: the list has more than n pairs.
pub record Unfinished (R : ℕ → ℕ → Type 0) (cycle : ℕ) (words : List ℕ) (n : ℕ) : Type 0 where
  pub pairs : PairsRight R words n
  pub short : begin_of words n < cycle
  pub changes : (i : ℕ) → n ≡ i + 1 → R (begin_of words n) (mask_of words i) → ⊥

-- What writing the pairs gives: the list, or that it has more pairs than a list may have.
abbrev pub PairsTold : (ℕ → ℕ → Type 0) → ℕ → List ℕ → Option ℕ → Type 0
PairsTold R cycle words (Some n) = ListRight R cycle words n × (n ≤ max_pairs)
PairsTold R cycle words None = Unfinished R cycle words max_pairs
