-- What hold times are for (document 02, L1): between two frames on one link there are at least 12 octets, as IEEE 802.3 wants.
use Rattle.std.specs.Prelude.{ℕ, ◌+◌, ◌*◌, ◌≤◌, ◌<◌, ◌≡◌, List, ◌⊎◌}
use Rattle.table.specs.Layout.{leg_count}
use Rattle.table.specs.Records.{leg_at}
use Rattle.shape.specs.Shape.{WellFormedTable}
use Rattle.shape.specs.Legs.{link_of, stream_of}
use Rattle.rules.specs.Times.{gap_octets, lasting, offset_of, wire_of}
use Rattle.rules.specs.Rules.{Window, Overlap}

-- The frame of leg a in its repeat k: when its first octet is sent, and when its last one is.
abbrev pub sent_in : List ℕ → ℕ → ℕ → ℕ
sent_in t a k = offset_of t a + k * (stream_of t a).period

abbrev pub through_in : List ℕ → ℕ → ℕ → ℕ
through_in t a k = sent_in t a k + wire_of t a

-- How long 12 octets last on the link of leg a.
abbrev pub gap_of : List ℕ → ℕ → ℕ
gap_of t a = lasting gap_octets (link_of t a).rate

-- Legs a and b: in all their repeats one of the two frames is through, with the gap after it, no later than the other is sent.
abbrev pub GapKept : List ℕ → ℕ → ℕ → Type 0
GapKept t a b = (k m : ℕ) → (through_in t a k + gap_of t a ≤ sent_in t b m) ⊎ (through_in t b m + gap_of t b ≤ sent_in t a k)

-- Overlap asks just that of two legs on one link.
abbrev pub OverlapIsTheGap : Type 0
OverlapIsTheGap =
    (t : List ℕ) (a b : ℕ) → WellFormedTable t → a < leg_count t → b < leg_count t → (leg_at t a).link ≡ (leg_at t b).link
    → (Overlap t a b → GapKept t a b) × (GapKept t a b → Overlap t a b)

-- And window leaves the gap before the next repeat of the same leg.
abbrev pub WindowKeepsTheGap : Type 0
WindowKeepsTheGap = (t : List ℕ) (a k m : ℕ) → Window t a → k < m → through_in t a k + gap_of t a ≤ sent_in t a m
