-- Which legs a place reads.
use Rattle.std.specs.Prelude.{ℕ, ◌+◌, ◌≤◌, ◌≡◌, List, ◌⊎◌}
use Rattle.shape.specs.Legs.{first_of, end_of}
use Rattle.rules.specs.Places.{asked_at}
use Rattle.rules.specs.declared.Asked.{Asked}
use Rattle.rules.specs.declared.Asked.TheVariants as asked

-- Besides leg a itself: a hop reads the stream's previous leg, where there is one; the deadline of a stream's last leg its first leg; an overlap the other leg.
abbrev pub ReadsBeside : List ℕ → ℕ → Asked → ℕ → Type 0
ReadsBeside t a asked.Window b = ⊥
ReadsBeside t a asked.Hop b = (first_of t a ≤ b) × (a ≡ b + 1)
ReadsBeside t a asked.Deadline b = (a + 1 ≡ end_of t a) × (b ≡ first_of t a)
ReadsBeside t a (asked.Overlap c) b = b ≡ c

-- Place p of leg a of table t reads leg b.
abbrev pub Reads : List ℕ → ℕ → ℕ → ℕ → Type 0
Reads t a p b = (b ≡ a) ⊎ ReadsBeside t a (asked_at p) b
