-- Who holds a link when, and which mask its gates have to have then (document 02, L7). A link is given by its slots: S says which slots are on it.
use Rattle.std.specs.Prelude.{ℕ, ◌≡◌}
use Rattle.overlap.specs.Meeting.{HoldsLink}
use Rattle.overlap.specs.declared.Slot.{Slot}

-- The link is held at instant x: a slot on it holds it in one of its repeats, as overlap has it.
pub record Held (S : Slot → Type 0) (x : ℕ) : Type 0 where
  pub slot : Slot
  pub on : S slot
  pub turn : ℕ
  pub holds : HoldsLink slot turn x

-- The masks, a bit for each gate: gate 7 open and no other; and all gates open but gate 7.
abbrev pub held_mask : ℕ
held_mask = 128

abbrev pub idle_mask : ℕ
idle_mask = 127

-- THE RIGHT MASK m at instant x: 128 where the link is held, and 127 where it is not. An instant is a whole nanosecond, as in overlap: holds begin and end at whole ones.
pub data Right (S : Slot → Type 0) (x m : ℕ) : Type 0 where
  held : Held S x → m ≡ held_mask → Right S x m
  idle : (Held S x → ⊥) → m ≡ idle_mask → Right S x m
