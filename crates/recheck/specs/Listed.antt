-- One late move (document 02, L6): the places that a recheck of leg m goes by, in order. They are those at which leg m can be read; the request counts the stream's deadline among them
-- also where m is neither the first nor the last leg of its stream, and so is not read there.
use Rattle.std.specs.Prelude.{ℕ, zero, suc, ◌+◌, Bool, false, ◌&&◌, ◌||◌, List, [], ◌∷◌, ◌++◌, eqb, ltb}
use Rattle.basics.specs.Pick.{pick}
use Rattle.table.specs.Layout.{leg_count}
use Rattle.shape.specs.Legs.{end_of}
use Rattle.rules.specs.Places.{asked_at, places_of}
use Rattle.rules.specs.declared.Asked.{Asked}
use Rattle.rules.specs.declared.Asked.TheVariants as asked
use Rattle.recheck.specs.declared.Place.{Place}

-- Of another leg a: the hop, if a is the next leg of the stream of m; the deadline, if a is the last leg of that stream, whichever leg of it m is; and the overlap with m.
abbrev pub read_beside : List ℕ → ℕ → ℕ → Asked → Bool
read_beside t m a asked.Window = false
read_beside t m a asked.Hop = eqb a (m + 1) && ltb a (end_of t m)
read_beside t m a asked.Deadline = eqb (a + 1) (end_of t m)
read_beside t m a (asked.Overlap b) = eqb b m

-- Place p of leg a is one of them: every place of m itself is, and these are.
unfoldable pub can_read : List ℕ → ℕ → ℕ → ℕ → Bool
can_read t m a p = eqb a m || read_beside t m a (asked_at p)

abbrev pub place_at : ℕ → ℕ → Place
place_at a p = record { leg = a; place = p }

-- Those among the first p places of leg a, in order.
unfoldable pub listed_at : List ℕ → ℕ → ℕ → ℕ → List Place
listed_at t m a zero = []
listed_at t m a (suc p) = listed_at t m a p ++ pick (can_read t m a p) (place_at a p ∷ []) []

-- Those among all places of the legs below a, in order.
unfoldable pub listed_below : List ℕ → ℕ → ℕ → List Place
listed_below t m zero = []
listed_below t m (suc a) = listed_below t m a ++ listed_at t m a (places_of a)

-- THE LIST: those among all places of table t.
abbrev pub listed : List ℕ → ℕ → List Place
listed t m = listed_below t m (leg_count t)
