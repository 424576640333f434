-- When a stream can be added, in the words of the request: no limit is passed, the stream is in range, and its route is one.
use Rattle.std.specs.Prelude.{ℕ, ◌+◌, ◌≤◌, ◌<◌, ◌≡◌, List, length, get_or}
use Rattle.table.specs.Layout.{max_streams, max_legs, link_count, stream_count, leg_count}
use Rattle.table.specs.Records.{link_at}
use Rattle.table.specs.declared.Link.{Link}
use Rattle.shape.specs.Shape.{WellFormedTable}
use Rattle.shape.specs.Streams.{StreamInRange}
use Rattle.enlarge.specs.Reads.{stream_wanted}
use Rattle.enlarge.specs.declared.Wanted.{Wanted}
use Rattle.admission.specs.Admits.{CanAdd}

-- Link j of the route.
abbrev pub link_on : List ℕ → List ℕ → ℕ → Link
link_on t route j = link_at t (get_or route j 0)

-- S + 1 and G + k are within their limits; period, deadline, octets and the number of links, 1 to 8, are in range; each link of the route is there, and begins where the previous one ended; and no
-- node is met twice, the first node included.
pub record Addition (t : List ℕ) (w : Wanted) (route : List ℕ) : Type 0 where
  pub streams : stream_count t + 1 ≤ max_streams
  pub legs : leg_count t + length route ≤ max_legs
  pub stream : StreamInRange (stream_wanted t w (length route))
  pub links : (j : ℕ) → j < length route → get_or route j 0 < link_count t
  pub joined : (j : ℕ) → j + 1 < length route → (link_on t route (j + 1)).from ≡ (link_on t route j).to
  pub not_start : (j : ℕ) → j < length route → (link_on t route j).to ≡ (link_on t route 0).from → ⊥
  pub new_node : (i j : ℕ) → i < j → j < length route → (link_on t route j).to ≡ (link_on t route i).to → ⊥

-- That is what refusal 20 is about.
abbrev pub CanAddInWords : Type 0
CanAddInWords = (t : List ℕ) (w : Wanted) (route : List ℕ) → WellFormedTable t → (CanAdd t w route → Addition t w route) × (Addition t w route → CanAdd t w route)
