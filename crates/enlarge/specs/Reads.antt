-- What the records of a grown table read as, and when each new leg starts.
use Rattle.std.specs.Prelude.{ℕ, zero, suc, ◌+◌, ◌<◌, ◌≡◌, List, [], ◌∷◌}
use Rattle.table.specs.Layout.{revision_of, link_count, stream_count, leg_count, precision_of}
use Rattle.table.specs.Records.{leg_in, link_at, stream_at, leg_at}
use Rattle.table.specs.declared.Stream.{Stream}
use Rattle.enlarge.specs.Enlarged.{sent_on}
use Rattle.enlarge.specs.declared.Wanted.{Wanted}

-- The new stream.
abbrev pub stream_wanted : List ℕ → Wanted → ℕ → Stream
stream_wanted t w k = record { period = w.period; deadline = w.deadline; octets = w.octets; first = leg_count t; count = k }

-- The table u is t with the new stream, whose k legs have the words legs.
pub record Grown (t : List ℕ) (w : Wanted) (k : ℕ) (legs u : List ℕ) : Type 0 where
  pub revision : revision_of u ≡ revision_of t + 1
  pub link_count_is : link_count u ≡ link_count t
  pub stream_count_is : stream_count u ≡ stream_count t + 1
  pub leg_count_is : leg_count u ≡ leg_count t + k
  pub precision : precision_of u ≡ precision_of t
  pub link : (i : ℕ) → link_at u i ≡ link_at t i
  pub stream : (i : ℕ) → i < stream_count t → stream_at u i ≡ stream_at t i
  pub new_stream_is : stream_at u (stream_count t) ≡ stream_wanted t w k
  pub leg : (a : ℕ) → a < leg_count t → leg_at u a ≡ leg_at t a
  pub new_leg : (j : ℕ) → j < k → leg_at u (leg_count t + j) ≡ leg_in legs j

-- Leg j of the new stream starts then, where its first leg starts at x.
unfoldable pub start_at : List ℕ → Wanted → ℕ → List ℕ → ℕ → ℕ
start_at t w x route zero = x
start_at t w x [] (suc j) = x
start_at t w x (l ∷ route) (suc j) = start_at t w (sent_on t w x l) route j
