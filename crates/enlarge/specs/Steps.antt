-- What the functions of this crate ask, and what the inner ones tell.
use Rattle.std.specs.Prelude.{ℕ, ◌+◌, ◌*◌, ◌^◌, ◌≤◌, ◌<◌, ◌≡◌, List, length, get_or}
use Rattle.numbers.specs.Number.{max_word}
use Rattle.numbers.specs.Series.{overlaid}
use Rattle.table.specs.Layout.{max_streams, max_legs, max_precision, head_words, stream_words, leg_words, revision_of, link_count, stream_count, leg_count, table_words, Sized}
use Rattle.shape.specs.Links.{max_propagation}
use Rattle.shape.specs.Streams.{max_periods_due, max_octets, StreamInRange}
use Rattle.shape.specs.Guarantees.{Guarantees}
use Rattle.rules.specs.Times.{max_time}
use Rattle.enlarge.specs.Enlarged.{sent_on}
use Rattle.enlarge.specs.Reads.{stream_wanted, start_at}
use Rattle.enlarge.specs.declared.Wanted.{Wanted}

-- What is wanted is in range: the stream with a route of its length, and each link of the route; and no limit of t is passed.
pub record WantedInRange (t : List ℕ) (w : Wanted) (route : List ℕ) : Type 0 where
  pub streams : stream_count t + 1 ≤ max_streams
  pub legs : leg_count t + length route ≤ max_legs
  pub stream : StreamInRange (stream_wanted t w (length route))
  pub links : (j : ℕ) → j < length route → get_or route j 0 < link_count t

-- A stream of k legs can be added to t, in so many words: the revision can rise, no limit is passed, and the words hold the table.
pub record Addable (t : List ℕ) (k words : ℕ) : Type 0 where
  pub sized : Sized t
  pub rises : revision_of t < max_word
  pub streams : stream_count t + 1 ≤ max_streams
  pub legs : leg_count t + k ≤ max_legs
  pub room : table_words t + stream_words + leg_words * k ≤ words

-- Nanoseconds. Instants below this, and what a link adds to one, fit 64 bits by far.
abbrev pub instants : ℕ
instants = 2 ^ 41

-- A frame of the stream can be sent over link l at an instant.
pub record Sendable (t : List ℕ) (w : Wanted) (start l : ℕ) : Type 0 where
  pub table : Guarantees t
  pub octets : w.octets ≤ max_octets
  pub early : start < instants
  pub link : l < link_count t

-- So much later, at the most, it is at the next node.
abbrev pub max_hop : ℕ
max_hop = max_time + max_propagation + max_precision

-- Then it is there.
pub record Sent (t : List ℕ) (w : Wanted) (start l r : ℕ) : Type 0 where
  pub same : r ≡ sent_on t w start l
  pub near : r ≤ start + max_hop

-- The new legs can be made, the first of which starts at x: each names a link, and starts at most 7 whole periods late.
pub record Sends (t : List ℕ) (w : Wanted) (route : List ℕ) (x : ℕ) : Type 0 where
  pub table : Guarantees t
  pub repeats : 1 ≤ w.period
  pub octets : w.octets ≤ max_octets
  pub links : (j : ℕ) → j < length route → get_or route j 0 < link_count t
  pub starts : (j : ℕ) → j < length route → start_at t w x route j < max_periods_due * w.period

-- The words xs were laid over b from position at up to but without next, which made it b'.
pub record LaidTo (b : List ℕ) (at : ℕ) (xs : List ℕ) (next : ℕ) (b' : List ℕ) : Type 0 where
  pub ends : next ≡ at + length xs
  pub room : next ≤ length b
  pub after : b' ≡ overlaid b at xs

-- The table has a header, and the legs of the route have room from a position on.
pub record LegsRoom (t route : List ℕ) (at words : ℕ) : Type 0 where
  pub head : head_words ≤ length t
  pub room : at + leg_words * length route ≤ words
