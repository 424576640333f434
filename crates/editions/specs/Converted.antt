-- The tables of today that tables of older layouts become (document 02, L4).
use Rattle.std.specs.Prelude.{ℕ, zero, suc, ◌-◌, ◌≤◌, ◌≡◌, List, [], ◌++◌, take, drop, replicate}
use Rattle.table.specs.Layout.{link_words, stream_words, leg_words, max_links, max_streams, max_legs, max_precision, stream_count, leg_count, stream_start_in, leg_start_in}
use Rattle.table.specs.declared.Edition.{Edition}

-- What is put where a record of an older layout has no word.
abbrev pub new_word : ℕ
new_word = 0

-- The first n records of w words, each made g words long: its own words, then v in each new place.
unfoldable pub wider : (w g v n : ℕ) → List ℕ → List ℕ
wider w g v zero ws = []
wider w g v (suc n) ws = take w ws ++ (replicate (g - w) v ++ wider w g v n (drop w ws))

-- The table of today that the table u of a layout becomes: its header and its links as they are, then its streams, then its legs, each made as long as
-- today's. Of the first layout's records only the legs are shorter, by one word.
unfoldable pub converted : Edition → List ℕ → List ℕ
converted e u =
    take (stream_start_in e u) u
    ++ (wider e.stream stream_words new_word (stream_count u) (drop (stream_start_in e u) u)
    ++ wider e.leg leg_words new_word (leg_count u) (drop (leg_start_in e u) u))

-- A layout whose tables can be converted so: its links are as long as today's, its streams and legs no longer, and none of its limits is higher.
pub record Older (e : Edition) : Type 0 where
  pub link : e.link ≡ link_words
  pub stream : e.stream ≤ stream_words
  pub leg : e.leg ≤ leg_words
  pub links : e.links ≤ max_links
  pub streams : e.streams ≤ max_streams
  pub legs : e.legs ≤ max_legs
  pub precision : e.precision ≤ max_precision
