-- The table with one stream more (document 02, L5): the new stream and its legs come last, and the revision is one higher. w is what is wanted of the stream: period,
-- deadline and octets. The route is the numbers of its links, in order.
use Rattle.std.specs.Prelude.{ℕ, ◌+◌, ◌*◌, ◌/◌, ◌%◌, List, [], ◌∷◌, ◌++◌, length}
use Rattle.table.specs.Layout.{stream_words, leg_words, revision_of, link_count, stream_count, leg_count, precision_of, table_words}
use Rattle.table.specs.Records.{link_part, stream_part, leg_part, link_at}
use Rattle.rules.specs.Times.{wire_time}
use Rattle.enlarge.specs.declared.Wanted.{Wanted}

-- The header, with one stream and k legs more.
abbrev pub new_head : List ℕ → ℕ → List ℕ
new_head t k = (revision_of t + 1) ∷ link_count t ∷ (stream_count t + 1) ∷ (leg_count t + k) ∷ precision_of t ∷ []

-- The new stream's record: its k legs begin after all others.
abbrev pub new_stream : List ℕ → Wanted → ℕ → List ℕ
new_stream t w k = w.period ∷ w.deadline ∷ w.octets ∷ leg_count t ∷ k ∷ []

-- The table t with the new stream, whose k legs have these words. No other record changes.
unfoldable pub grown : List ℕ → Wanted → ℕ → List ℕ → List ℕ
grown t w k legs = new_head t k ++ (link_part t ++ (stream_part t ++ (new_stream t w k ++ (leg_part t ++ legs))))

-- The legs of the new stream, all at offset 0 and none late: to judge its route and its numbers before times are known.
unfoldable pub legs_at_zero : List ℕ → List ℕ → List ℕ
legs_at_zero t [] = []
legs_at_zero t (l ∷ route) = stream_count t ∷ l ∷ 0 ∷ 0 ∷ legs_at_zero t route

abbrev pub without_times : List ℕ → Wanted → List ℕ → List ℕ
without_times t w route = grown t w (length route) (legs_at_zero t route)

-- The frame that is sent over link l at `start` is at the next node W + d + P later, by every clock, and is sent on there without waiting. W is its wire time, without the gap.
unfoldable pub sent_on : List ℕ → Wanted → ℕ → ℕ → ℕ
sent_on t w start l = start + wire_time w.octets (link_at t l).rate + (link_at t l).propagation + precision_of t

-- The legs of the new stream along the rest of its route, the first of them starting at `start`, and none waiting. The whole periods of a start are the leg's period word, and the rest is its offset.
unfoldable pub legs_from : List ℕ → Wanted → ℕ → List ℕ → List ℕ
legs_from t w start [] = []
legs_from t w start (l ∷ route) = stream_count t ∷ l ∷ (start % w.period) ∷ (start / w.period) ∷ legs_from t w (sent_on t w start l) route

-- The enlarged table, the new stream's first offset being x.
abbrev pub enlarged : List ℕ → Wanted → List ℕ → ℕ → List ℕ
enlarged t w route x = grown t w (length route) (legs_from t w x route)

-- How many words it has, where t has as many words as its header says.
abbrev pub enlarged_words : List ℕ → List ℕ → ℕ
enlarged_words t route = table_words t + stream_words + leg_words * length route
