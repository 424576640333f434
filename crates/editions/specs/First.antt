-- The records of the first layout (document 01, "The plan table").
use Rattle.std.specs.Prelude.{ℕ, ◌+◌, ◌*◌, List, get_or, take, drop}
use Rattle.table.specs.Layout.{first_layout, link_count, stream_count, leg_count, link_start, stream_start_in, leg_start_in}
use Rattle.table.specs.declared.Link.{Link}
use Rattle.table.specs.declared.Stream.{Stream}

-- A part: its words alone.
abbrev pub first_links : List ℕ → List ℕ
first_links u = take (first_layout.link * link_count u) (drop link_start u)

abbrev pub first_streams : List ℕ → List ℕ
first_streams u = take (first_layout.stream * stream_count u) (drop (stream_start_in first_layout u) u)

abbrev pub first_legs : List ℕ → List ℕ
first_legs u = take (first_layout.leg * leg_count u) (drop (leg_start_in first_layout u) u)

-- From node, to node, ns per octet, propagation.
abbrev pub first_link_at : List ℕ → ℕ → Link
first_link_at u i = record {
  from = get_or (first_links u) (first_layout.link * i) 0;
  to = get_or (first_links u) (first_layout.link * i + 1) 0;
  rate = get_or (first_links u) (first_layout.link * i + 2) 0;
  propagation = get_or (first_links u) (first_layout.link * i + 3) 0;
}

-- Period, deadline, frame octets, first leg, leg count.
abbrev pub first_stream_at : List ℕ → ℕ → Stream
first_stream_at u i = record {
  period = get_or (first_streams u) (first_layout.stream * i) 0;
  deadline = get_or (first_streams u) (first_layout.stream * i + 1) 0;
  octets = get_or (first_streams u) (first_layout.stream * i + 2) 0;
  first = get_or (first_streams u) (first_layout.stream * i + 3) 0;
  count = get_or (first_streams u) (first_layout.stream * i + 4) 0;
}

-- Stream, link, offset.
pub record FirstLeg : Type 0 where
  pub stream : ℕ
  pub link : ℕ
  pub offset : ℕ

abbrev pub first_leg_at : List ℕ → ℕ → FirstLeg
first_leg_at u i = record {
  stream = get_or (first_legs u) (first_layout.leg * i) 0;
  link = get_or (first_legs u) (first_layout.leg * i + 1) 0;
  offset = get_or (first_legs u) (first_layout.leg * i + 2) 0;
}
