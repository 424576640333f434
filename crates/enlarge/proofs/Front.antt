-- The grown table without its new legs, laid in five pieces: header, links, streams, the new stream, legs. Assumes nothing.
use Prim.Native.Nat.{ℕ, ◌+◌, ◌≤◌}
use mathlib.Core.Path.{◌≡◌, refl, ◌∙◌, ap}
use mathlib.Core.List.{List, [], ◌++◌}
use lib.ListN.{length}
use native.Mathlib.Omega.{arith}
use Rattle.numbers.specs.Series.{overlaid}
use Rattle.table.specs.Records.{link_part, stream_part, leg_part}
use Rattle.enlarge.specs.Enlarged.{new_head, new_stream, grown}
use Rattle.enlarge.specs.Steps.{Addable, LaidTo, LegsRoom}
use Rattle.enlarge.specs.declared.Wanted.{Wanted}
use Rattle.enlarge.proofs.Grown.{grown_words, grown_then}
use Rattle.enlarge.proofs.Laying.{laid_long, after_then, Laying, laying_start, laying_fits, laying_more, laying_end}

-- Of a table t that is laid with one stream more over b, the legs are left.
pub record LegsLeft : Type 0 where
  pub t : List ℕ
  pub b : List ℕ
  pub w : Wanted
  pub k : ℕ
  pub out : List ℕ
  pub next : ℕ
  pub laying : Laying b 0 (grown t w k []) (leg_part t ++ []) out next

module _ (w : Wanted) {t b : List ℕ} {k : ℕ} (a : Addable t k (length b)) where
  at_head : Laying b 0 (grown t w k []) (new_head t k ++ (link_part t ++ (stream_part t ++ (new_stream t w k ++ (leg_part t ++ []))))) b 0
  unfolding grown
  at_head = laying_start (omega (arith, grown_words t w k [] a.sized, a.room))

  module _ {n1 : ℕ} {b1 : List ℕ} (head : LaidTo b 0 (new_head t k) n1 b1) where
    at_links : Laying b 0 (grown t w k []) (link_part t ++ (stream_part t ++ (new_stream t w k ++ (leg_part t ++ [])))) b1 n1
    at_links = laying_more (new_head t k) _ at_head refl head

    module _ {links : List ℕ} (of-links : links ≡ link_part t) where
      pub links_fit : n1 + length links ≤ length b1
      links_fit = laying_fits (link_part t) _ at_links of-links

      module _ {n2 : ℕ} {b2 : List ℕ} (laid-links : LaidTo b1 n1 links n2 b2) {streams : List ℕ} (of-streams : streams ≡ stream_part t) where
        at_streams : Laying b 0 (grown t w k []) (stream_part t ++ (new_stream t w k ++ (leg_part t ++ []))) b2 n2
        at_streams = laying_more (link_part t) _ at_links of-links laid-links

        pub streams_fit : n2 + length streams ≤ length b2
        streams_fit = laying_fits (stream_part t) _ at_streams of-streams

        module _ {n3 : ℕ} {b3 : List ℕ} (laid-streams : LaidTo b2 n2 streams n3 b3) where
          at_new : Laying b 0 (grown t w k []) (new_stream t w k ++ (leg_part t ++ [])) b3 n3
          at_new = laying_more (stream_part t) _ at_streams of-streams laid-streams

          pub new_fits : n3 + length (new_stream t w k) ≤ length b3
          new_fits = laying_fits (new_stream t w k) _ at_new refl

          module _ {n4 : ℕ} {b4 : List ℕ} (laid-new : LaidTo b3 n3 (new_stream t w k) n4 b4) where
            pub at_legs : Laying b 0 (grown t w k []) (leg_part t ++ []) b4 n4
            at_legs = laying_more (new_stream t w k) _ at_new refl laid-new

            abbrev pub legs_left : LegsLeft
            legs_left = record { t = t; b = b; w = w; k = k; out = b4; next = n4; laying = at_legs }

module _ (s : LegsLeft) {legs : List ℕ} (of : legs ≡ leg_part s.t) where
  pub legs_fit : s.next + length legs ≤ length s.out
  legs_fit = laying_fits (leg_part s.t) [] s.laying of

  pub front_laid : {next : ℕ} {out : List ℕ} → LaidTo s.out s.next legs next out → LaidTo s.b 0 (grown s.t s.w s.k []) next out
  front_laid l = laying_end (laying_more (leg_part s.t) [] s.laying of l)

-- After it the new legs have room, and with them the grown table is laid.
module _ (t : List ℕ) (w : Wanted) (k : ℕ) {b mid : List ℕ} {at : ℕ} (l : LaidTo b 0 (grown t w k []) at mid) where
  pub new_legs_room : {route : List ℕ} → Addable t k (length b) → k ≡ length route → LegsRoom t route at (length mid)
  new_legs_room a e = record { head = a.sized.head; room = omega (arith, a.room, grown_words t w k [] a.sized, l.ends, laid_long l) }

  pub grown_laid : (legs : List ℕ) {out : List ℕ} → out ≡ overlaid mid at legs → out ≡ overlaid b 0 (grown t w k legs)
  grown_laid legs e = after_then legs l e ∙ ap (overlaid b 0) (grown_then t w k legs)
