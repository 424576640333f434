-- Every place that reads leg m is in its list, and the list is right. Assumes nothing.
use Prim.Native.Nat.{ℕ, ◌≤◌, ◌<◌}
use mathlib.Core.Path.{◌≡◌, sym, ap}
use mathlib.Core.List.{List, ◌∷◌}
use mathlib.Core.Logic.{inl, inr, ⊎_elim}
use lib.ListN.{length, length-append}
use native.Mathlib.Omega.{arith}
use Rattle.basics.proofs.Splits.{eq_or_ne}
use Rattle.table.specs.Layout.{leg_count}
use Rattle.table.specs.Records.{stream_at}
use Rattle.shape.specs.Legs.{first_of, end_of}
use Rattle.rules.specs.Reads.{Reads}
use Rattle.rules.specs.Steps.{LegIn}
use Rattle.rules.specs.Theorems.{ReadBy}
use Rattle.rules.proofs.Staying.{who_reads_a_leg}
use Rattle.places.specs.Order.{IsPlace}
use Rattle.recheck.specs.Listed.{place_at, listed}
use Rattle.recheck.specs.Rechecks.{CanRecheck, FirstOf}
use Rattle.recheck.specs.Theorems.{In, Named, RecheckListIsRight, RecheckIsShort}
use Rattle.recheck.specs.declared.Place.{Place}
use Rattle.recheck.proofs.Naming.{named_read, read_named}
use Rattle.recheck.proofs.Looking.{leg_in_lem}
use Rattle.recheck.proofs.Members.{in_below, below_in, below_order}
use Rattle.recheck.proofs.Counting.{last_leg_count, other_leg_count, count_within}

-- A leg among the legs of the stream of leg a is of that stream, which ends where it does.
same_end : (t : List ℕ) (a m : ℕ) → LegIn t a → first_of t a ≤ m → m < end_of t a → end_of t a ≡ end_of t m
same_end t a m l from to =
    let p = l.table.leg a l.leg in
    let own = (l.table.stream _ p.stream).own m from to in
    let s = ap (stream_at t) (sym own) in
    cc

module _ (t : List ℕ) (m : ℕ) (c : CanRecheck t m) where
  named_reader : (a p : ℕ) → LegIn t a → ReadBy t m a p → Named t m a p
  named_reader a p l (inl (e, x)) =
      let q = (l.table.leg a l.leg).to_last in
      inr (inr (inl (e, (x.0, omega (arith, same_end t a m l x.1 (omega (arith, x.0)))))))
  named_reader a p l (inr (inl (e, x))) =
      let q = l.table.leg a l.leg in
      inr (inr (inr (e, omega (arith, x.0, same_end t a m l (omega (arith, x.1)) (omega (arith, x.1, q.from_first, q.to_last))))))
  named_reader a p l (inr (inr e)) = inr (inl e)

  all_named : (a p : ℕ) → IsPlace t a p → Named t m a p → In (place_at a p) (listed t m)
  all_named a p i n = below_in t m (leg_count t) a p i.leg i.place (named_read t m a p n)

  pub readers_listed : (a p : ℕ) → IsPlace t a p → Reads t a p m → In (place_at a p) (listed t m)
  readers_listed a p i r =
      all_named a p i
      (⊎_elim (λ (e : m ≡ a). inl (sym e)) (λ (n : m ≡ a → ⊥). named_reader a p (leg_in_lem c i.leg) (who_reads_a_leg t a p m r n)) (eq_or_ne m a))

  pub listed_place : (a p : ℕ) → In (place_at a p) (listed t m) → IsPlace t a p × Named t m a p
  listed_place a p i =
      let x = in_below t m (leg_count t) (place_at a p) i in
      (record { leg = x.leg; place = x.place }, read_named t m a p x.reads)

pub recheck_list_is_right : RecheckListIsRight
recheck_list_is_right t m c =
    let l = leg_in_lem c c.leg in
    record {
      places = listed_place t m c;
      all = all_named t m c;
      readers = readers_listed t m c;
      in_order = below_order t m (leg_count t);
      last_leg = last_leg_count t m l;
      other_leg = other_leg_count t m l;
      at_most = (count_within t m l).1;
    }

-- The n-th place of a list that has no more than G + 4.
first_inside : {t : List ℕ} {places : List Place} {q : Place} {n : ℕ} → FirstOf t places q n → (1 ≤ n) × (n ≤ length places)
first_inside {q = q} f = (omega (arith, f.number), omega (arith, f.number, ap length f.list, length-append f.before (q ∷ f.after)))

pub recheck_is_short : RecheckIsShort
recheck_is_short = record {
  violated = λ t m q r n v. let i = first_inside v.1 in (i.0, omega (arith, i.1, (count_within t m (leg_in_lem v.0 v.0.leg)).1));
  nothing = λ t m n v.
      let c = count_within t m (leg_in_lem v.0 v.0.leg) in
      (omega (arith, v.2, c.0), omega (arith, v.2, c.1));
}
