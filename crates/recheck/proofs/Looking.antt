-- What is known after some places of the list: one place more, places that are not listed, the next leg, and the end. Assumes nothing.
use Prim.Native.Nat.{ℕ, ◌+◌, ◌≤◌, ◌<◌}
use mathlib.Core.Path.{◌≡◌, refl, ◌∙◌, sym, ap, subst}
use mathlib.Core.Bool.{true}
use Rattle.std.specs.Prelude.{Result, Ok, Err}
use mathlib.Core.List.{List, [], ◌∷◌, ◌++◌, append_assoc}
use lib.ListN.{length, length-append}
use native.Mathlib.Omega.{arith}
use Rattle.numbers.specs.Number.{max_word}
use Rattle.table.specs.Layout.{max_legs, leg_count}
use Rattle.table.specs.Records.{leg_at}
use Rattle.shape.specs.Legs.{end_of}
use Rattle.shape.proofs.Placed.{well_formed_guarantees}
use Rattle.rules.specs.Places.{own_places, places_of, pair_place, rule_at, PlaceHolds, PairHolds}
use Rattle.rules.proofs.Pairs.{other_pairs, pairs_hold}
use Rattle.rules.specs.Steps.{LegIn, FrameOf}
use Rattle.rules.specs.declared.Frame.{Frame}
use Rattle.rules.specs.declared.Rule.{Rule}
use Rattle.places.proofs.Ranks.{below_mono, below_more, places_at_most}
use Rattle.recheck.specs.Listed.{can_read, place_at}
use Rattle.recheck.specs.Rechecks.{CanRecheck, AllHold, VerdictOf}
use Rattle.recheck.specs.Steps.{listed_to, LookedTo, BrokenAt, StepTold}
use Rattle.recheck.specs.declared.Place.{Place}
use Rattle.recheck.specs.declared.Rechecked.TheVariants.{Violated, NothingViolated}
use Rattle.recheck.specs.declared.look.BrokenAfter.{BrokenAfter}
use Rattle.recheck.proofs.Listing.{to_start, to_more, to_next, to_short, to_begins}
use Rattle.recheck.proofs.Stepping.{none_before_own, none_before_hop, no_hop, no_deadline, with_moved, none_before_pair, none_past_pair}

pub all_and : (t : List ℕ) (l k : List Place) → AllHold t l → AllHold t k → AllHold t (l ++ k)
all_and t [] k h i = i
all_and t (q ∷ l) k h i = (h.0, all_and t l k h.1 i)

module _ {t : List ℕ} {m : ℕ} where
  -- Where the list is the same.
  same_list : {a p b q n : ℕ} → listed_to t m b q ≡ listed_to t m a p → LookedTo t m a p n → LookedTo t m b q n
  same_list e l = record { held = subst (AllHold t) (sym e) l.held; count = l.count ∙ sym (ap length e); few = l.few }

  -- One place more.
  few_more : (a p n : ℕ) → LegIn t a → p < places_of a → LookedTo t m a p n → n + 1 < max_word
  few_more a p n l h k =
      omega (arith, k.count, to_short t m a p, below_more a, below_mono (a + 1) max_legs (omega (arith, l.leg, l.table.sized.limits.legs)), places_at_most)

  pub looked_more : {a p n : ℕ} → LegIn t a → p < places_of a → can_read t m a p ≡ true → LookedTo t m a p n → PlaceHolds t a p → LookedTo t m a (p + 1) (n + 1)
  looked_more {a} {p} {n} l h e k holds = record {
    held = subst (AllHold t) (sym (to_more t m a p e)) (all_and t (listed_to t m a p) (place_at a p ∷ []) k.held (holds, tt));
    count = omega (arith, k.count, ap length (to_more t m a p e), length-append (listed_to t m a p) (place_at a p ∷ []));
    few = few_more a p n l h k;
  }

  pub looked_broken : {a p n : ℕ} {r : Rule} → LegIn t a → p < places_of a → can_read t m a p ≡ true → LookedTo t m a p n → (PlaceHolds t a p → ⊥) × (r ≡ rule_at p)
      → BrokenAt t m a p r (n + 1)
  looked_broken {a} {p} {n} l h e k b = record { passed = n; looked = k; number = refl; leg = l; place = h; reads = e; broken = b.0; rule = b.1 }

  -- At the first place of leg m.
  pub looked_none : LegIn t m → LookedTo t m m 0 0
  looked_none l =
      let e = none_before_own t m l in
      record { held = subst (AllHold t) (sym e) tt; count = omega (arith, ap length e); few = omega arith }

  pub own_all : {end p n : ℕ} → end ≡ places_of m → p ≤ end → end ≤ p → LookedTo t m m p n → LookedTo t m m (places_of m) n
  own_all {end} {p} {n} e h l k = subst (λ (q : ℕ). LookedTo t m m q n) (let x : p ≡ places_of m = omega arith in x) k

  -- A later leg.
  module _ {a : ℕ} (above : m < a) where
    pub to_hop : {n : ℕ} → LookedTo t m a 0 n → LookedTo t m a 1 n
    to_hop k = same_list {p = 0} {q = 1} (none_before_hop t m a above) k

    pub no_hop_there : {n : ℕ} → LookedTo t m a 0 n → ((a ≡ m + 1) × (a < end_of t m) → ⊥) → LookedTo t m a 2 n
    no_hop_there k h = same_list {p = 0} {q = 2} (no_hop t m a above h) k

    pub no_deadline_there : {n : ℕ} → LookedTo t m a 2 n → (a + 1 ≡ end_of t m → ⊥) → LookedTo t m a own_places n
    no_deadline_there k h = same_list {p = 2} {q = own_places} (no_deadline t m a above h) k

    pub to_pair : {n p : ℕ} → p ≡ pair_place m → LookedTo t m a own_places n → LookedTo t m a p n
    to_pair {p = p} e k = same_list {p = own_places} {q = p} (none_before_pair t m a above p e) k

    pub past_pair : {n p : ℕ} → p ≡ pair_place m → LookedTo t m a (p + 1) n → LookedTo t m a (places_of a) n
    past_pair {p = p} e k = same_list {p = p + 1} {q = places_of a} (none_past_pair t m a above p e) k

  -- Another leg of the table.
  pub leg_of_plan : {a : ℕ} → LegIn t m → a < leg_count t → LegIn t a
  leg_of_plan l h = record { table = l.table; leg = h }

  -- A leg of a later stream: up to the places with other legs none is listed, and with a leg of another link nothing is broken.
  pub beyond_own : {a n : ℕ} → m < a → end_of t m ≤ a → LookedTo t m a 0 n → LookedTo t m a own_places n
  beyond_own {a} h l k =
      same_list {p = 2} {q = own_places} (no_deadline t m a h (λ x. omega (arith, x)))
      (same_list {p = 0} {q = 2} (no_hop t m a h (λ x. omega (arith, x.1))) k)

  pub beyond_apart : {a n link other : ℕ} → LegIn t a → m < a → end_of t m ≤ a → link ≡ (leg_at t m).link → other ≡ (leg_at t a).link → (other ≡ link → ⊥) → LookedTo t m a 0 n
      → LookedTo t m a (places_of a) (n + 1)
  beyond_apart {a = a} l h k f g apart looked =
      let p : pair_place m < places_of a = omega arith in
      let x : (leg_at t m).link ≡ (leg_at t a).link → ⊥ = λ y. apart (g ∙ sym y ∙ sym f) in
      same_list {p = pair_place m + 1} {q = places_of a} (none_past_pair t m a h (pair_place m) refl)
      (looked_more l p (with_moved t m a (pair_place m) refl)
      (same_list {p = own_places} {q = pair_place m} (none_before_pair t m a h (pair_place m) refl) (beyond_own h k looked))
      (pairs_hold t a m (m + 1) (λ b from below. subst (PairHolds t a) (let z : m ≡ b = omega arith in z) (other_pairs t a m x)) (pair_place m) (omega arith) (omega arith)))

  -- The next leg.
  pub looked_next : {a n : ℕ} → LookedTo t m a (places_of a) n → LookedTo t m (a + 1) 0 n
  looked_next {a} k = same_list {a = a} {p = places_of a} {b = a + 1} {q = 0} (to_next t m a) k

  -- A broken place is the first violated one of the list.
  pub broken_first : {a p n : ℕ} {r : Rule} → CanRecheck t m → BrokenAt t m a p r n → VerdictOf t m (Violated (place_at a p) r n)
  broken_first {a} {p} {n} c b =
      let x = to_begins t m a (p + 1) (leg_count t) (omega (arith, b.place)) b.leg.leg in (
        c,
        record {
          before = listed_to t m a p;
          after = x.rest;
          list =
              x.is
              ∙ ap (λ (l : List Place). l ++ x.rest) (to_more t m a p b.reads)
              ∙ append_assoc (listed_to t m a p) (place_at a p ∷ []) x.rest;
          held = b.looked.held;
          broken = b.broken;
          number = omega (arith, b.number, b.looked.count);
        },
        b.rule,
      )

  -- All places of the list hold.
  pub all_looked : {n : ℕ} → CanRecheck t m → LookedTo t m (leg_count t) 0 n → VerdictOf t m (NothingViolated n)
  all_looked c k =
      let x = to_start t m (leg_count t) in
      (c, subst (AllHold t) x k.held, k.count ∙ ap length x)

-- A leg that can be rechecked.
pub leg_in_lem : {t : List ℕ} {m a : ℕ} → CanRecheck t m → a < leg_count t → LegIn t a
leg_in_lem {t} c h = record { table = well_formed_guarantees t c.shape; leg = h }

-- The end of the stream of leg m, in the plan of a later leg.
pub its_end : {t u : List ℕ} {m : ℕ} {f : Frame} → t ≡ u → FrameOf t m f → f.end ≡ end_of u m
its_end {m = m} e f = f.end ∙ ap (λ (w : List ℕ). end_of w m) e

-- After the look at the place with leg m.
pub pair_told : (t : List ℕ) (m a : ℕ) {p : ℕ} (r : Result ℕ BrokenAfter) → m < a → p ≡ pair_place m → StepTold t m a (p + 1) r → StepTold t m a (places_of a) r
pair_told t m a (Ok n) h e k = past_pair h e k
pair_told t m a (Err b) h e k = k
