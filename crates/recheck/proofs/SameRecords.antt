-- Tables that are the same but for one leg differ in its offset and its period word alone; and where all legs of two tables are the same, the rules hold of both. Assumes nothing.
use Prim.Native.Nat.{ℕ, ◌≤◌, ◌<◌}
use mathlib.Core.Path.{◌≡◌, ◌∙◌, sym, ap, subst}
use mathlib.Core.List.{List}
use mathlib.Core.Logic.{⊎_elim}
use native.Mathlib.Omega.{arith}
use Rattle.basics.proofs.Splits.{eq_or_ne}
use Rattle.table.specs.Layout.{leg_count, Sized}
use Rattle.table.specs.Records.{leg_at}
use Rattle.table.specs.declared.Leg.{Leg}
use Rattle.table.proofs.SameWords.{same_links, same_streams, same_legs, same_precision, same_link, same_stream, same_other, same_leg_stream, same_leg_link}
use Rattle.shape.specs.Streams.{max_periods}
use Rattle.shape.specs.Shape.{WellFormedTable}
use Rattle.shape.specs.Moves.{SameButMoved}
use Rattle.rules.specs.Rules.{RulesHold}
use Rattle.rules.proofs.Covering.{places_cover_the_rules}
use Rattle.rules.proofs.Staying.{read_legs_decide, no_higher_leg_is_read}
use Rattle.recheck.specs.Premise.{SameButLeg}

-- Every other leg is the same.
pub other_legs : (t u : List ℕ) (m : ℕ) → Sized t → SameButLeg t u m → (b : ℕ) → b < leg_count t → (b ≡ m → ⊥) → leg_at t b ≡ leg_at u b
other_legs t u m s d = same_other t u m s d.words

pub leg_moved : (t u : List ℕ) (m : ℕ) → WellFormedTable t → SameButLeg t u m → (leg_at u m).periods ≤ max_periods → SameButMoved t u
leg_moved t u m w d few =
    let s = w.sized in
    record {
      long = d.long;
      link_count_is = same_links t u m s d.words;
      stream_count_is = same_streams t u m s d.words;
      leg_count_is = same_legs t u m s d.words;
      precision = same_precision t u m s d.words;
      link = same_link t u m s d.words;
      stream = same_stream t u m s d.words;
      leg_stream = same_leg_stream t u m s d.words;
      leg_link = same_leg_link t u m s d.words;
      periods = λ b h. ⊎_elim
          (λ (e : b ≡ m). subst (λ (i : ℕ). (leg_at u i).periods ≤ max_periods) (sym e) few)
          (λ (n : b ≡ m → ⊥). omega (arith, ap (λ (l : Leg). l.periods) (other_legs t u m s d b h n), (w.legs b h).in_range.periods))
          (eq_or_ne b m);
    }

-- What differs so from a table that differs so differs so.
pub moved_twice : (t u v : List ℕ) → SameButMoved t u → SameButMoved u v → SameButMoved t v
moved_twice t u v m n = record {
  long = m.long ∙ n.long;
  link_count_is = m.link_count_is ∙ n.link_count_is;
  stream_count_is = m.stream_count_is ∙ n.stream_count_is;
  leg_count_is = m.leg_count_is ∙ n.leg_count_is;
  precision = m.precision ∙ n.precision;
  link = λ i h. m.link i h ∙ n.link i (omega (arith, m.link_count_is));
  stream = λ i h. m.stream i h ∙ n.stream i (omega (arith, m.stream_count_is));
  leg_stream = λ b h. m.leg_stream b h ∙ n.leg_stream b (omega (arith, m.leg_count_is));
  leg_link = λ b h. m.leg_link b h ∙ n.leg_link b (omega (arith, m.leg_count_is));
  periods = λ b h. n.periods b (omega (arith, m.leg_count_is));
}

-- A leg is its four numbers.
pub leg_is : (x y : Leg) → x.stream ≡ y.stream → x.link ≡ y.link → x.offset ≡ y.offset → x.periods ≡ y.periods → x ≡ y
leg_is x y s l o p =
    let e : ◌≡◌ {A = Leg}
    (record { stream = x.stream; link = x.link; offset = x.offset; periods = x.periods })
    (record { stream = y.stream; link = y.link; offset = y.offset; periods = y.periods }) = cc in
    e

-- A place reads legs of the table only.
pub same_rules : (t u : List ℕ) → WellFormedTable t → SameButMoved t u → ((b : ℕ) → b < leg_count t → leg_at t b ≡ leg_at u b) → RulesHold t → RulesHold u
same_rules t u w m same r =
    (places_cover_the_rules u).0 (λ a p k h.
    let l : a < leg_count t = omega (arith, m.leg_count_is) in
    (read_legs_decide t u a p w m l h (λ b d. same b (omega (arith, no_higher_leg_is_read t a p b w l h d)))).0 ((places_cover_the_rules t).1 r a p l h))
