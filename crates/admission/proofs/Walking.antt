-- Along the route: how long after the first leg each leg starts. Assumes nothing.
use Prim.Native.Nat.{ℕ, ◌+◌, ◌*◌, ◌≤◌, ◌<◌}
use mathlib.Core.Path.{◌≡◌, refl, ◌∙◌, sym, ap, subst}
use mathlib.Core.List.{List}
use lib.ListN.{length, get_or, take}
use lib.Seq.{get_or-take, length-take-le}
use native.Mathlib.Omega.{arith}
use Rattle.shape.specs.Guarantees.{Guarantees}
use Rattle.shape.proofs.Placed.{well_formed_guarantees}
use Rattle.enlarge.specs.Enlarged.{sent_on}
use Rattle.enlarge.specs.Reads.{start_at}
use Rattle.enlarge.specs.Steps.{max_hop, WantedInRange, Sendable, Sent}
use Rattle.enlarge.specs.declared.Wanted.{Wanted}
use Rattle.enlarge.proofs.Ranges.{wanted_in_range, wanted_sendable}
use Rattle.enlarge.proofs.NewLegs.{start_first, start_next}
use Rattle.admission.specs.Steps.{Ready, max_reach, AfterIs}

-- Leg i starts at an instant, on the way to leg j.
pub record Walked (t : List ℕ) (w : Wanted) (route : List ℕ) (j start i : ℕ) : Type 0 where
  pub ready : Ready t w route
  pub inside : j ≤ length route
  pub upto : i ≤ j
  pub is : start ≡ start_at t w 0 route i
  pub small : start ≤ i * max_hop

-- A link of the route can be sent over.
module _ {t : List ℕ} {w : Wanted} {route : List ℕ} (ready : Ready t w route) where
  pub guaranteed : Guarantees t
  guaranteed = well_formed_guarantees t ready.shape

  pub in_range : WantedInRange t w route
  in_range = wanted_in_range t w route ready.shape.sized ready.can_add

  pub can_send : (start j l : ℕ) → start ≤ max_reach → j < length route → get_or route j 0 ≡ l → Sendable t w start l
  can_send start j l small h e = subst (Sendable t w start) e (wanted_sendable in_range guaranteed j h (omega arith))

pub walked_none : {t : List ℕ} {w : Wanted} {route : List ℕ} {j : ℕ} → Ready t w route → j ≤ length route → Walked t w route j 0 0
walked_none {t} {w} {route} ready inside =
    record { ready = ready; inside = inside; upto = omega arith; is = sym (start_first t w 0 route); small = omega arith }

module _ {t : List ℕ} {w : Wanted} {route : List ℕ} {j start i : ℕ} (s : Walked t w route j start i) where
  along : i < length (take j route) → i < j
  along h = omega (arith, length-take-le j route s.inside)

  -- The part of the route that is walked has the links of the route.
  taken : i < j → get_or (take j route) i 0 ≡ get_or route i 0
  taken h = get_or-take j route i 0 h

  pub walked_sendable : i < length (take j route) → Sendable t w start (get_or (take j route) i 0)
  walked_sendable h =
      let k = along h in
      rw (taken k) (can_send s.ready start i (get_or route i 0) (omega (arith, s.small, s.inside, (in_range s.ready).stream.count_to)) (omega (arith, s.inside)) refl)

  pub walked_on : {r : ℕ} → i < length (take j route) → Sent t w start (get_or (take j route) i 0) r → Walked t w route j r (i + 1)
  walked_on {r} h there =
      let k = along h in
      let sent = rw (taken k) at there in
      record {
        ready = s.ready;
        inside = s.inside;
        upto = omega arith;
        is = sent.same ∙ ap (λ (z : ℕ). sent_on t w z (get_or route i 0)) s.is ∙ sym (start_next t w 0 route i (omega (arith, s.inside)));
        small = omega (arith, s.small, sent.near);
      }

  pub walked_all : length (take j route) ≤ i → AfterIs t w route j start
  walked_all h =
      let k = length-take-le j route s.inside in
      record {
        is = s.is ∙ ap (start_at t w 0 route) (let e : i ≡ j = omega (arith, s.upto) in e);
        small = omega (arith, s.small, s.upto, s.inside, (in_range s.ready).stream.count_to);
      }
