-- How the legs of one link are found: each link knows its lowest leg, and each leg the next on its link.
use Rattle.std.specs.Prelude.{ℕ, ◌+◌, ◌≤◌, ◌<◌, ◌≡◌, List, length, get_or}
use Rattle.table.specs.Layout.{max_links, max_legs, link_count, leg_count}
use Rattle.table.specs.Records.{leg_at}

-- Leg b is on link l, or there is no leg b; and no leg from n on and below b is on it.
pub record NextOn (t : List ℕ) (l n b : ℕ) : Type 0 where
  pub on : b < leg_count t → (leg_at t b).link ≡ l
  pub none : (c : ℕ) → n ≤ c → c < b → c < leg_count t → (leg_at t c).link ≡ l → ⊥

-- For each link its lowest leg from n on.
pub record Begun (t first : List ℕ) (n : ℕ) : Type 0 where
  pub room : max_links ≤ length first
  pub from : (l : ℕ) → l < link_count t → n ≤ get_or first l 0
  pub lowest : (l : ℕ) → l < link_count t → NextOn t l n (get_or first l 0)

-- For each leg from n on the next on its link.
pub record Chained (t next : List ℕ) (n : ℕ) : Type 0 where
  pub room : max_legs ≤ length next
  pub later : (b : ℕ) → n ≤ b → b < leg_count t → NextOn t (leg_at t b).link (b + 1) (get_or next b 0)
  pub onward : (b : ℕ) → n ≤ b → b < leg_count t → b < get_or next b 0

-- No leg is in a chain yet: what stands for a link is no leg.
pub record Unbegun (first : List ℕ) : Type 0 where
  pub room : max_links ≤ length first
  pub empty : (l : ℕ) → l < max_links → max_legs ≤ get_or first l 0
