-- Simple temporal networks (document 02, L2): when times keep the constraints, which times are the latest, and what a closed chain with a negative sum is.
use Rattle.std.specs.Prelude.{ℕ, zero, suc, ◌+◌, ◌<◌, ◌≡◌, ℤ, pos, ◌+ℤ◌, ◌-ℤ◌, ◌≤ℤ◌, ◌<ℤ◌}

-- The constraints, `size` of them. Constraint k says: the time of event `to k` minus the time of event `from k` is at most `most k`.
pub record Network : Type 0 where
  pub size : ℕ
  pub from : ℕ → ℕ
  pub to : ℕ → ℕ
  pub most : ℕ → ℤ

-- A time for each event.
abbrev pub Times : Type 0
Times = ℕ → ℤ

-- The times keep every constraint.
pub record Keeps (w : Network) (t : Times) : Type 0 where
  pub keeps : (k : ℕ) → k < w.size → (t (w.to k) -ℤ t (w.from k)) ≤ℤ w.most k

-- None of the times of n events is above zero.
pub record NoneAbove (n : ℕ) (t : Times) : Type 0 where
  pub below : (v : ℕ) → v < n → t v ≤ℤ pos 0

-- The latest times of n events: they keep every constraint, none is above zero, and whatever other times do so are nowhere later.
pub record Latest (n : ℕ) (w : Network) (t : Times) : Type 0 where
  pub keeps : Keeps w t
  pub none : NoneAbove n t
  pub latest : (s : Times) → Keeps w s → NoneAbove n s → (v : ℕ) → v < n → s v ≤ℤ t v

-- What the constraints ks 0 to ks (l - 1) allow, added up.
unfoldable pub total : Network → (ℕ → ℕ) → ℕ → ℤ
total w ks zero = pos 0
total w ks (suc l) = total w ks l +ℤ w.most (ks l)

-- The constraints ks 0 to ks (l - 1), at least one, are a closed chain with a negative sum: each ends at the event where the next begins, the last ends where
-- the first begins, and no event is met twice.
pub record Chain (w : Network) (l : ℕ) (ks : ℕ → ℕ) : Type 0 where
  pub some : 0 < l
  pub known : (a : ℕ) → a < l → ks a < w.size
  pub linked : (a : ℕ) → a + 1 < l → w.to (ks a) ≡ w.from (ks (a + 1))
  pub closed : (a : ℕ) → a + 1 ≡ l → w.to (ks a) ≡ w.from (ks 0)
  pub once : (a b : ℕ) → a < b → b < l → w.from (ks a) ≡ w.from (ks b) → ⊥
  pub negative : total w ks l <ℤ pos 0
