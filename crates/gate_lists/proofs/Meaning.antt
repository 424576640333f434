-- 21, 22 and 15 mean that the cycle, the list or its file is too long, since every link of an accepted table has a cycle and a list. Assumes nothing.
use Prim.Native.Nat.{ℕ, ◌*◌, ◌<◌}
use mathlib.Core.Path.{ap}
use mathlib.Core.List.{List}
use mathlib.Core.Logic.{inl, inr}
use lib.ListN.{length}
use native.Mathlib.Nat.{lt_of_not-le}
use native.Mathlib.Omega.{arith}
use Rattle.basics.specs.Cause.{number_of, refused}
use Rattle.basics.specs.declared.Cause.TheVariants as cause
use Rattle.numbers.specs.Series.{file_of}
use Rattle.checker.specs.Accepted.{Accepted}
use Rattle.gates.specs.Pairs.{max_pairs, max_cycle}
use Rattle.gate_lists.specs.GateList.{CycleOf, IsGateList}
use Rattle.gate_lists.specs.Lists.{MayList, WritesGateList}
use Rattle.gate_lists.specs.Theorems.{ListRefusalsMean}
use Rattle.gate_lists.proofs.Refused.{not_before}
use Rattle.gate_lists.proofs.Existing.{gate_lists_exist}

module _ (t : List ℕ) (l : ℕ) where
  accepted : MayList t l → Accepted t
  accepted m = record { shape = m.shape; rules = m.rules }

  long : (p : ℕ) (b b' : List ℕ) → WritesGateList t l b (refused cause.LongCycle p) b' → (c : ℕ) × CycleOf t l c × (max_cycle < c)
  long p b b' (inl f, _) = absurd (not_before t l cause.LongCycle p (omega arith) (λ e. omega (arith, ap number_of e)) (λ e. omega (arith, ap number_of e)) f)
  long p b b' (inr (m, inl (inl f)), _) =
      let c = gate_lists_exist.cycle t l (accepted m) in
      (c.0, c.1, lt_of_not-le (λ h. f.2 (record { cycle = c.0; is = c.1; short = h })))
  long p b b' (inr (m, inl (inr (c, f))), _) = absurd (omega (arith, ap number_of f.0))
  long p b b' (inr (m, inr (c, f)), _) = absurd (omega (arith, ap number_of f.0))

  many : (p : ℕ) (b b' : List ℕ) → WritesGateList t l b (refused cause.TooManyPairs p) b' → (ws : List ℕ) × IsGateList t l ws × (2 * max_pairs < length ws)
  many p b b' (inl f, _) = absurd (not_before t l cause.TooManyPairs p (omega arith) (λ e. omega (arith, ap number_of e)) (λ e. omega (arith, ap number_of e)) f)
  many p b b' (inr (m, inl (inl f)), _) = absurd (omega (arith, ap number_of f.0))
  many p b b' (inr (m, inl (inr (c, f))), _) =
      let w = gate_lists_exist.list t l (accepted m) in
      (w.0, w.1, lt_of_not-le (λ h. f.2 (record { list = w.0; is = w.1; few = h })))
  many p b b' (inr (m, inr (c, f)), _) = absurd (omega (arith, ap number_of f.0))

  room : (p : ℕ) (b b' : List ℕ) → WritesGateList t l b (refused cause.NoRoom p) b' → (ws : List ℕ) × IsGateList t l ws × (length b < length (file_of ws))
  room p b b' (inl f, _) = absurd (not_before t l cause.NoRoom p (omega arith) (λ e. omega (arith, ap number_of e)) (λ e. omega (arith, ap number_of e)) f)
  room p b b' (inr (m, inl (inl f)), _) = absurd (omega (arith, ap number_of f.0))
  room p b b' (inr (m, inl (inr (c, f))), _) = absurd (omega (arith, ap number_of f.0))
  room p b b' (inr (m, inr (c, f)), _) =
      let w = gate_lists_exist.list t l (accepted m) in
      (w.0, w.1, lt_of_not-le (λ h. f.2 (record { list = w.0; is = w.1; fits = h })))

pub list_refusals_mean : ListRefusalsMean
list_refusals_mean = record { long = long; many = many; room = room }
