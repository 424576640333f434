-- What the stages of the call tell. Assumes nothing.
use Rattle.std.specs.Prelude.{Result, Ok, Err}
use Prim.Native.Nat.{ℕ, ◌*◌, ◌≤◌}
use mathlib.Core.Path.{refl, ap, subst}
use mathlib.Core.List.{List}
use mathlib.Core.Logic.{inl, inr}
use lib.ListN.{length, take}
use lib.Seq.{length-take-le}
use native.Mathlib.Omega.{arith}
use Rattle.basics.specs.declared.Refusal.{Refusal}
use Rattle.numbers.specs.Series.{file_of}
use Rattle.gates.specs.Pairs.{max_pairs}
use Rattle.gate_files.specs.ListFiles.{WholePairs, WritesList}
use Rattle.gate_lists.specs.GateList.{IsGateList, without_legs, with_legs}
use Rattle.gate_lists.specs.Lists.{MayList, WritesGateList}
use Rattle.gate_lists.specs.Steps.{ListLies, ListTold}
use Rattle.gate_lists.proofs.OneAnswer.{one_gate_list}

module _ (t : List ℕ) (l : ℕ) where
  -- A gate list is whole pairs.
  pub whole_pairs : (ws : List ℕ) → IsGateList t l ws → WholePairs ws
  whole_pairs ws (without_legs n e) = record { count = 0; words = ap length e }
  whole_pairs ws (with_legs s on c n k r e) = record { count = n; words = e }

  module _ (may : MayList t l) (words : List ℕ) where
    pub list_refused : {e : Refusal} (b : List ℕ) → ListTold t l words (Err e) → WritesGateList t l b (Err e) b
    list_refused b f = (inr (may, inl f), refl)

    pub list_written : (n : ℕ) (b b' : List ℕ) (r : Result ℕ Refusal) → ListLies t l words n → WritesList (take (2 * n) words) b r b' → WritesGateList t l b r b'
    list_written n b b' (Ok m) lies (w, laid) =
        let few : length (take (2 * n) words) ≤ 2 * max_pairs = omega (arith, lies.few, length-take-le (2 * n) words lies.room) in (
          (
            may,
            (
              (lies.short, record { list = take (2 * n) words; is = lies.list; few = few }),
              record { list = take (2 * n) words; is = lies.list; fits = omega (arith, laid.count, laid.room) },
            ),
          ),
          (take (2 * n) words, lies.list, laid),
        )
    list_written n b b' (Err e) lies (inl f, same) = absurd (f.2 (whole_pairs (take (2 * n) words) lies.list))
    list_written n b b' (Err e) lies (inr (w, f), same) =
        let few : length (take (2 * n) words) ≤ 2 * max_pairs = omega (arith, lies.few, length-take-le (2 * n) words lies.room) in (
          inr (
            may,
            inr (
              (lies.short, record { list = take (2 * n) words; is = lies.list; few = few }),
              (f.0, f.1, λ h. f.2 (subst (λ (ws : List ℕ). length (file_of ws) ≤ length b) (one_gate_list t l h.list (take (2 * n) words) h.is lies.list) h.fits)),
            ),
          ),
          same,
        )
