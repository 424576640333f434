-- How the refusals of a gate list for C are numbered; and how long its list and its file are at most. Assumes nothing.
use Rattle.std.specs.Prelude.{Result, Ok}
use Rattle.basics.specs.Cause.{number_of}
use Rattle.basics.specs.declared.Cause.{Cause}
use Rattle.basics.specs.declared.Refusal.{Refusal}
use Prim.Native.Nat.{ℕ, ◌*◌, ◌≤◌, ◌<◌}
use mathlib.Core.Bool.{Bool}
use mathlib.Core.Path.{◌≡◌, ap, subst}
use mathlib.Core.List.{List}
use mathlib.Core.Logic.{◌⊎◌, inl, inr}
use native.Mathlib.Omega.{arith}
use lib.ListN.{length}
use borrow.Author.Tests.{lt-ltb, le-ltb}
use Rattle.basics.specs.Pick.{pick}
use Rattle.numbers.specs.Number.{max_word}
use Rattle.numbers.proofs.Rows.{file_length}
use Rattle.shape.specs.Shape.{ShapeFault}
use Rattle.gates.specs.Pairs.{max_pairs}
use Rattle.gate_lists.specs.GateList.{IsGateList}
use Rattle.gate_lists.specs.Lists.{list_refusals, WritesGateList}
use Rattle.gate_lists.specs.Theorems.{max_list_bytes}
use Rattle.gate_lists.proofs.OneAnswer.{one_gate_list}
use Rattle.host.specs.GateLists.{in_word}

-- A number as a word holds it.
pub in_word_small : (n : ℕ) → n ≤ max_word → in_word n ≡ n
in_word_small n h = ap (λ (b : Bool). pick b max_word n) (le-ltb max_word n h)

pub in_word_large : (n : ℕ) → max_word < n → in_word n ≡ max_word
in_word_large n h = ap (λ (b : Bool). pick b max_word n) (lt-ltb max_word n h)

-- A gate list of a table is refused as the shape is; or at 0, with 15, 19 or 21 to 23.
abbrev pub OfList : ℕ → Type 0
OfList k = (k ≡ 15) ⊎ ((k ≡ 19) ⊎ ((21 ≤ k) × (k ≤ 23)))

pub list_cause : (t : List ℕ) (l room : ℕ) (k : Cause) (p : ℕ) → (list_refusals t l room).Fault k p → ShapeFault t k p ⊎ (OfList (number_of k) × (p ≡ 0))
list_cause t l room k p (inl (inl f)) = inl f
list_cause t l room k p (inl (inr (s, inl f))) = inr (inr (inr (omega (arith, ap number_of f.0), omega (arith, ap number_of f.0))), f.1)
list_cause t l room k p (inl (inr (s, inr (n, f)))) = inr (inr (inl (ap number_of f.0)), f.1)
list_cause t l room k p (inr (m, inl (inl f))) = inr (inr (inr (omega (arith, ap number_of f.0), omega (arith, ap number_of f.0))), f.1)
list_cause t l room k p (inr (m, inl (inr (c, f)))) = inr (inr (inr (omega (arith, ap number_of f.0), omega (arith, ap number_of f.0))), f.1)
list_cause t l room k p (inr (m, inr (c, f))) = inr (inl (ap number_of f.0), f.1)

-- The gate list that is written has at most 1,024 pairs, and so its file has at most 10,240 bytes.
pub written_few : (t : List ℕ) (l : ℕ) (b b' ws : List ℕ) (n : ℕ) → IsGateList t l ws → WritesGateList t l b (Ok n) b' → length ws ≤ 2 * max_pairs
written_few t l b b' ws n g w =
    let few = w.0.1.0.1 in omega (arith, few.few, ap length (one_gate_list t l ws few.list g few.is))

-- The gate list of a table was written.
module _ (t : List ℕ) (l : ℕ) (b b' : List ℕ) {r : Result ℕ Refusal} where
  this_written : (x : Result ℕ Refusal) → r ≡ x → WritesGateList t l b r b' → WritesGateList t l b x b'
  this_written x e h = subst (λ (y : Result ℕ Refusal). WritesGateList t l b y b') e h

  pub listed_small : {n : ℕ} → r ≡ Ok n → WritesGateList t l b r b' → n ≤ max_list_bytes
  listed_small {n} e h =
      let w = this_written (Ok n) e h in
      let ws = w.1.0 in
      omega (arith, w.1.2.count, file_length ws, written_few t l b b' ws n w.1.1 w)
