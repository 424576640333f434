-- Solving has one answer but for the chain: a chain leaves no times, and the latest times are one. Assumes nothing.
use Prim.Native.Nat.{ℕ, ◌≤◌, ◌<◌}
use mathlib.Core.Path.{◌≡◌, refl, sym, ◌∙◌, subst}
use mathlib.Core.List.{List}
use mathlib.Core.Logic.{◌⊎◌, inl, inr, ⊎_elim}
use native.Mathlib.Omega.{arith}
use lib.IntN.{ℤ, pos}
use lib.ListN.{length, take}
use lib.Seq.{ext_get_or, length-take-le, get_or-take}
use Rattle.std.specs.Prelude.{true, Option, Some, None, Result, Ok, Err}
use Rattle.basics.specs.declared.Cause.TheVariants as cause
use Rattle.basics.specs.declared.Refusal.{Refusal}
use Rattle.basics.specs.Refusals.{OneFault}
use Rattle.basics.proofs.Refusals.{unless_one, then_one, same_refusal}
use Rattle.basics.proofs.Splits.{lt_or_ge}
use Rattle.network.specs.Network.{Times, Keeps}
use Rattle.network.specs.Constraints.{times_of, numbers_of, network_of}
use Rattle.network.proofs.Judging.{network_one}
use Rattle.network.proofs.Theorems.{chains_refute_times, latest_times_are_one}
use Rattle.claims.specs.Claims.{IsChain}
use Rattle.claims.proofs.OneAnswer.{test_times_one_answer, test_chain_one_answer, each_kept}
use Rattle.solver.specs.Solving.{solve_refusals, GivesTimes, GivesChain, SolvesWith}
use Rattle.solver.specs.Theorems.{GaveChain, BothChains, SolveOneAnswer, ChainsExactlyWithoutTimes, SolvedPassesTheTests}
use Rattle.solver.proofs.Ends.{same_chain}

pub solve_one : (n : ℕ) (ws : List ℤ) (room : ℕ) → OneFault (solve_refusals n ws room)
solve_one n ws room = then_one (network_one n ws) (unless_one cause.NoRoom (n ≤ room))

-- The times of two answers.
same_times : {n : ℕ} {ws t u : List ℤ} → GivesTimes n ws t → GivesTimes n ws u → t ≡ u
same_times {n} {ws} {t} {u} x y =
    ext_get_or (pos 0) t u (x.long ∙ sym y.long)
    (λ v z.
    ⊎_elim
    (λ (q : v < n). latest_times_are_one n (network_of ws) (times_of t) (times_of u) x.latest y.latest v q)
    (λ (q : n ≤ v). x.unused v q ∙ sym (y.unused v q))
    (lt_or_ge v n))

not_both : {n l : ℕ} {ws t : List ℤ} {before after : List ℕ} → GivesTimes n ws t → GivesChain n ws l before after → ⊥
not_both {l = l} {ws} {t} {after = after} x y = chains_refute_times (network_of ws) l (numbers_of after) (times_of t) y.chain x.latest.keeps

one : (n : ℕ) (ws : List ℤ) (before : List ℕ) (o p : Result (Option ℕ) Refusal) (t u : List ℤ) (after after' : List ℕ)
    → SolvesWith n ws before o t after → SolvesWith n ws before p u after'
    → (t ≡ u) × (((o ≡ p) × (after ≡ after')) ⊎ BothChains o p after after')
one n ws before (Ok None) (Ok None) t u after after' x y = (same_times x.1 y.1, inl (refl, x.2 ∙ sym y.2))
one n ws before (Ok None) (Ok (Some l)) t u after after' x y = absurd (not_both x.1 y.1)
one n ws before (Ok (Some l)) (Ok None) t u after after' x y = absurd (not_both y.1 x.1)
one n ws before (Ok (Some l)) (Ok (Some m)) t u after after' x y = (
  x.2 ∙ sym y.2,
  inr (record { one = l; other = m; first = refl; second = refl; past = λ a h k. x.1.rest a h ∙ sym (y.1.rest a k); long = x.1.long ∙ sym y.1.long }),
)
one n ws before (Ok None) (Err f) t u after after' x y = absurd ((solve_one n ws (length before)).none x.0 y.0)
one n ws before (Ok (Some l)) (Err f) t u after after' x y = absurd ((solve_one n ws (length before)).none x.0 y.0)
one n ws before (Err e) (Ok None) t u after after' x y = absurd ((solve_one n ws (length before)).none y.0 x.0)
one n ws before (Err e) (Ok (Some l)) t u after after' x y = absurd ((solve_one n ws (length before)).none y.0 x.0)
one n ws before (Err e) (Err f) t u after after' x y =
    let due = (solve_one n ws (length before)).one x.0 y.0 in
    (x.1 ∙ sym y.1, inl (same_refusal due.0 due.1, x.2 ∙ sym y.2))

pub solve_one_answer : SolveOneAnswer
solve_one_answer n ws before a b after after' x y = one n ws before a.outcome b.outcome a.times b.times after after' x y

-- Which outcomes there can be where no times exist.
without_times_lem : (n : ℕ) (ws : List ℤ) (before : List ℕ) (o : Result (Option ℕ) Refusal) (t : List ℤ) (after : List ℕ)
    → SolvesWith n ws before o t after → (solve_refusals n ws (length before)).Clear → ((s : Times) → Keeps (network_of ws) s → ⊥) → GaveChain o
without_times_lem n ws before (Ok None) t after x c h = absurd (h (times_of t) x.1.latest.keeps)
without_times_lem n ws before (Ok (Some l)) t after x c h = (l, refl)
without_times_lem n ws before (Err e) t after x c h = absurd ((solve_one n ws (length before)).none c x.0)

pub chains_exactly_without_times : ChainsExactlyWithoutTimes
chains_exactly_without_times =
    record {
      refutes = λ n ws before a after x g t k.
          chains_refute_times (network_of ws) g.0 (numbers_of after) t (subst (λ o. SolvesWith n ws before o a.times after) g.1 x).1.chain k;
      found = λ n ws before a after x c h. without_times_lem n ws before a.outcome a.times after x c h;
    }

-- The chain in the first words is the list of them.
listed : {n l : ℕ} {ws : List ℤ} {before after : List ℕ} → n ≤ length before → GivesChain n ws l before after → IsChain ws (take l after)
listed {l = l} {ws} {after = after} h y =
    let e : length (take l after) ≡ l = length-take-le l after (omega (arith, y.short, y.long)) in
    rw e (same_chain (network_of ws) l (numbers_of after) (numbers_of (take l after)) (λ a z. get_or-take l after a 0 z) y.chain)

pub solved_passes_the_tests : SolvedPassesTheTests
solved_passes_the_tests =
    record {
      kept = λ n ws before a after r x e t.
          let y = subst (λ o. SolvesWith n ws before o a.times after) e x in
          test_times_one_answer n ws a.times r (Ok None) t
          (y.0.0, each_kept n ws a.times y.0.0 (omega (arith, y.1.long, y.0.0.size.events)) y.1.latest.keeps);
      chain = λ n ws before a after l r x e t.
          let y = subst (λ o. SolvesWith n ws before o a.times after) e x in
          test_chain_one_answer n ws (take l after) r (Ok true) t (y.0.0, listed y.0.1 y.1);
    }
