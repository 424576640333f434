-- Gate lists at numbers: which lists may be asked for, which are written, and the refusals. Assumes nothing.
use Rattle.std.specs.Prelude.{Ok}
use Prim.Native.Nat.{ℕ, ◌*◌, ◌≤◌}
use mathlib.Core.Path.{◌≡◌, refl, sym, ap}
use mathlib.Core.List.{List, [], ◌∷◌}
use mathlib.Core.Logic.{inl, inr}
use lib.ListN.{length}
use native.Mathlib.Nat.{dvd-sub, le_of_dvd}
use native.Mathlib.Omega.{arith}
use Rattle.numbers.specs.Series.{file_of, overlaid}
use Rattle.numbers.proofs.Computed.{file_is}
use Rattle.shape.proofs.AtNumbers.{plan_a_is_well_formed}
use Rattle.gates.specs.Pairs.{max_pairs}
use Rattle.gate_lists.specs.GateList.{SlotOn, CycleOf, IsGateList}
use Rattle.gate_lists.specs.Lists.{MayList, ShortCycle, FewPairs, HasRoom, WritesGateList}
use Rattle.gate_lists.specs.AtNumbers.{accepted_a, list_of_a, comb, list_of_comb, slow_a, second_a, GateListsAtNumbers}
use Rattle.gate_lists.proofs.OneAnswer.{one_gate_list}
use Rattle.gate_lists.proofs.TwoSlots.{Two, cycle_is, multiple}
use Rattle.gate_lists.proofs.ShortFrames.{slot}
use Rattle.gate_lists.proofs.LikeA as like
use Rattle.gate_lists.proofs.RulesLikeA as rules-like
use Rattle.gate_lists.proofs.ListOfA as list-of-a
use Rattle.gate_lists.proofs.Comb as comb-list
use Rattle.gate_lists.proofs.LongCycles as limits

-- The divisors of the periods are 50,000, 2,000 and 100,000,000.
may_a : MayList accepted_a 0
may_a =
    rules-like.may_list 100000 150000 0 50000 (record { left = ∣ (2, refl) ∣₁; right = ∣ (3, refl) ∣₁; greatest = λ e p q. dvd-sub e q p }) (omega arith)
    (omega arith, omega arith) (omega arith, omega arith) 0 (omega arith)

may_comb : (later : ℕ) → later ≤ 1 → MayList (comb later) 0
may_comb later h =
    rules-like.may_list 2000 1024000 later 2000 (record { left = ∣ (1, refl) ∣₁; right = ∣ (512, refl) ∣₁; greatest = λ e p q. p }) (omega arith)
    (omega arith, omega arith) (omega arith, omega arith) 0 (omega arith)

may_slow : MayList slow_a 0
may_slow =
    rules-like.may_list 700000000 800000000 0 100000000 (record { left = ∣ (7, refl) ∣₁; right = ∣ (8, refl) ∣₁; greatest = λ e p q. dvd-sub e q p }) (omega arith)
    (omega arith, omega arith) (omega arith, omega arith) 0 (omega arith)

-- The periods of 700 and 800 ms have no common multiple below 5,600 ms but 0.
slots_0 : Two (SlotOn slow_a 0) (slot 0 700000000) (slot 672 800000000)
slots_0 = like.link_0 700000000 800000000 0 672

long : ShortCycle slow_a 0 → ⊥
long s =
    let common = s.is.common.divides in
    let d = multiple 7 700000000 800000000 s.cycle refl (common _ slots_0.first) (common _ slots_0.second) in
    omega (arith, s.short, le_of_dvd s.is.positive d)

slow_cycle_1 : CycleOf slow_a 1 700000000
slow_cycle_1 = cycle_is (like.link_1 700000000 800000000 0 672) 700000000 (omega arith) ∣ (1, refl) ∣₁ ∣ (1, refl) ∣₁ (λ m p q. p)

bytes_a : length (file_of list_of_a) ≡ 32
bytes_a = ap length (file_is list_of_a)

-- Where the cycle is short and the list has few pairs, it is written with room.
module _ (t : List ℕ) (l : ℕ) (ws : List ℕ) (short : ShortCycle t l) (list : IsGateList t l ws) (few : length ws ≤ 2 * max_pairs) where
  within : ShortCycle t l × FewPairs t l
  within = (short, record { list = ws; is = list; few = few })

  written : (n : ℕ) (b : List ℕ) → MayList t l → n ≡ length (file_of ws) → n ≤ length b → WritesGateList t l b (Ok n) (overlaid b 0 (file_of ws))
  written n b may size room = ((may, (within, record { list = ws; is = list; fits = omega arith })), (ws, list, record { count = size; room = omega arith; after = refl }))

short_a : ShortCycle accepted_a 0
short_a = record { cycle = 300000; is = list-of-a.cycle_0; short = omega arith }

short_comb : (later : ℕ) → ShortCycle (comb later) 0
short_comb later = record { cycle = 1024000; is = comb-list.cycle later; short = omega arith }

no_room_lem : (b : List ℕ) → length b ≡ 31 → HasRoom accepted_a 0 (length b) → ⊥
no_room_lem b e r = omega (arith, r.fits, bytes_a, ap (λ (ws : List ℕ). length (file_of ws)) (one_gate_list accepted_a 0 r.list list_of_a r.is list-of-a.list_0))

pub gate_lists_at_numbers : GateListsAtNumbers
gate_lists_at_numbers = record {
  cycle_of_a = list-of-a.cycle_0;
  link_0 = list-of-a.list_0;
  bytes = bytes_a;
  written = λ b h. written accepted_a 0 list_of_a short_a list-of-a.list_0 (omega arith) 32 b may_a (sym bytes_a) h;
  link_1 = list-of-a.list_1;
  no_legs = list-of-a.empty_list;
  held_always = list-of-a.full_list;
  pairs_1024 = (comb-list.list, comb-list.words);
  written_1024 = λ b h. written (comb 0) 0 list_of_comb (short_comb 0) comb-list.list (omega (arith, comb-list.words)) _ b (may_comb 0 (omega arith)) refl h;
  pairs_1025 = λ b. (inr (may_comb 1 (omega arith), inl (inr (short_comb 1, (refl, refl, λ f. comb-list.no_few f.list f.is f.few)))), refl);
  no_link_is = λ b. (inl (inr (plan_a_is_well_formed 0 1176 0, inl (refl, refl, λ h. omega arith))), refl);
  not_accepted_lem = λ b. (inl (inr (plan_a_is_well_formed 0 1176 0, inr (omega arith, (refl, refl, limits.not_accepted_lem 100000 150000)))), refl);
  long_cycle_is = λ b. (inr (may_slow, inl (inl (refl, refl, long))), refl);
  own_cycle = slow_cycle_1;
  just_short = λ b h. written second_a 0 (128 ∷ 1344 ∷ 127 ∷ 999998656 ∷ []) limits.short_second limits.list_second (omega arith) 10 b limits.may_second (sym (ap length (file_is (128 ∷ 1344 ∷ 127 ∷ 999998656 ∷ [])))) h;
  just_long = λ b. (inr (limits.may_past, inl (inl (refl, refl, limits.not_short))), refl);
  nineteen_first = λ b. (inl (inr (like.well_formed 700000000 800000000 0 0 (omega arith, omega arith) (omega arith, omega arith), inr (omega arith, (refl, refl, limits.not_accepted_lem 700000000 800000000)))), refl);
  no_room_lem = λ b e. (inr (may_a, inr (within accepted_a 0 list_of_a short_a list-of-a.list_0 (omega arith), (refl, refl, no_room_lem b e))), refl);
  no_table = λ b. (inl (inl (inl (inl (refl, refl, λ h. omega arith)))), refl);
}
