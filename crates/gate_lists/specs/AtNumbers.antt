-- Gate lists at numbers.
use Rattle.std.specs.Prelude.{ℕ, zero, suc, ◌+◌, ◌≤◌, ◌≡◌, List, [], ◌∷◌, length, Ok}
use Rattle.basics.specs.Cause.{refused}
use Rattle.basics.specs.declared.Cause.TheVariants as cause
use Rattle.numbers.specs.Series.{file_of, overlaid}
use Rattle.table.specs.PlanA.{plan_with, like_a, offsets_a, plan_a, hold_a}
use Rattle.gate_lists.specs.GateList.{CycleOf, IsGateList}
use Rattle.gate_lists.specs.Lists.{WritesGateList}

-- Plan A with leg 2 at 672. On link 0 leg 0 holds from 0 up to 672 in each period of 100,000, and leg 2 from 672 up to 1,344 in each of 150,000.
abbrev pub accepted_a : List ℕ
accepted_a = plan_with (offsets_a 0 1176 hold_a)

abbrev pub list_of_a : List ℕ
list_of_a = 128 ∷ 1344 ∷ 127 ∷ 98656 ∷ 128 ∷ 672 ∷ 127 ∷ 50000 ∷ 128 ∷ 672 ∷ 127 ∷ 48656 ∷ 128 ∷ 672 ∷ 127 ∷ 99328 ∷ []

-- One link, of 1 Gb/s and 500 ns: without a stream, and with one whose period is as long as its frame holds the link.
abbrev pub empty_link : List ℕ
empty_link = 0 ∷ 1 ∷ 0 ∷ 0 ∷ 0 ∷ 1 ∷ 2 ∷ 8 ∷ 500 ∷ []

abbrev pub full_link : List ℕ
full_link = 0 ∷ 1 ∷ 1 ∷ 1 ∷ 0 ∷ 1 ∷ 2 ∷ 8 ∷ 500 ∷ 672 ∷ 1076 ∷ 64 ∷ 0 ∷ 1 ∷ 0 ∷ 0 ∷ 0 ∷ 0 ∷ []

-- Plan A with periods of 2,000 and 1,024,000 ns, all legs so much later: leg 0 holds link 0 512 times in a cycle, and leg 2 begins when its first hold ends.
abbrev pub comb : ℕ → List ℕ
comb later = plan_with (like_a 0 2000 2352 1024000 later (1176 + later) (hold_a + later))

-- So many holds of leg 0, each with what follows it up to the next.
unfoldable pub teeth : ℕ → List ℕ
teeth zero = []
teeth (suc n) = 128 ∷ 672 ∷ 127 ∷ 1328 ∷ teeth n

abbrev pub list_of_comb : List ℕ
list_of_comb = 128 ∷ 1344 ∷ 127 ∷ 656 ∷ teeth 511

-- Plan A with these periods, leg 2 at this offset.
abbrev pub with_periods : ℕ → ℕ → ℕ → List ℕ
with_periods p q o = plan_with (like_a 0 p 2352 q 0 1176 o)

-- Periods of 700 and 800 ms, whose least common multiple is 5,600 ms.
abbrev pub slow_a : List ℕ
slow_a = with_periods 700000000 800000000 hold_a

-- Two periods of one second, and a pair whose least common multiple is one second and one nanosecond: leg 2 would hold link 0 52,579 times in it.
abbrev pub second_a : List ℕ
second_a = with_periods 1000000000 1000000000 hold_a

abbrev pub just_past_a : List ℕ
just_past_a = with_periods 76923077 19019 hold_a

pub record GateListsAtNumbers : Type 0 where
  -- Plan A with leg 2 at 672: link 0 has a cycle of 300,000 and these eight pairs, in a file of 32 bytes; link 1 has three.
  pub cycle_of_a : CycleOf accepted_a 0 300000
  pub link_0 : IsGateList accepted_a 0 list_of_a
  pub bytes : length (file_of list_of_a) ≡ 32
  pub written : (b : List ℕ) → 32 ≤ length b → WritesGateList accepted_a 0 b (Ok 32) (overlaid b 0 (file_of list_of_a))
  pub link_1 : IsGateList accepted_a 1 (127 ∷ 1176 ∷ 128 ∷ 672 ∷ 127 ∷ 98152 ∷ [])
  -- A link without legs, and one that is held all the time.
  pub no_legs : IsGateList empty_link 0 []
  pub held_always : IsGateList full_link 0 (128 ∷ 672 ∷ [])
  -- 1,024 pairs are a list. One nanosecond later the cycle begins with a pair more, of 1 ns, and 1,025 are refused, whatever the room.
  pub pairs_1024 : IsGateList (comb 0) 0 list_of_comb × (length list_of_comb ≡ 2048)
  pub written_1024 : (b : List ℕ) → length (file_of list_of_comb) ≤ length b → WritesGateList (comb 0) 0 b (Ok (length (file_of list_of_comb))) (overlaid b 0 (file_of list_of_comb))
  pub pairs_1025 : (b : List ℕ) → WritesGateList (comb 1) 0 b (refused cause.TooManyPairs 0) b
  -- There are two links. 23 comes before 19: Plan A itself is not accepted.
  pub no_link_is : (b : List ℕ) → WritesGateList plan_a 2 b (refused cause.NoLink 0) b
  pub not_accepted_lem : (b : List ℕ) → WritesGateList plan_a 0 b (refused cause.NotAccepted 0) b
  -- The cycle passes 1,000,000,000. On link 1, where leg 1 is alone, it does not.
  pub long_cycle_is : (b : List ℕ) → WritesGateList slow_a 0 b (refused cause.LongCycle 0) b
  pub own_cycle : CycleOf slow_a 1 700000000
  -- A cycle of just 1,000,000,000 is taken, and one of 1,000,000,001 is not. 21 comes before 22, and 19 before 21: with leg 2 at 0 the plan is not accepted.
  pub just_short : (b : List ℕ) → 10 ≤ length b → WritesGateList second_a 0 b (Ok 10) (overlaid b 0 (file_of (128 ∷ 1344 ∷ 127 ∷ 999998656 ∷ [])))
  pub just_long : (b : List ℕ) → WritesGateList just_past_a 0 b (refused cause.LongCycle 0) b
  pub nineteen_first : (b : List ℕ) → WritesGateList (with_periods 700000000 800000000 0) 0 b (refused cause.NotAccepted 0) b
  -- 31 bytes are one too few.
  pub no_room_lem : (b : List ℕ) → length b ≡ 31 → WritesGateList accepted_a 0 b (refused cause.NoRoom 0) b
  -- Without words there is no table, and 1 comes first.
  pub no_table : (b : List ℕ) → WritesGateList [] 0 b (refused cause.NoHeader 0) b
