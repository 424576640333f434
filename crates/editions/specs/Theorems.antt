-- What is proved of files and tables of the first layout.
use Rattle.std.specs.Prelude.{ℕ, ◌+◌, ◌*◌, ◌<◌, ◌≡◌, List, length, get_or, take, Result, Ok}
use Rattle.basics.specs.declared.Refusal.{Refusal}
use Rattle.numbers.specs.Series.{AllWords}
use Rattle.table.specs.Layout.{first_layout, head_words, link_words, stream_words, leg_words, revision_of, link_count, stream_count, leg_count, precision_of, leg_start_in, SizedIn, Sized}
use Rattle.table.specs.Records.{link_at, stream_at, leg_at}
use Rattle.table.specs.declared.Leg.{Leg}
use Rattle.files.specs.Reading.{IsFile}
use Rattle.rules.specs.Rules.{RulesHold}
use Rattle.editions.specs.Converted.{converted}
use Rattle.editions.specs.Reading.{ReadsFirst}
use Rattle.editions.specs.First.{FirstLeg, first_link_at, first_stream_at, first_leg_at}
use Rattle.editions.specs.FirstRules.{FirstRulesHold}

-- Reading a file of the first layout has one answer and leaves one memory.
abbrev pub ReadFirstOneAnswer : Type 0
ReadFirstOneAnswer =
    (s b b' b'' : List ℕ) (r r' : Result ℕ Refusal) → ReadsFirst s b r b' → ReadsFirst s b r' b'' → (r ≡ r') × (b' ≡ b'')

-- What is given is a table of today, of words.
abbrev pub FirstGivesTables : Type 0
FirstGivesTables = (s b b' : List ℕ) (n : ℕ) → ReadsFirst s b (Ok n) b' → Sized (take n b') × AllWords (take n b')

-- What the table u becomes, word by word: every word of u is there, up to the legs where it was, and after each leg's three words stands 0.
pub record OldWordsAndZeros (u : List ℕ) : Type 0 where
  pub long : length (converted first_layout u) ≡ head_words + link_words * link_count u + stream_words * stream_count u + leg_words * leg_count u
  pub up_to_the_legs : (i : ℕ) → i < leg_start_in first_layout u → get_or (converted first_layout u) i 0 ≡ get_or u i 0
  pub own : (a k : ℕ) → a < leg_count u → k < first_layout.leg
      → get_or (converted first_layout u) (leg_start_in first_layout u + (leg_words * a + k)) 0 ≡ get_or u (leg_start_in first_layout u + (first_layout.leg * a + k)) 0
  pub new : (a : ℕ) → a < leg_count u → get_or (converted first_layout u) (leg_start_in first_layout u + (leg_words * a + first_layout.leg)) 0 ≡ 0

-- The leg of today that a leg of the first layout becomes: it lies in its own period.
abbrev pub in_its_period : FirstLeg → Leg
in_its_period l = record { stream = l.stream; link = l.link; offset = l.offset; periods = 0 }

-- The same record by record.
pub record OldRecords (u : List ℕ) : Type 0 where
  pub revision : revision_of (converted first_layout u) ≡ revision_of u
  pub link_count_is : link_count (converted first_layout u) ≡ link_count u
  pub stream_count_is : stream_count (converted first_layout u) ≡ stream_count u
  pub leg_count_is : leg_count (converted first_layout u) ≡ leg_count u
  pub precision : precision_of (converted first_layout u) ≡ precision_of u
  pub link : (i : ℕ) → link_at (converted first_layout u) i ≡ first_link_at u i
  pub stream : (i : ℕ) → stream_at (converted first_layout u) i ≡ first_stream_at u i
  pub leg : (i : ℕ) → leg_at (converted first_layout u) i ≡ in_its_period (first_leg_at u i)

abbrev pub ConvertedKeepsWords : Type 0
ConvertedKeepsWords = (u : List ℕ) → SizedIn first_layout u → OldWordsAndZeros u × OldRecords u

-- The rules hold of what u becomes exactly when they hold of the numbers of u.
abbrev pub ConvertedKeepsRules : Type 0
ConvertedKeepsRules =
    (u : List ℕ) → SizedIn first_layout u
    → (RulesHold (converted first_layout u) → FirstRulesHold u) × (FirstRulesHold u → RulesHold (converted first_layout u))

-- The two layouts cannot be taken for each other where there is a leg: a file of the one is no file of the other. Where there is none they are the same.
pub record LayoutsPart : Type 0 where
  pub with_a_leg : (s t u : List ℕ) → IsFile (SizedIn first_layout) s u → 0 < leg_count u → IsFile Sized s t → ⊥
  pub to_today : (s u : List ℕ) → leg_count u ≡ 0 → IsFile (SizedIn first_layout) s u → IsFile Sized s u × (converted first_layout u ≡ u)
  pub from_today : (s u : List ℕ) → leg_count u ≡ 0 → IsFile Sized s u → IsFile (SizedIn first_layout) s u
