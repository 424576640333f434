-- What each stage of a call found, carried to the call's statement: by the equation that a match gives, from the relation of the lower call. Assumes nothing.
use Rattle.std.specs.Prelude.{Result, Ok, Err}
use Rattle.basics.specs.declared.Refusal.{Refusal}
use Prim.Native.Nat.{ℕ, ◌≤◌}
use mathlib.Core.Path.{◌≡◌, refl, sym, ap, subst}
use mathlib.Core.List.{List}
use mathlib.Core.Logic.{◌⊎◌, inl, inr}
use native.Mathlib.Omega.{arith}
use lib.ListN.{length, take}
use Rattle.files.specs.declared.Returned.{Returned}
use Rattle.numbers.specs.Number.{max_word}
use Rattle.numbers.proofs.Overlay.{overlaid_length, overlaid_taken}
use Rattle.table.specs.Layout.{max_table_words, max_legs, first_layout, SizedIn, Sized}
use Rattle.table.specs.declared.Move.{Move}
use Rattle.table.proofs.Sizes.{table_words_at_most}
use Rattle.files.specs.Reading.{IsFile}
use Rattle.files.specs.Plan.{PlanFaultIn, PlanUnreadIn, InFront, WritesPlan}
use Rattle.files.specs.Theorems.{max_file_bytes}
use Rattle.files.specs.declared.Cursor.{Cursor}
use Rattle.files.proofs.ComeBack.{file_bytes_at_most}
use Rattle.places.specs.Order.{places_below}
use Rattle.places.proofs.Ranks.{below_mono, places_at_most}
use Rattle.shape.specs.Shape.{WellFormedTable}
use Rattle.checker.proofs.Moving.{shape_moved}
use Rattle.checker.specs.Slices.{Starts}
use Rattle.checker.specs.Moves.{Moves, MoveRight}
use Rattle.editions.specs.Converted.{converted}
use Rattle.editions.specs.Reading.{ReadsFirst}
use Rattle.editions.proofs.Wider.{first_older, converted_sized}
use Rattle.editions.proofs.Answers.{first_gives_tables}
use Rattle.host.specs.declared.Answer.{Answer}
use Rattle.host.specs.Answers.{refusal}
use Rattle.host.specs.Calls.{Lent, WritesFile, HostConverts, HostMoves}
use Rattle.host.specs.Steps.{Small, MovesFrom}
use Rattle.host.proofs.Laws.{first_fault_small}

-- What is said of the table of a file is carried on.
pub of_its_table : {A : Type 0} {File R Then : List ℕ → Type 0} → ((t : List ℕ) → R t → Then t) → A ⊎ ((t : List ℕ) × File t × R t) → A ⊎ ((t : List ℕ) × File t × Then t)
of_its_table f (inl u) = inl u
of_its_table f (inr (t, i, x)) = inr (t, i, f t x)

-- A plan file was read, and its table moved.
pub move_on : {s w q : List ℕ} {n : ℕ} {mv : Move} {m m' : Lent} {a : Answer} → InFront s n w → MovesFrom (take n w) q mv m a m' → HostMoves s q mv m a m'
move_on {q = q} {mv = mv} {m = m} {m' = m'} {a = a} f x = inr (f.table, f.file, subst (λ (t : List ℕ). MovesFrom t q mv m a m') f.is x)

-- A start was granted.
module _ {t : List ℕ} {g : Result Cursor Returned} where
  pub started_shape : {d : Cursor} → g ≡ Ok d → Starts t g → WellFormedTable t
  started_shape e h = (subst (Starts t) e h).0

-- The table of a granted start. It has so few legs that the number of its places is a word.
pub record GoodTable : Type 0 where
  pub table : List ℕ
  pub shape : WellFormedTable table

pub few_places : {n legs : ℕ} → n ≡ places_below legs → legs ≤ max_legs → n ≤ max_word
few_places {n} {legs} e h = omega (arith, e, below_mono legs max_legs h, places_at_most)

-- A move was granted.
module _ (t : List ℕ) (c : Cursor) (mv : Move) {g : Result Cursor Returned} (u : List ℕ) where
  pub moved_sized : {d : Cursor} → g ≡ Ok d → Moves t c mv g u → Sized u
  moved_sized {d} e h =
      let r : MoveRight t c mv d u = subst (λ (x : Result Cursor Returned). Moves t c mv x u) e h in
      subst Sized (sym r.table) (shape_moved r.allowed.cursor.shape r.allowed.can).sized

-- A plan file was written.
module _ {t : List ℕ} (file file' : List ℕ) {r : Result ℕ Refusal} where
  pub file_small : {n : ℕ} → Sized t → r ≡ Ok n → WritesPlan t file r file' → n ≤ max_file_bytes
  file_small z e h = omega (arith, (subst (λ (y : Result ℕ Refusal). WritesPlan t file y file') e h).1.count, file_bytes_at_most.1 t z)

-- A plan file of the first layout was read: what its table becomes lies in the first words; or a fault of the file, since there is room for every table.
pub record InFrontOfFirst (s : List ℕ) (n : ℕ) (w : List ℕ) : Type 0 where
  pub table : List ℕ
  pub file : IsFile (SizedIn first_layout) s table
  pub is : take n w ≡ converted first_layout table
  pub inside : n ≤ length w
  pub sized : Sized (take n w)

module _ (s w w' : List ℕ) {r : Result ℕ Refusal} where
  pub first_front : {n : ℕ} → r ≡ Ok n → ReadsFirst s w r w' → InFrontOfFirst s n w'
  first_front {n} e h = given n (subst (λ (y : Result ℕ Refusal). ReadsFirst s w y w') e h)
    where
      given : (n : ℕ) → ReadsFirst s w (Ok n) w' → InFrontOfFirst s n w'
      given n (u, f, l) =
          let c = l.count in
          let a = l.after in
          let long = overlaid_length w 0 (converted first_layout u) (omega (arith, l.room, l.count)) in
          record {
            table = u;
            file = f;
            is = rw (c, a) (overlaid_taken w (converted first_layout u));
            inside = omega (arith, l.room, ap length a, long);
            sized = (first_gives_tables s w w' n (u, f, l)).0;
          }

  pub first_fault : {q : Refusal} → r ≡ Err q → max_table_words ≤ length w → ReadsFirst s w r w' → PlanFaultIn first_layout s q.cause q.at
  first_fault {q} e room h = fault (subst (λ (y : Result ℕ Refusal). ReadsFirst s w y w') e h).0
    where
      fault : PlanUnreadIn first_layout (converted first_layout) s (length w) q.cause q.at → PlanFaultIn first_layout s q.cause q.at
      fault (inl f) = f
      fault (inr x) = absurd (omega (arith, room, x.2.long, table_words_at_most.1 _ (converted_sized first_older x.2.table x.2.file.complete)))

  pub first_small : {q : Refusal} → r ≡ Err q → max_table_words ≤ length w → ReadsFirst s w r w' → Small q.cause q.at
  first_small {q} e room h = first_fault_small s q.cause q.at (first_fault e room h)

  module _ {file : List ℕ} {a : Answer} where
    pub convert_refused : {q : Refusal} → r ≡ Err q → max_table_words ≤ length w → ReadsFirst s w r w' → a ≡ refusal q.cause q.at → HostConverts s file a file
    convert_refused {q} e room h f = inl (record { cause = q.cause; at = q.at; fault = first_fault e room h; answer = f; kept = refl })

    pub convert_on : {file' : List ℕ} {n : ℕ} → r ≡ Ok n → ReadsFirst s w r w' → WritesFile (take n w') file a file' → HostConverts s file a file'
    convert_on {file'} e h x = let f = first_front e h in inr (f.table, f.file, subst (λ (t : List ℕ). WritesFile t file a file') f.is x)
