-- Each call for C on gate lists has one answer and leaves one memory, since what it rests on has. Each stage has its refusals. What is written is read back, since list files are. Assumes
-- nothing.
use Rattle.host.proofs.Laws.{number_once}
use Rattle.std.specs.Prelude.{Result, Ok, Err}
use Rattle.basics.specs.Cause.{number_of, refused}
use Rattle.basics.specs.declared.Cause.{Cause}
use Rattle.basics.specs.declared.Cause.TheVariants as cause
use Rattle.basics.specs.declared.Refusal.{Refusal}
use Prim.Native.Nat.{ℕ, ◌*◌, ◌≤◌}
use mathlib.Core.Path.{◌≡◌, refl, ◌∙◌, sym, ap, subst}
use mathlib.Core.List.{List}
use mathlib.Core.Logic.{◌⊎◌, inl, inr, ⊎_elim}
use native.Mathlib.Omega.{arith}
use lib.ListN.{length, take}
use Rattle.numbers.specs.Series.{overlaid}
use Rattle.table.specs.Layout.{Sized}
use Rattle.files.specs.Reading.{IsFile}
use Rattle.files.specs.Plan.{PlanFault}
use Rattle.files.proofs.Refused.{plan_refused}
use Rattle.shape.specs.Shape.{ShapeFault}
use Rattle.shape.proofs.Refused.{sized_refused}
use Rattle.gates.specs.Pairs.{max_pairs}
use Rattle.gate_files.specs.ListFiles.{ReadsList}
use Rattle.gate_files.proofs.OneAnswer.{read_list_one_answer}
use Rattle.gate_files.proofs.Refused.{list_file_refusals_are_these}
use Rattle.gate_lists.specs.GateList.{IsGateList}
use Rattle.gate_lists.specs.Lists.{list_refusals, WritesGateList}
use Rattle.gate_lists.specs.Theorems.{max_list_bytes}
use Rattle.gate_lists.proofs.OneAnswer.{gate_list_one_answer}
use Rattle.gate_lists.proofs.Refused.{list_room_is_enough}
use Rattle.gate_lists.proofs.Words.{gate_lists_come_back}
use Rattle.host.specs.declared.Answer.{Answer}
use Rattle.host.specs.Answers.{refused_result, answered, refusal, result_alone}
use Rattle.host.specs.Theorems.{OneAnswer}
use Rattle.host.specs.GateLists.{gates_answered, ListsGates, HostListsGates, read_gates_answered, HostReadsGates}
use Rattle.host.specs.GateTheorems.{HostGatesOneAnswer, HostReadGatesOneAnswer, HostGateRefusalsWriteNothing, PlanFaultsBeforeGates, GateRoomIsEnough, HostListsComeBack, GateRefusal, TellsGateRefusal, GateResultsAreThese, GatesOfThePaper}
use Rattle.host.proofs.OneAnswer.{after_plan_one}
use Rattle.host.proofs.Outcomes.{after_plan_keeps, first_fault}
use Rattle.host.proofs.Listing.{in_word_small, in_word_large, OfList, list_cause, written_few}

-- One answer.
table_one : (t : List ℕ) (l : ℕ) (list : List ℕ) → OneAnswer Answer (List ℕ) (ListsGates t l list)
table_one t l list a b x y u v =
    let e = gate_list_one_answer t l list x y u.given v.given u.writes v.writes in
    (u.answer ∙ ap gates_answered e.0 ∙ sym v.answer, e.1)

pub host_gates_one_answer : HostGatesOneAnswer
host_gates_one_answer plan l list = after_plan_one (List ℕ) list plan (λ (t : List ℕ). ListsGates t l list) (λ t. table_one t l list)

pub host_read_gates_one_answer : HostReadGatesOneAnswer
host_read_gates_one_answer list words a b x y u v =
    let e = read_list_one_answer list words x y u.given v.given u.reads v.reads in
    (u.answer ∙ ap read_gates_answered e.0 ∙ sym v.answer, e.1)

-- A refusal writes nothing.
written_keeps : (t : List ℕ) (l : ℕ) (list list' : List ℕ) (r : Result ℕ Refusal) (a : Answer) → WritesGateList t l list r list' → a ≡ gates_answered r
    → refused_result 0 ≤ a.result → list' ≡ list
written_keeps t l list list' (Ok n) a w e h = absurd (omega (arith, ap result_alone e, h))
written_keeps t l list list' (Err d) a w e h = w.1

read_keeps : (list words words' : List ℕ) (r : Result ℕ Refusal) (a : Answer) → ReadsList list words r words' → a ≡ read_gates_answered r
    → refused_result 0 ≤ a.result → words' ≡ words
read_keeps list words words' (Ok n) a w e h = absurd (omega (arith, ap result_alone e, h))
read_keeps list words words' (Err d) a w e h = w.1

pub host_gate_refusals_write_nothing : HostGateRefusalsWriteNothing
host_gate_refusals_write_nothing = record {
  gates = λ plan l list.
      after_plan_keeps (List ℕ) list plan (λ (t : List ℕ). ListsGates t l list)
      (λ t a list' x. written_keeps t l list list' x.given a x.writes x.answer);
  read_gates = λ list words a words' x. read_keeps list words words' x.given a x.reads x.answer;
}

-- A table that was read is refused with 4 to 7, 15, 19, or 21 to 23: not with a number of the plan file.
abbrev OfTable : ℕ → Type 0
OfTable k = ((4 ≤ k) × (k ≤ 7)) ⊎ OfList k

table_refusal : (t : List ℕ) (l room : ℕ) (k : Cause) (p : ℕ) → Sized t → (list_refusals t l room).Fault k p → OfTable (number_of k)
table_refusal t l room k p z f =
    ⊎_elim (λ (g : ShapeFault t k p). inl (sized_refused t k p z g)) (λ (x : OfList (number_of k) × (p ≡ 0)). inr x.0) (list_cause t l room k p f)

abbrev OfFile : ℕ → Type 0
OfFile k = (k ≡ 2) ⊎ ((12 ≤ k) × (k ≤ 14))

none_in_common : (k : ℕ) → OfFile k → OfTable k → ⊥
none_in_common k (inl e) (inl x) = omega (arith, x.0)
none_in_common k (inl e) (inr (inl x)) = omega (arith, x)
none_in_common k (inl e) (inr (inr (inl x))) = omega (arith, x)
none_in_common k (inl e) (inr (inr (inr x))) = omega (arith, x.0)
none_in_common k (inr e) (inl x) = omega (arith, e.0, x.1)
none_in_common k (inr e) (inr (inl x)) = omega (arith, e.1, x)
none_in_common k (inr e) (inr (inr (inl x))) = omega (arith, e.1, x)
none_in_common k (inr e) (inr (inr (inr x))) = omega (arith, e.1, x.0)

not_given : (t : List ℕ) (l : ℕ) (list list' : List ℕ) (k : Cause) (p : ℕ) (r : Result ℕ Refusal) → Sized t → OfFile (number_of k) → WritesGateList t l list r list' → refusal k p ≡ gates_answered r → ⊥
not_given t l list list' k p (Ok n) z f w e = omega (arith, ap result_alone e)
not_given t l list list' k p (Err d) z f w e =
    let same : number_of d.cause ≡ number_of k = omega (arith, ap result_alone e) in
    none_in_common (number_of k) f (subst OfTable same (table_refusal t l (length list) d.cause d.at z w.0))

-- A fault of the plan file comes first.
of_the_file : (plan : List ℕ) (l : ℕ) (list : List ℕ) (k : Cause) (p : ℕ) (list' : List ℕ) → OfFile (number_of k) → HostListsGates plan l list (refusal k p) list' → PlanFault plan k p
of_the_file plan l list k p list' f (inl x) =
    let e : x.cause ≡ k = number_once x.cause k (omega (arith, ap result_alone x.answer)) in
    let at : x.at ≡ p = sym (ap (λ (a : Answer). a.beside) x.answer) in
    subst (λ (q : ℕ). PlanFault plan k q) at (subst (λ (j : Cause). PlanFault plan j x.at) e x.fault)
of_the_file plan l list k p list' f (inr (t, g, x)) = absurd (not_given t l list list' k p x.given g.complete f x.writes x.answer)

pub plan_faults_before_gates : PlanFaultsBeforeGates
plan_faults_before_gates = record {
  first = λ plan l list k p a list' f x. first_fault (List ℕ) list plan (λ (t : List ℕ). ListsGates t l list) k p a list' f x;
  no_other = of_the_file;
}

-- Room.
table_room : (t : List ℕ) (l : ℕ) (list list' : List ℕ) (r : Result ℕ Refusal) (a : Answer) → max_list_bytes ≤ length list
    → WritesGateList t l list r list' → a ≡ gates_answered r → a.result ≡ refused_result (number_of cause.NoRoom) → ⊥
table_room t l list list' (Ok n) a h w e i = omega (arith, ap result_alone e, i)
table_room t l list list' (Err d) a h w e i =
    let same : d.cause ≡ cause.NoRoom = number_once d.cause cause.NoRoom (omega (arith, ap result_alone e, i)) in
    list_room_is_enough.enough t l d.at list list' h (subst (λ (j : Cause). WritesGateList t l list (refused j d.at) list') same w)

pub gate_room_is_enough : GateRoomIsEnough
gate_room_is_enough plan l list a list' h (inl x) i = not_of_the_file (plan_refused plan x.cause x.at x.fault)
  where
    not_of_the_file : (number_of x.cause ≡ 2) ⊎ ((12 ≤ number_of x.cause) × (number_of x.cause ≤ 14)) → ⊥
    not_of_the_file (inl y) = omega (arith, ap result_alone x.answer, i, y)
    not_of_the_file (inr y) = omega (arith, ap result_alone x.answer, i, y.1)
gate_room_is_enough plan l list a list' h (inr (t, f, x)) i = table_room t l list list' x.given a h x.writes x.answer i

-- What was written is read back.
same_given : (r : Result ℕ Refusal) (n : ℕ) → answered 0 n ≡ gates_answered r → r ≡ Ok n
same_given (Ok m) n e = ap Ok (sym (ap (λ (a : Answer). a.beside) e))
same_given (Err d) n e = absurd (omega (arith, ap result_alone e))

back_again : (plan t : List ℕ) (l : ℕ) (list list' words words' : List ℕ) (n : ℕ) (a : Answer) → IsFile Sized plan t
    → WritesGateList t l list (Ok n) list' → HostReadsGates (take n list') words a words' → 2 * max_pairs ≤ length words
    → (t : List ℕ) × (ws : List ℕ) × IsFile Sized plan t × IsGateList t l ws × (a ≡ answered 0 (length ws)) × (words' ≡ overlaid words 0 ws)
back_again plan t l list list' words words' n a file w x h =
    let back = gate_lists_come_back t l n list list' words words' x.given w x.reads h in
    let ws = back.0 in
    let few = written_few t l list list' ws n back.1 w in
    (t, ws, file, back.1, x.answer ∙ ap read_gates_answered back.2 ∙ ap (answered 0) (in_word_small (length ws) (omega arith)), back.3)

pub host_lists_come_back : HostListsComeBack
host_lists_come_back plan l list list' words words' n a (inl y) x h = absurd (omega (arith, ap result_alone y.answer))
host_lists_come_back plan l list list' words words' n a (inr (t, file, y)) x h =
    back_again plan t l list list' words words' n a file (subst (λ (r : Result ℕ Refusal). WritesGateList t l list r list') (same_given y.given n y.answer) y.writes) x h

-- Which results there are.
file_is : (k : Cause) → (number_of k ≡ 2) ⊎ ((12 ≤ number_of k) × (number_of k ≤ 14)) → GateRefusal (number_of k)
file_is k (inl x) = inl x
file_is k (inr x) = inr (inr (inl (omega (arith, x.0), omega (arith, x.1))))

table_is : (k : ℕ) → OfTable k → GateRefusal k
table_is k (inl x) = inr (inl x)
table_is k (inr (inl x)) = inr (inr (inl (omega (arith, x), omega (arith, x))))
table_is k (inr (inr (inl x))) = inr (inr (inr (inl x)))
table_is k (inr (inr (inr x))) = inr (inr (inr (inr x)))

given_result : (t : List ℕ) (l : ℕ) (list list' : List ℕ) (r : Result ℕ Refusal) (a : Answer) → Sized t → WritesGateList t l list r list' → a ≡ gates_answered r
    → (a.result ≡ 0) ⊎ TellsGateRefusal a.result
given_result t l list list' (Ok n) a z w e = inl (ap result_alone e)
given_result t l list list' (Err d) a z w e =
    inr (record { number = number_of d.cause; is = table_is (number_of d.cause) (table_refusal t l (length list) d.cause d.at z w.0); told = ap result_alone e })

gate_results : (plan : List ℕ) (l : ℕ) (list : List ℕ) (a : Answer) (list' : List ℕ) → HostListsGates plan l list a list' → (a.result ≡ 0) ⊎ TellsGateRefusal a.result
gate_results plan l list a list' (inl x) =
    inr (record { number = number_of x.cause; is = file_is x.cause (plan_refused plan x.cause x.at x.fault); told = ap result_alone x.answer })
gate_results plan l list a list' (inr (t, f, x)) = given_result t l list list' x.given a f.complete x.writes x.answer

abbrev ReadResult : ℕ → Type 0
ReadResult r = (r ≡ 0) ⊎ ((r ≡ 112) ⊎ ((r ≡ 113) ⊎ (r ≡ 115)))

read_result : (list words words' : List ℕ) (r : Result ℕ Refusal) (a : Answer) → ReadsList list words r words' → a ≡ read_gates_answered r → ReadResult a.result
read_result list words words' (Ok n) a w e = inl (ap result_alone e)
read_result list words words' (Err d) a w e = by (list_file_refusals_are_these.read list words words' d.cause d.at w)
  where
    by : (d.cause ≡ cause.BytesEnd) ⊎ ((d.cause ≡ cause.UnfitNumber) ⊎ (d.cause ≡ cause.NoRoom)) → ReadResult a.result
    by (inl x) = inr (inl (omega (arith, ap result_alone e, ap number_of x)))
    by (inr (inl x)) = inr (inr (inl (omega (arith, ap result_alone e, ap number_of x))))
    by (inr (inr x)) = inr (inr (inr (omega (arith, ap result_alone e, ap number_of x))))

pub gate_results_are_these : GateResultsAreThese
gate_results_are_these = record {
  gates = gate_results;
  read_gates = λ list words a words' x. read_result list words words' x.given a x.reads x.answer;
}

pub gates_of_the_paper : GatesOfThePaper
gates_of_the_paper = record {
  listed = λ n. refl;
  not_listed = λ k p. refl;
  taken = λ n h. ap (answered 0) (in_word_small n h);
  not_taken = λ k p h. ap (refusal k) (in_word_small p h);
  past_a_word = λ n h. in_word_large n (omega arith);
  not_accepted_lem = refl;
  long_cycle_is = refl;
  too_many = refl;
  no_link_is = refl;
  room = refl;
}
