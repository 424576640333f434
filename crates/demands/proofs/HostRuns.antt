-- A run of the calls for C is a run of start, slice and move, call by call, so its verdicts are theirs, and come when theirs do. Assumes nothing.
use Rattle.std.specs.Prelude.{Ok, Err}
use Prim.Native.Nat.{ℕ, ◌≤◌}
use mathlib.Core.Bool.{false}
use mathlib.Core.Path.{◌≡◌, refl, ◌∙◌, sym, ap, subst}
use mathlib.Core.List.{List, [], ◌∷◌, ◌++◌}
use mathlib.Core.Logic.{inl, inr, ⊎_elim}
use lib.Dec.{eqb}
use native.Mathlib.Omega.{arith}
use Rattle.basics.specs.Pick.{pick}
use Rattle.table.specs.Layout.{Sized}
use Rattle.files.specs.Reading.{IsFile}
use Rattle.files.specs.Cursors.{ReadsCursor}
use Rattle.files.specs.declared.Cursor.{Cursor}
use Rattle.files.proofs.OneAnswer.{same_file}
use Rattle.rules.specs.declared.Rule.{Rule}
use Rattle.rules.specs.declared.Rule.TheVariants as rule
use Rattle.places.specs.Order.{place_count}
use Rattle.checker.specs.Slices.{Starts}
use Rattle.checker.specs.declared.SliceAnswer.{SliceAnswer}
use Rattle.checker.specs.declared.SliceAnswer.TheVariants as answer
use Rattle.host.specs.Answers.{rule_result, slice_answered, result_alone}
use Rattle.host.specs.declared.Answer.{Answer}
use Rattle.demands.specs.Verdicts.{Verdict, violated, Gives}
use Rattle.demands.specs.Runs.{Call, cursor_of_answer, cursor_of, HandedOut, Run}
use Rattle.demands.specs.Runs as runs
use Rattle.demands.specs.HostRuns.{saved_in, HostCall, start, slice, move_leg, bytes_left, LeftBy, NotRefused, SliceMade, HostRun}
use Rattle.demands.specs.DemandThreeForC.{HostGives, HostSince, HostRenews, newest_left, host_budgets, HostHasVerdict, HostRunsAreSound, HostRunsEndInTime}
use Rattle.host.proofs.OneAnswer.{saved_one}
use Rattle.demands.proofs.HostCalls.{start_carried, slice_carried, move_carried, slices_of, moves_of}
use Rattle.demands.proofs.DemandThree.{runs_are_sound, runs_end_in_time}

-- A slice for C and a slice of the run.
pub record SliceMirrored (s : List ℕ) (n : ℕ) (a : Answer) (out : List ℕ) (c : Cursor) (b : ℕ) (x : SliceAnswer) : Type 0 where
  pub given : ReadsCursor s (Ok c)
  pub budget : n ≡ b
  pub not_refused : NotRefused a
  pub answer : a ≡ slice_answered x
  pub left : ReadsCursor (saved_in out) (Ok (cursor_of_answer x))

-- A call for C is a call of the run: it was given the same cursor and left the one that was handed out.
abbrev pub Mirrors : HostCall → Call → Type 0
Mirrors (start a out) (runs.start (Ok d)) = ReadsCursor (saved_in out) (Ok d)
Mirrors (start a out) (runs.start (Err d)) = ⊥
Mirrors (start a out) (runs.slice c b x) = ⊥
Mirrors (start a out) (runs.move_leg c mv g) = ⊥
Mirrors (slice s n a out) (runs.start g) = ⊥
Mirrors (slice s n a out) (runs.slice c b x) = SliceMirrored s n a out c b x
Mirrors (slice s n a out) (runs.move_leg c mv g) = ⊥
Mirrors (move_leg s mv a m) (runs.start g) = ⊥
Mirrors (move_leg s mv a m) (runs.slice c b x) = ⊥
Mirrors (move_leg s mv a m) (runs.move_leg c nv (Ok d)) = ReadsCursor (saved_in m.out) (Ok d)
Mirrors (move_leg s mv a m) (runs.move_leg c nv (Err d)) = ⊥

abbrev pub AllMirror : List HostCall → List Call → Type 0
AllMirror [] [] = Unit {0}
AllMirror [] (c ∷ cs) = ⊥
AllMirror (h ∷ hs) [] = ⊥
AllMirror (h ∷ hs) (c ∷ cs) = Mirrors h c × AllMirror hs cs

-- What a call left reads as the cursor that its mirror handed out.
pub left_is : (h : HostCall) (c : Call) → Mirrors h c → ReadsCursor (saved_in (bytes_left h)) (Ok (cursor_of c))
left_is (start a out) (runs.start (Ok d)) m = m
left_is (start a out) (runs.start (Err d)) m = absurd m
left_is (start a out) (runs.slice c b x) m = absurd m
left_is (start a out) (runs.move_leg c mv g) m = absurd m
left_is (slice s n a out) (runs.start g) m = absurd m
left_is (slice s n a out) (runs.slice c b x) m = m.left
left_is (slice s n a out) (runs.move_leg c mv g) m = absurd m
left_is (move_leg s mv a q) (runs.start g) m = absurd m
left_is (move_leg s mv a q) (runs.slice c b x) m = absurd m
left_is (move_leg s mv a q) (runs.move_leg c nv (Ok d)) m = m
left_is (move_leg s mv a q) (runs.move_leg c nv (Err d)) m = absurd m

handed : (s : List ℕ) (hs : List HostCall) (cs : List Call) → AllMirror hs cs → LeftBy s hs → (c : Cursor) × ReadsCursor s (Ok c) × HandedOut c cs
handed s [] cs m l = absurd l
handed s (h ∷ hs) [] m l = absurd m
handed s (h ∷ hs) (c ∷ cs) m (inl e) = (cursor_of c, subst (λ (x : List ℕ). ReadsCursor x (Ok (cursor_of c))) (sym e) (left_is h c m.0), inl refl)
handed s (h ∷ hs) (c ∷ cs) m (inr l) = let x = handed s hs cs m.1 l in (x.0, x.1, inr x.2)

-- A run of the calls for C is a run.
pub record Carried (calls : List HostCall) (plan : List ℕ) : Type 0 where
  pub latest : Call
  pub earlier : List Call
  pub table : List ℕ
  pub file : IsFile Sized plan table
  pub run : Run (latest ∷ earlier) table
  pub mirrored : AllMirror calls (latest ∷ earlier)

carry_slice : (call : HostCall) (calls : List HostCall) (plan cursor : List ℕ) (budget : ℕ) (a : Answer) (out : List ℕ)
    → Carried (call ∷ calls) plan → LeftBy cursor (call ∷ calls) → SliceMade plan cursor budget a out → Carried (slice cursor budget a out ∷ call ∷ calls) plan
carry_slice call calls plan cursor budget a out i l y =
    let s = slice_carried plan cursor budget y.out a out y.not_refused y.slices in
    let c = handed cursor (call ∷ calls) (i.latest ∷ i.earlier) i.mirrored l in
    record {
      latest = runs.slice c.0 budget s.told;
      earlier = i.latest ∷ i.earlier;
      table = i.table;
      file = i.file;
      run = (i.run, c.2, slices_of i.table s.table c.0 s.from budget s.told (same_file s.file i.file) (saved_one cursor s.from c.0 s.given c.1) s.slices);
      mirrored = (record { given = c.1; budget = refl; not_refused = y.not_refused; answer = s.answer; left = s.left }, i.mirrored);
    }

pub carried : (calls : List HostCall) (plan : List ℕ) → HostRun calls plan → Carried calls plan
carried [] plan x = absurd x
carried (start a out ∷ []) plan x =
    let s = start_carried plan x.out a out x.not_refused x.starts in
    record { latest = runs.start (Ok s.cursor); earlier = []; table = s.table; file = s.file; run = s.starts; mirrored = (s.left, tt) }
carried (slice cursor budget a out ∷ []) plan x = absurd x
carried (move_leg cursor mv a m ∷ []) plan x = absurd x
carried (start a out ∷ call ∷ calls) plan x =
    let i = carried (call ∷ calls) plan x.0 in
    let y = x.1 in
    let s = start_carried plan y.out a out y.not_refused y.starts in
    let g = Ok s.cursor in
    record {
      latest = runs.start g;
      earlier = i.latest ∷ i.earlier;
      table = i.table;
      file = i.file;
      run = (i.run, subst (λ (t : List ℕ). Starts t g) (same_file s.file i.file) s.starts);
      mirrored = (s.left, i.mirrored);
    }
carried (slice cursor budget a out ∷ call ∷ calls) plan x = carry_slice call calls plan cursor budget a out (carried (call ∷ calls) plan x.0) x.1 x.2
carried (move_leg cursor mv a m ∷ call ∷ calls) plan x =
    let i = carried (call ∷ calls) x.0 x.1 in
    let y = x.3 in
    let s = move_carried x.0 plan cursor mv y.m m a y.words y.not_refused y.moves y.new in
    let c = handed cursor (call ∷ calls) (i.latest ∷ i.earlier) i.mirrored x.2 in
    let g = Ok s.to in
    record {
      latest = runs.move_leg c.0 mv g;
      earlier = i.latest ∷ i.earlier;
      table = s.table;
      file = s.file;
      run = (i.table, i.run, c.2, moves_of i.table s.before c.0 s.from mv g s.table (same_file s.before_file i.file) (saved_one cursor s.from c.0 s.given c.1) s.moves);
      mirrored = (s.left, i.mirrored);
    }

-- The verdict that C is given is the answer's.
pub rule_of_lem : ℕ → Rule
rule_of_lem n = pick (eqb n 2) rule.Window (pick (eqb n 3) rule.Hop (pick (eqb n 4) rule.Deadline rule.Overlap))

pub rule_again : (r : Rule) → rule_of_lem (rule_result r) ≡ r
unfolding rule_of_lem
rule_again rule.Window = refl
rule_again rule.Hop = refl
rule_again rule.Deadline = refl
rule_again rule.Overlap = refl

pub rule_above : (r : Rule) → 2 ≤ rule_result r
rule_above rule.Window = omega arith
rule_above rule.Hop = omega arith
rule_above rule.Deadline = omega arith
rule_above rule.Overlap = omega arith

gives : (x : SliceAnswer) (a : Answer) (out : List ℕ) (v : Verdict) → NotRefused a → a ≡ slice_answered x → ReadsCursor (saved_in out) (Ok (cursor_of_answer x))
    → HostGives a out v → Gives x v
gives (answer.Violated d n r) a out v h e l (inl (z, k)) = absurd (omega (arith, ap result_alone e, z, rule_above r))
gives (answer.Violated d n r) a out v h e l (inr t) =
    let c = saved_one (saved_in out) t.cursor d t.saved l in
    let q = sym (rule_again t.rule) ∙ ap rule_of_lem (sym t.result ∙ ap result_alone e) ∙ rule_again r in
    t.is ∙ ap (λ (y : Cursor). violated y.leg y.place t.rule) c ∙ ap (violated d.leg d.place) q
gives (answer.NothingViolated d n) a out v h e l (inl (z, k)) = k
gives (answer.NothingViolated d n) a out v h e l (inr t) = absurd (omega (arith, ap result_alone e, t.result, rule_above t.rule))
gives (answer.Paused d n) a out v h e l (inl (z, k)) = absurd (omega (arith, ap result_alone e, z))
gives (answer.Paused d n) a out v h e l (inr t) = absurd (omega (arith, ap result_alone e, t.result, rule_above t.rule))
gives (answer.Refused refusal d) a out v h e l g = absurd (omega (arith, ap result_alone e, h))

pub host_runs_are_sound : HostRunsAreSound
unfolding carry_slice
host_runs_are_sound [] plan cursor budget a out v x g = absurd x
host_runs_are_sound (call ∷ calls) plan cursor budget a out v x g =
    let y = x.2 in
    let s = slice_carried plan cursor budget y.out a out y.not_refused y.slices in
    let i = carried (call ∷ calls) plan x.0 in
    let k = carry_slice call calls plan cursor budget a out i x.1 y in
    let c = handed cursor (call ∷ calls) (i.latest ∷ i.earlier) i.mirrored x.1 in
    record {
      table = i.table;
      file = i.file;
      sound = runs_are_sound (i.latest ∷ i.earlier) i.table c.0 budget s.told v k.run (gives s.told a out v y.not_refused s.answer s.left g);
    }

-- The mirror of two parts is two parts.
pub record Parted (hs ks : List HostCall) (cs : List Call) : Type 0 where
  pub front : List Call
  pub back : List Call
  pub is : cs ≡ front ++ back
  pub front_mirrors : AllMirror hs front
  pub back_mirrors : AllMirror ks back

parted : (hs ks : List HostCall) (cs : List Call) → AllMirror (hs ++ ks) cs → Parted hs ks cs
parted [] ks cs m = record { front = []; back = cs; is = refl; front_mirrors = tt; back_mirrors = m }
parted (h ∷ hs) ks [] m = absurd m
parted (h ∷ hs) ks (c ∷ cs) m =
    let p = parted hs ks cs m.1 in
    record { front = c ∷ p.front; back = p.back; is = ap (λ (x : List Call). c ∷ x) p.is; front_mirrors = (m.0, p.front_mirrors); back_mirrors = p.back_mirrors }

renews_too : (h : HostCall) (c : Call) → Mirrors h c → HostRenews h → runs.Renews c
renews_too (start a out) (runs.start g) m r = tt
renews_too (start a out) (runs.slice c b x) m r = absurd m
renews_too (start a out) (runs.move_leg c mv g) m r = absurd m
renews_too (slice s n a out) c m r = absurd r
renews_too (move_leg s mv a q) (runs.start g) m r = absurd m
renews_too (move_leg s mv a q) (runs.slice c b x) m r = absurd m
renews_too (move_leg s mv a q) (runs.move_leg c nv (Ok d)) m r = tt
renews_too (move_leg s mv a q) (runs.move_leg c nv (Err d)) m r = absurd m

newest_is : (hs : List HostCall) (h : HostCall) (cs : List Call) (c : Call) → AllMirror hs cs → Mirrors h c → ReadsCursor (newest_left hs h) (Ok (runs.newest cs c))
newest_is [] h [] c m n = left_is h c n
newest_is [] h (d ∷ cs) c m n = absurd m
newest_is (k ∷ hs) h [] c m n = absurd m
newest_is (k ∷ hs) h (d ∷ cs) c m n = left_is k d m.0

-- None of the calls of the mirror was refused.
mirror_made : (h : HostCall) (c : Call) → Mirrors h c → runs.refused c ≡ false
mirror_made (start a out) (runs.start (Ok d)) m = refl
mirror_made (start a out) (runs.start (Err d)) m = absurd m
mirror_made (start a out) (runs.slice c b x) m = absurd m
mirror_made (start a out) (runs.move_leg c mv g) m = absurd m
mirror_made (slice s n a out) (runs.start g) m = absurd m
mirror_made (slice s n a out) (runs.slice c b (answer.Violated d k r)) m = refl
mirror_made (slice s n a out) (runs.slice c b (answer.NothingViolated d k)) m = refl
mirror_made (slice s n a out) (runs.slice c b (answer.Paused d k)) m = refl
mirror_made (slice s n a out) (runs.slice c b (answer.Refused refusal d)) m = absurd (omega (arith, ap result_alone m.answer, m.not_refused))
mirror_made (slice s n a out) (runs.move_leg c mv g) m = absurd m
mirror_made (move_leg s mv a q) (runs.start g) m = absurd m
mirror_made (move_leg s mv a q) (runs.slice c b x) m = absurd m
mirror_made (move_leg s mv a q) (runs.move_leg c nv (Ok d)) m = refl
mirror_made (move_leg s mv a q) (runs.move_leg c nv (Err d)) m = absurd m

all_made : (hs : List HostCall) (cs : List Call) → AllMirror hs cs → runs.without_refused cs ≡ cs
all_made [] [] m = refl
all_made [] (c ∷ cs) m = absurd m
all_made (h ∷ hs) [] m = absurd m
all_made (h ∷ hs) (c ∷ cs) m = rw (mirror_made h c m.0, all_made hs cs m.1)

-- What the mirror of a part of slices is: a part given the newest cursor each time, with the same budgets, and with a verdict only where the part has one.
pub record PartIs (hs : List HostCall) (cs : List Call) (c : Call) : Type 0 where
  pub since : runs.Since cs c
  pub budgets : runs.budgets cs ≡ host_budgets hs
  pub verdict : runs.HasVerdict cs → HostHasVerdict hs

pub told_to_c : (x : SliceAnswer) (a : Answer) (out : List ℕ) (v : Verdict) → a ≡ slice_answered x → ReadsCursor (saved_in out) (Ok (cursor_of_answer x)) → Gives x v
    → HostGives a out v
told_to_c (answer.Violated d n r) a out v e l g = inr (record { rule = r; cursor = d; result = ap result_alone e; saved = l; is = g })
told_to_c (answer.NothingViolated d n) a out v e l g = inl (ap result_alone e, g)
told_to_c (answer.Paused d n) a out v e l g = absurd g
told_to_c (answer.Refused refusal d) a out v e l g = absurd g

part_is : (hs : List HostCall) (h : HostCall) (cs : List Call) (c : Call) → AllMirror hs cs → Mirrors h c → HostSince hs h → PartIs hs cs c
part_is [] h [] c m n s = record { since = tt; budgets = refl; verdict = λ x. x }
part_is [] h (d ∷ cs) c m n s = absurd m
part_is (start a out ∷ hs) h cs c m n s = absurd s
part_is (move_leg q mv a k ∷ hs) h cs c m n s = absurd s
part_is (slice q b a out ∷ hs) h [] c m n s = absurd m
part_is (slice q b a out ∷ hs) h (runs.start g ∷ cs) c m n s = absurd m.0
part_is (slice q b a out ∷ hs) h (runs.move_leg d mv g ∷ cs) c m n s = absurd m.0
part_is (slice q b a out ∷ hs) h (runs.slice d k x ∷ cs) c m n s =
    let i = part_is hs h cs c m.1 n s.1 in
    let w = m.0 in
    let r = subst (λ (z : List ℕ). ReadsCursor z (Ok (runs.newest cs c))) (sym s.0) (newest_is hs h cs c m.1 n) in
    record {
      since = (saved_one q d (runs.newest cs c) w.given r, i.since);
      budgets = omega (arith, i.budgets, w.budget);
      verdict = λ t. ⊎_elim (λ g. inl (g.0, told_to_c x a out g.0 w.answer w.left g.1)) (λ g. inr (i.verdict g)) t;
    }

has_slice : (hs : List HostCall) (h : HostCall) (first : HostCall) (cs : List Call) → AllMirror (first ∷ hs) cs → HostSince (first ∷ hs) h → runs.HasSlice cs
has_slice hs h first [] m s = absurd m
has_slice hs h (start a out) (c ∷ cs) m s = absurd s
has_slice hs h (move_leg q mv a k) (c ∷ cs) m s = absurd s
has_slice hs h (slice q b a out) (runs.start g ∷ cs) m s = absurd m.0
has_slice hs h (slice q b a out) (runs.move_leg d mv g ∷ cs) m s = absurd m.0
has_slice hs h (slice q b a out) (runs.slice d k x ∷ cs) m s = tt

in_time_of : (first : HostCall) (part : List HostCall) (last : HostCall) (earlier : List HostCall) (t : List ℕ) (fs bs : List Call)
    → AllMirror (first ∷ part) fs → AllMirror (last ∷ earlier) bs → Run (fs ++ bs) t → HostRenews last → HostSince (first ∷ part) last
    → place_count t ≤ host_budgets (first ∷ part) → HostHasVerdict (first ∷ part)
in_time_of first part last earlier t fs [] m n run r s b = absurd n
in_time_of first part last earlier t fs (c ∷ bs) m n run r s b =
    let p = part_is (first ∷ part) last fs c m n.0 s in
    let made = all_made (first ∷ part) fs m in
    let since = subst (λ (cs : List Call). runs.Since cs c) (sym made) p.since in
    let ran = subst runs.HasSlice (sym made) (has_slice part last first fs m s) in
    p.verdict (runs_end_in_time fs c bs t run (renews_too last c n.0 r) since ran (omega (arith, b, p.budgets, ap runs.budgets made)))

pub host_runs_end_in_time : HostRunsEndInTime
host_runs_end_in_time first part last earlier plan t run r s f b =
    let i = carried (first ∷ (part ++ last ∷ earlier)) plan run in
    let p = parted (first ∷ part) (last ∷ earlier) (i.latest ∷ i.earlier) i.mirrored in
    let e = same_file i.file f in
    let again = subst (λ (cs : List Call). Run cs t) p.is (subst (Run (i.latest ∷ i.earlier)) e i.run) in
    in_time_of first part last earlier t p.front p.back p.front_mirrors p.back_mirrors again r s b
