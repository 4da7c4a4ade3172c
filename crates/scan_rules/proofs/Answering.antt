-- The answer that the tests give one after another is that of the readings.
use Rattle.std.proofs.Common.{◌≡◌, ℕ, ◌<◌, Bool, true, false, not, ◌&&◌, cond, List, [], ◌∷◌, length, Option, Some, None, refl, sym, ap}
use Rattle.std.proofs.Common.{subst, ◌∙◌}
use Rattle.std.specs.Prelude.{option_map, unwrap_or, find, slice_get, ◌==◌}
use Rattle.std.specs.Option.{option_and_then}
use Rattle.std.proofs.lemmas.Option.{same_Some, slice_get_within}
use Rattle.scan_rules.specs.declared.copy_refusal.CopyRefusal.{CopyRefusal}
use Rattle.scan_rules.specs.declared.held.HeldCopy.{HeldCopy}
use Rattle.scan_rules.specs.declared.readings.GroupCopy.{GroupCopy}
use Rattle.scan_rules.specs.declared.readings.DiskRead.{DiskRead}
use Rattle.std.specs.FinSet as set
use Rattle.std.specs.Str.{bytes_eq}
use Rattle.scan_rules.specs.declared.decision.Decided.{Decided}
use Rattle.scan_rules.specs.declared.decision.ScanRefusal.{ScanRefusal}
use Rattle.scan_rules.specs.Answers.{Denies, IsDecided, IsRefusedBy, answer_for, answer_with, answer_without, denial, denies_copy}
use Rattle.scan_rules.specs.Answers.{first_answer, shape_denial}
use Rattle.scan_rules.specs.Decision.{Conflict, DuplicatePv, Held, NoCopy, NoGroup, PvShape, Reading, ScanAnswer, Unsupported, best}
use Rattle.scan_rules.specs.Decision.{conflict, copies, decide_scan, duplicates, first_duplicate, first_misplaced, found, found_with}
use Rattle.scan_rules.specs.Decision.{ids_from, is_held, misshapen, misshapen_by, no_copy, refusals, sum_agrees, two_groups}
use Rattle.scan_rules.specs.Decision.{unsupported}
use Rattle.scan_rules.specs.Flat.{IsThat, all_held, held_copy, held_on, refused_on, strays_on}
use Rattle.scan_rules.specs.Found.{missing_of, stale_on}
use Rattle.scan_rules.specs.Readings.{AllAreOf, readings_of}
use Rattle.scan_rules.proofs.FlatLists.{copies_are, ids_are, misplaced_are, missing_are, refusals_are, strays_are}

-- the tests behind that of the duplicates
abbrev tests_of : List Held → List (ℕ × CopyRefusal) → List Reading → ScanAnswer
tests_of cs rs disks =
    unwrap_or (no_copy cs rs) (unwrap_or (unsupported cs rs)
    (unwrap_or (two_groups cs) (unwrap_or (conflict cs) (unwrap_or (misshapen cs disks) (found cs disks)))))

in_tests : (disks : List Reading) → decide_scan disks ≡ unwrap_or (duplicates disks) (tests_of (copies disks) (refusals disks) disks)
unfolding decide_scan
in_tests disks = refl

copies_on : (all : List GroupCopy) (disks : List DiskRead) → copies (readings_of all disks) ≡ all_held all (held_on 0 disks)
unfolding copies
copies_on all disks = copies_are all 0 disks

refusals_on : (all : List GroupCopy) (disks : List DiskRead) → refusals (readings_of all disks) ≡ refused_on 0 disks
unfolding refusals
refusals_on all disks = refusals_are all 0 disks

flat_tests : (all : List GroupCopy) (disks : List DiskRead)
    → decide_scan (readings_of all disks)
    ≡ unwrap_or (option_map (λ (pair : ℕ × ℕ). DuplicatePv pair.0 pair.1) (first_duplicate (ids_from 0 (readings_of [] disks))))
    (tests_of (all_held all (held_on 0 disks)) (refused_on 0 disks) (readings_of all disks))
flat_tests all disks =
    in_tests (readings_of all disks)
    ∙ ap (λ (ids : List (ℕ × List ℕ)). unwrap_or (option_map (λ (pair : ℕ × ℕ). DuplicatePv pair.0 pair.1) (first_duplicate ids))
    (tests_of (copies (readings_of all disks)) (refusals (readings_of all disks)) (readings_of all disks))) (ids_are all disks)
    ∙ ap (λ (cs : List Held). unwrap_or (option_map (λ (pair : ℕ × ℕ). DuplicatePv pair.0 pair.1)
    (first_duplicate (ids_from 0 (readings_of [] disks)))) (tests_of cs (refusals (readings_of all disks)) (readings_of all disks)))
    (copies_on all disks)
    ∙ ap (λ (rs : List (ℕ × CopyRefusal)). unwrap_or
    (option_map (λ (pair : ℕ × ℕ). DuplicatePv pair.0 pair.1) (first_duplicate (ids_from 0 (readings_of [] disks))))
    (tests_of (all_held all (held_on 0 disks)) rs (readings_of all disks))) (refusals_on all disks)

abbrev with_duplicates : Option (ℕ × ℕ) → ScanAnswer → ScanAnswer
with_duplicates pair later = unwrap_or (option_map (λ (p : ℕ × ℕ). DuplicatePv p.0 p.1) pair) later

pub is_duplicate : (all : List GroupCopy) (disks : List DiskRead) (pair : ℕ × ℕ)
    → first_duplicate (ids_from 0 (readings_of [] disks)) ≡ Some pair
    → decide_scan (readings_of all disks) ≡ DuplicatePv pair.0 pair.1
is_duplicate all disks pair is =
    flat_tests all disks ∙ ap (λ (p : Option (ℕ × ℕ)). with_duplicates p
    (tests_of (all_held all (held_on 0 disks)) (refused_on 0 disks) (readings_of all disks))) is

past_duplicates : (all : List GroupCopy) (disks : List DiskRead) → first_duplicate (ids_from 0 (readings_of [] disks)) ≡ None
    → decide_scan (readings_of all disks) ≡ tests_of (all_held all (held_on 0 disks)) (refused_on 0 disks) (readings_of all disks)
past_duplicates all disks none =
    flat_tests all disks ∙ ap (λ (p : Option (ℕ × ℕ)). with_duplicates p
    (tests_of (all_held all (held_on 0 disks)) (refused_on 0 disks) (readings_of all disks))) none

-- without a copy
without : (cs : List Held) (rs : List (ℕ × CopyRefusal)) (disks : List Reading) → best cs ≡ None
    → tests_of cs rs disks ≡ unwrap_or (no_copy [] rs) NoGroup
without [] rs disks none = refl
without (c ∷ cs) rs disks none = cc

none_best : (all : List GroupCopy) (o : Option Held) → IsThat all None o → o ≡ None
none_best all None that = refl
none_best all (Some b) that = cc

pub answer_is_without : (all : List GroupCopy) (disks : List DiskRead) → first_duplicate (ids_from 0 (readings_of [] disks)) ≡ None
    → IsThat all None (best (all_held all (held_on 0 disks)))
    → decide_scan (readings_of all disks) ≡ answer_without disks
answer_is_without all disks none that =
    past_duplicates all disks none
    ∙ without (all_held all (held_on 0 disks)) (refused_on 0 disks) (readings_of all disks)
    (none_best all (best (all_held all (held_on 0 disks))) that)

-- with one
first_then : (a b : Option ScanAnswer) (x : ScanAnswer) → unwrap_or a (unwrap_or b x) ≡ unwrap_or (first_answer a b) x
first_then None b x = refl
first_then (Some a) b x = refl

map_twice : {A B C : Type 0} (f : B → C) (g : A → B) (o : Option A) → option_map (λ (x : A). f (g x)) o ≡ option_map f (option_map g o)
map_twice f g None = refl
map_twice f g (Some x) = refl

shape_is : (disk : ℕ) (misplaced : Option ℕ) (held : Bool)
    → unwrap_or (option_map (λ (d : ℕ). Some (PvShape d)) misplaced) (cond held None (Some (PvShape disk)))
    ≡ shape_denial disk misplaced held
shape_is disk None true = refl
shape_is disk None false = refl
shape_is disk (Some d) held = refl

abbrev tests_with : List Held → List (ℕ × CopyRefusal) → List Reading → Option Held → ScanAnswer
tests_with cs rs disks o =
    unwrap_or (option_map (λ (r : ℕ × CopyRefusal). Unsupported r.0) (find (λ (r : ℕ × CopyRefusal). sum_agrees r.1) rs))
    (unwrap_or (two_groups cs)
    (unwrap_or (option_and_then (λ (b : Held). option_map (λ (d : Held). Conflict b.disk d.disk b.group.seqno)
    (find (λ (d : Held). d.group.seqno == b.group.seqno && not (bytes_eq d.text b.text)) cs)) o)
    (unwrap_or (option_and_then (λ (b : Held). misshapen_by b disks) o) (unwrap_or (option_map (found_with disks) o) NoGroup))))

with_best : (cs : List Held) (rs : List (ℕ × CopyRefusal)) (disks : List Reading) (b : Held) → best cs ≡ Some b
    → tests_of cs rs disks ≡ tests_with cs rs disks (Some b)
with_best [] rs disks b is = cc
with_best (c ∷ cs) rs disks b is = ap (tests_with (c ∷ cs) rs disks) is

in_denial : (u t c m : Option ScanAnswer) (x : ScanAnswer)
    → unwrap_or u (unwrap_or t (unwrap_or c (unwrap_or m x))) ≡ unwrap_or (first_answer u (first_answer t (first_answer c m))) x
in_denial u t c m x =
    ap (λ (y : ScanAnswer). unwrap_or u (unwrap_or t y)) (first_then c m x)
    ∙ ap (unwrap_or u) (first_then t (first_answer c m) x)
    ∙ first_then u (first_answer t (first_answer c m)) x

denied : (all : List GroupCopy) (disks : List DiskRead) (held : List HeldCopy) (disk : ℕ) (copy : GroupCopy)
    → tests_with (all_held all held) (refused_on 0 disks) (readings_of all disks) (Some (held_copy disk copy))
    ≡ answer_with all disks held disk copy
denied all disks held disk copy =
    let cs : List Held = all_held all held in
    let rs : List (ℕ × CopyRefusal) = refused_on 0 disks in
    let x : ScanAnswer = found_with (readings_of all disks) (held_copy disk copy) in
    let u : Option ScanAnswer = option_map (λ (r : ℕ × CopyRefusal). Unsupported r.0) (find (λ (r : ℕ × CopyRefusal). sum_agrees r.1) rs) in
    let c : Option ScanAnswer = option_map (λ (d : Held). Conflict disk d.disk copy.group.seqno) (find (denies_copy copy) cs) in
    let m : Option ScanAnswer = misshapen_by (held_copy disk copy) (readings_of all disks) in
    let shape : m ≡ shape_denial disk (first_misplaced copy.group (readings_of [] disks))
    (is_held copy.group copy.text (readings_of all disks)) =
    shape_is disk (first_misplaced copy.group (readings_of all disks)) (is_held copy.group copy.text (readings_of all disks))
    ∙ ap (λ (o : Option ℕ). shape_denial disk o (is_held copy.group copy.text (readings_of all disks)))
    (misplaced_are all copy.group disks) in
    in_denial u (two_groups cs) c m x
    ∙ ap (λ (o : Option ScanAnswer). unwrap_or (first_answer o (first_answer (two_groups cs) (first_answer c m))) x)
    (map_twice Unsupported (λ (r : ℕ × CopyRefusal). r.0) (find (λ (r : ℕ × CopyRefusal). sum_agrees r.1) rs))
    ∙ ap (λ (o : Option ScanAnswer). unwrap_or
    (first_answer (option_map Unsupported (option_map (λ (r : ℕ × CopyRefusal). r.0) (find (λ (r : ℕ × CopyRefusal). sum_agrees r.1) rs)))
    (first_answer (two_groups cs) (first_answer o m))) x)
    (map_twice (λ (other : ℕ). Conflict disk other copy.group.seqno) (λ (d : Held). d.disk) (find (denies_copy copy) cs))
    ∙ ap (λ (o : Option ScanAnswer). unwrap_or
    (first_answer (option_map Unsupported (option_map (λ (r : ℕ × CopyRefusal). r.0) (find (λ (r : ℕ × CopyRefusal). sum_agrees r.1) rs)))
    (first_answer (two_groups cs) (first_answer
    (option_map (λ (other : ℕ). Conflict disk other copy.group.seqno) (option_map (λ (d : Held). d.disk) (find (denies_copy copy) cs))) o)))
    x) shape

-- a copy that is best is one
abbrev BestCopy : List GroupCopy → HeldCopy → Option Held → Type 0
BestCopy all chosen o = (copy : GroupCopy) × (slice_get all chosen.number ≡ Some copy) × (o ≡ Some (held_copy chosen.disk copy))

best_copy_is : (all : List GroupCopy) (chosen : HeldCopy) (o : Option Held) → IsThat all (Some chosen) o → BestCopy all chosen o
best_copy_is all chosen o that = of (slice_get all chosen.number) o refl that where
  of : (s : Option GroupCopy) (b : Option Held) → slice_get all chosen.number ≡ s
      → Some (option_map (held_copy chosen.disk) s) ≡ option_map Some b
      → (copy : GroupCopy) × (slice_get all chosen.number ≡ Some copy) × (b ≡ Some (held_copy chosen.disk copy))
  of s None got is = cc
  of None (Some b) got is = let h : None ≡ Some b = same_Some None (Some b) is in cc
  of (Some copy) (Some b) got is = (copy, got, sym (same_Some (Some (held_copy chosen.disk copy)) (Some b) is))

pub best_within : (all : List GroupCopy) (chosen : HeldCopy) (o : Option Held) → IsThat all (Some chosen) o → chosen.number < length all
best_within all chosen o that = let b = best_copy_is all chosen o that in slice_get_within all chosen.number b.0 b.1

pub answer_is_for : (all : List GroupCopy) (disks : List DiskRead) (chosen : HeldCopy)
    → first_duplicate (ids_from 0 (readings_of [] disks)) ≡ None
    → IsThat all (Some chosen) (best (all_held all (held_on 0 disks)))
    → decide_scan (readings_of all disks) ≡ answer_for all disks (held_on 0 disks) chosen
answer_is_for all disks chosen none that =
    let b = best_copy_is all chosen (best (all_held all (held_on 0 disks))) that in
    past_duplicates all disks none
    ∙ with_best (all_held all (held_on 0 disks)) (refused_on 0 disks) (readings_of all disks) (held_copy chosen.disk b.0) b.2
    ∙ denied all disks (held_on 0 disks) chosen.disk b.0
    ∙ ap (λ (o : Option GroupCopy). unwrap_or (option_map (answer_with all disks (held_on 0 disks) chosen.disk) o) NoGroup) (sym b.1)

-- what was decided about a copy
pub not_denied : (d : Option ScanAnswer) → Denies d None → d ≡ None
not_denied None none = refl
not_denied (Some a) none = absurd none

denied_by : (d : Option ScanAnswer) (x : ScanAnswer) (refusal : ScanRefusal) → Denies d (Some refusal) → IsRefusedBy (unwrap_or d x) refusal
denied_by None x refusal denies = absurd denies
denied_by (Some a) x refusal denies = denies.0

answer_of_copy : (all : List GroupCopy) (disks : List DiskRead) (held : List HeldCopy) (chosen : HeldCopy) (copy : GroupCopy)
    → slice_get all chosen.number ≡ Some copy
    → answer_for all disks held chosen ≡ answer_with all disks held chosen.disk copy
answer_of_copy all disks held chosen copy got =
    ap (λ (o : Option GroupCopy). unwrap_or (option_map (answer_with all disks held chosen.disk) o) NoGroup) got

pub refused_for : (all : List GroupCopy) (disks : List DiskRead) (held : List HeldCopy) (chosen : HeldCopy) (copy : GroupCopy)
    (refusal : ScanRefusal) → slice_get all chosen.number ≡ Some copy
    → Denies (denial all disks held chosen.disk copy) (Some refusal) → IsRefusedBy (answer_for all disks held chosen) refusal
refused_for all disks held chosen copy refusal got denies =
    subst (λ (a : ScanAnswer). IsRefusedBy a refusal) (sym (answer_of_copy all disks held chosen copy got))
    (denied_by (denial all disks held chosen.disk copy) (found_with (readings_of all disks) (held_copy chosen.disk copy)) refusal denies)

pub decided_for : (all : List GroupCopy) (disks : List DiskRead) (held : List HeldCopy) (chosen : HeldCopy) (copy : GroupCopy)
    (decided : Decided) → slice_get all chosen.number ≡ Some copy
    → Denies (denial all disks held chosen.disk copy) None → AllAreOf all disks
    → decided.copy ≡ Some copy → decided.stale ≡ stale_on copy.group copy.text 0 (readings_of all disks)
    → decided.strays ≡ set.from_list (strays_on copy.group 0 disks) → decided.missing ≡ missing_of (readings_of [] disks) copy.group.pvs
    → IsDecided (answer_for all disks held chosen) decided
decided_for all disks held chosen copy decided got none are is stale strays missing =
    let answer : answer_for all disks held chosen ≡ found_with (readings_of all disks) (held_copy chosen.disk copy) =
    answer_of_copy all disks held chosen copy got
    ∙ ap (λ (d : Option ScanAnswer). unwrap_or d (found_with (readings_of all disks) (held_copy chosen.disk copy)))
    (not_denied (denial all disks held chosen.disk copy) none) in
    subst (λ (a : ScanAnswer). IsDecided a decided) (sym answer) (
      is,
      stale,
      strays ∙ ap (λ (l : List ℕ). set.from_list l) (sym (strays_are all copy.group 0 disks are.1)),
      missing ∙ sym (missing_are all disks copy.group.pvs),
    )

-- where there is no copy
pub without_refused : (refused : ℕ × CopyRefusal) (rs : List (ℕ × CopyRefusal))
    → unwrap_or (no_copy [] (refused ∷ rs)) NoGroup ≡ NoCopy (refused ∷ rs)
without_refused refused rs = refl

-- what the walks over slices came to
pub found_pair : (seen ids : List (ℕ × List ℕ)) (read disks : List DiskRead) (pair : Option (ℕ × ℕ)) → pair ≡ first_duplicate seen
    → seen ≡ ids → ids ≡ ids_from 0 (readings_of [] read) → read ≡ disks
    → first_duplicate (ids_from 0 (readings_of [] disks)) ≡ pair
found_pair seen ids read disks pair is same ids_are all_read =
    sym (is ∙ ap first_duplicate (same ∙ ids_are ∙ ap (λ (l : List DiskRead). ids_from 0 (readings_of [] l)) all_read))

pub best_found : (given all : List GroupCopy) (seen held : List HeldCopy) (read disks : List DiskRead) (chosen : Option HeldCopy)
    → IsThat given chosen (best (all_held given seen))
    → given ≡ all → seen ≡ held → held ≡ held_on 0 read → read ≡ disks → IsThat all chosen (best (all_held all (held_on 0 disks)))
best_found given all seen held read disks chosen that same seen_are held_are all_read =
    subst (λ (l : List GroupCopy). IsThat l chosen (best (all_held l (held_on 0 disks)))) same
    (subst (λ (l : List HeldCopy). IsThat given chosen (best (all_held given l))) (seen_are ∙ held_are ∙ ap (held_on 0) all_read) that)
