-- What an answer tells of the tests before it, and of all areas.
use Rattle.std.proofs.Common.{◌≡◌, ℕ, Bool, true, false, not, ◌&&◌, cond, List, [], ◌∷◌, Option, Some, None, refl, sym, ap, subst, ◌∙◌}
use Rattle.std.specs.Prelude.{filter_map, find, option_map, unwrap_or, ◌==◌}
use Rattle.std.specs.Option.{option_and_then}
use Rattle.std.specs.List.{enumerate_from, flat_map, list_any}
use Rattle.std.specs.Str.{bytes_eq}
use Rattle.meta_model.specs.declared.group.Group.{Group}
use Rattle.scan_rules.specs.declared.copy_refusal.CopyRefusal.{CopyRefusal}
use Rattle.scan_rules.specs.Decision.{Conflict, DuplicatePv, FoundGroup, Held, NoCopy, NoGroup, PvShape, Reading, ScanAnswer, TwoGroups}
use Rattle.scan_rules.specs.Decision.{Unsupported, best, conflict, copies, copies_from, decide_scan, duplicates, first_duplicate}
use Rattle.scan_rules.specs.Decision.{first_misplaced, found, found_with, greater, ids_from, is_held, is_listed, is_something, misshapen}
use Rattle.scan_rules.specs.Decision.{misshapen_by, no_copy, readings_in, refusals, refusals_from, sum_agrees, two_groups}
use Rattle.scan_rules.specs.Decision.{unsupported}
use Rattle.scan_rules.specs.Found.{missing_of, stale_of}

-- ---- the tests

-- the answer finds neither a group nor that there is none
abbrev pub Refuses : ScanAnswer → Type 0
Refuses (FoundGroup held stale strays missing) = ⊥
Refuses NoGroup = ⊥
Refuses (DuplicatePv a b) = Unit {0}
Refuses (NoCopy rs) = Unit {0}
Refuses (Unsupported pv) = Unit {0}
Refuses (TwoGroups a b) = Unit {0}
Refuses (Conflict a b seqno) = Unit {0}
Refuses (PvShape pv) = Unit {0}

abbrev OnlyRefuses : Option ScanAnswer → Type 0
OnlyRefuses None = Unit {0}
OnlyRefuses (Some answer) = Refuses answer

past : (o : Option ScanAnswer) (x y : ScanAnswer) → OnlyRefuses o → (Refuses y → ⊥) → unwrap_or o x ≡ y → (o ≡ None) × (x ≡ y)
past None x y only nothing is = (refl, is)
past (Some answer) x y only nothing is = absurd (nothing (subst Refuses is only))

mapped : {A : Type 0} (f : A → ScanAnswer) (o : Option A) → ((a : A) → Refuses (f a)) → OnlyRefuses (option_map f o)
mapped f None only = tt
mapped f (Some a) only = only a

chained : {A : Type 0} (f : A → Option ScanAnswer) (o : Option A) → ((a : A) → OnlyRefuses (f a)) → OnlyRefuses (option_and_then f o)
chained f None only = tt
chained f (Some a) only = only a

no_copy_only : (cs : List Held) (rs : List (ℕ × CopyRefusal)) → OnlyRefuses (no_copy cs rs)
no_copy_only [] [] = tt
no_copy_only [] (r ∷ rs) = tt
no_copy_only (c ∷ cs) rs = tt

unsupported_only : (cs : List Held) (rs : List (ℕ × CopyRefusal)) → OnlyRefuses (unsupported cs rs)
unsupported_only [] rs = tt
unsupported_only (c ∷ cs) rs =
    mapped (λ (r : ℕ × CopyRefusal). Unsupported r.0) (find (λ (r : ℕ × CopyRefusal). sum_agrees r.1) rs) (λ r. tt)

two_groups_only : (cs : List Held) → OnlyRefuses (two_groups cs)
two_groups_only [] = tt
two_groups_only (c ∷ cs) =
    mapped (λ (d : Held). TwoGroups c.group.id d.group.id) (find (λ (d : Held). not (bytes_eq d.group.id c.group.id)) cs) (λ d. tt)

conflict_only : (cs : List Held) → OnlyRefuses (conflict cs)
conflict_only cs =
    chained (λ (b : Held). option_map (λ (d : Held). Conflict b.disk d.disk b.group.seqno)
    (find (λ (d : Held). d.group.seqno == b.group.seqno && not (bytes_eq d.text b.text)) cs)) (best cs) (λ b.
    mapped (λ (d : Held). Conflict b.disk d.disk b.group.seqno)
    (find (λ (d : Held). d.group.seqno == b.group.seqno && not (bytes_eq d.text b.text)) cs) (λ d. tt))

shape_only : (misplaced : Option ℕ) (held : Bool) (disk : ℕ)
    → OnlyRefuses (unwrap_or (option_map (λ (d : ℕ). Some (PvShape d)) misplaced) (cond held None (Some (PvShape disk))))
shape_only None true disk = tt
shape_only None false disk = tt
shape_only (Some d) held disk = tt

misshapen_only : (cs : List Held) (disks : List Reading) → OnlyRefuses (misshapen cs disks)
misshapen_only cs disks =
    chained (λ (b : Held). misshapen_by b disks) (best cs)
    (λ b. shape_only (first_misplaced b.group disks) (is_held b.group b.text disks) b.disk)

-- each test before the answer was passed
pub record Passes (disks : List Reading) (answer : ScanAnswer) : Type 0 where
  pub apart : duplicates disks ≡ None
  pub copy : no_copy (copies disks) (refusals disks) ≡ None
  pub supported : unsupported (copies disks) (refusals disks) ≡ None
  pub one_group : two_groups (copies disks) ≡ None
  pub agree : conflict (copies disks) ≡ None
  pub shape : misshapen (copies disks) disks ≡ None
  pub is : found (copies disks) disks ≡ answer

pub passes : (disks : List Reading) (answer : ScanAnswer) → (Refuses answer → ⊥) → decide_scan disks ≡ answer → Passes disks answer
unfolding decide_scan
passes disks answer nothing is =
    let cs : List Held = copies disks in
    let rs : List (ℕ × CopyRefusal) = refusals disks in
    let f1 : ScanAnswer = unwrap_or (misshapen cs disks) (found cs disks) in
    let f2 : ScanAnswer = unwrap_or (conflict cs) f1 in
    let f3 : ScanAnswer = unwrap_or (two_groups cs) f2 in
    let f4 : ScanAnswer = unwrap_or (unsupported cs rs) f3 in
    let f5 : ScanAnswer = unwrap_or (no_copy cs rs) f4 in
    let a : (duplicates disks ≡ None) × (f5 ≡ answer) =
    past (duplicates disks) f5 answer (mapped (λ (pair : ℕ × ℕ). DuplicatePv pair.0 pair.1) (first_duplicate (ids_from 0 disks))
    (λ pair. tt)) nothing is in
    let b : (no_copy cs rs ≡ None) × (f4 ≡ answer) = past (no_copy cs rs) f4 answer (no_copy_only cs rs) nothing a.1 in
    let c : (unsupported cs rs ≡ None) × (f3 ≡ answer) = past (unsupported cs rs) f3 answer (unsupported_only cs rs) nothing b.1 in
    let d : (two_groups cs ≡ None) × (f2 ≡ answer) = past (two_groups cs) f2 answer (two_groups_only cs) nothing c.1 in
    let e : (conflict cs ≡ None) × (f1 ≡ answer) = past (conflict cs) f1 answer (conflict_only cs) nothing d.1 in
    let f : (misshapen cs disks ≡ None) × (found cs disks ≡ answer) =
    past (misshapen cs disks) (found cs disks) answer (misshapen_only cs disks) nothing e.1 in
    record { apart = a.0; copy = b.0; supported = c.0; one_group = d.0; agree = e.0; shape = f.0; is = f.1 }

-- ---- a group that was found

-- the parts of an answer
abbrev held_in : ScanAnswer → Option Held
held_in (FoundGroup held stale strays missing) = Some held
held_in _ = None

abbrev stale_of_answer : ScanAnswer → List (ℕ × ℕ)
stale_of_answer (FoundGroup held stale strays missing) = stale
stale_of_answer _ = []

abbrev strays_of_answer : ScanAnswer → List ℕ
strays_of_answer (FoundGroup held stale strays missing) = strays
strays_of_answer _ = []

abbrev missing_of_answer : ScanAnswer → List (List ℕ)
missing_of_answer (FoundGroup held stale strays missing) = missing
missing_of_answer _ = []

-- the disks that hold something of a group that doesn't list them
abbrev pub strays_in : Group → List Reading → List ℕ
strays_in group disks =
    filter_map (λ (d : ℕ × Reading). cond (not (is_listed group d.1) && list_any is_something (readings_in d.1)) (Some d.0) None)
    (enumerate_from 0 disks)

-- what is known of a group that was found
pub record IsFoundWith (disks : List Reading) (held : Held) (stale : List (ℕ × ℕ)) (strays : List ℕ) (missing : List (List ℕ)) : Type 0
  where
    pub apart : first_duplicate (ids_from 0 disks) ≡ None
    pub best_is : best (copies disks) ≡ Some held
    pub placed : first_misplaced held.group disks ≡ None
    pub is_held_is : is_held held.group held.text disks ≡ true
    pub stale_are : flat_map (stale_of held.group held.text) (enumerate_from 0 disks) ≡ stale
    pub strays_are : strays_in held.group disks ≡ strays
    pub missing_are : missing_of disks held.group.pvs ≡ missing

no_pair : (o : Option (ℕ × ℕ)) → option_map (λ (pair : ℕ × ℕ). DuplicatePv pair.0 pair.1) o ≡ None → o ≡ None
no_pair None is = refl
no_pair (Some pair) is = absurd cc

well_by : (o : Option ℕ) (held : Bool) (disk : ℕ)
    → unwrap_or (option_map (λ (d : ℕ). Some (PvShape d)) o) (cond held None (Some (PvShape disk))) ≡ None → (o ≡ None) × (held ≡ true)
well_by None true disk is = (refl, refl)
well_by None false disk is = absurd cc
well_by (Some d) held disk is = absurd cc

best_found : (disks : List Reading) (o : Option Held) (answer : ScanAnswer) (held : Held)
    → unwrap_or (option_map (found_with disks) o) NoGroup ≡ answer → held_in answer ≡ Some held → o ≡ Some held
best_found disks None answer held is has = absurd (let none : ◌≡◌ {A = Option Held} None (Some held) = ap held_in is ∙ has in cc)
best_found disks (Some b) answer held is has = ap held_in is ∙ has

pub found_parts : (disks : List Reading) (held : Held) (stale : List (ℕ × ℕ)) (strays : List ℕ) (missing : List (List ℕ))
    → decide_scan disks ≡ FoundGroup held stale strays missing → IsFoundWith disks held stale strays missing
found_parts disks held stale strays missing is =
    let answer : ScanAnswer = FoundGroup held stale strays missing in
    let p : Passes disks answer = passes disks answer (λ nothing. nothing) is in
    let b : best (copies disks) ≡ Some held = best_found disks (best (copies disks)) answer held p.is refl in
    let shape : misshapen_by held disks ≡ None =
    sym (ap (λ (o : Option Held). option_and_then (λ (x : Held). misshapen_by x disks) o) b) ∙ p.shape in
    let well = well_by (first_misplaced held.group disks) (is_held held.group held.text disks) held.disk shape in
    let with : found_with disks held ≡ answer =
    sym (ap (λ (o : Option Held). unwrap_or (option_map (found_with disks) o) NoGroup) b) ∙ p.is in
    record {
      apart = no_pair (first_duplicate (ids_from 0 disks)) p.apart;
      best_is = b;
      placed = well.0;
      is_held_is = well.1;
      stale_are = ap stale_of_answer with;
      strays_are = ap strays_of_answer with;
      missing_are = ap missing_of_answer with;
    }

-- ---- no group

no_best : (cs : List Held) (disks : List Reading) → found cs disks ≡ NoGroup → cs ≡ []
no_best [] disks is = refl
no_best (c ∷ cs) disks is = absurd (let none : ◌≡◌ {A = Option Held} (Some (greater c (best cs))) None = ap held_in is in cc)

no_refusal : (rs : List (ℕ × CopyRefusal)) → no_copy [] rs ≡ None → rs ≡ []
no_refusal [] is = refl
no_refusal (r ∷ rs) is = absurd cc

-- no copy and no refusal
pub record HasNothing (disks : List Reading) : Type 0 where
  pub apart : first_duplicate (ids_from 0 disks) ≡ None
  pub no_copies : copies_from 0 disks ≡ []
  pub no_refusals : refusals_from 0 disks ≡ []

pub none_parts : (disks : List Reading) → decide_scan disks ≡ NoGroup → HasNothing disks
unfolding copies refusals
none_parts disks is =
    let p : Passes disks NoGroup = passes disks NoGroup (λ nothing. nothing) is in
    let none : copies disks ≡ [] = no_best (copies disks) disks p.is in
    record {
      apart = no_pair (first_duplicate (ids_from 0 disks)) p.apart;
      no_copies = none;
      no_refusals = no_refusal (refusals disks) (subst (λ (cs : List Held). no_copy cs (refusals disks) ≡ None) none p.copy);
    }

pub nothing_found : (disks : List Reading) → HasNothing disks → decide_scan disks ≡ NoGroup
unfolding decide_scan copies refusals
nothing_found disks h =
    let tests : Option (ℕ × ℕ) → List Held → List (ℕ × CopyRefusal) → ScanAnswer =
    λ pair cs rs.
    unwrap_or (option_map (λ (p : ℕ × ℕ). DuplicatePv p.0 p.1) pair)
    (unwrap_or (no_copy cs rs) (unwrap_or (unsupported cs rs)
    (unwrap_or (two_groups cs) (unwrap_or (conflict cs) (unwrap_or (misshapen cs disks) (found cs disks)))))) in
    ap (λ (o : Option (ℕ × ℕ)). tests o (copies_from 0 disks) (refusals_from 0 disks)) h.apart
    ∙ ap (λ (cs : List Held). tests None cs (refusals_from 0 disks)) h.no_copies
    ∙ ap (λ (rs : List (ℕ × CopyRefusal)). tests None [] rs) h.no_refusals
