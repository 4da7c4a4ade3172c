-- A scan finds the greatest version that a listed physical volume holds.
use Rattle.std.proofs.Common.{◌≡◌, ◌≢◌, ℕ, ◌+◌, ◌<◌, ◌≤◌, ◌⊎◌, Bool, true, false, not, ◌&&◌, cond, nat_le, List, [], ◌∷◌, ◌++◌, Option}
use Rattle.std.proofs.Common.{Some, None, inl, inr, ⊎_elim, refl, sym, ap, subst, ◌∙◌, arith}
use Rattle.std.specs.Prelude.{option_map, unwrap_or, find, filter_map, ◌==◌}
use Rattle.std.specs.Option.{option_and_then}
use Rattle.std.specs.List.{AllByRecursion, list_any}
use Rattle.std.proofs.lemmas.Bool.{and_parts, or_cases, leb-true, le-leb, eqb-true, eq-eqb, false≢true}
use Rattle.std.proofs.lemmas.Option.{same_Some}
use Rattle.std.specs.Str.{bytes_eq}
use Rattle.meta_model.specs.declared.group.Group.{Group}
use Rattle.scan_rules.specs.declared.copy_refusal.CopyRefusal.{CopyRefusal}
use Rattle.scan_rules.specs.Decision.{sum_agrees, AreaReading, HoldsNone, Copy, Refused, Reading, Held, ScanAnswer, DuplicatePv}
use Rattle.scan_rules.specs.Decision.{Unsupported, TwoGroups, Conflict, PvShape, NoGroup, copy_of, refusal_of, readings_in}
use Rattle.scan_rules.specs.Decision.{copies_from, refusals_from, copies, refusals, greater, best, is_listed, duplicates, no_copy}
use Rattle.scan_rules.specs.Decision.{unsupported, two_groups, conflict, gives, holds, first_misplaced, is_held, misshapen_by, misshapen}
use Rattle.scan_rules.specs.Decision.{found, found_with, decide_scan, group_found, GivesNoLater, EachArea, GivesVersion, HasShape}

pub same_bytes_to : (xs ys : List ℕ) → xs ≡ ys → bytes_eq xs ys ≡ true
same_bytes_to xs ys same = subst (λ (l : List ℕ). bytes_eq xs l ≡ true) same (itself xs) where
  itself : (l : List ℕ) → bytes_eq l l ≡ true
  itself [] = refl
  itself (x ∷ l) = ap (λ (b : Bool). b && bytes_eq l l) (eq-eqb x x refl) ∙ itself l

pub same_bytes_tells : (xs ys : List ℕ) → bytes_eq xs ys ≡ true → xs ≡ ys
same_bytes_tells [] [] is = refl
same_bytes_tells [] (y ∷ ys) is = absurd (false≢true is)
same_bytes_tells (x ∷ xs) [] is = absurd (false≢true is)
same_bytes_tells (x ∷ xs) (y ∷ ys) is =
    let parts = and_parts (x == y) (bytes_eq xs ys) is in
    ap (λ (n : ℕ). n ∷ xs) (eqb-true x y parts.0) ∙ ap (λ (l : List ℕ). y ∷ l) (same_bytes_tells xs ys parts.1)

-- nothing is found where nothing passes
find_none : {X : Type 0} (test : X → Bool) (xs : List X) → AllByRecursion (λ x. test x ≡ false) xs → find test xs ≡ None
find_none test [] all = refl
find_none test (x ∷ xs) all = ap (λ (b : Bool). cond b (Some x) (find test xs)) all.0 ∙ find_none test xs all.1

all_append : {X : Type 0} (P : X → Type 0) (xs ys : List X) → AllByRecursion P xs → AllByRecursion P ys → AllByRecursion P (xs ++ ys)
all_append P [] ys a b = b
all_append P (x ∷ xs) ys a b = (a.0, all_append P xs ys a.1 b)

all_weaker : {X : Type 0} (P Q : X → Type 0) (xs : List X) → ((x : X) → P x → Q x) → AllByRecursion P xs → AllByRecursion Q xs
all_weaker P Q [] weaker all = tt
all_weaker P Q (x ∷ xs) weaker all = (weaker x all.0, all_weaker P Q xs weaker all.1)

-- a copy that is this group of this text, or an older one
abbrev IsNoLater : Group → List ℕ → Held → Type 0
IsNoLater group text c = (c.group.id ≡ group.id) × (((c.group ≡ group) × (c.text ≡ text)) ⊎ (c.group.seqno < group.seqno))

abbrev Is : Group → List ℕ → Held → Type 0
Is group text c = (c.group ≡ group) × (c.text ≡ text)

-- the list has it
abbrev Has : Group → List ℕ → List Held → Type 0
Has group text [] = ⊥
Has group text (c ∷ cs) = Is group text c ⊎ Has group text cs

has_left : (group : Group) (text : List ℕ) (xs ys : List Held) → Has group text xs → Has group text (xs ++ ys)
has_left group text [] ys has = absurd has
has_left group text (c ∷ xs) ys (inl here) = inl here
has_left group text (c ∷ xs) ys (inr later) = inr (has_left group text xs ys later)

has_right : (group : Group) (text : List ℕ) (xs ys : List Held) → Has group text ys → Has group text (xs ++ ys)
has_right group text [] ys has = has
has_right group text (c ∷ xs) ys has = inr (has_right group text xs ys has)

-- the greater of two that are no later
abbrev BestIs : Group → List ℕ → List Held → Type 0
BestIs group text cs = (b : Held) × (best cs ≡ Some b) × Is group text b

no_later : (group : Group) (text : List ℕ) (c : Held) → IsNoLater group text c → c.group.seqno ≤ group.seqno
no_later group text c (id, inl it) = let e = ap (λ (g : Group). g.seqno) it.0 in omega arith
no_later group text c (id, inr earlier) = omega arith

keeps_first : (group : Group) (text : List ℕ) (c d : Held) (b : Bool) → nat_le d.group.seqno c.group.seqno ≡ b → Is group text c
    → IsNoLater group text d → Is group text (cond b c d)
keeps_first group text c d true test it other = it
keeps_first group text c d false test it other =
    let e = ap (λ (g : Group). g.seqno) it.0 in
    let h : d.group.seqno ≤ group.seqno = no_later group text d other in
    absurd (false≢true (sym test ∙ le-leb d.group.seqno c.group.seqno (omega arith)))

keeps_later : (group : Group) (text : List ℕ) (c d : Held) (b : Bool) → nat_le d.group.seqno c.group.seqno ≡ b → IsNoLater group text c
    → Is group text d → Is group text (cond b c d)
keeps_later group text c d false test other it = it
keeps_later group text c d true test (id, inl is) it = is
keeps_later group text c d true test (id, inr earlier) it =
    let e = ap (λ (g : Group). g.seqno) it.0 in
    let h : d.group.seqno ≤ c.group.seqno = leb-true d.group.seqno c.group.seqno test in
    absurd (omega arith)

-- what holds of all copies holds of the best
pick : (P : Held → Type 0) (c d : Held) (b : Bool) → P c → P d → P (cond b c d)
pick P c d true p q = p
pick P c d false p q = q

of_greater : (P : Held → Type 0) (c : Held) (o : Option Held) → P c → ((d : Held) → o ≡ Some d → P d) → P (greater c o)
of_greater P c None p later = p
of_greater P c (Some d) p later = pick P c d (nat_le d.group.seqno c.group.seqno) p (later d refl)

best_all : (P : Held → Type 0) (cs : List Held) → AllByRecursion P cs → (b : Held) → best cs ≡ Some b → P b
best_all P [] all b is = cc
best_all P (c ∷ cs) all b is = subst P (same_Some (greater c (best cs)) b is) (of_greater P c (best cs) all.0 (best_all P cs all.1))

first_is : (group : Group) (text : List ℕ) (c : Held) (o : Option Held) → Is group text c
    → ((d : Held) → o ≡ Some d → IsNoLater group text d) → Is group text (greater c o)
first_is group text c None it later = it
first_is group text c (Some d) it later = keeps_first group text c d (nat_le d.group.seqno c.group.seqno) refl it (later d refl)

later_is : (group : Group) (text : List ℕ) (c : Held) (o : Option Held) → IsNoLater group text c → (d : Held) → o ≡ Some d → Is group text d
    → Is group text (greater c o)
later_is group text c None other d is it = cc
later_is group text c (Some e) other d is it =
    keeps_later group text c e (nat_le e.group.seqno c.group.seqno) refl other (subst (Is group text) (sym (same_Some e d is)) it)

best_is : (group : Group) (text : List ℕ) (cs : List Held) → AllByRecursion (IsNoLater group text) cs → Has group text cs
    → BestIs group text cs
best_is group text [] all has = absurd has
best_is group text (c ∷ cs) all (inl here) =
    (greater c (best cs), refl, first_is group text c (best cs) here (best_all (IsNoLater group text) cs all.1))
best_is group text (c ∷ cs) all (inr later) =
    let rest : BestIs group text cs = best_is group text cs all.1 later in
    (greater c (best cs), refl, later_is group text c (best cs) all.0 rest.0 rest.1 rest.2)

-- all copies are of one group
one_group : (group : Group) (text : List ℕ) (cs : List Held) → AllByRecursion (IsNoLater group text) cs → two_groups cs ≡ None
one_group group text [] all = refl
one_group group text (c ∷ cs) all =
    ap (λ (o : Option Held). option_map (λ (d : Held). TwoGroups c.group.id d.group.id) o)
    (find_none (λ (d : Held). not (bytes_eq d.group.id c.group.id)) cs
    (all_weaker (IsNoLater group text) (λ d. not (bytes_eq d.group.id c.group.id) ≡ false) cs
    (λ d is. ap not (same_bytes_to d.group.id c.group.id (is.0 ∙ sym all.0.0))) all.1))

-- no two of the greatest differ
and_false : (b : Bool) → (b && false) ≡ false
and_false true = refl
and_false false = refl

is_false : (b : Bool) → (b ≡ true → ⊥) → b ≡ false
is_false true not_true = absurd (not_true refl)
is_false false not_true = refl

agrees : (group : Group) (text : List ℕ) (b c : Held) → Is group text b → IsNoLater group text c
    → (c.group.seqno == b.group.seqno && not (bytes_eq c.text b.text)) ≡ false
agrees group text b c it (id, inl is) =
    ap (λ (t : Bool). c.group.seqno == b.group.seqno && not t) (same_bytes_to c.text b.text (is.1 ∙ sym it.1))
    ∙ and_false (c.group.seqno == b.group.seqno)
agrees group text b c it (id, inr earlier) =
    let e = ap (λ (g : Group). g.seqno) it.0 in
    let differ : (c.group.seqno == b.group.seqno) ≡ false =
    is_false (c.group.seqno == b.group.seqno) (λ same. let h = eqb-true c.group.seqno b.group.seqno same in absurd (omega arith)) in
    ap (λ (t : Bool). t && not (bytes_eq c.text b.text)) differ

no_conflict : (group : Group) (text : List ℕ) (cs : List Held) → AllByRecursion (IsNoLater group text) cs → BestIs group text cs
    → conflict cs ≡ None
no_conflict group text cs all b =
    let of_best : Option Held → Option ScanAnswer =
    λ o. option_and_then (λ (x : Held). option_map (λ (d : Held). Conflict x.disk d.disk x.group.seqno)
    (find (λ (d : Held). d.group.seqno == x.group.seqno && not (bytes_eq d.text x.text)) cs)) o in
    ap of_best b.1
    ∙ ap (λ (o : Option Held). option_map (λ (d : Held). Conflict b.0.disk d.disk b.0.group.seqno) o)
    (find_none (λ (d : Held). d.group.seqno == b.0.group.seqno && not (bytes_eq d.text b.0.text)) cs
    (all_weaker (IsNoLater group text) (λ d. (d.group.seqno == b.0.group.seqno && not (bytes_eq d.text b.0.text)) ≡ false) cs
    (λ d is. agrees group text b.0 d b.2 is) all))

-- the copies of areas that give nothing later
copies_no_later : (group : Group) (text : List ℕ) (disk : ℕ) (rs : List AreaReading) → AllByRecursion (GivesNoLater group text) rs
    → AllByRecursion (IsNoLater group text) (filter_map (copy_of disk) rs)
copies_no_later group text disk [] all = tt
copies_no_later group text disk (HoldsNone ∷ rs) all = copies_no_later group text disk rs all.1
copies_no_later group text disk (Refused why ∷ rs) all = copies_no_later group text disk rs all.1
copies_no_later group text disk (Copy other others passed ∷ rs) all =
    ((all.0.0, ⊎_elim (λ it. inl it) (λ earlier. inr earlier.0) all.0.1), copies_no_later group text disk rs all.1)

all_copies : (group : Group) (text : List ℕ) (disk : ℕ) (disks : List Reading) → EachArea (GivesNoLater group text) disks
    → AllByRecursion (IsNoLater group text) (copies_from disk disks)
all_copies group text disk [] all = tt
all_copies group text disk (d ∷ disks) all =
    all_append (IsNoLater group text) (filter_map (copy_of disk) (readings_in d)) (copies_from (disk + 1) disks)
    (copies_no_later group text disk (readings_in d) all.0) (all_copies group text (disk + 1) disks all.1)

-- no refused text agrees with its checksum
refusals_agree : (group : Group) (text : List ℕ) (disk : ℕ) (rs : List AreaReading) → AllByRecursion (GivesNoLater group text) rs
    → AllByRecursion (λ (r : ℕ × CopyRefusal). sum_agrees r.1 ≡ false) (filter_map (refusal_of disk) rs)
refusals_agree group text disk [] all = tt
refusals_agree group text disk (HoldsNone ∷ rs) all = refusals_agree group text disk rs all.1
refusals_agree group text disk (Refused why ∷ rs) all = (all.0, refusals_agree group text disk rs all.1)
refusals_agree group text disk (Copy other others passed ∷ rs) all = refusals_agree group text disk rs all.1

all_refusals : (group : Group) (text : List ℕ) (disk : ℕ) (disks : List Reading) → EachArea (GivesNoLater group text) disks
    → AllByRecursion (λ (r : ℕ × CopyRefusal). sum_agrees r.1 ≡ false) (refusals_from disk disks)
all_refusals group text disk [] all = tt
all_refusals group text disk (d ∷ disks) all =
    all_append (λ (r : ℕ × CopyRefusal). sum_agrees r.1 ≡ false) (filter_map (refusal_of disk) (readings_in d))
    (refusals_from (disk + 1) disks) (refusals_agree group text disk (readings_in d) all.0)
    (all_refusals group text (disk + 1) disks all.1)

-- a disk that holds the text has the copy
has_here : (group : Group) (text : List ℕ) (disk : ℕ) (other : Group) (others : List ℕ) (passed : List (List ℕ)) (rs : List AreaReading)
    → (((other ≡ group) × (others ≡ text)) ⊎ ((other.seqno < group.seqno) × (others ≢ text)))
    → (bytes_eq others text ≡ true) ⊎ (list_any (gives text) rs ≡ true)
    → (list_any (gives text) rs ≡ true → Has group text (filter_map (copy_of disk) rs))
    → Has group text (filter_map (copy_of disk) (Copy other others passed ∷ rs))
has_here group text disk other others passed rs (inl it) any later = inl it
has_here group text disk other others passed rs (inr earlier) (inl same) later = absurd (earlier.1 (same_bytes_tells others text same))
has_here group text disk other others passed rs (inr earlier) (inr any) later = inr (later any)

area_has : (group : Group) (text : List ℕ) (disk : ℕ) (rs : List AreaReading) → AllByRecursion (GivesNoLater group text) rs
    → list_any (gives text) rs ≡ true → Has group text (filter_map (copy_of disk) rs)
area_has group text disk [] all any = absurd (false≢true any)
area_has group text disk (HoldsNone ∷ rs) all any = area_has group text disk rs all.1 any
area_has group text disk (Refused why ∷ rs) all any = area_has group text disk rs all.1 any
area_has group text disk (Copy other others passed ∷ rs) all any =
    has_here group text disk other others passed rs all.0.1 (or_cases (bytes_eq others text) (list_any (gives text) rs) any)
    (area_has group text disk rs all.1)

disks_have : (group : Group) (text : List ℕ) (disk : ℕ) (disks : List Reading) → EachArea (GivesNoLater group text) disks
    → is_held group text disks ≡ true → Has group text (copies_from disk disks)
disks_have group text disk [] all any = absurd (false≢true any)
disks_have group text disk (d ∷ disks) all any =
    ⊎_elim
    (λ here.
    has_left group text (filter_map (copy_of disk) (readings_in d)) (copies_from (disk + 1) disks)
    (area_has group text disk (readings_in d) all.0 (and_parts (is_listed group d) (holds text d) here).1))
    (λ later. has_right group text (filter_map (copy_of disk) (readings_in d)) (copies_from (disk + 1) disks)
    (disks_have group text (disk + 1) disks all.1 later))
    (or_cases (is_listed group d && holds text d) (is_held group text disks) any)

-- where there is a copy, no test on copies and refusals refuses
no_copy_none : (group : Group) (text : List ℕ) (cs : List Held) (rs : List (ℕ × CopyRefusal)) → Has group text cs → no_copy cs rs ≡ None
no_copy_none group text [] rs has = absurd has
no_copy_none group text (c ∷ cs) rs has = refl

unsupported_none : (cs : List Held) (rs : List (ℕ × CopyRefusal)) → AllByRecursion (λ (r : ℕ × CopyRefusal). sum_agrees r.1 ≡ false) rs
    → unsupported cs rs ≡ None
unsupported_none [] rs all = refl
unsupported_none (c ∷ cs) rs all =
    ap (λ (o : Option (ℕ × CopyRefusal)). option_map (λ (r : ℕ × CopyRefusal). Unsupported r.0) o)
    (find_none (λ (r : ℕ × CopyRefusal). sum_agrees r.1) rs all)

well_shaped : (group : Group) (text : List ℕ) (cs : List Held) (disks : List Reading) → BestIs group text cs
    → first_misplaced group disks ≡ None → is_held group text disks ≡ true → misshapen cs disks ≡ None
well_shaped group text cs disks b placed held =
    ap (λ (o : Option Held). option_and_then (λ (x : Held). misshapen_by x disks) o) b.1
    ∙ ap (λ (o : Option ℕ). unwrap_or (option_map (λ (disk : ℕ). Some (PvShape disk)) o)
    (cond (is_held b.0.group b.0.text disks) None (Some (PvShape b.0.disk))))
    (ap (λ (g : Group). first_misplaced g disks) b.2.0 ∙ placed)
    ∙ ap (λ (t : Bool). cond t None (Some (PvShape b.0.disk)))
    (ap (λ (g : Group). is_held g b.0.text disks) b.2.0 ∙ ap (λ (t : List ℕ). is_held group t disks) b.2.1 ∙ held)

of_best : (disks : List Reading) (cs : List Held) (b : Held) → best cs ≡ Some b → group_found (found cs disks) ≡ Some (b.group, b.text)
of_best disks cs b is = ap (λ (o : Option Held). group_found (unwrap_or (option_map (found_with disks) o) NoGroup)) is

-- the scan finds this version, where each area gives nothing later, and a listed physical volume holds it
pub scan_finds : (group : Group) (text : List ℕ) (disks : List Reading) → HasShape group disks → EachArea (GivesNoLater group text) disks
    → is_held group text disks ≡ true → group_found (decide_scan disks) ≡ Some (group, text)
unfolding decide_scan copies refusals
scan_finds group text disks shape all held =
    let cs : List Held = copies_from 0 disks in
    let rs : List (ℕ × CopyRefusal) = refusals_from 0 disks in
    let earlier : AllByRecursion (IsNoLater group text) cs = all_copies group text 0 disks all in
    let has : Has group text cs = disks_have group text 0 disks all held in
    let b : BestIs group text cs = best_is group text cs earlier has in
    let pair : Group → List ℕ → Option (Group × List ℕ) = λ g t. Some (g, t) in
    let no_duplicates : duplicates disks ≡ None =
    ap (λ (o : Option (ℕ × ℕ)). option_map (λ (p : ℕ × ℕ). DuplicatePv p.0 p.1) o) shape.apart in
    let f1 : ScanAnswer = unwrap_or (misshapen cs disks) (found cs disks) in
    let f2 : ScanAnswer = unwrap_or (conflict cs) f1 in
    let f3 : ScanAnswer = unwrap_or (two_groups cs) f2 in
    let f4 : ScanAnswer = unwrap_or (unsupported cs rs) f3 in
    let f5 : ScanAnswer = unwrap_or (no_copy cs rs) f4 in
    ap (λ (o : Option ScanAnswer). group_found (unwrap_or o f5)) no_duplicates
    ∙ ap (λ (o : Option ScanAnswer). group_found (unwrap_or o f4)) (no_copy_none group text cs rs has)
    ∙ ap (λ (o : Option ScanAnswer). group_found (unwrap_or o f3)) (unsupported_none cs rs (all_refusals group text 0 disks all))
    ∙ ap (λ (o : Option ScanAnswer). group_found (unwrap_or o f2)) (one_group group text cs earlier)
    ∙ ap (λ (o : Option ScanAnswer). group_found (unwrap_or o f1)) (no_conflict group text cs earlier b)
    ∙ ap (λ (o : Option ScanAnswer). group_found (unwrap_or o (found cs disks))) (well_shaped group text cs disks b shape.placed held)
    ∙ of_best disks cs b.0 b.1
    ∙ ap (λ (g : Group). pair g b.0.text) b.2.0
    ∙ ap (pair group) b.2.1

-- of the versions during a commit
each_weaker : (P Q : AreaReading → Type 0) (disks : List Reading) → ((r : AreaReading) → P r → Q r) → EachArea P disks → EachArea Q disks
each_weaker P Q [] weaker all = tt
each_weaker P Q (d ∷ disks) weaker all = (all_weaker P Q (readings_in d) weaker all.0, each_weaker P Q disks weaker all.1)

no_later_than_new : (old : Group) (old_text : List ℕ) (new : Group) (new_text : List ℕ) → old.id ≡ new.id → old.seqno < new.seqno
    → old_text ≢ new_text → (r : AreaReading) → GivesVersion old old_text new new_text r → GivesNoLater new new_text r
no_later_than_new old old_text new new_text ids later differ HoldsNone is = tt
no_later_than_new old old_text new new_text ids later differ (Refused why) is = absurd is
no_later_than_new old old_text new new_text ids later differ (Copy other others passed) (inl it) =
    let e = ap (λ (g : Group). g.seqno) it.0 in
    (ap (λ (g : Group). g.id) it.0 ∙ ids, inr (omega arith, λ same. differ (sym it.1 ∙ same)))
no_later_than_new old old_text new new_text ids later differ (Copy other others passed) (inr (inl it)) =
    (ap (λ (g : Group). g.id) it.0, inl it)
no_later_than_new old old_text new new_text ids later differ (Copy other others passed) (inr (inr is)) =
    let lt : other.seqno < old.seqno = is.1 in (is.0 ∙ ids, inr (omega arith, is.3))

-- no area gives the new text
abbrev pub GivesOld : Group → List ℕ → Group → List ℕ → AreaReading → Type 0
GivesOld old old_text new new_text r = GivesVersion old old_text new new_text r × (gives new_text r ≡ false)

no_later_than_old : (old : Group) (old_text : List ℕ) (new : Group) (new_text : List ℕ) → (r : AreaReading)
    → GivesOld old old_text new new_text r → GivesNoLater old old_text r
no_later_than_old old old_text new new_text HoldsNone is = tt
no_later_than_old old old_text new new_text (Refused why) is = absurd is.0
no_later_than_old old old_text new new_text (Copy other others passed) (inl it, apart) = (ap (λ (g : Group). g.id) it.0, inl it)
no_later_than_old old old_text new new_text (Copy other others passed) (inr (inl it), apart) =
    absurd (false≢true (sym apart ∙ same_bytes_to others new_text it.1))
no_later_than_old old old_text new new_text (Copy other others passed) (inr (inr is), apart) = (is.0, inr (is.1, is.2))

-- while a commit publishes, the scan finds the new version where a physical volume that it lists holds it, and the old
-- one where no area gives the new
pub scan_of_versions : (old : Group) (old_text : List ℕ) (new : Group) (new_text : List ℕ) (disks : List Reading) → old.id ≡ new.id
    → old.seqno < new.seqno → old_text ≢ new_text → EachArea (GivesVersion old old_text new new_text) disks
    → (HasShape new disks → is_held new new_text disks ≡ true → group_found (decide_scan disks) ≡ Some (new, new_text))
    × (HasShape old disks → EachArea (λ r. gives new_text r ≡ false) disks → is_held old old_text disks ≡ true
    → group_found (decide_scan disks) ≡ Some (old, old_text))
scan_of_versions old old_text new new_text disks ids later differ all = (
  λ shape held. scan_finds new new_text disks shape
      (each_weaker (GivesVersion old old_text new new_text) (GivesNoLater new new_text) disks
      (no_later_than_new old old_text new new_text ids later differ) all) held,
  λ shape none held. scan_finds old old_text disks shape
      (each_weaker (GivesOld old old_text new new_text) (GivesNoLater old old_text) disks (no_later_than_old old old_text new new_text)
      (each_both disks all none)) held,
)
  where
    each_both : (disks : List Reading) → EachArea (GivesVersion old old_text new new_text) disks
        → EachArea (λ r. gives new_text r ≡ false) disks → EachArea (GivesOld old old_text new new_text) disks
    each_both [] a b = tt
    each_both (d ∷ disks) a b = (both (readings_in d) a.0 b.0, each_both disks a.1 b.1) where
      both : (rs : List AreaReading) → AllByRecursion (GivesVersion old old_text new new_text) rs
          → AllByRecursion (λ r. gives new_text r ≡ false) rs → AllByRecursion (GivesOld old old_text new new_text) rs
      both [] a b = tt
      both (r ∷ rs) a b = ((a.0, b.0), both rs a.1 b.1)
