-- Where a group was found, no area gives anything later.
use Rattle.std.proofs.Common.{◌≡◌, ◌≤◌, ◌<◌, ℕ, ◌+◌, Bool, true, false, not, ◌&&◌, cond, nat_le, List, [], ◌∷◌, ◌++◌, Option, Some, None}
use Rattle.std.proofs.Common.{inl, inr, ⊎_elim, refl, sym, ap, subst, ◌∙◌, arith}
use Rattle.std.specs.Prelude.{filter_map, find, option_map, unwrap_or, ◌==◌}
use Rattle.std.specs.Option.{option_and_then}
use Rattle.std.specs.List.{AllByRecursion, cons_option}
use Rattle.std.proofs.lemmas.Bool.{cases_lt, eq-eqb, le-leb, leb-true, true≢false}
use Rattle.std.proofs.lemmas.Option.{same_Some}
use Rattle.std.specs.Str.{bytes_eq}
use Rattle.meta_model.specs.declared.group.Group.{Group}
use Rattle.scan_rules.specs.declared.copy_refusal.CopyRefusal.{CopyRefusal}
use Rattle.scan_rules.specs.Decision.{Area, AreaReading, Conflict, Copy, Found, FoundGroup, GivesNoLater, Held, HoldsNone, Reading, Refused}
use Rattle.scan_rules.specs.Decision.{TwoGroups, Unsupported, best, conflict, copies, copies_from, copy_of, decide_scan, greater}
use Rattle.scan_rules.specs.Decision.{readings_in, refusal_of, refusals, refusals_from, sum_agrees, two_groups, unsupported}
use Rattle.scan_rules.proofs.Scanning.{same_bytes_tells}
use Rattle.vg_scan.specs.Texts.{IsCopyOf}
use Rattle.image_scans.proofs.Decided.{IsFoundWith, Passes, found_parts, passes}
use Rattle.image_scans.proofs.AreaReadings.{AreasGive, CopyHas, DisksGive, GivenHas, PvGives, best_copy_has, disks_both, disks_weaker}
use Rattle.image_scans.proofs.SettledBase.{IsItsCopy, one_copy}

-- ---- lists

find_parts : {X : Type 0} (test : X → Bool) (x : X) (b : Bool) (rest : Option X) → test x ≡ b → cond b (Some x) rest ≡ None
    → (test x ≡ false) × (rest ≡ None)
find_parts test x true rest is none = absurd cc
find_parts test x false rest is none = (is, none)

find_each : {X : Type 0} (test : X → Bool) (xs : List X) → find test xs ≡ None → AllByRecursion (λ x. test x ≡ false) xs
find_each test [] none = tt
find_each test (x ∷ xs) none = let parts = find_parts test x (test x) (find test xs) refl none in (parts.0, find_each test xs parts.1)

all_both : {X : Type 0} (P Q : X → Type 0) (xs : List X) → AllByRecursion P xs → AllByRecursion Q xs → AllByRecursion (λ x. P x × Q x) xs
all_both P Q [] a b = tt
all_both P Q (x ∷ xs) a b = ((a.0, b.0), all_both P Q xs a.1 b.1)

all_weaker : {X : Type 0} (P Q : X → Type 0) → ((x : X) → P x → Q x) → (xs : List X) → AllByRecursion P xs → AllByRecursion Q xs
all_weaker P Q weaker [] all = tt
all_weaker P Q weaker (x ∷ xs) all = (weaker x all.0, all_weaker P Q weaker xs all.1)

no_map : {X Y : Type 0} (f : X → Y) (o : Option X) → option_map f o ≡ None → o ≡ None
no_map f None none = refl
no_map f (Some x) none = absurd cc

-- ---- from copies and refusals to areas

all_parts : {X : Type 0} (P : X → Type 0) (xs ys : List X) → AllByRecursion P (xs ++ ys) → AllByRecursion P xs × AllByRecursion P ys
all_parts P [] ys all = (tt, all)
all_parts P (x ∷ xs) ys all = let later = all_parts P xs ys all.1 in ((all.0, later.0), later.1)

module _ {Y : Type 0} (f : ℕ → AreaReading → Option Y) (P : Y → Type 0) (Q : AreaReading → Type 0)
    (each : (disk : ℕ) (r : AreaReading) (rest : List Y) → AllByRecursion P (cons_option (f disk r) rest) → Q r × AllByRecursion P rest)
  where
    given_from : (disk : ℕ) (o : Option AreaReading) (rest : List AreaReading) → AllByRecursion P (filter_map (f disk) (cons_option o rest))
        → GivenHas Q o × AllByRecursion P (filter_map (f disk) rest)
    given_from disk None rest all = (tt, all)
    given_from disk (Some r) rest all = each disk r (filter_map (f disk) rest) all

    areas_from : (disk : ℕ) (areas : List Area) → AllByRecursion P (filter_map (f disk) (filter_map (λ (area : Area). area.reading) areas))
        → AreasGive Q areas
    areas_from disk [] all = tt
    areas_from disk (area ∷ areas) all =
        let parts = given_from disk area.reading (filter_map (λ (a : Area). a.reading) areas) all in
        (parts.0, areas_from disk areas parts.1)

    pv_from : (disk : ℕ) (pv : Option Found)
        → AllByRecursion P (filter_map (f disk) (unwrap_or
        (option_map (λ (p : Found). filter_map (λ (area : Area). area.reading) p.areas) pv)
        [])) → PvGives Q pv
    pv_from disk None all = tt
    pv_from disk (Some pv) all = areas_from disk pv.areas all

abbrev HeldHas : (Group → List ℕ → List (List ℕ) → Type 0) → Held → Type 0
HeldHas P held = P held.group held.text held.passed

one_copied : (P : Group → List ℕ → List (List ℕ) → Type 0) (disk : ℕ) (r : AreaReading) (rest : List Held)
    → AllByRecursion (HeldHas P) (cons_option (copy_of disk r) rest) → CopyHas P r × AllByRecursion (HeldHas P) rest
one_copied P disk HoldsNone rest all = (tt, all)
one_copied P disk (Copy group text passed) rest all = all
one_copied P disk (Refused why) rest all = (tt, all)

copied_from : (P : Group → List ℕ → List (List ℕ) → Type 0) (first : ℕ) (disks : List Reading)
    → AllByRecursion (HeldHas P) (copies_from first disks) → DisksGive (λ disk. CopyHas P) disks
copied_from P first [] all = tt
copied_from P first (disk ∷ disks) all =
    let parts = all_parts (HeldHas P) (filter_map (copy_of first) (readings_in disk)) (copies_from (first + 1) disks) all in
    (pv_from copy_of (HeldHas P) (CopyHas P) (one_copied P) first disk.pv parts.0, copied_from P (first + 1) disks parts.1)

-- a refusal of header or checksum
abbrev IsPlainRefusal : ℕ × CopyRefusal → Type 0
IsPlainRefusal r = sum_agrees r.1 ≡ false

abbrev RefusesPlainly : AreaReading → Type 0
RefusesPlainly HoldsNone = Unit {0}
RefusesPlainly (Copy group text passed) = Unit {0}
RefusesPlainly (Refused why) = sum_agrees why ≡ false

one_refused : (disk : ℕ) (r : AreaReading) (rest : List (ℕ × CopyRefusal))
    → AllByRecursion IsPlainRefusal (cons_option (refusal_of disk r) rest) → RefusesPlainly r × AllByRecursion IsPlainRefusal rest
one_refused disk HoldsNone rest all = (tt, all)
one_refused disk (Copy group text passed) rest all = (tt, all)
one_refused disk (Refused why) rest all = all

refused_from : (first : ℕ) (disks : List Reading) → AllByRecursion IsPlainRefusal (refusals_from first disks)
    → DisksGive (λ disk. RefusesPlainly) disks
refused_from first [] all = tt
refused_from first (disk ∷ disks) all =
    let parts = all_parts IsPlainRefusal (filter_map (refusal_of first) (readings_in disk)) (refusals_from (first + 1) disks) all in
    (pv_from refusal_of IsPlainRefusal RefusesPlainly one_refused first disk.pv parts.0, refused_from (first + 1) disks parts.1)

-- ---- the best copy

abbrev IsAtMost : ℕ → Held → Type 0
IsAtMost most c = c.group.seqno ≤ most

greatest : (cs : List Held) (b : Held) → best cs ≡ Some b → AllByRecursion (IsAtMost b.group.seqno) cs
greatest [] b is = absurd cc
greatest (c ∷ cs) b is = step (best cs) refl (λ d at. greatest cs d at) is
  where
    below : (d : Held) → AllByRecursion (IsAtMost d.group.seqno) cs → d.group.seqno ≤ b.group.seqno
        → AllByRecursion (IsAtMost b.group.seqno) cs
    below d all le = all_weaker (IsAtMost d.group.seqno) (IsAtMost b.group.seqno) (λ x less. omega (arith, less, le)) cs all

    pick : (d : Held) (t : Bool) → nat_le d.group.seqno c.group.seqno ≡ t → AllByRecursion (IsAtMost d.group.seqno) cs
        → Some (cond t c d) ≡ Some b → AllByRecursion (IsAtMost b.group.seqno) (c ∷ cs)
    pick d true test all is' =
        let same : c.group.seqno ≡ b.group.seqno = ap (λ (h : Held). h.group.seqno) (same_Some c b is') in
        let le : d.group.seqno ≤ c.group.seqno = leb-true d.group.seqno c.group.seqno test in
        (omega (arith, same), below d all (omega (arith, le, same)))
    pick d false test all is' =
        let same : d.group.seqno ≡ b.group.seqno = ap (λ (h : Held). h.group.seqno) (same_Some d b is') in
        let less : c.group.seqno < d.group.seqno = not_le d.group.seqno c.group.seqno test in
        (omega (arith, same, less), below d all (omega (arith, same)))
      where
        not_le : (x y : ℕ) → nat_le x y ≡ false → y < x
        not_le x y no' = ⊎_elim (λ (lt : y < x). lt) (λ (le : x ≤ y). absurd (true≢false (sym (le-leb x y le) ∙ no'))) (cases_lt y x)

    none_left : (l : List Held) → best l ≡ None → AllByRecursion (IsAtMost b.group.seqno) l
    none_left [] is' = tt
    none_left (d ∷ ds) is' = absurd cc

    step : (o : Option Held) → best cs ≡ o → ((d : Held) → best cs ≡ Some d → AllByRecursion (IsAtMost d.group.seqno) cs)
        → Some (greater c o) ≡ Some b → AllByRecursion (IsAtMost b.group.seqno) (c ∷ cs)
    step None at below' is' =
        let same : c.group.seqno ≡ b.group.seqno = ap (λ (h : Held). h.group.seqno)
        (same_Some c b is') in (omega (arith, same), none_left cs at)
    step (Some d) at below' is' = pick d (nat_le d.group.seqno c.group.seqno) refl (below' d at) is'

-- ---- the tests

one_id : (cs : List Held) → two_groups cs ≡ None → (id : List ℕ) × AllByRecursion (λ (c : Held). c.group.id ≡ id) cs
one_id [] none = ([], tt)
one_id (c ∷ cs) none =
    let each =
    find_each (λ (d : Held). not (bytes_eq d.group.id c.group.id)) cs
    (no_map (λ (d : Held). TwoGroups c.group.id d.group.id) (find (λ (d : Held). not (bytes_eq d.group.id c.group.id)) cs)
    none) in (
      c.group.id,
      (
        refl,
        all_weaker (λ (d : Held). not (bytes_eq d.group.id c.group.id) ≡ false) (λ (d : Held). d.group.id ≡ c.group.id)
            (λ d no_other. same_bytes_tells d.group.id c.group.id (not_false (bytes_eq d.group.id c.group.id) no_other)) cs each,
      ),
    )
  where
    not_false : (b : Bool) → not b ≡ false → b ≡ true
    not_false true is = refl
    not_false false is = absurd (true≢false is)

no_other_text : (cs : List Held) (b : Held) → best cs ≡ Some b → conflict cs ≡ None
    → AllByRecursion (λ (d : Held). (d.group.seqno == b.group.seqno && not (bytes_eq d.text b.text)) ≡ false) cs
no_other_text cs b is none =
    find_each (λ (d : Held). d.group.seqno == b.group.seqno && not (bytes_eq d.text b.text)) cs
    (no_map (λ (d : Held). Conflict b.disk d.disk b.group.seqno)
    (find (λ (d : Held). d.group.seqno == b.group.seqno && not (bytes_eq d.text b.text)) cs)
    (sym (ap (λ (o : Option Held). option_and_then
    (λ (x : Held). option_map (λ (d : Held). Conflict x.disk d.disk x.group.seqno)
    (find (λ (d : Held). d.group.seqno == x.group.seqno && not (bytes_eq d.text x.text)) cs)) o) is) ∙ none))

plain_refusals : (cs : List Held) (rs : List (ℕ × CopyRefusal)) (b : Held) → best cs ≡ Some b → unsupported cs rs ≡ None
    → AllByRecursion IsPlainRefusal rs
plain_refusals [] rs b is none = absurd cc
plain_refusals (c ∷ cs) rs b is none =
    find_each (λ (r : ℕ × CopyRefusal). sum_agrees r.1) rs
    (no_map (λ (r : ℕ × CopyRefusal). Unsupported r.0) (find (λ (r : ℕ × CopyRefusal). sum_agrees r.1) rs) none)

-- what is known of each copy
abbrev IsEarlier : List ℕ → Held → Group → List ℕ → List (List ℕ) → Type 0
IsEarlier id b group text passed =
    (group.id ≡ id) × ((group.seqno ≤ b.group.seqno) × ((group.seqno == b.group.seqno && not (bytes_eq text b.text)) ≡ false))

no_later : (id : List ℕ) (b : Held) → b.group.id ≡ id → IsCopyOf b.text b.group b.passed → (r : AreaReading)
    → CopyHas (IsEarlier id b) r × (CopyHas IsItsCopy r × RefusesPlainly r) → GivesNoLater b.group b.text r
no_later id b own copy HoldsNone is = tt
no_later id b own copy (Refused why) is = is.1.1
no_later id b own copy (Copy group text passed) is = (
  is.0.0 ∙ sym own,
  ⊎_elim
      (λ (less : group.seqno < b.group.seqno). inr (
        less,
        λ same.
            let one : group ≡ b.group =
            one_copy b.text group b.group passed b.passed (subst (λ (t : List ℕ). IsCopyOf t group passed) same is.1.0) copy in
            let e : group.seqno ≡ b.group.seqno = ap (λ (g : Group). g.seqno) one in omega (arith, less, e),
      ))
      (λ (reached : b.group.seqno ≤ group.seqno).
      let most : group.seqno ≤ b.group.seqno = is.0.1.0 in
      let e : group.seqno ≡ b.group.seqno = omega (arith, reached, most) in
      let same : text ≡ b.text =
      same_bytes_tells text b.text (agrees (group.seqno == b.group.seqno) (bytes_eq text b.text) (eq-eqb group.seqno b.group.seqno e)
      is.0.1.1) in
      inl (one_copy b.text group b.group passed b.passed (subst (λ (t : List ℕ). IsCopyOf t group passed) same is.1.0) copy, same))
      (cases_lt group.seqno b.group.seqno),
)
  where
    agrees : (x y : Bool) → x ≡ true → (x && not y) ≡ false → y ≡ true
    agrees true true is' none = refl
    agrees true false is' none = absurd (true≢false none)
    agrees false y is' none = absurd (true≢false (sym is'))

-- so it is of all areas
pub none_later_given : (readings : List Reading) (held : Held) (stale : List (ℕ × ℕ)) (strays : List ℕ) (missing : List (List ℕ))
    → decide_scan readings ≡ FoundGroup held stale strays missing
    → DisksGive (λ disk. CopyHas IsItsCopy) readings → DisksGive (λ disk. GivesNoLater held.group held.text) readings
unfolding copies refusals
none_later_given readings held stale strays missing is are =
    let parts : IsFoundWith readings held stale strays missing = found_parts readings held stale strays missing is in
    let p : Passes readings (FoundGroup held stale strays missing) =
    passes readings (FoundGroup held stale strays missing) (λ nothing. nothing) is in
    let cs : List Held = copies_from 0 readings in
    let ids = one_id cs p.one_group in
    let id : List ℕ = ids.0 in
    let all : AllByRecursion (HeldHas (IsEarlier id held)) cs =
    all_both (λ (c : Held). c.group.id ≡ id)
    (λ (c : Held). (c.group.seqno ≤ held.group.seqno)
    × ((c.group.seqno == held.group.seqno && not (bytes_eq c.text held.text)) ≡ false)) cs ids.1
    (all_both (IsAtMost held.group.seqno) (λ (c : Held). (c.group.seqno == held.group.seqno && not (bytes_eq c.text held.text)) ≡ false)
    cs (greatest cs held parts.best_is) (no_other_text cs held parts.best_is p.agree))
    in
    let given : DisksGive (λ disk. CopyHas (IsEarlier id held)) readings = copied_from (IsEarlier id held) 0 readings all in
    let own : held.group.id ≡ id = (best_copy_has (IsEarlier id held) readings given held parts.best_is).0 in
    let copy : IsCopyOf held.text held.group held.passed = best_copy_has IsItsCopy readings are held parts.best_is in
    let refused : DisksGive (λ disk. RefusesPlainly) readings =
    refused_from 0 readings (plain_refusals cs (refusals_from 0 readings) held parts.best_is p.supported) in
    disks_weaker (λ disk r. CopyHas (IsEarlier id held) r × (CopyHas IsItsCopy r × RefusesPlainly r))
    (λ disk. GivesNoLater held.group held.text) (λ disk. no_later id held own copy) readings
    (disks_both (λ disk. CopyHas (IsEarlier id held)) (λ disk r. CopyHas IsItsCopy r × RefusesPlainly r) readings given
    (disks_both (λ disk. CopyHas IsItsCopy) (λ disk. RefusesPlainly) readings are refused))
