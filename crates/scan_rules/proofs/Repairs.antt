-- The lists of a group that was found, member by member.
use Rattle.std.proofs.Common.{◌≡◌, ◌≢◌, ◌↔◌, ℕ, zero, suc, Bool, true, false, not, ◌&&◌, ◌||◌, cond, List, [], ◌∷◌, Option, Some}
use Rattle.std.proofs.Common.{None, inl, inr, ⊎_elim, refl, sym, ap, subst, ◌∙◌}
use Rattle.std.specs.Prelude.{◌==◌, filter_map, find, map, option_map, slice_get, unwrap_or}
use Rattle.std.specs.Option.{option_and_then}
use Rattle.std.specs.List.{Contains, cons_option, enumerate_from, filter, list_any}
use Rattle.std.proofs.lemmas.Bool.{and_parts, false≢true, or_cases, or_parts}
use Rattle.std.proofs.lemmas.Option.{same_Some}
use Rattle.std.specs.Str.{bytes_eq}
use Rattle.meta_model.specs.declared.group.Group.{Group}
use Rattle.meta_model.specs.declared.pv.Pv.{Pv}
use Rattle.scan_rules.specs.declared.copy_refusal.CopyRefusal.{CopyRefusal}
use Rattle.scan_rules.specs.Decision.{Area, AreaReading, Conflict, DuplicatePv, Found, FoundGroup, Held, NoCopy, NoGroup, PvShape, Reading}
use Rattle.scan_rules.specs.Decision.{ScanAnswer, TwoGroups, Unsupported, best, conflict, copies, decide_scan, duplicates, first_misplaced}
use Rattle.scan_rules.specs.Decision.{found, found_with, gives, has_id, is_held, is_listed, is_something, lists, misshapen, misshapen_by}
use Rattle.scan_rules.specs.Decision.{no_copy, readings_in, refusals, sum_agrees, two_groups, unsupported}
use Rattle.scan_rules.specs.Found.{is_missing, stale_if, stale_of, stale_on}
use Rattle.scan_rules.specs.Laws.{IsMissing, IsStale, IsStray, given_in, pv_on}
use Rattle.list_laws.proofs.Members.{In, Numbered, Passing, flat_has, has_member, in_flat, in_kept, in_list, in_passing, kept_has}
use Rattle.list_laws.proofs.Members.{passing_has}
use Rattle.scan_rules.proofs.Scanning.{same_bytes_tells, same_bytes_to}

-- no test before the last finds a group
abbrev NotFound : Option ScanAnswer → Type 0
NotFound None = Unit {0}
NotFound (Some (FoundGroup held stale strays missing)) = ⊥
NotFound (Some (DuplicatePv a b)) = Unit {0}
NotFound (Some (NoCopy rs)) = Unit {0}
NotFound (Some (Unsupported pv)) = Unit {0}
NotFound (Some (TwoGroups a b)) = Unit {0}
NotFound (Some (Conflict a b seqno)) = Unit {0}
NotFound (Some (PvShape pv)) = Unit {0}
NotFound (Some NoGroup) = Unit {0}

abbrev Lists : Type 0
Lists = Held × (List (ℕ × ℕ) × (List ℕ × List (List ℕ)))

-- what an answer found
abbrev lists_of : ScanAnswer → Option Lists
lists_of (FoundGroup held stale strays missing) = Some (held, (stale, (strays, missing)))
lists_of (DuplicatePv a b) = None
lists_of (NoCopy rs) = None
lists_of (Unsupported pv) = None
lists_of (TwoGroups a b) = None
lists_of (Conflict a b seqno) = None
lists_of (PvShape pv) = None
lists_of NoGroup = None

past : (o : Option ScanAnswer) (x : ScanAnswer) (l : Lists) → NotFound o → lists_of (unwrap_or o x) ≡ Some l → lists_of x ≡ Some l
past None x l none is = is
past (Some (FoundGroup held stale strays missing)) x l none is = absurd none
past (Some (DuplicatePv a b)) x l none is = cc
past (Some (NoCopy rs)) x l none is = cc
past (Some (Unsupported pv)) x l none is = cc
past (Some (TwoGroups a b)) x l none is = cc
past (Some (Conflict a b seqno)) x l none is = cc
past (Some (PvShape pv)) x l none is = cc
past (Some NoGroup) x l none is = cc

mapped : {A : Type 0} (f : A → ScanAnswer) (o : Option A) → ((a : A) → NotFound (Some (f a))) → NotFound (option_map f o)
mapped f None none = tt
mapped f (Some a) none = none a

chained : {A : Type 0} (f : A → Option ScanAnswer) (o : Option A) → ((a : A) → NotFound (f a)) → NotFound (option_and_then f o)
chained f None none = tt
chained f (Some a) none = none a

no_copy_not : (cs : List Held) (rs : List (ℕ × CopyRefusal)) → NotFound (no_copy cs rs)
no_copy_not [] [] = tt
no_copy_not [] (r ∷ rs) = tt
no_copy_not (c ∷ cs) rs = tt

unsupported_not : (cs : List Held) (rs : List (ℕ × CopyRefusal)) → NotFound (unsupported cs rs)
unsupported_not [] rs = tt
unsupported_not (c ∷ cs) rs =
    mapped (λ (r : ℕ × CopyRefusal). Unsupported r.0) (find (λ (r : ℕ × CopyRefusal). sum_agrees r.1) rs) (λ r. tt)

two_groups_not : (cs : List Held) → NotFound (two_groups cs)
two_groups_not [] = tt
two_groups_not (c ∷ cs) =
    mapped (λ (d : Held). TwoGroups c.group.id d.group.id) (find (λ (d : Held). not (bytes_eq d.group.id c.group.id)) cs) (λ d. tt)

conflict_not : (cs : List Held) → NotFound (conflict cs)
conflict_not cs =
    chained (λ (b : Held). option_map (λ (d : Held). Conflict b.disk d.disk b.group.seqno)
    (find (λ (d : Held). d.group.seqno == b.group.seqno && not (bytes_eq d.text b.text)) cs)) (best cs) (λ b.
    mapped (λ (d : Held). Conflict b.disk d.disk b.group.seqno)
    (find (λ (d : Held). d.group.seqno == b.group.seqno && not (bytes_eq d.text b.text)) cs) (λ d. tt))

shape_not : (misplaced : Option ℕ) (held : Bool) (disk : ℕ)
    → NotFound (unwrap_or (option_map (λ (d : ℕ). Some (PvShape d)) misplaced) (cond held None (Some (PvShape disk))))
shape_not None true disk = tt
shape_not None false disk = tt
shape_not (Some d) held disk = tt

misshapen_not : (cs : List Held) (disks : List Reading) → NotFound (misshapen cs disks)
misshapen_not cs disks =
    chained (λ (b : Held). misshapen_by b disks) (best cs)
    (λ b. shape_not (first_misplaced b.group disks) (is_held b.group b.text disks) b.disk)

of_best : (disks : List Reading) (o : Option Held) (l : Lists) → lists_of (unwrap_or (option_map (found_with disks) o) NoGroup) ≡ Some l
    → lists_of (found_with disks l.0) ≡ Some l
of_best disks None l is = cc
of_best disks (Some b) l is =
    let inside : Option Lists → Held = λ o. unwrap_or (option_map (λ (x : Lists). x.0) o) b in
    let held : b ≡ l.0 = ap inside is in
    subst (λ (x : Held). lists_of (found_with disks x) ≡ Some l) held is

pub found_lists : (disks : List Reading) (held : Held) (stale : List (ℕ × ℕ)) (strays : List ℕ) (missing : List (List ℕ))
    → decide_scan disks ≡ FoundGroup held stale strays missing
    → lists_of (found_with disks held) ≡ Some (held, (stale, (strays, missing)))
unfolding decide_scan
found_lists disks held stale strays missing is =
    let cs : List Held = copies disks in
    let rs : List (ℕ × CopyRefusal) = refusals disks in
    let l : Lists = (held, (stale, (strays, missing))) in
    let f1 : ScanAnswer = unwrap_or (misshapen cs disks) (found cs disks) in
    let f2 : ScanAnswer = unwrap_or (conflict cs) f1 in
    let f3 : ScanAnswer = unwrap_or (two_groups cs) f2 in
    let f4 : ScanAnswer = unwrap_or (unsupported cs rs) f3 in
    let f5 : ScanAnswer = unwrap_or (no_copy cs rs) f4 in
    of_best disks (best cs) l
    (past (misshapen cs disks) (found cs disks) l (misshapen_not cs disks)
    (past (conflict cs) f1 l (conflict_not cs)
    (past (two_groups cs) f2 l (two_groups_not cs)
    (past (unsupported cs rs) f3 l (unsupported_not cs rs)
    (past (no_copy cs rs) f4 l (no_copy_not cs rs)
    (past (duplicates disks) f5 l (mapped (λ (pair : ℕ × ℕ). DuplicatePv pair.0 pair.1) _ (λ pair. tt)) (ap lists_of is)))))))

-- the physical volume of a disk
on_disk : (disks : List Reading) (disk : ℕ) (reading : Reading) (pv : Found) → slice_get disks disk ≡ Some reading → reading.pv ≡ Some pv
    → pv_on disks disk ≡ Some pv
on_disk disks disk reading pv got is = ap (λ (o : Option Reading). option_and_then (λ (r : Reading). r.pv) o) got ∙ is

record OnDisk (disks : List Reading) (disk : ℕ) (pv : Found) : Type 0 where
  pub reading : Reading
  pub got : slice_get disks disk ≡ Some reading
  pub is : reading.pv ≡ Some pv

disk_of : (disks : List Reading) (disk : ℕ) (pv : Found) → pv_on disks disk ≡ Some pv → OnDisk disks disk pv
disk_of disks disk pv is = of (slice_get disks disk) refl is where
  of : (o : Option Reading) → slice_get disks disk ≡ o → option_and_then (λ (r : Reading). r.pv) o ≡ Some pv → OnDisk disks disk pv
  of None e got = cc
  of (Some reading) e got = record { reading = reading; got = e; is = got }

-- an area that gives something
record InArea (pv : Found) (area : ℕ) (given : AreaReading) : Type 0 where
  pub at : Area
  pub got : slice_get pv.areas area ≡ Some at
  pub is : at.reading ≡ Some given

area_of_pv : (pv : Found) (area : ℕ) (given : AreaReading) → given_in pv area ≡ Some given → InArea pv area given
area_of_pv pv area given is = of (slice_get pv.areas area) refl is where
  of : (o : Option Area) → slice_get pv.areas area ≡ o → option_and_then (λ (a : Area). a.reading) o ≡ Some given → InArea pv area given
  of None e got = cc
  of (Some at) e got = record { at = at; got = e; is = got }

in_area : (pv : Found) (area : ℕ) (at : Area) (given : AreaReading) → slice_get pv.areas area ≡ Some at → at.reading ≡ Some given
    → given_in pv area ≡ Some given
in_area pv area at given got is = ap (λ (o : Option Area). option_and_then (λ (a : Area). a.reading) o) got ∙ is

-- stale areas
abbrev stale_pv : List ℕ → ℕ → Option Found → List (ℕ × ℕ)
stale_pv text disk o = unwrap_or (option_map (λ (pv : Found). filter_map (stale_if text disk) (enumerate_from 0 pv.areas)) o) []

abbrev listed_pv : Group → Option Found → Bool
listed_pv group o = unwrap_or (option_map (λ (pv : Found). lists group pv.id) o) false

record StaleArea (group : Group) (text : List ℕ) (o : Option Found) (disk : ℕ) (found : ℕ × ℕ) : Type 0 where
  pub pv : Found
  pub area : ℕ
  pub given : AreaReading
  pub is : o ≡ Some pv
  pub is_listed : lists group pv.id ≡ true
  pub in_area : given_in pv area ≡ Some given
  pub differs : gives text given ≡ false
  pub same : (disk, area) ≡ found

stale_one : (text : List ℕ) (disk area : ℕ) (o : Option AreaReading) (found : ℕ × ℕ)
    → option_and_then (λ (r : AreaReading). cond (gives text r) None (Some (disk, area))) o ≡ Some found
    → (given : AreaReading) × (o ≡ Some given) × (gives text given ≡ false) × ((disk, area) ≡ found)
stale_one text disk area None found is = cc
stale_one text disk area (Some r) found is = of (gives text r) refl is where
  of : (b : Bool) → gives text r ≡ b → cond b None (Some (disk, area)) ≡ Some found
      → (given : AreaReading) × (Some r ≡ Some given) × (gives text given ≡ false) × ((disk, area) ≡ found)
  of true e got = cc
  of false e got = (r, refl, e, same_Some (disk, area) found got)

stale_on_pv : (group : Group) (text : List ℕ) (disk : ℕ) (o : Option Found) (found : ℕ × ℕ)
    → In (cond (listed_pv group o) (stale_pv text disk o) []) found → StaleArea group text o disk found
stale_on_pv group text disk None found is = absurd is
stale_on_pv group text disk (Some pv) found is = of (lists group pv.id) refl is where
  of : (b : Bool) → lists group pv.id ≡ b → In (cond b (filter_map (stale_if text disk) (enumerate_from 0 pv.areas)) []) found
      → StaleArea group text (Some pv) disk found
  of false e got = absurd got
  of true e got =
      let at : Numbered pv.areas (λ a. stale_if text disk a ≡ Some found) = in_kept (stale_if text disk) pv.areas found got in
      let one = stale_one text disk at.number at.element.reading found at.holds in
      record {
        pv = pv;
        area = at.number;
        given = one.0;
        is = refl;
        is_listed = e;
        in_area = in_area pv at.number at.element one.0 at.got one.1;
        differs = one.2;
        same = one.3;
      }

pub is_stale : (group : Group) (text : List ℕ) (disks : List Reading) (disk area : ℕ) → Contains (stale_on group text 0 disks) (disk, area)
    → IsStale group text disks disk area
is_stale group text disks disk area has =
    let at : Numbered disks (λ d. In (stale_of group text d) (disk, area)) =
    in_flat (stale_of group text) disks (disk, area) (in_list (stale_on group text 0 disks) (disk, area) has) in
    let s : StaleArea group text at.element.pv at.number (disk, area) =
    stale_on_pv group text at.number at.element.pv (disk, area) at.holds in
    subst (λ (p : ℕ × ℕ). IsStale group text disks p.0 p.1) s.same
    (record {
      pv = s.pv;
      given = s.given;
      on_disk = on_disk disks at.number at.element s.pv at.got s.is;
      is_listed = s.is_listed;
      in_area = s.in_area;
      differs = s.differs;
    })

pub stale_has : (group : Group) (text : List ℕ) (disks : List Reading) (disk area : ℕ) → IsStale group text disks disk area
    → Contains (stale_on group text 0 disks) (disk, area)
stale_has group text disks disk area s =
    let d : OnDisk disks disk s.pv = disk_of disks disk s.pv s.on_disk in
    let a : InArea s.pv area s.given = area_of_pv s.pv area s.given s.in_area in
    let one : stale_if text disk (area, a.at) ≡ Some (disk, area) =
    ap (λ (o : Option AreaReading). option_and_then (λ (r : AreaReading). cond (gives text r) None (Some (disk, area))) o) a.is
    ∙ ap (λ (b : Bool). cond b None (Some (disk, area))) s.differs in
    let inside : In (cond (listed_pv group (Some s.pv)) (stale_pv text disk (Some s.pv)) []) (disk, area) =
    subst (λ (b : Bool). In (cond b (stale_pv text disk (Some s.pv)) []) (disk, area)) (sym s.is_listed)
    (kept_has (stale_if text disk) s.pv.areas (disk, area) area a.at a.got one) in
    has_member (stale_on group text 0 disks) (disk, area)
    (flat_has (stale_of group text) disks (disk, area) disk d.reading d.got
    (subst (λ (o : Option Found). In (cond (listed_pv group o) (stale_pv text disk o) []) (disk, area)) (sym d.is) inside))

pub stale_exact : (disks : List Reading) (held : Held) (stale : List (ℕ × ℕ)) (strays : List ℕ) (missing : List (List ℕ))
    → decide_scan disks ≡ FoundGroup held stale strays missing
    → (disk area : ℕ) → Contains stale (disk, area) ↔ IsStale held.group held.text disks disk area
stale_exact disks held stale strays missing is disk area =
    let same : stale_on held.group held.text 0 disks ≡ stale =
    ap (λ (o : Option Lists). unwrap_or (option_map (λ (l : Lists). l.1.0) o) []) (found_lists disks held stale strays missing is) in (
      λ has. is_stale held.group held.text disks disk area (subst (λ (l : List (ℕ × ℕ)). Contains l (disk, area)) (sym same) has),
      λ s. subst (λ (l : List (ℕ × ℕ)). Contains l (disk, area)) same (stale_has held.group held.text disks disk area s),
    )

-- strays
abbrev readings_of_pv : Option Found → List AreaReading
readings_of_pv o = unwrap_or (option_map (λ (pv : Found). filter_map (λ (area : Area). area.reading) pv.areas) o) []

abbrev stray_if : Group → ℕ × Reading → Option ℕ
stray_if group d = cond (not (is_listed group d.1) && list_any is_something (readings_in d.1)) (Some d.0) None

abbrev strays_of : Group → List Reading → List ℕ
strays_of group disks = filter_map (stray_if group) (enumerate_from 0 disks)

abbrev at_area : List Area → ℕ → Option AreaReading
at_area areas number = option_and_then (λ (a : Area). a.reading) (slice_get areas number)

abbrev GivesSome : List Area → Type 0
GivesSome areas = (number : ℕ) × (given : AreaReading) × (at_area areas number ≡ Some given) × (is_something given ≡ true)

gives_some : (areas : List Area) → list_any is_something (filter_map (λ (area : Area). area.reading) areas) ≡ true → GivesSome areas
gives_some [] any = absurd (false≢true any)
gives_some (a ∷ areas) any = of a.reading refl any (gives_some areas) where
  rest : GivesSome areas → GivesSome (a ∷ areas)
  rest g = (suc g.0, g.1, g.2, g.3)

  of : (o : Option AreaReading) → a.reading ≡ o
      → list_any is_something (cons_option o (filter_map (λ (area : Area). area.reading) areas)) ≡ true
      → (list_any is_something (filter_map (λ (area : Area). area.reading) areas) ≡ true → GivesSome areas) → GivesSome (a ∷ areas)
  of None e is then = rest (then is)
  of (Some given) e is then =
      ⊎_elim (λ here. (0, given, e, here)) (λ later. rest (then later))
      (or_cases (is_something given) (list_any is_something (filter_map (λ (area : Area). area.reading) areas)) is)

or_true : (b : Bool) → (b || true) ≡ true
or_true true = refl
or_true false = refl

some_gives : (areas : List Area) (number : ℕ) (given : AreaReading) → at_area areas number ≡ Some given → is_something given ≡ true
    → list_any is_something (filter_map (λ (area : Area). area.reading) areas) ≡ true
some_gives [] number given got is = cc
some_gives (a ∷ areas) zero given got is =
    ap (λ (o : Option AreaReading). list_any is_something (cons_option o (filter_map (λ (area : Area). area.reading) areas))) got
    ∙ ap (λ (b : Bool). b || list_any is_something (filter_map (λ (area : Area). area.reading) areas)) is
some_gives (a ∷ areas) (suc number) given got is = of a.reading (some_gives areas number given got is) where
  of : (o : Option AreaReading) → list_any is_something (filter_map (λ (area : Area). area.reading) areas) ≡ true
      → list_any is_something (cons_option o (filter_map (λ (area : Area). area.reading) areas)) ≡ true
  of None later = later
  of (Some r) later = ap (λ (b : Bool). is_something r || b) later ∙ or_true (is_something r)

not_is : (b : Bool) → not b ≡ true → b ≡ false
not_is true is = absurd (false≢true is)
not_is false is = refl

record StrayPv (group : Group) (o : Option Found) : Type 0 where
  pub pv : Found
  pub is : o ≡ Some pv
  pub is_unlisted : lists group pv.id ≡ false
  pub some_area : GivesSome pv.areas

stray_pv : (group : Group) (o : Option Found) → (not (listed_pv group o) && list_any is_something (readings_of_pv o)) ≡ true
    → StrayPv group o
stray_pv group None is = absurd (false≢true is)
stray_pv group (Some pv) is =
    let parts = and_parts (not (lists group pv.id)) (list_any is_something (filter_map (λ (area : Area). area.reading) pv.areas)) is in
    record { pv = pv; is = refl; is_unlisted = not_is (lists group pv.id) parts.0; some_area = gives_some pv.areas parts.1 }

stray_one : (b : Bool) (disk found : ℕ) → cond b (Some disk) None ≡ Some found → (b ≡ true) × (disk ≡ found)
stray_one true disk found is = (refl, same_Some disk found is)
stray_one false disk found is = cc

pub is_stray_disk : (group : Group) (disks : List Reading) (disk : ℕ) → Contains (strays_of group disks) disk → IsStray group disks disk
is_stray_disk group disks disk has =
    let at : Numbered disks (λ d. stray_if group d ≡ Some disk) =
    in_kept (stray_if group) disks disk (in_list (strays_of group disks) disk has) in
    let one = stray_one (not (is_listed group at.element) && list_any is_something (readings_in at.element)) at.number disk at.holds in
    let s : StrayPv group at.element.pv = stray_pv group at.element.pv one.0 in
    subst (λ (n : ℕ). IsStray group disks n) one.1
    (record {
      pv = s.pv;
      area = s.some_area.0;
      given = s.some_area.1;
      on_disk = on_disk disks at.number at.element s.pv at.got s.is;
      is_unlisted = s.is_unlisted;
      in_area = s.some_area.2;
      is_there = s.some_area.3;
    })

pub stray_has : (group : Group) (disks : List Reading) (disk : ℕ) → IsStray group disks disk → Contains (strays_of group disks) disk
stray_has group disks disk s =
    let d : OnDisk disks disk s.pv = disk_of disks disk s.pv s.on_disk in
    let one : stray_if group (disk, d.reading) ≡ Some disk =
    ap (λ (o : Option Found). cond (not (listed_pv group o) && list_any is_something (readings_of_pv o)) (Some disk) None) d.is
    ∙ ap (λ (b : Bool). cond (not b && list_any is_something (readings_of_pv (Some s.pv))) (Some disk) None) s.is_unlisted
    ∙ ap (λ (b : Bool). cond b (Some disk) None) (some_gives s.pv.areas s.area s.given s.in_area s.is_there) in
    has_member (strays_of group disks) disk (kept_has (stray_if group) disks disk disk d.reading d.got one)

pub strays_exact : (disks : List Reading) (held : Held) (stale : List (ℕ × ℕ)) (strays : List ℕ) (missing : List (List ℕ))
    → decide_scan disks ≡ FoundGroup held stale strays missing
    → (disk : ℕ) → Contains strays disk ↔ IsStray held.group disks disk
strays_exact disks held stale strays missing is disk =
    let same : strays_of held.group disks ≡ strays =
    ap (λ (o : Option Lists). unwrap_or (option_map (λ (l : Lists). l.1.1.0) o) []) (found_lists disks held stale strays missing is) in (
      λ has. is_stray_disk held.group disks disk (subst (λ (l : List ℕ). Contains l disk) (sym same) has),
      λ s. subst (λ (l : List ℕ). Contains l disk) same (stray_has held.group disks disk s),
    )

-- missing physical volumes
abbrev missing_from : Group → List Reading → List (List ℕ)
missing_from group disks = map (λ (pv : List ℕ × Pv). pv.1.id) (filter (is_missing disks) group.pvs)

abbrev IsAway : List Reading → List ℕ → Type 0
IsAway disks id = (disk : ℕ) (pv : Found) → pv_on disks disk ≡ Some pv → pv.id ≢ id

is_false : (b : Bool) → (b ≡ true → ⊥) → b ≡ false
is_false true not_true = absurd (not_true refl)
is_false false not_true = refl

away : (id : List ℕ) (disks : List Reading) → list_any (has_id id) disks ≡ false → IsAway disks id
away id [] none disk pv got = cc
away id (d ∷ disks) none zero pv got =
    let parts = or_parts (has_id id d) (list_any (has_id id) disks) none in
    let differ : bytes_eq pv.id id ≡ false =
    sym (ap (λ (o : Option Found). unwrap_or (option_map (λ (x : Found). bytes_eq x.id id) o) false) got) ∙ parts.0 in
    λ same. false≢true (sym differ ∙ same_bytes_to pv.id id same)
away id (d ∷ disks) none (suc disk) pv got = away id disks (or_parts (has_id id d) (list_any (has_id id) disks) none).1 disk pv got

none_has_id : (id : List ℕ) (disks : List Reading) → IsAway disks id → list_any (has_id id) disks ≡ false
none_has_id id [] is_away = refl
none_has_id id (d ∷ disks) is_away =
    ap (λ (b : Bool). b || list_any (has_id id) disks) (first d.pv refl) ∙ none_has_id id disks (λ disk. is_away (suc disk))
  where
    first : (o : Option Found) → d.pv ≡ o → unwrap_or (option_map (λ (x : Found). bytes_eq x.id id) o) false ≡ false
    first None e = refl
    first (Some pv) e = is_false (bytes_eq pv.id id) (λ same. is_away 0 pv e (same_bytes_tells pv.id id same))

pub is_missing_id : (group : Group) (disks : List Reading) (id : List ℕ) → Contains (missing_from group disks) id → IsMissing group disks id
is_missing_id group disks id has =
    let p : Passing (λ (pv : List ℕ × Pv). pv.1.id) (is_missing disks) group.pvs id =
    in_passing (λ (pv : List ℕ × Pv). pv.1.id) (is_missing disks) group.pvs id (in_list (missing_from group disks) id has) in
    record {
      entry = p.element;
      in_group = has_member group.pvs p.element p.is_in;
      has_id = p.stands_for;
      is_away =
          ⊎_elim (λ flagged. inl flagged) (λ none. inr
          (subst (IsAway disks) p.stands_for (away p.element.1.id disks (not_is (list_any (has_id p.element.1.id) disks) none))))
          (or_cases p.element.1.missing (not (list_any (has_id p.element.1.id) disks)) p.passes);
    }

pub missing_has : (group : Group) (disks : List Reading) (id : List ℕ) → IsMissing group disks id → Contains (missing_from group disks) id
missing_has group disks id m =
    let passes : is_missing disks m.entry ≡ true =
    ⊎_elim (λ flagged. ap (λ (b : Bool). b || not (list_any (has_id m.entry.1.id) disks)) flagged)
    (λ none. ap (λ (b : Bool). m.entry.1.missing || not b) (none_has_id m.entry.1.id disks (subst (IsAway disks) (sym m.has_id) none))
    ∙ or_true m.entry.1.missing) m.is_away in
    has_member (missing_from group disks) id
    (subst (In (missing_from group disks)) m.has_id
    (passing_has (λ (pv : List ℕ × Pv). pv.1.id) (is_missing disks) group.pvs m.entry (in_list group.pvs m.entry m.in_group) passes))

pub missing_exact : (disks : List Reading) (held : Held) (stale : List (ℕ × ℕ)) (strays : List ℕ) (missing : List (List ℕ))
    → decide_scan disks ≡ FoundGroup held stale strays missing
    → (id : List ℕ) → Contains missing id ↔ IsMissing held.group disks id
missing_exact disks held stale strays missing is id =
    let same : missing_from held.group disks ≡ missing =
    ap (λ (o : Option Lists). unwrap_or (option_map (λ (l : Lists). l.1.1.1) o) []) (found_lists disks held stale strays missing is) in (
      λ has. is_missing_id held.group disks id (subst (λ (l : List (List ℕ)). Contains l id) (sym same) has),
      λ m. subst (λ (l : List (List ℕ)). Contains l id) same (missing_has held.group disks id m),
    )
