-- The flat lists of what was read are those of the readings.
use Rattle.std.proofs.Common.{◌≡◌, ℕ, zero, suc, ◌+◌, ◌<◌, Bool, true, false, not, ◌&&◌, ◌||◌, cond, List, [], ◌∷◌, ◌++◌, length, Option}
use Rattle.std.proofs.Common.{Some, None, refl, sym, ap, ◌∙◌, arith}
use Rattle.std.specs.Prelude.{option_map, unwrap_or, filter, filter_map, map, slice_get}
use Rattle.std.specs.Option.{option_and_then}
use Rattle.std.specs.List.{AllByRecursion, cons_option, list_any, enumerate_from}
use Rattle.std.proofs.lemmas.List.Elements.{filter_map-append}
use Rattle.std.specs.Str.{bytes_eq}
use Rattle.meta_model.specs.declared.group.Group.{Group}
use Rattle.meta_model.specs.declared.pv.Pv.{Pv}
use Rattle.scan_rules.specs.declared.copy_refusal.CopyRefusal.{CopyRefusal}
use Rattle.scan_rules.specs.declared.held.HeldCopy.{HeldCopy}
use Rattle.scan_rules.specs.declared.readings.GroupCopy.{GroupCopy}
use Rattle.scan_rules.specs.declared.readings.AreaGives.{AreaGives}
use Rattle.scan_rules.specs.declared.readings.AreaGives.TheVariants.{Nothing, Copy as Numbered, Refused as RefusedFor}
use Rattle.scan_rules.specs.declared.readings.AreaRead.{AreaRead}
use Rattle.scan_rules.specs.declared.readings.PvRead.{PvRead}
use Rattle.scan_rules.specs.declared.readings.DiskRead.{DiskRead}
use Rattle.scan_rules.specs.Decision.{AreaReading, HoldsNone, Found, Held, Reading, SameAreas, SameHeaders, SamePv, copies_from}
use Rattle.scan_rules.specs.Decision.{copy_of, first_misplaced, has_id, ids_from, is_listed, is_something, lists, readings_in, refusal_of}
use Rattle.scan_rules.specs.Decision.{refusals_from}
use Rattle.scan_rules.specs.Flat.{all_held, areas_on, held_by, held_copy, held_in, held_of, held_on, holds_something, is_given, is_stray}
use Rattle.scan_rules.specs.Flat.{refused_by, refused_in, refused_on, strays_on}
use Rattle.scan_rules.specs.Found.{missing_of}
use Rattle.scan_rules.specs.Readings.{AreasAreOf, DiskIsOf, GivesAtMost, area_of, copied, found_of, gives_of, given_by}
use Rattle.scan_rules.specs.Readings.{reading_of, readings_of}
use Rattle.scan_rules.proofs.SameShape.{find_same, ids_same}

-- what the areas of a disk give
areas_given : (copies : List GroupCopy) (disk : DiskRead) → readings_in (reading_of copies disk) ≡ given_by copies (areas_on disk)
areas_given copies disk = of disk.pv where
  of : (pv : Option PvRead) → readings_in (record { sectors = disk.sectors; pv = option_map (found_of copies) pv })
      ≡ given_by copies (unwrap_or (option_map (λ (x : PvRead). x.areas) pv) [])
  of None = refl
  of (Some pv) = refl

-- the copies, with a number that isn't one giving nothing
one_copy : (disk : ℕ) (copy : Option GroupCopy) (cs hs : List Held) → cs ≡ hs
    → cons_option (copy_of disk (unwrap_or (option_map copied copy) HoldsNone)) cs ≡ cons_option (option_map (held_copy disk) copy) hs
one_copy disk None cs hs same = same
one_copy disk (Some copy) cs hs same = ap (λ (l : List Held). held_copy disk copy ∷ l) same

next_copy : (copies : List GroupCopy) (disk : ℕ) (gives : Option AreaGives) (rs : List AreaReading) (hs : List HeldCopy)
    → filter_map (copy_of disk) rs ≡ all_held copies hs
    → filter_map (copy_of disk) (cons_option (option_map (gives_of copies) gives) rs)
    ≡ all_held copies (cons_option (option_and_then (held_by disk) gives) hs)
next_copy copies disk None rs hs same = same
next_copy copies disk (Some Nothing) rs hs same = same
next_copy copies disk (Some (RefusedFor why)) rs hs same = same
next_copy copies disk (Some (Numbered number)) rs hs same =
    one_copy disk (slice_get copies number) (filter_map (copy_of disk) rs) (all_held copies hs) same

copies_given : (copies : List GroupCopy) (disk : ℕ) (areas : List AreaRead)
    → filter_map (copy_of disk) (given_by copies areas) ≡ all_held copies (filter_map (held_in disk) areas)
copies_given copies disk [] = refl
copies_given copies disk (area ∷ areas) =
    next_copy copies disk area.gives (given_by copies areas) (filter_map (held_in disk) areas) (copies_given copies disk areas)

pub copies_are : (copies : List GroupCopy) (disk : ℕ) (disks : List DiskRead)
    → copies_from disk (readings_of copies disks) ≡ all_held copies (held_on disk disks)
copies_are copies disk [] = refl
copies_are copies disk (read ∷ disks) =
    ap (λ (rs : List AreaReading). filter_map (copy_of disk) rs ++ copies_from (disk + 1) (readings_of copies disks))
    (areas_given copies read)
    ∙ ap (λ (l : List Held). l ++ copies_from (disk + 1) (readings_of copies disks)) (copies_given copies disk (areas_on read))
    ∙ ap (λ (l : List Held). all_held copies (filter_map (held_in disk) (areas_on read)) ++ l) (copies_are copies (disk + 1) disks)
    ∙ sym (filter_map-append (held_of copies) (filter_map (held_in disk) (areas_on read)) (held_on (disk + 1) disks))

-- the refusals
none_refused : (disk : ℕ) (copy : Option GroupCopy) → refusal_of disk (unwrap_or (option_map copied copy) HoldsNone) ≡ None
none_refused disk None = refl
none_refused disk (Some copy) = refl

next_refusal : (copies : List GroupCopy) (disk : ℕ) (gives : Option AreaGives) (rs : List AreaReading) (hs : List (ℕ × CopyRefusal))
    → filter_map (refusal_of disk) rs ≡ hs
    → filter_map (refusal_of disk) (cons_option (option_map (gives_of copies) gives) rs)
    ≡ cons_option (option_and_then (refused_by disk) gives) hs
next_refusal copies disk None rs hs same = same
next_refusal copies disk (Some Nothing) rs hs same = same
next_refusal copies disk (Some (RefusedFor why)) rs hs same = ap (λ (l : List (ℕ × CopyRefusal)). (disk, why) ∷ l) same
next_refusal copies disk (Some (Numbered number)) rs hs same =
    ap (λ (o : Option (ℕ × CopyRefusal)). cons_option o (filter_map (refusal_of disk) rs)) (none_refused disk (slice_get copies number))
    ∙ same

refusals_given : (copies : List GroupCopy) (disk : ℕ) (areas : List AreaRead)
    → filter_map (refusal_of disk) (given_by copies areas) ≡ filter_map (refused_in disk) areas
refusals_given copies disk [] = refl
refusals_given copies disk (area ∷ areas) =
    next_refusal copies disk area.gives (given_by copies areas) (filter_map (refused_in disk) areas) (refusals_given copies disk areas)

pub refusals_are : (copies : List GroupCopy) (disk : ℕ) (disks : List DiskRead)
    → refusals_from disk (readings_of copies disks) ≡ refused_on disk disks
refusals_are copies disk [] = refl
refusals_are copies disk (read ∷ disks) =
    ap (λ (rs : List AreaReading). filter_map (refusal_of disk) rs ++ refusals_from (disk + 1) (readings_of copies disks))
    (areas_given copies read)
    ∙ ap (λ (l : List (ℕ × CopyRefusal)). l ++ refusals_from (disk + 1) (readings_of copies disks))
    (refusals_given copies disk (areas_on read))
    ∙ ap (λ (l : List (ℕ × CopyRefusal)). filter_map (refused_in disk) (areas_on read) ++ l) (refusals_are copies (disk + 1) disks)

-- headers are the same whatever the copies
same_areas : (copies others : List GroupCopy) (areas : List AreaRead) → SameAreas (map (area_of copies) areas) (map (area_of others) areas)
same_areas copies others [] = tt
same_areas copies others (area ∷ areas) = (refl, refl, same_areas copies others areas)

same_pv : (copies others : List GroupCopy) (pv : Option PvRead) → SamePv (option_map (found_of copies) pv) (option_map (found_of others) pv)
same_pv copies others None = tt
same_pv copies others (Some pv) = (refl, same_areas copies others pv.areas)

same_headers : (copies others : List GroupCopy) (disks : List DiskRead) → SameHeaders (readings_of copies disks) (readings_of others disks)
same_headers copies others [] = tt
same_headers copies others (disk ∷ disks) = (refl, same_pv copies others disk.pv, same_headers copies others disks)

pub ids_are : (copies : List GroupCopy) (disks : List DiskRead) → ids_from 0 (readings_of copies disks) ≡ ids_from 0 (readings_of [] disks)
ids_are copies disks = ids_same 0 (readings_of copies disks) (readings_of [] disks) (same_headers copies [] disks)

pub misplaced_are : (copies : List GroupCopy) (group : Group) (disks : List DiskRead)
    → first_misplaced group (readings_of copies disks) ≡ first_misplaced group (readings_of [] disks)
misplaced_are copies group disks = find_same group 0 (readings_of copies disks) (readings_of [] disks) (same_headers copies [] disks)

listed_pv : (copies : List GroupCopy) (group : Group) (pv : Option PvRead)
    → unwrap_or (option_map (λ (x : Found). lists group x.id) (option_map (found_of copies) pv)) false
    ≡ unwrap_or (option_map (λ (x : Found). lists group x.id) (option_map (found_of []) pv)) false
listed_pv copies group None = refl
listed_pv copies group (Some pv) = refl

pub listed_is : (copies : List GroupCopy) (group : Group) (disk : DiskRead)
    → is_listed group (reading_of copies disk) ≡ is_listed group (reading_of [] disk)
listed_is copies group disk = listed_pv copies group disk.pv

-- a disk gives something where an area does, since each number is that of a copy
given_within : (copies : List GroupCopy) (number : ℕ) → number < length copies
    → is_something (unwrap_or (option_map copied (slice_get copies number)) HoldsNone) ≡ true
given_within [] number within = absurd (omega arith)
given_within (copy ∷ copies) zero within = refl
given_within (copy ∷ copies) (suc number) within = given_within copies number (omega arith)

next_given : (copies : List GroupCopy) (gives : Option AreaGives) (rs : List AreaReading) (later : Bool)
    → GivesAtMost (length copies) gives → list_any is_something rs ≡ later
    → list_any is_something (cons_option (option_map (gives_of copies) gives) rs) ≡ (unwrap_or (option_map is_given gives) false || later)
next_given copies None rs later within same = same
next_given copies (Some Nothing) rs later within same = same
next_given copies (Some (RefusedFor why)) rs later within same = refl
next_given copies (Some (Numbered number)) rs later within same =
    ap (λ (b : Bool). b || list_any is_something rs) (given_within copies number within)

something_given : (copies : List GroupCopy) (areas : List AreaRead)
    → AllByRecursion (λ (area : AreaRead). GivesAtMost (length copies) area.gives) areas
    → list_any is_something (given_by copies areas) ≡ list_any holds_something areas
something_given copies [] within = refl
something_given copies (area ∷ areas) within =
    next_given copies area.gives (given_by copies areas) (list_any holds_something areas) within.0 (something_given copies areas within.1)

something_on : (copies : List GroupCopy) (disk : DiskRead) → DiskIsOf (length copies) disk
    → list_any is_something (readings_in (reading_of copies disk)) ≡ list_any holds_something (areas_on disk)
something_on copies disk is = of disk.pv is where
  of : (pv : Option PvRead) → AreasAreOf (length copies) pv
      → list_any is_something (readings_in (record { sectors = disk.sectors; pv = option_map (found_of copies) pv }))
      ≡ list_any holds_something (unwrap_or (option_map (λ (x : PvRead). x.areas) pv) [])
  of None is = refl
  of (Some pv) is = something_given copies pv.areas is.1

stray_if : (stray : Bool) (disk : ℕ) (xs ys : List ℕ) → xs ≡ ys → cons_option (cond stray (Some disk) None) xs ≡ cond stray (disk ∷ ys) ys
stray_if true disk xs ys same = ap (λ (l : List ℕ). disk ∷ l) same
stray_if false disk xs ys same = same

pub strays_are : (copies : List GroupCopy) (group : Group) (first : ℕ) (disks : List DiskRead)
    → AllByRecursion (DiskIsOf (length copies)) disks
    → filter_map (λ (d : ℕ × Reading). cond (not (is_listed group d.1) && list_any is_something (readings_in d.1)) (Some d.0) None)
    (enumerate_from first (readings_of copies disks)) ≡ strays_on group first disks
strays_are copies group first [] are = refl
strays_are copies group first (disk ∷ disks) are =
    let later : List ℕ =
    filter_map (λ (d : ℕ × Reading). cond (not (is_listed group d.1) && list_any is_something (readings_in d.1)) (Some d.0) None)
    (enumerate_from (first + 1) (readings_of copies disks)) in
    ap (λ (b : Bool). cons_option (cond (not b && list_any is_something (readings_in (reading_of copies disk))) (Some first) None) later)
    (listed_is copies group disk)
    ∙ ap (λ (b : Bool). cons_option (cond (not (is_listed group (reading_of [] disk)) && b) (Some first) None) later)
    (something_on copies disk are.0)
    ∙ stray_if (is_stray group disk) first later (strays_on group (first + 1) disks) (strays_are copies group (first + 1) disks are.1)

-- the ids that were found
has_id_pv : (copies : List GroupCopy) (id : List ℕ) (pv : Option PvRead)
    → unwrap_or (option_map (λ (x : Found). bytes_eq x.id id) (option_map (found_of copies) pv)) false
    ≡ unwrap_or (option_map (λ (x : Found). bytes_eq x.id id) (option_map (found_of []) pv)) false
has_id_pv copies id None = refl
has_id_pv copies id (Some pv) = refl

any_id : (copies : List GroupCopy) (id : List ℕ) (disks : List DiskRead)
    → list_any (has_id id) (readings_of copies disks) ≡ list_any (has_id id) (readings_of [] disks)
any_id copies id [] = refl
any_id copies id (disk ∷ disks) =
    ap (λ (b : Bool). b || list_any (has_id id) (readings_of copies disks)) (has_id_pv copies id disk.pv)
    ∙ ap (λ (b : Bool). has_id id (reading_of [] disk) || b) (any_id copies id disks)

pub missing_are : (copies : List GroupCopy) (disks : List DiskRead) (pvs : List (List ℕ × Pv))
    → missing_of (readings_of copies disks) pvs ≡ missing_of (readings_of [] disks) pvs
missing_are copies disks pvs =
    λ i. map (λ (pv : List ℕ × Pv). pv.1.id) (filter (λ (pv : List ℕ × Pv). pv.1.missing || not (any_id copies pv.1.id disks i)) pvs)
