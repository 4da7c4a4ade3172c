-- One disk on the way of a commit: what stands there, and that it reads again but for areas that give the new text.
use Rattle.std.proofs.Common.{◌≡◌, ◌<◌, ◌⊎◌, ℕ, zero, suc, ◌+◌, ◌*◌, Bool, cond, List, [], ◌∷◌, map, Option, Some, None, inl, inr, ⊎_elim}
use Rattle.std.proofs.Common.{refl, sym, ap, subst, ◌∙◌, arith}
use Rattle.std.specs.Prelude.{slice_get}
use Rattle.std.specs.FinSet as set
use Rattle.std.specs.List.{AllByRecursion as Each}
use Rattle.std.specs.Ordering.{nat_cmp}
use Rattle.std.proofs.lemmas.List.Elements.{All-from_recursion, recursion_from_All}
use Rattle.std.proofs.lemmas.Option.{same_Some}
use Rattle.std.specs.Str.{bytes_eq}
use Rattle.disk_model.specs.Steps.{Image}
use Rattle.meta_model.specs.declared.group.Group.{Group}
use Rattle.pv_header.specs.declared.extent_list.Extent.{Extent}
use Rattle.pv_header.specs.declared.header.PvHeader.{PvHeader}
use Rattle.pv_header.specs.PvHeader.{IsPvHeader}
use Rattle.pv_header.specs.PvRefusal.{Reads}
use Rattle.pv_label.specs.Label.{IsFirstLabel, IsLabel}
use Rattle.pv_label.specs.LabelSectors.{first_four}
use Rattle.disk_contents.specs.declared.contents.AreaFound.{AreaFound}
use Rattle.disk_contents.specs.declared.contents.PvFound.{PvFound}
use Rattle.disk_contents.specs.declared.contents.PvFound.TheVariants.{Whole}
use Rattle.disk_contents.specs.Contents.{AreAreasFound, IsAreaFound, IsFound}
use Rattle.scan_rules.specs.Decision.{Area as AreaOf, AreaReading, Copy, Found as PvOf, Reading}
use Rattle.vg_found.specs.declared.disk.Disk.{Disk}
use Rattle.vg_found.specs.Disks.{areas_on, disk_with, has_header_id}
use Rattle.vg_scan.specs.Readings.{AreAreaReadings, AreDiskReadings, IsContents, IsDiskReading, IsPvReading}
use Rattle.vg_scan.specs.Texts.{IsCopyOf}
use Rattle.image_scans.proofs.Again.{AreasAgain, DisksAgain, GivesAgain, PvAgain}
use Rattle.image_scans.proofs.AreaAgain.{IsKnown, MayBeRefused, NotRefused, ReadsAgain, area_again}
use Rattle.image_scans.proofs.AreaReadings.{AreasGive, PvGives, areas_weaker}
use Rattle.image_scans.proofs.Labels.{IsSameHeader, header_again, label_again, of_four}

-- ---- its areas

-- areas in their order
record AreasReadAgain (pv : ℕ) (sector_at : ℕ → List ℕ) (new : AreaReading) (may : Bool) (bare : AreaReading → Bool)
    (founds : List AreaFound) (before : List AreaOf) : Type 0 where
  found : List AreaFound
  areas : List AreaOf
  same : map (λ (f : AreaFound). f.area) found ≡ map (λ (f : AreaFound). f.area) founds
  is : Each (IsAreaFound sector_at) found
  reads : AreAreaReadings pv sector_at found areas
  again : AreasAgain new may bare before areas

areas_again : (text : List ℕ) (group : Group) (passed : List (List ℕ)) → IsCopyOf text group passed
    → (may : Bool) (bare : AreaReading → Bool) (pv : ℕ) (base image : Image) (founds : List AreaFound) (before : List AreaOf)
    → AreAreaReadings pv (base pv) founds before → Each (IsAreaFound (base pv)) founds → AreasGive (MayBeRefused bare) before
    → Each (IsKnown text pv base image may bare) founds
    → AreasReadAgain pv (image pv) (Copy group text passed) may bare founds before
areas_again text group passed copy may bare pv base image [] [] reads is given known =
    record { found = []; areas = []; same = refl; is = tt; reads = tt; again = tt }
areas_again text group passed copy may bare pv base image [] (area ∷ before) reads is given known = absurd reads
areas_again text group passed copy may bare pv base image (found ∷ founds) [] reads is given known = absurd reads
areas_again text group passed copy may bare pv base image (found ∷ founds) (area ∷ before) reads is given known =
    let one : ReadsAgain pv (image pv) found.area (Copy group text passed) may bare area =
    area_again text group passed copy may bare pv base image found area is.0 reads.0 given.0 known.0 in
    let later : AreasReadAgain pv (image pv) (Copy group text passed) may bare founds before =
    areas_again text group passed copy may bare pv base image founds before reads.1 is.1 given.1 known.1 in
    record {
      found = one.found ∷ later.found;
      areas = one.area ∷ later.areas;
      same = λ i. one.same i ∷ later.same i;
      is = (one.is, later.is);
      reads = (one.reads, later.reads);
      again = (one.start_is, one.sectors_is, one.again, later.again);
    }

-- ---- the disk

-- a disk in an image, as it is found and reads there, beside what it was and how it read
pub record DiskAgain (pv : ℕ) (sector_at : ℕ → List ℕ) (may : List ℕ → Bool) (bare : List ℕ → AreaReading → Bool) (new : AreaReading)
    (disk : Disk) (reading : Reading) : Type 0 where
  pub there : Disk
  pub read : Reading
  pub sectors_is : there.sectors ≡ disk.sectors
  pub unread : there.contents ≡ None → disk.contents ≡ None
  pub unread_there : disk.contents ≡ None → there.contents ≡ None
  pub is : IsDiskReading pv sector_at there read
  pub same_sectors : reading.sectors ≡ read.sectors
  pub again : PvAgain may bare new reading.pv read.pv
  pub ids : (id : List ℕ) → has_header_id id there ≡ has_header_id id disk
  pub areas_is : map (λ (f : AreaFound). f.area) (areas_on there.contents) ≡ map (λ (f : AreaFound). f.area) (areas_on disk.contents)

given_same : (new : AreaReading) (may : Bool) (bare : AreaReading → Bool) (o : Option AreaReading) → GivesAgain new may bare o o
given_same new may bare None = refl
given_same new may bare (Some r) = inl refl

areas_same : (new : AreaReading) (may : Bool) (bare : AreaReading → Bool) (areas : List AreaOf) → AreasAgain new may bare areas areas
areas_same new may bare [] = tt
areas_same new may bare (area ∷ areas) = (refl, refl, given_same new may bare area.reading, areas_same new may bare areas)

pub pv_same : (may : List ℕ → Bool) (bare : List ℕ → AreaReading → Bool) (new : AreaReading) (pv : Option PvOf) → PvAgain may bare new pv pv
pv_same may bare new None = tt
pv_same may bare new (Some pv) = (refl, areas_same new (may pv.id) (bare pv.id) pv.areas)

-- a disk with the same sectors
pub disk_same : (pv : ℕ) (old new_at : ℕ → List ℕ) (may : List ℕ → Bool) (bare : List ℕ → AreaReading → Bool) (new : AreaReading)
    (disk : Disk) (reading : Reading) → ((sector : ℕ) → new_at sector ≡ old sector) → IsDiskReading pv old disk reading
    → DiskAgain pv new_at may bare new disk reading
disk_same pv old new_at may bare new disk reading same is = record {
  there = disk;
  read = reading;
  sectors_is = refl;
  unread = λ none. none;
  unread_there = λ none. none;
  is = subst (λ (sector_at : ℕ → List ℕ). IsDiskReading pv sector_at disk reading) (λ i sector. sym (same sector) i) is;
  same_sectors = refl;
  again = pv_same may bare new reading.pv;
  ids = λ id. refl;
  areas_is = refl;
}

-- its label's sector is as it was, or has a label and header with the same id and areas; and no sector before it differs
pub record LabelStands (old new_at : ℕ → List ℕ) (label : ℕ) (header : PvHeader) : Type 0 where
  pub before : (k : ℕ) → k < label → new_at k ≡ old k
  pub is : (new_at label ≡ old label) ⊎ ((made : PvHeader) × IsSameHeader header made × IsLabel (new_at label) label
      × IsPvHeader (new_at label) made [])

module _ (text : List ℕ) (group : Group) (passed : List (List ℕ)) (copy : IsCopyOf text group passed) (may : List ℕ → Bool)
    (bare : List ℕ → AreaReading → Bool) (pv : ℕ) (base image : Image) (sectors label : ℕ) (header : PvHeader) (areas : List AreaFound)
    (found : IsFound (base pv) sectors (Whole label header areas)) (stands : LabelStands (base pv) (image pv) label header) where
  abbrev new : AreaReading
  new = Copy group text passed

  -- the header in the image, and what is read there
  there : (pv_header : PvHeader) × IsSameHeader header pv_header
      × ((founds : List AreaFound) → AreAreasFound (image pv) header.areas founds
      → IsFound (image pv) sectors (Whole label pv_header founds))
  there =
      ⊎_elim
      (λ same. (
        header,
        record { id = refl; held = refl; areas = refl },
        λ founds are. (
          label_again (base pv) (image pv) label stands.before (subst (λ (s : List ℕ). IsLabel s label) (sym same) (own_label found.0))
              found.0,
          subst (λ (s : List ℕ). Reads s (sectors * 512) header) (sym same) found.1,
          are,
        ),
      ))
      (λ written. (
        written.0,
        written.1,
        λ founds are. (
          label_again (base pv) (image pv) label stands.before written.2 found.0,
          header_again (image pv label) (sectors * 512) header written.0 written.1 written.3 found.1.areas,
          subst (λ (l : List Extent). AreAreasFound (image pv) l founds) (sym written.1.areas) are,
        ),
      ))
      stands.is
    where
      own_label : IsFirstLabel (first_four (base pv)) label → IsLabel (base pv label) label
      own_label first = subst (λ (s : List ℕ). IsLabel s label) (of_four (base pv) label first.among) first.label

  module _ (own : PvOf) (id_is : own.id ≡ header.id) (reads : AreAreaReadings pv (base pv) areas own.areas)
      (given : AreasGive (MayBeRefused (bare own.id)) own.areas)
      (known : Each (IsKnown text pv base image (may own.id) (bare own.id)) areas) where
    whole_again : DiskAgain pv (image pv) may bare new (record { sectors = sectors; contents = Some (Whole label header areas) })
        (record { sectors = sectors; pv = Some own })
    whole_again =
        let list : AreasReadAgain pv (image pv) new (may own.id) (bare own.id) areas own.areas =
        areas_again text group passed copy (may own.id) (bare own.id) pv base image areas own.areas reads
        (recursion_from_All (IsAreaFound (base pv)) areas found.2.each) given known
        in
        let are : AreAreasFound (image pv) header.areas list.found =
        record { in_order = list.same ∙ found.2.in_order; each = All-from_recursion (IsAreaFound (image pv)) list.found list.is } in
        let at = there in
        record {
          there = record { sectors = sectors; contents = Some (Whole label at.0 list.found) };
          read = record { sectors = sectors; pv = Some (record { id = at.0.id; areas = list.areas }) };
          sectors_is = refl;
          unread = λ none. absurd cc;
          unread_there = λ none. absurd cc;
          is = record { contents = at.2 list.found are; sectors_is = refl; pv_is = (refl, list.reads) };
          same_sectors = refl;
          again = (id_is ∙ sym at.1.id, list.again);
          ids = λ id. ap (λ (h : List ℕ). bytes_eq h id) at.1.id;
          areas_is = list.same;
        }

-- each area of a physical volume may give nothing later where it is refused, by its id
abbrev pub PvMayBeRefused : (List ℕ → AreaReading → Bool) → Option PvOf → Type 0
PvMayBeRefused bare None = Unit {0}
PvMayBeRefused bare (Some own) = AreasGive (MayBeRefused (bare own.id)) own.areas

-- none of them is
pub none_refused : (bare : List ℕ → AreaReading → Bool) (o : Option PvOf) → PvGives NotRefused o → PvMayBeRefused bare o
none_refused bare None all = tt
none_refused bare (Some own) all = areas_weaker NotRefused (MayBeRefused (bare own.id)) (λ r is. inr is) own.areas all

-- a disk with a header
pub disk_again : (text : List ℕ) (group : Group) (passed : List (List ℕ)) → IsCopyOf text group passed
    → (may : List ℕ → Bool) (bare : List ℕ → AreaReading → Bool) (pv : ℕ) (base image : Image) (sectors : ℕ) (contents : Option PvFound)
    (read : Option PvOf)
    → IsContents (base pv) sectors contents → IsPvReading pv (base pv) contents read → PvMayBeRefused bare read
    → (label : ℕ) (header : PvHeader) (areas : List AreaFound) → contents ≡ Some (Whole label header areas)
    → LabelStands (base pv) (image pv) label header → Each (IsKnown text pv base image (may header.id) (bare header.id)) areas
    → DiskAgain pv (image pv) may bare (Copy group text passed) (record { sectors = sectors; contents = contents })
    (record { sectors = sectors; pv = read })
disk_again text group passed copy may bare pv base image sectors contents read found reads given label header areas is stands known =
    subst (λ (c : Option PvFound). DiskAgain pv (image pv) may bare (Copy group text passed) (record { sectors = sectors; contents = c })
    (record { sectors = sectors; pv = read })) (sym is)
    (by read (subst (λ (c : Option PvFound). IsContents (base pv) sectors c) is found)
    (subst (λ (c : Option PvFound). IsPvReading pv (base pv) c read) is reads) given)
  where
    by : (o : Option PvOf) → IsFound (base pv) sectors (Whole label header areas)
        → IsPvReading pv (base pv) (Some (Whole label header areas)) o → PvMayBeRefused bare o
        → DiskAgain pv (image pv) may bare (Copy group text passed)
        (record { sectors = sectors; contents = Some (Whole label header areas) }) (record { sectors = sectors; pv = o })
    by None f r g = absurd r
    by (Some own) f r g =
        whole_again text group passed copy may bare pv base image sectors label header areas f stands own r.0 r.1 g
        (subst (λ (id : List ℕ). Each (IsKnown text pv base image (may id) (bare id)) areas) (sym r.0) known)

-- ---- all disks

-- the disk with this number, as it is found and reads there
pub record IsThereAt (image : Image) (first k : ℕ) (disk : Disk) (there : List Disk) (read : List Reading) : Type 0 where
  pub own : Disk
  pub reading : Reading
  pub at : slice_get there k ≡ Some own
  pub at_reading : slice_get read k ≡ Some reading
  pub is : IsDiskReading (first + k) (image (first + k)) own reading
  pub own_ids : (id : List ℕ) → has_header_id id own ≡ has_header_id id disk
  pub own_areas : map (λ (f : AreaFound). f.area) (areas_on own.contents) ≡ map (λ (f : AreaFound). f.area) (areas_on disk.contents)

pub record AllAgain (image : Image) (unread : set.FinSet nat_cmp) (first : ℕ) (may : List ℕ → Bool) (bare : List ℕ → AreaReading → Bool)
    (new : AreaReading) (disks : List Disk) (readings : List Reading) : Type 0 where
  pub there : List Disk
  pub read : List Reading
  pub sizes_is : map (λ (d : Disk). d.sectors) there ≡ map (λ (d : Disk). d.sectors) disks
  pub are : AreDiskReadings image unread first there read
  pub again : DisksAgain may bare new readings read
  pub ids : (id : List ℕ) → disk_with there id ≡ disk_with disks id
  pub at : (k : ℕ) (disk : Disk) → slice_get disks k ≡ Some disk → IsThereAt image first k disk there read

-- each of the disks from this number on
abbrev pub EachAgain : Image → Image → (List ℕ → Bool) → (List ℕ → AreaReading → Bool) → AreaReading → ℕ → List Disk → List Reading → Type 0
EachAgain base image may bare new first disks readings =
    (k : ℕ) (disk : Disk) (reading : Reading) → slice_get disks k ≡ Some disk → slice_get readings k ≡ Some reading
    → IsDiskReading (first + k) (base (first + k)) disk reading
    → DiskAgain (first + k) (image (first + k)) may bare new disk reading

pub all_again : (base image : Image) (unread : set.FinSet nat_cmp) (first : ℕ) (may : List ℕ → Bool) (bare : List ℕ → AreaReading → Bool)
    (new : AreaReading) (disks : List Disk) (readings : List Reading) → AreDiskReadings base unread first disks readings
    → EachAgain base image may bare new first disks readings → AllAgain image unread first may bare new disks readings
all_again base image unread first may bare new [] [] are each =
    record { there = []; read = []; sizes_is = refl; are = tt; again = tt; ids = λ id. refl; at = λ k disk there. absurd cc }
all_again base image unread first may bare new [] (reading ∷ readings) are each = absurd are
all_again base image unread first may bare new (disk ∷ disks) [] are each = absurd are
all_again base image unread first may bare new (disk ∷ disks) (reading ∷ readings) are each =
    let own : IsDiskReading (first + 0) (base (first + 0)) disk reading =
    subst (λ (n : ℕ). IsDiskReading n (base n) disk reading) (omega arith) are.1 in
    let one : DiskAgain first (image first) may bare new disk reading =
    subst (λ (n : ℕ). DiskAgain n (image n) may bare new disk reading) (omega arith) (each 0 disk reading refl refl own) in
    let later : AllAgain image unread (first + 1) may bare new disks readings =
    all_again base image unread (first + 1) may bare new disks readings are.2
    (λ k d r at_disk at_reading is.
    subst (λ (n : ℕ). DiskAgain n (image n) may bare new d r) (omega arith)
    (each (suc k) d r at_disk at_reading (subst (λ (n : ℕ). IsDiskReading n (base n) d r) (omega arith) is)))
    in
    record {
      there = one.there ∷ later.there;
      read = one.read ∷ later.read;
      sizes_is = λ i. one.sectors_is i ∷ later.sizes_is i;
      are = (((λ none. are.0.0 (one.unread none)), (λ is. one.unread_there (are.0.1 is))), one.is, later.are);
      again = (one.same_sectors, one.again, later.again);
      ids = λ id i. cond (one.ids id i) 0 (later.ids id i + 1);
      at = here_or_later one later;
    }
  where
    here_or_later : (one : DiskAgain first (image first) may bare new disk reading)
        (later : AllAgain image unread (first + 1) may bare new disks readings) (k : ℕ) (d : Disk) → slice_get (disk ∷ disks) k ≡ Some d
        → IsThereAt image first k d (one.there ∷ later.there) (one.read ∷ later.read)
    here_or_later one later zero d there =
        subst (λ (x : Disk). IsThereAt image first 0 x (one.there ∷ later.there) (one.read ∷ later.read)) (same_Some disk d there)
        (record {
          own = one.there;
          reading = one.read;
          at = refl;
          at_reading = refl;
          is = subst (λ (n : ℕ). IsDiskReading n (image n) one.there one.read) (omega arith) one.is;
          own_ids = one.ids;
          own_areas = one.areas_is;
        })
    here_or_later one later (suc k) d there =
        let r : IsThereAt image (first + 1) k d later.there later.read = later.at k d there in
        record {
          own = r.own;
          reading = r.reading;
          at = r.at;
          at_reading = r.at_reading;
          is = subst (λ (n : ℕ). IsDiskReading n (image n) r.own r.reading) (omega arith) r.is;
          own_ids = r.own_ids;
          own_areas = r.own_areas;
        }
