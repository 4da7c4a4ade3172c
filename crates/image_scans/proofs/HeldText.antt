-- An area that shows a text gives it, and so a disk of the group holds it.
use Rattle.std.proofs.Common.{◌≡◌, ℕ, zero, suc, ◌/◌, Bool, true, false, ◌&&◌, List, [], ◌∷◌, map, Option, Some, None, refl, sym, ap, subst}
use Rattle.std.proofs.Common.{◌∙◌, arith}
use Rattle.std.specs.Prelude.{All, filter_map, option_map, slice_get, unwrap_or}
use Rattle.std.specs.List.{cons_option, list_any}
use Rattle.std.proofs.lemmas.Bool.{or_left, or_right}
use Rattle.std.proofs.lemmas.Option.{same_Some}
use Rattle.std.proofs.lemmas.List.Elements.{All-head, All-tail}
use Rattle.std.specs.Str.{bytes_eq}
use Rattle.disk_model.specs.Steps.{Image}
use Rattle.pv_header.specs.declared.header.PvHeader.{PvHeader}
use Rattle.mda_header.specs.declared.entry.HeaderEntry.{HeaderEntry}
use Rattle.mda_header.specs.declared.entry.HeaderEntry.TheVariants.{Text}
use Rattle.mda_header.specs.declared.header.Locn.{Locn}
use Rattle.mda_header.specs.Header.{IsEntry}
use Rattle.mda_header.proofs.OneEntry.{one_entry}
use Rattle.mda_ring.specs.declared.area.Area.{Area}
use Rattle.mda_ring.specs.Texts.{without_zero}
use Rattle.mda_ring.proofs.TextBytes.{without_zero-zero}
use Rattle.meta_model.specs.declared.group.Group.{Group}
use Rattle.scan_rules.specs.Decision.{Area as AreaOf, AreaReading, Copy, Found as PvOf, HoldsNone, Reading, Refused, gives, holds, is_held}
use Rattle.scan_rules.specs.Decision.{is_listed, lists}
use Rattle.scan_rules.proofs.Scanning.{same_bytes_tells, same_bytes_to}
use Rattle.disk_contents.specs.declared.contents.AreaFound.{AreaFound}
use Rattle.disk_contents.specs.declared.contents.PvFound.{PvFound}
use Rattle.disk_contents.specs.declared.contents.PvFound.TheVariants.{NoLabel, NoHeader, Whole}
use Rattle.disk_contents.specs.Contents.{IsAreaFound}
use Rattle.disk_contents.specs.Standing.{area_on}
use Rattle.vg_found.specs.declared.disk.Disk.{Disk}
use Rattle.vg_found.specs.Disks.{areas_on, has_header_id, header_on}
use Rattle.vg_scan.specs.Readings.{AreAreaReadings, IsAreaReading, IsContents, IsDiskReading, IsGiven, IsPvReading}
use Rattle.vg_scan.specs.Texts.{IsStored, stored_bytes}
use Rattle.vg_commit.specs.SectorReading.{ShowsBy, new_reading}
use Rattle.vg_commit.specs.Showing.{sectors_of}
use Rattle.vg_commit.specs.Written.{new_entry, stored}
use Rattle.group_plan.proofs.Disks.{has_own}
use Rattle.image_scans.proofs.AreaAgain.{NotRefused}
use Rattle.image_scans.proofs.DiskAgain.{IsThereAt}
use Rattle.image_scans.proofs.FoundAreas.{IsHeldOn, entry_kept}
use Rattle.image_scans.proofs.AreaReadings.{AreasGive, DisksGive, GivenHas, PvGives}
use Rattle.image_scans.proofs.CommittedGroup.{IsListedOn}
use Rattle.image_scans.proofs.ReadingShapes.{gives_at}

-- ---- a disk that holds a text

any_at : {X : Type 0} (p : X → Bool) (xs : List X) (k : ℕ) (x : X) → slice_get xs k ≡ Some x → p x ≡ true → list_any p xs ≡ true
any_at p [] k x there is = absurd cc
any_at p (y ∷ xs) zero x there is = or_left (p y) (list_any p xs) (ap p (same_Some y x there) ∙ is)
any_at p (y ∷ xs) (suc k) x there is = or_right (p y) (list_any p xs) (any_at p xs k x there is)

any_first : (text : List ℕ) (o : Option AreaReading) (rest : List AreaReading) (given : AreaReading) → o ≡ Some given
    → gives text given ≡ true → list_any (gives text) (cons_option o rest) ≡ true
any_first text o rest given is has =
    ap (λ x. list_any (gives text) (cons_option x rest)) is ∙ or_left (gives text given) (list_any (gives text) rest) has

any_later : (text : List ℕ) (o : Option AreaReading) (rest : List AreaReading) → list_any (gives text) rest ≡ true
    → list_any (gives text) (cons_option o rest) ≡ true
any_later text None rest any = any
any_later text (Some r) rest any = or_right (gives text r) (list_any (gives text) rest) any

areas_hold : (text : List ℕ) (areas : List AreaOf) (k : ℕ) (area : AreaOf) (given : AreaReading) → slice_get areas k ≡ Some area
    → area.reading ≡ Some given → gives text given ≡ true
    → list_any (gives text) (filter_map (λ (a : AreaOf). a.reading) areas) ≡ true
areas_hold text [] k area given there is has = absurd cc
areas_hold text (first ∷ areas) zero area given there is has =
    any_first text first.reading (filter_map (λ (a : AreaOf). a.reading) areas) given
    (ap (λ (a : AreaOf). a.reading) (same_Some first area there) ∙ is) has
areas_hold text (first ∷ areas) (suc k) area given there is has =
    any_later text first.reading (filter_map (λ (a : AreaOf). a.reading) areas) (areas_hold text areas k area given there is has)

pub held_at : (group : Group) (text : List ℕ) (readings : List Reading) (k : ℕ) (reading : Reading) (own : PvOf) (n : ℕ) (area : AreaOf)
    (given : AreaReading) → slice_get readings k ≡ Some reading → reading.pv ≡ Some own
    → lists group own.id ≡ true → slice_get own.areas n ≡ Some area → area.reading ≡ Some given → gives text given ≡ true
    → is_held group text readings ≡ true
held_at group text readings k reading own n area given there is listed at reads has =
    any_at (λ (d : Reading). is_listed group d && holds text d) readings k reading there
    (ap
    (λ (o : Option PvOf).
    unwrap_or (option_map (λ (pv : PvOf). lists group pv.id) o) false
    && list_any (gives text) (unwrap_or (option_map (λ (pv : PvOf). filter_map (λ (a : AreaOf). a.reading) pv.areas) o) []))
    is
    ∙ ap (λ (b : Bool). b && list_any (gives text) (filter_map (λ (a : AreaOf). a.reading) own.areas)) listed
    ∙ areas_hold text own.areas n area given at reads has)

-- ---- the reading of an area by its number

record ReadsAt (pv : ℕ) (sector_at : ℕ → List ℕ) (contents : Option PvFound) (read : Option PvOf) (n : ℕ) (found : AreaFound) : Type 0 where
  header : PvHeader
  own : PvOf
  is : read ≡ Some own
  header_is : header_on contents ≡ Some header
  id_is : own.id ≡ header.id
  area : AreaOf
  at : slice_get own.areas n ≡ Some area
  stands : IsAreaFound sector_at found
  reads : IsAreaReading pv sector_at found area

one_reads : (pv : ℕ) (sector_at : ℕ → List ℕ) (founds : List AreaFound) (areas : List AreaOf) → AreAreaReadings pv sector_at founds areas
    → (n : ℕ) (found : AreaFound) → slice_get founds n ≡ Some found
    → (area : AreaOf) × (slice_get areas n ≡ Some area) × IsAreaReading pv sector_at found area
one_reads pv sector_at [] areas are n found there = absurd cc
one_reads pv sector_at (first ∷ founds) [] are n found there = absurd are
one_reads pv sector_at (first ∷ founds) (area ∷ areas) are zero found there =
    (area, refl, subst (λ (f : AreaFound). IsAreaReading pv sector_at f area) (same_Some first found there) are.0)
one_reads pv sector_at (first ∷ founds) (area ∷ areas) are (suc n) found there = one_reads pv sector_at founds areas are.1 n found there

one_stands : (sector_at : ℕ → List ℕ) (founds : List AreaFound) → All (IsAreaFound sector_at) founds → (n : ℕ) (found : AreaFound)
    → slice_get founds n ≡ Some found → IsAreaFound sector_at found
one_stands sector_at [] all n found there = absurd cc
one_stands sector_at (first ∷ founds) all zero found there =
    subst (IsAreaFound sector_at) (same_Some first found there) (All-head (IsAreaFound sector_at) first founds all)
one_stands sector_at (first ∷ founds) all (suc n) found there =
    one_stands sector_at founds (All-tail (IsAreaFound sector_at) first founds all) n found there

reads_at : (pv sectors : ℕ) (sector_at : ℕ → List ℕ) (contents : Option PvFound) (read : Option PvOf)
    → IsContents sector_at sectors contents → IsPvReading pv sector_at contents read → (n : ℕ) (found : AreaFound)
    → slice_get (areas_on contents) n ≡ Some found → ReadsAt pv sector_at contents read n found
reads_at pv sectors sector_at None read is reads n found there = absurd cc
reads_at pv sectors sector_at (Some (NoLabel refusal)) read is reads n found there = absurd cc
reads_at pv sectors sector_at (Some (NoHeader label refusal)) read is reads n found there = absurd cc
reads_at pv sectors sector_at (Some (Whole label header areas)) None is reads n found there = absurd reads
reads_at pv sectors sector_at (Some (Whole label header areas)) (Some own) is reads n found there =
    let one = one_reads pv sector_at areas own.areas reads.1 n found there in
    record {
      header = header;
      own = own;
      is = refl;
      header_is = refl;
      id_is = reads.0;
      area = one.0;
      at = one.1;
      stands = one_stands sector_at areas is.2.each n found there;
      reads = one.2;
    }

-- an area with the same place, by its number
same_at : (founds others : List AreaFound) → map (λ (f : AreaFound). f.area) founds ≡ map (λ (f : AreaFound). f.area) others
    → (n : ℕ) (found : AreaFound) → slice_get others n ≡ Some found
    → (own : AreaFound) × (slice_get founds n ≡ Some own) × (own.area ≡ found.area)
same_at founds [] same n found there = absurd cc
same_at [] (other ∷ others) same n found there = absurd cc
same_at (first ∷ founds) (other ∷ others) same zero found there =
    (first, refl, head first other founds others same ∙ ap (λ (f : AreaFound). f.area) (same_Some other found there))
  where
    head : (a b : AreaFound) (as' bs : List AreaFound)
        → map (λ (f : AreaFound). f.area) (a ∷ as') ≡ map (λ (f : AreaFound). f.area) (b ∷ bs) → a.area ≡ b.area
    head a b as' bs is = cc
same_at (first ∷ founds) (other ∷ others) same (suc n) found there =
    same_at founds others (tail first other founds others same) n found there
  where
    tail : (a b : AreaFound) (as' bs : List AreaFound)
        → map (λ (f : AreaFound). f.area) (a ∷ as') ≡ map (λ (f : AreaFound). f.area) (b ∷ bs)
        → map (λ (f : AreaFound). f.area) as' ≡ map (λ (f : AreaFound). f.area) bs
    tail a b as' bs is = cc

-- ---- a text that is shown is given

gives_stored : (locn : Locn) (bytes text : List ℕ) (given : AreaReading) → IsStored locn bytes given → bytes ≡ stored text
    → NotRefused given → gives text given ≡ true
gives_stored locn bytes text HoldsNone is shown read = absurd is
gives_stored locn bytes text (Copy group others passed) is shown read =
    same_bytes_to others text (is.0.text_is ∙ ap without_zero shown ∙ without_zero-zero text)
gives_stored locn bytes text (Refused why) is shown read = absurd read

one_given : (sector_at : ℕ → List ℕ) (area : Area) (entry : HeaderEntry) (locn : Locn) (reading : Option AreaReading) → entry ≡ Text locn
    → IsGiven sector_at area entry reading
    → (given : AreaReading) × (reading ≡ Some given) × IsStored locn (stored_bytes sector_at area locn) given
one_given sector_at area entry locn reading same is = subst (λ (e : HeaderEntry). IsGiven sector_at area e reading) same is

read_at : (P : AreaReading → Type 0) (areas : List AreaOf) → AreasGive P areas → (n : ℕ) (area : AreaOf) → slice_get areas n ≡ Some area
    → GivenHas P area.reading
read_at P [] all n area there = absurd cc
read_at P (first ∷ areas) all zero area there = subst (λ (a : AreaOf). GivenHas P a.reading) (same_Some first area there) all.0
read_at P (first ∷ areas) all (suc n) area there = read_at P areas all.1 n area there

own_header : (id : List ℕ) (o : Option PvHeader) (header : PvHeader) → o ≡ Some header
    → unwrap_or (option_map (λ (h : PvHeader). bytes_eq h.id id) o) false ≡ true → header.id ≡ id
own_header id None header is has = absurd cc
own_header id (Some own) header is has = ap (λ (h : PvHeader). h.id) (sym (same_Some own header is)) ∙ same_bytes_tells own.id id has

pub text_held : (image : Image) (group : Group) (text : List ℕ) (disks there : List Disk) (read : List Reading)
    → ((k : ℕ) (disk : Disk) → slice_get disks k ≡ Some disk → IsThereAt image 0 k disk there read)
    → DisksGive (λ disk. NotRefused) read → (held : Area × Option Locn) → IsHeldOn disks held → IsListedOn group disks held.0.pv
    → ShowsBy (new_reading text) image held → is_held group text read ≡ true
text_held image group text disks there read at given held on listed shows =
    let pv : ℕ = held.0.pv in
    let t : IsThereAt image 0 pv on.disk there read = at pv on.disk on.there in
    let reading : IsDiskReading pv (image pv) t.own t.reading =
    subst (λ (n : ℕ). IsDiskReading n (image n) t.own t.reading) (omega arith) t.is in
    let own = same_at (areas_on t.own.contents) (areas_on on.disk.contents) t.own_areas on.number on.found on.at in
    let r : ReadsAt pv (image pv) t.own.contents t.reading.pv on.number own.0 =
    reads_at pv t.own.sectors (image pv) t.own.contents t.reading.pv reading.contents reading.pv_is on.number own.0 own.1 in
    let area : held.0 ≡ area_on pv own.0.area =
    entry_kept (area_on pv on.found.area) on.found.entry held on.is ∙ ap (area_on pv) (sym own.2) in
    let locn : Locn = new_entry text held in
    let first : sectors_of (area_on pv own.0.area) image 0 ≡ image pv (own.0.area.offset / 512) = ap (image pv) (omega arith) in
    let names : IsEntry (image pv (own.0.area.offset / 512)) own.0.area.offset own.0.area.size (Text locn) =
    subst (λ (s : List ℕ). IsEntry s own.0.area.offset own.0.area.size (Text locn)) first
    (subst (λ (a : Area). IsEntry (sectors_of a image 0) a.start a.size (Text locn)) area shows.header)
    in
    let entry : own.0.entry ≡ Text locn =
    one_entry (image pv (own.0.area.offset / 512)) own.0.area.offset own.0.area.size own.0.entry (Text locn) r.stands.1 names in
    let g = one_given (image pv) (area_on pv own.0.area) own.0.entry locn r.area.reading entry r.reads.given in
    let bytes : stored_bytes (image pv) (area_on pv own.0.area) locn ≡ stored text =
    ap (λ (a : Area). stored_bytes (image a.pv) a locn) (sym area) ∙ shows.ring in
    let pv_given : PvGives NotRefused t.reading.pv = gives_at NotRefused read pv t.reading given t.at_reading in
    let not_refused : NotRefused g.0 =
    subst (GivenHas NotRefused) g.1 (read_at NotRefused r.own.areas (subst (PvGives NotRefused) r.is pv_given) on.number r.area r.at) in
    let same_disk : listed.disk ≡ on.disk = same_Some listed.disk on.disk (sym listed.there ∙ on.there) in
    let has : has_header_id listed.header.id t.own ≡ true =
    t.own_ids listed.header.id ∙ ap (has_header_id listed.header.id) (sym same_disk)
    ∙ has_own listed.header.id (header_on listed.disk.contents) listed.header listed.is refl
    in
    let id : r.own.id ≡ listed.header.id = r.id_is ∙ own_header listed.header.id (header_on t.own.contents) r.header r.header_is has in
    held_at group text read pv t.reading r.own on.number r.area g.0 t.at_reading r.is
    (ap (λ (i : List ℕ). lists group i) id ∙ listed.listed) r.at g.1
    (gives_stored locn (stored_bytes (image pv) (area_on pv own.0.area) locn) text g.0 g.2 bytes not_refused)
