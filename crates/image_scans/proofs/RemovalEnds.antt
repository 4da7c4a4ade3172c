-- Once a group's disks are cleared a scan finds no group.
use Rattle.std.proofs.Common.{◌≡◌, ◌≢◌, ℕ, zero, suc, ◌+◌, ◌/◌, ◌&&◌, ◌||◌, Bool, true, false, List, [], ◌∷◌, map, Option, Some, None}
use Rattle.std.proofs.Common.{⊎_elim, refl, sym, ap, subst, ◌∙◌, arith}
use Rattle.std.specs.Prelude.{All, filter_map, option_map, slice_get, unwrap_or}
use Rattle.std.specs.List.{AllByRecursion as Each, cons_option, list_any}
use Rattle.std.specs.Ordering.{nat_cmp}
use Rattle.std.specs.FinSet as set
use Rattle.std.proofs.lemmas.Bool.{cases_Bool, false≢true, or_cases}
use Rattle.std.proofs.lemmas.List.Elements.{recursion_from_All}
use Rattle.std.proofs.lemmas.Option.{same_Some}
use Rattle.std.specs.Str.{bytes_eq}
use Rattle.disk_model.specs.Steps.{Image}
use Rattle.pv_header.specs.declared.extent_list.Extent.{Extent}
use Rattle.pv_header.specs.declared.header.PvHeader.{PvHeader}
use Rattle.mda_header.proofs.OneEntry.{one_entry}
use Rattle.mda_header.specs.Header.{IsEntry}
use Rattle.mda_header.specs.declared.entry.HeaderEntry.{HeaderEntry}
use Rattle.mda_header.specs.declared.entry.HeaderEntry.TheVariants.{Ignored, Nothing, Text, Refused as RefusedFor}
use Rattle.mda_header.specs.declared.header.Locn.{Locn}
use Rattle.mda_ring.specs.declared.area.Area.{Area}
use Rattle.meta_model.specs.declared.group.Group.{Group}
use Rattle.meta_model.specs.declared.pv.Pv.{Pv}
use Rattle.scan_rules.specs.Decision.{Area as AreaOf, AreaReading, Found as PvOf, HoldsNone, Reading, gives, holds, is_held, is_listed}
use Rattle.scan_rules.specs.Decision.{lists}
use Rattle.scan_rules.proofs.Scanning.{same_bytes_tells}
use Rattle.disk_contents.specs.Contents.{IsAreaFound}
use Rattle.disk_contents.specs.declared.contents.AreaFound.{AreaFound}
use Rattle.disk_contents.specs.declared.contents.PvFound.{PvFound}
use Rattle.disk_contents.specs.declared.contents.PvFound.TheVariants.{NoLabel, NoHeader, Whole}
use Rattle.disk_contents.specs.Standing.{area_on}
use Rattle.vg_found.specs.declared.disk.Disk.{Disk}
use Rattle.vg_found.specs.Disks.{areas_on, disk_with, disks_of, held_area, held_areas, header_on}
use Rattle.vg_scan.specs.Readings.{AreAreaReadings, AreDiskReadings, IsAreaReading, IsContents, IsDiskReading, IsGiven, IsPvReading}
use Rattle.vg_commit.specs.Showing.{sectors_of}
use Rattle.vg_commit.specs.Written.{header_of}
use Rattle.group_plan.proofs.Passed.{absent}
use Rattle.group_plan.specs.Cleared.{cleared_areas}
use Rattle.group_plan.specs.Judging.{lies_on, set_of}
use Rattle.list_laws.proofs.Filtered.{each_of_filtered}
use Rattle.change_batches.specs.Laws.{IsEmpty}
use Rattle.image_scans.proofs.Again.{AreasAgain, DisksAgain, GivesAgain, PvAgain}
use Rattle.image_scans.proofs.ClearedAgain.{any_bare}
use Rattle.image_scans.proofs.FoundAreas.{entry_kept, of_held}
use Rattle.image_scans.proofs.OneArea.{entry_nothing}
use Rattle.image_scans.proofs.AreaReadings.{AreasGive, GivenHas, IsNone, PvGives}

-- ---- an area whose header is empty now

-- the header there names no text, where the area isn't ignored
abbrev pub IsEmptied : ℕ → (ℕ → List ℕ) → AreaFound → Type 0
IsEmptied pv image_at f =
    (held : Area × Option Locn) → held_area pv f ≡ Some held → IsEntry (image_at (f.area.offset / 512)) f.area.offset f.area.size Nothing

module _ (new : AreaReading) (pv : ℕ) (base_at image_at : ℕ → List ℕ) where
  emptied_one : (f g : AreaFound) (a b : AreaOf) → IsAreaReading pv base_at f a → IsAreaReading pv image_at g b → IsAreaFound image_at g
      → g.area ≡ f.area → GivesAgain new false (λ r. true) a.reading b.reading → IsEmptied pv image_at f → GivenHas IsNone b.reading
  emptied_one f g a b reads reads' found same again empty = by f.entry refl
    where
      -- it gives nothing, by its entry
      of_entry : IsEntry (image_at (f.area.offset / 512)) f.area.offset f.area.size Nothing → GivenHas IsNone b.reading
      of_entry names =
          let there : IsEntry (image_at (g.area.offset / 512)) g.area.offset g.area.size Nothing =
          subst (λ (e : Extent). IsEntry (image_at (e.offset / 512)) e.offset e.size Nothing) (sym same) names in
          let entry : g.entry ≡ Nothing =
          one_entry (image_at (g.area.offset / 512)) g.area.offset g.area.size g.entry Nothing found.1 there in
          let given : b.reading ≡ Some HoldsNone =
          subst (λ (e : HeaderEntry). IsGiven image_at (area_on pv g.area) e b.reading) entry reads'.given in
          subst (GivenHas IsNone) (sym given) refl

      by : (e : HeaderEntry) → f.entry ≡ e → GivenHas IsNone b.reading
      by Ignored is =
          let none : a.reading ≡ None = subst (λ (e : HeaderEntry). IsGiven base_at (area_on pv f.area) e a.reading) is reads.given in
          let none' : b.reading ≡ None = subst (λ (o : Option AreaReading). GivesAgain new false (λ r. true) o b.reading) none again in
          subst (GivenHas IsNone) (sym none') tt
      by Nothing is =
          of_entry (empty (area_on pv f.area, None)
          (ap (λ (e : HeaderEntry). held_area pv (record { area = f.area; header = f.header; entry = e })) is))
      by (Text locn) is =
          of_entry (empty (area_on pv f.area, Some locn)
          (ap (λ (e : HeaderEntry). held_area pv (record { area = f.area; header = f.header; entry = e })) is))
      by (RefusedFor refusal) is =
          of_entry (empty (area_on pv f.area, None)
          (ap (λ (e : HeaderEntry). held_area pv (record { area = f.area; header = f.header; entry = e })) is))

  head_same : (g f : AreaFound) (gs fs : List AreaFound)
      → map (λ (x : AreaFound). x.area) (g ∷ gs) ≡ map (λ (x : AreaFound). x.area) (f ∷ fs) → g.area ≡ f.area
  head_same g f gs fs is = cc

  tail_same : (g f : AreaFound) (gs fs : List AreaFound)
      → map (λ (x : AreaFound). x.area) (g ∷ gs) ≡ map (λ (x : AreaFound). x.area) (f ∷ fs)
      → map (λ (x : AreaFound). x.area) gs ≡ map (λ (x : AreaFound). x.area) fs
  tail_same g f gs fs is = cc

  areas_emptied : (fs : List AreaFound) (as' : List AreaOf) (gs : List AreaFound) (bs : List AreaOf) → AreAreaReadings pv base_at fs as'
      → AreAreaReadings pv image_at gs bs → Each (IsAreaFound image_at) gs
      → map (λ (x : AreaFound). x.area) gs ≡ map (λ (x : AreaFound). x.area) fs → AreasAgain new false (λ r. true) as' bs
      → Each (IsEmptied pv image_at) fs → AreasGive IsNone bs
  areas_emptied [] [] gs [] reads reads' found same again empty = tt
  areas_emptied [] [] gs (b ∷ bs) reads reads' found same again empty = absurd again
  areas_emptied [] (a ∷ as') gs bs reads reads' found same again empty = absurd reads
  areas_emptied (f ∷ fs) [] gs bs reads reads' found same again empty = absurd reads
  areas_emptied (f ∷ fs) (a ∷ as') gs [] reads reads' found same again empty = absurd again
  areas_emptied (f ∷ fs) (a ∷ as') [] (b ∷ bs) reads reads' found same again empty = absurd reads'
  areas_emptied (f ∷ fs) (a ∷ as') (g ∷ gs) (b ∷ bs) reads reads' found same again empty = (
    emptied_one f g a b reads.0 reads'.0 found.0 (head_same g f gs fs same) again.2 empty.0,
    areas_emptied fs as' gs bs reads.1 reads'.1 found.1 (tail_same g f gs fs same) again.3 empty.1,
  )

  pub pv_emptied : (sectors : ℕ) (contents own : Option PvFound) (x y : Option PvOf) → IsPvReading pv base_at contents x
      → IsPvReading pv image_at own y → IsContents image_at sectors own
      → map (λ (f : AreaFound). f.area) (areas_on own) ≡ map (λ (f : AreaFound). f.area) (areas_on contents)
      → PvAgain (λ id. false) any_bare new x y → Each (IsEmptied pv image_at) (areas_on contents) → PvGives IsNone y
  pv_emptied sectors contents own x None reads reads' is same again empty = tt
  pv_emptied sectors contents own None (Some y) reads reads' is same again empty = absurd again
  pv_emptied sectors None own (Some x) (Some y) reads reads' is same again empty = absurd cc
  pv_emptied sectors (Some (NoLabel refusal)) own (Some x) (Some y) reads reads' is same again empty = absurd cc
  pv_emptied sectors (Some (NoHeader label refusal)) own (Some x) (Some y) reads reads' is same again empty = absurd cc
  pv_emptied sectors (Some (Whole label header fs)) None (Some x) (Some y) reads reads' is same again empty = absurd cc
  pv_emptied sectors (Some (Whole label header fs)) (Some (NoLabel refusal)) (Some x) (Some y) reads reads' is same again empty = absurd cc
  pv_emptied sectors (Some (Whole label header fs)) (Some (NoHeader other refusal)) (Some x) (Some y) reads reads' is same again empty =
      absurd cc
  pv_emptied sectors (Some (Whole label header fs)) (Some (Whole other own gs)) (Some x) (Some y) reads reads' is same again empty =
      areas_emptied fs x.areas gs y.areas reads.1 reads'.1 (recursion_from_All (IsAreaFound image_at) gs is.2.each) same again.1 empty

-- ---- what holds nothing

areas_hold_none : (text : List ℕ) (areas : List AreaOf) → AreasGive IsNone areas
    → list_any (gives text) (filter_map (λ (area : AreaOf). area.reading) areas) ≡ false
areas_hold_none text [] all = refl
areas_hold_none text (area ∷ areas) all =
    one area.reading all.0 (filter_map (λ (a : AreaOf). a.reading) areas) (areas_hold_none text areas all.1)
  where
    one : (o : Option AreaReading) → GivenHas IsNone o → (rest : List AreaReading) → list_any (gives text) rest ≡ false
        → list_any (gives text) (cons_option o rest) ≡ false
    one None none rest later = later
    one (Some r) none rest later = ap (λ (x : AreaReading). gives text x || list_any (gives text) rest) none ∙ later

pv_holds_none : (text : List ℕ) (pv : Option PvOf) (sectors : ℕ) → PvGives IsNone pv
    → holds text (record { sectors = sectors; pv = pv }) ≡ false
pv_holds_none text None sectors all = refl
pv_holds_none text (Some pv) sectors all = areas_hold_none text pv.areas all

-- no listed disk holds the text
pub none_held : (group : Group) (text : List ℕ) (read : List Reading)
    → ((k : ℕ) (b : Reading) → slice_get read k ≡ Some b → is_listed group b ≡ true → PvGives IsNone b.pv) → is_held group text read ≡ false
none_held group text [] each = refl
none_held group text (b ∷ read) each =
    by (none_held group text read (λ k c there listed. each (suc k) c there listed)) (is_listed group b) refl
  where
    by : is_held group text read ≡ false → (listed : Bool) → is_listed group b ≡ listed → is_held group text (b ∷ read) ≡ false
    by rest true is =
        ap (λ (x : Bool). x && holds text b || is_held group text read) is
        ∙ ap (λ (x : Bool). x || is_held group text read) (pv_holds_none text b.pv b.sectors (each 0 b refl is)) ∙ rest
    by rest false is = ap (λ (x : Bool). x && holds text b || is_held group text read) is ∙ rest

-- ---- by numbers

pub read_before : (may : List ℕ → Bool) (bare : List ℕ → AreaReading → Bool) (new : AreaReading) (as' bs : List Reading)
    → DisksAgain may bare new as' bs → (k : ℕ) (b : Reading) → slice_get bs k ≡ Some b
    → (a : Reading) × (slice_get as' k ≡ Some a) × PvAgain may bare new a.pv b.pv
read_before may bare new [] [] again k b there = absurd cc
read_before may bare new [] (c ∷ bs) again k b there = absurd again
read_before may bare new (a ∷ as') [] again k b there = absurd again
read_before may bare new (a ∷ as') (c ∷ bs) again zero b there =
    (a, refl, subst (λ (x : Reading). PvAgain may bare new a.pv x.pv) (same_Some c b there) again.1)
read_before may bare new (a ∷ as') (c ∷ bs) again (suc k) b there = read_before may bare new as' bs again.2 k b there

pub disk_read : (image : Image) (unread : set.FinSet nat_cmp) (first : ℕ) (disks : List Disk) (readings : List Reading)
    → AreDiskReadings image unread first disks readings → (k : ℕ) (reading : Reading) → slice_get readings k ≡ Some reading
    → (disk : Disk) × (slice_get disks k ≡ Some disk) × IsDiskReading (first + k) (image (first + k)) disk reading
disk_read image unread first [] [] are k reading there = absurd cc
disk_read image unread first [] (r ∷ readings) are k reading there = absurd are
disk_read image unread first (d ∷ disks) [] are k reading there = absurd are
disk_read image unread first (d ∷ disks) (r ∷ readings) are zero reading there = (
  d,
  refl,
  subst (λ (n : ℕ). IsDiskReading n (image n) d reading) (omega arith)
      (subst (λ (x : Reading). IsDiskReading first (image first) d x) (same_Some r reading there) are.1),
)
disk_read image unread first (d ∷ disks) (r ∷ readings) are (suc k) reading there =
    let l = disk_read image unread (first + 1) disks readings are.2 k reading there in
    (l.0, l.1, subst (λ (n : ℕ). IsDiskReading n (image n) l.0 reading) (omega arith) l.2)

-- ---- a disk that the group lists

-- its header is
pub listed_header : (group : Group) (new : AreaReading) (pv : ℕ) (base_at : ℕ → List ℕ) (contents : Option PvFound) (x y : Option PvOf)
    → IsPvReading pv base_at contents x → PvAgain (λ id. false) any_bare new x y
    → unwrap_or (option_map (λ (own : PvOf). lists group own.id) y) false ≡ true
    → (header : PvHeader) × (header_on contents ≡ Some header) × (lists group header.id ≡ true)
listed_header group new pv base_at contents x None reads again listed = absurd (false≢true listed)
listed_header group new pv base_at contents None (Some y) reads again listed = absurd again
listed_header group new pv base_at None (Some x) (Some y) reads again listed = absurd cc
listed_header group new pv base_at (Some (NoLabel refusal)) (Some x) (Some y) reads again listed = absurd cc
listed_header group new pv base_at (Some (NoHeader label refusal)) (Some x) (Some y) reads again listed = absurd cc
listed_header group new pv base_at (Some (Whole label header fs)) (Some x) (Some y) reads again listed =
    (header, refl, ap (lists group) (sym reads.0 ∙ again.0) ∙ listed)

no_row : (disks : List Disk) (id : List ℕ) (k : ℕ) → disk_with disks id ≡ k → (pvs : List (List ℕ × Pv))
    → Each (λ n. n ≢ k) (map (λ (pv : List ℕ × Pv). disk_with disks pv.1.id) pvs)
    → list_any (λ (pv : List ℕ × Pv). bytes_eq pv.1.id id) pvs ≡ true → ⊥
no_row disks id k at [] none any = false≢true any
no_row disks id k at (pv ∷ pvs) none any =
    ⊎_elim
    (λ here. none.0 (ap (disk_with disks) (same_bytes_tells pv.1.id id here) ∙ at))
    (λ later. no_row disks id k at pvs none.1 later)
    (or_cases (bytes_eq pv.1.id id) (list_any (λ (p : List ℕ × Pv). bytes_eq p.1.id id) pvs) any)

-- so it is among those of the group
pub disk_among : (group : Group) (disks : List Disk) (disk_of : List ℕ) → disk_of ≡ disks_of group disks → (k : ℕ) (header : PvHeader)
    → disk_with disks header.id ≡ k → lists group header.id ≡ true → set.contains (set_of disk_of) k ≡ true
disk_among group disks disk_of are k header at listed =
    ⊎_elim
    (λ among. among)
    (λ off. absurd (no_row disks header.id k at group.pvs (subst (Each (λ n. n ≢ k)) are (absent set.empty disk_of k off).1) listed))
    (cases_Bool (set.contains (set_of disk_of) k))

-- ---- its areas

module _ (areas : List (Area × Option Locn)) (cleared : set.FinSet nat_cmp) (image : Image)
    (empty : All (IsEmpty image) (cleared_areas cleared areas)) (disks : List Disk) (held_are : areas ≡ held_areas 0 disks) where
  abbrev WhereCleared : Area × Option Locn → Type 0
  WhereCleared held = lies_on cleared held ≡ true → IsEmpty image held

  emptied_at : (k : ℕ) → set.contains cleared (0 + k) ≡ true → (f : AreaFound)
      → ((held : Area × Option Locn) → held_area (0 + k) f ≡ Some held → WhereCleared held) → IsEmptied (0 + k) (image (0 + k)) f
  emptied_at k on f where_cleared held is =
      let own : held.0 ≡ area_on (0 + k) f.area = entry_kept (area_on (0 + k) f.area) f.entry held is in
      let here : lies_on cleared held ≡ true = ap (λ (a : Area). set.contains cleared a.pv) own ∙ on in
      let names : IsEntry (sectors_of held.0 image 0) f.area.offset f.area.size Nothing =
      entry_nothing (sectors_of held.0 image 0) f.area.offset f.area.size (header_of held.0 None None) (where_cleared held is here) refl
      refl in
      let at : sectors_of held.0 image 0 ≡ image (0 + k) (f.area.offset / 512) =
      ap (λ (a : Area). sectors_of a image 0) own ∙ ap (image (0 + k)) (omega arith) in
      subst (λ (s : List ℕ). IsEntry s f.area.offset f.area.size Nothing) at names

  each_emptied : (k : ℕ) → set.contains cleared (0 + k) ≡ true → (fs : List AreaFound)
      → Each (λ f. (held : Area × Option Locn) → held_area (0 + k) f ≡ Some held → WhereCleared held) fs
      → Each (IsEmptied (0 + k) (image (0 + k))) fs
  each_emptied k on [] all = tt
  each_emptied k on (f ∷ fs) all = (emptied_at k on f all.0, each_emptied k on fs all.1)

  pub disk_emptied : (k : ℕ) (disk : Disk) → slice_get disks k ≡ Some disk → set.contains cleared (0 + k) ≡ true
      → Each (IsEmptied (0 + k) (image (0 + k))) (areas_on disk.contents)
  disk_emptied k disk there on =
      let all : All WhereCleared (held_areas 0 disks) =
      subst (All WhereCleared) held_are (each_of_filtered (IsEmpty image) (lies_on cleared) areas empty) in
      each_emptied k on (areas_on disk.contents)
      (recursion_from_All (λ f. (held : Area × Option Locn) → held_area (0 + k) f ≡ Some held → WhereCleared held) (areas_on disk.contents)
      (of_held WhereCleared 0 disks all k disk there))
