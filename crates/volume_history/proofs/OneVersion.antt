-- Two versions that a scan of one image finds with the same disks left out are one.
use Rattle.std.proofs.Common.{◌≡◌, ◌<◌, ◌↔◌, ℕ, ◌+◌, Bool, true, None, List, [], ◌∷◌, length, map, Option, option_map, sym, ap, subst, ◌∙◌}
use Rattle.std.proofs.Common.{arith}
use Rattle.std.proofs.lemmas.List.{length-map}
use Rattle.std.specs.FinSet as set
use Rattle.std.specs.Ordering.{nat_cmp}
use Rattle.disk_model.specs.Steps.{Image}
use Rattle.vg_scan.specs.Versions.{FindsVersion, Version, version_in}
use Rattle.meta_model.specs.declared.group.Group.{Group}
use Rattle.scan_rules.specs.Decision.{Reading, ScanAnswer, DuplicatePv, NoCopy, Unsupported, TwoGroups, Conflict, PvShape, NoGroup}
use Rattle.scan_rules.specs.Decision.{FoundGroup, decide_scan}
use Rattle.vg_found.specs.Disks.{disks_of}
use Rattle.vg_found.specs.Shape.{IsUnread}
use Rattle.vg_found.specs.declared.disk.Disk.{Disk}
use Rattle.vg_found.specs.declared.found.Found.{Found}
use Rattle.vg_scan.specs.Readings.{AreDiskReadings, AreReadings}
use Rattle.vg_scan.specs.Scans.{IsFoundBy}

-- a disk is unread by a set where it is by another that has it as well
unread_by : (unread other : set.FinSet nat_cmp) (pv : ℕ) (disk : Disk) → set.contains unread pv ≡ set.contains other pv
    → IsUnread unread pv disk → IsUnread other pv disk
unread_by unread other pv disk same is = subst (λ (b : Bool). (disk.contents ≡ None) ↔ (b ≡ true)) same is

read_by : (image : Image) (unread other : set.FinSet nat_cmp) (pv : ℕ) (disks : List Disk) (readings : List Reading)
    → ((k : ℕ) → k < pv + length disks → set.contains unread k ≡ set.contains other k) → AreDiskReadings image unread pv disks readings
    → AreDiskReadings image other pv disks readings
read_by image unread other pv [] [] same are = tt
read_by image unread other pv [] (reading ∷ readings) same are = absurd are
read_by image unread other pv (disk ∷ disks) [] same are = absurd are
read_by image unread other pv (disk ∷ disks) (reading ∷ readings) same are = (
  unread_by unread other pv disk (same pv (omega arith)) are.0,
  are.1,
  read_by image unread other (pv + 1) disks readings (λ k lt. same k (omega (arith, lt))) are.2,
)

-- the group that an answer comes to is one
one_group : (answer : ScanAnswer) (f g : Found) → IsFoundBy answer f → IsFoundBy answer g → f.group ≡ g.group
one_group (FoundGroup held stale strays missing) f g is is' = is.0 ∙ sym is'.0
one_group NoGroup f g is is' = is.0 ∙ sym is'.0
one_group (DuplicatePv a b) f g is is' = absurd is
one_group (NoCopy causes) f g is is' = absurd is
one_group (Unsupported a) f g is is' = absurd is
one_group (TwoGroups a b) f g is is' = absurd is
one_group (Conflict a b c) f g is is' = absurd is
one_group (PvShape a) f g is is' = absurd is

-- what stands on disks and how they read is one
abbrev pub DisksAreOne : Type 0
DisksAreOne =
    (image : Image) (sizes : List ℕ) (unread : set.FinSet nat_cmp) (ds es : List Disk) (xs ys : List Reading)
    → AreReadings image sizes unread ds xs → AreReadings image sizes unread es ys → ds ≡ es

abbrev pub ReadingsAreOne : Type 0
ReadingsAreOne =
    (image : Image) (sizes : List ℕ) (unread : set.FinSet nat_cmp) (ds es : List Disk) (xs ys : List Reading)
    → AreReadings image sizes unread ds xs → AreReadings image sizes unread es ys → xs ≡ ys

-- what is found with one group on the same disks is one version
same_version : (f g : Found) → f.group ≡ g.group → f.disks ≡ g.disks → version_in f ≡ version_in g
same_version f g group disks =
    ap (λ (o : Option Group). option_map (λ (v : Group). record { group = v; disk_of = disks_of v f.disks }) o) group
    ∙ ap (λ (ds : List Disk). option_map (λ (v : Group). record { group = v; disk_of = disks_of v ds }) g.group) disks

-- two that a scan finds with the same disks left out are left out in the same sets
read_the_same : (sizes : List ℕ) (image : Image) (out : ℕ → Bool) (f g : Found) (readings : List Reading)
    → ((pv : ℕ) → pv < length sizes → set.contains f.unread pv ≡ out pv)
    → ((pv : ℕ) → pv < length sizes → set.contains g.unread pv ≡ out pv)
    → AreReadings image sizes g.unread g.disks readings → AreReadings image sizes f.unread g.disks readings
read_the_same sizes image out f g readings left left' are =
    let many : length (map (λ (disk : Disk). disk.sectors) g.disks) ≡ length sizes = ap (λ (l : List ℕ). length l) are.sizes_is in
    let known : length (map (λ (disk : Disk). disk.sectors) g.disks) ≡ length g.disks =
    length-map g.disks (λ (disk : Disk). disk.sectors) in
    record {
      sizes_is = are.sizes_is;
      each =
          read_by image g.unread f.unread 0 g.disks readings
          (λ k lt. left' k (omega (arith, lt, many, known)) ∙ sym (left k (omega (arith, lt, many, known)))) are.each;
    }

pub one_version : DisksAreOne → ReadingsAreOne → (sizes : List ℕ) (image : Image) (out : ℕ → Bool) (version other : Option Version)
    → FindsVersion sizes image out version → FindsVersion sizes image out other → version ≡ other
one_version disks_one readings_one sizes image out version other f g =
    let are = read_the_same sizes image out f.found g.found g.scan.readings f.left g.left g.scan.are in
    let readings = readings_one image sizes f.found.unread f.found.disks g.found.disks f.scan.readings g.scan.readings f.scan.are are in
    sym f.version_is
    ∙ same_version f.found g.found
    (one_group (decide_scan g.scan.readings) f.found g.found
    (subst (λ (l : List Reading). IsFoundBy (decide_scan l) f.found) readings f.scan.answer) g.scan.answer)
    (disks_one image sizes f.found.unread f.found.disks g.found.disks f.scan.readings g.scan.readings f.scan.are are)
    ∙ g.version_is
