-- A line that makes a new physical volume: what is found with its disk left out, and once it stands there.
use Rattle.std.proofs.Common.{◌≡◌, ◌≢◌, ◌<◌, ℕ, ◌+◌, Bool, true, false, ◌||◌, List, [], ◌∷◌, ◌++◌, length, map, flat_map, Option, Some}
use Rattle.std.proofs.Common.{None, inl, ⊎_elim, refl, sym, ap, subst, ◌∙◌, arith}
use Rattle.std.specs.Prelude.{All, IfSome, nat_eq, option_map, slice_get, unwrap_or}
use Rattle.std.specs.FinSet as set
use Rattle.std.specs.List.{AllByRecursion as Each, list_any}
use Rattle.std.specs.Option.{option_map_or}
use Rattle.std.specs.Ordering.{nat_cmp}
use Rattle.std.proofs.lemmas.Bool.{cases_Bool, eqb-true, eq-eqb, true≢false}
use Rattle.std.proofs.lemmas.List.Elements.{All-append, All-cons, All-nil}
use Rattle.std.specs.Str.{bytes_eq}
use Rattle.lvm_script.specs.declared.line.Line.{Line}
use Rattle.disk_model.specs.Steps.{Image}
use Rattle.pv_header.specs.declared.header.PvHeader.{PvHeader}
use Rattle.meta_model.specs.declared.group.Group.{Group}
use Rattle.meta_model.specs.declared.pv.Pv.{Pv}
use Rattle.extent_alloc.specs.declared.part.Part.{Part}
use Rattle.scan_rules.specs.Decision.{AreaReading, Copy, Found as PvOf, HoldsNone, Reading, Refused, SamePv, first_duplicate, ids_from}
use Rattle.scan_rules.specs.Decision.{is_listed, is_something, lists}
use Rattle.scan_rules.proofs.Scanning.{same_bytes_tells, same_bytes_to}
use Rattle.scan_rules.proofs.SameShape.{ids_same}
use Rattle.disk_batch.specs.InTurn.{HasFirstBatches, Put}
use Rattle.disk_batch.proofs.FrontBatches.{KeepsSector, front_kept}
use Rattle.vg_found.specs.declared.disk.Disk.{Disk}
use Rattle.vg_found.specs.declared.found.Found.{Found}
use Rattle.vg_found.specs.Disks.{disk_with, disks_of, has_header_id, header_on, pv_shape, shapes}
use Rattle.vg_scan.specs.Readings.{IsDiskReading}
use Rattle.group_plan.proofs.Disks.{disk_with_own}
use Rattle.group_plan.proofs.Passed.{absent, both_false}
use Rattle.group_plan.specs.Judging.{set_of}
use Rattle.group_plan.specs.declared.state.Change.{Change}
use Rattle.group_plan.specs.declared.state.GroupState.{GroupState}
use Rattle.group_plan.specs.declared.state.NewLabel.{NewLabel}
use Rattle.group_plan.specs.declared.backup.Backup.{Backup}
use Rattle.pv_plans.specs.Pvcreate.{new_label}
use Rattle.group_ops.specs.Laws.{state_in}
use Rattle.group_ops.specs.Planning.{change_of}
use Rattle.change_batches.specs.Batches.{area_puts, areas_of, batch_if, commit_batches, label_put, new_area_puts}
use Rattle.change_batches.proofs.LabelPuts.{all_if, labels_keep_other}
use Rattle.vg_change.specs.LineBatches.{batches_of}
use Rattle.vg_change.proofs.LineLabels.{new_labels_are, new_near}
use Rattle.image_scans.specs.Laws.{CanCarryOut, is_labelled}
use Rattle.vg_scan.specs.Versions.{FindsVersion, version_in}
use Rattle.image_scans.proofs.CommitLine.{headers, is_state, settled}
use Rattle.image_scans.proofs.AreaReadings.{IsNone, IsSettled, pv_weaker}
use Rattle.image_scans.proofs.Lines.{MakesPv}
use Rattle.image_scans.proofs.OneDisk.{AllButOne, IsNewAt, all_but_one}
use Rattle.image_scans.proofs.Quiet.{IsNewId, IsQuiet, one_apart, one_quiet}
use Rattle.image_scans.proofs.QuietVersion.{SameDisks, quiet_version}
use Rattle.image_scans.proofs.ReadingShapes.{gives_at, gives_on, pv_shaped}
use Rattle.image_scans.proofs.SettledBase.{IsSettledScan, settled_none, settled_some}

-- ---- a disk that isn't listed

-- no physical volume of the list has the id of a disk that isn't its own
not_among : (p : List ℕ × Pv → Bool) (f : List ℕ × Pv → ℕ) (number : ℕ) (pvs : List (List ℕ × Pv))
    → ((pv : List ℕ × Pv) → p pv ≡ true → f pv ≡ number) → Each (λ n. n ≢ number) (map f pvs) → list_any p pvs ≡ false
not_among p f number [] own apart = refl
not_among p f number (pv ∷ pvs) own apart =
    ⊎_elim
    (λ has. absurd (apart.0 (own pv has)))
    (λ no_pv. ap (λ (b : Bool). b || list_any p pvs) no_pv ∙ not_among p f number pvs own apart.1)
    (cases_Bool (p pv))

nothing_is : (r : AreaReading) → is_something r ≡ false → IsNone r
nothing_is HoldsNone is = refl
nothing_is (Copy group text passed) is = absurd (true≢false is)
nothing_is (Refused why) is = absurd (true≢false is)

other_side : (a b : List ℕ) → bytes_eq a b ≡ false → bytes_eq b a ≡ false
other_side a b other = step (bytes_eq b a) refl
  where
    step : (t : Bool) → bytes_eq b a ≡ t → bytes_eq b a ≡ false
    step true is = absurd (true≢false (sym (same_bytes_to a b (sym (same_bytes_tells b a is))) ∙ other))
    step false is = is

-- an id that the group doesn't list is that of no physical volume
pub each_other : (id : List ℕ) (pvs : List (List ℕ × Pv)) → list_any (λ (pv : List ℕ × Pv). bytes_eq pv.1.id id) pvs ≡ false
    → Each (λ (pv : List ℕ × Pv). bytes_eq id pv.1.id ≡ false) pvs
each_other id [] none = tt
each_other id (pv ∷ pvs) none =
    let parts = both_false (bytes_eq pv.1.id id) (list_any (λ (p : List ℕ × Pv). bytes_eq p.1.id id) pvs) none in
    (other_side pv.1.id id parts.0, each_other id pvs parts.1)

module _ (base : Image) (sizes : List ℕ) (found : Found) (names : List (List ℕ)) (backup : Option Backup) (line : Line) (now : ℕ)
    (given : List Part) (p : CanCarryOut base sizes found names backup line now given)
    (m : MakesPv (state_in found names backup) (change_of (state_in found names backup) line now given)) where
  abbrev state : GroupState
  state = state_in found names backup

  abbrev change : Change
  change = change_of state line now given

  -- ---- what is written

  abbrev batches : List (List Put)
  batches = batch_if (flat_map area_puts change.labels) ++ batch_if (map label_put change.labels) ++ []

  apart_from : (pv : ℕ) → pv ≢ m.number → All (λ (label : NewLabel). label.disk ≢ pv) change.labels
  apart_from pv other =
      subst (All (λ (label : NewLabel). label.disk ≢ pv)) (sym m.labels_is)
      (All-cons (λ (label : NewLabel). label.disk ≢ pv) (new_label m.id m.copies m.number m.disk) [] (λ is. other (sym is))
      (All-nil (λ (label : NewLabel). label.disk ≢ pv)))

  others_kept : (image : Image) → HasFirstBatches (batches_of state line now given) base image → (pv : ℕ) → pv ≢ m.number → (sector : ℕ)
      → image pv sector ≡ base pv sector
  others_kept image h pv other sector =
      let front : HasFirstBatches batches base image =
      subst (λ (g : Option Group). HasFirstBatches
      (batch_if (new_area_puts g change.labels) ++ batch_if (map label_put change.labels)
      ++ commit_batches g now (areas_of change state.areas)) base image) m.none h
      in
      front_kept batches base image pv sector
      (All-append (KeepsSector pv sector) (batch_if (flat_map area_puts change.labels) ++ batch_if (map label_put change.labels)) []
      (All-append (KeepsSector pv sector) (batch_if (flat_map area_puts change.labels)) (batch_if (map label_put change.labels))
      (all_if (KeepsSector pv sector) (flat_map area_puts change.labels)
      (new_near change.labels
      (new_labels_are state line now given (is_state base sizes found names backup line now given p) p.planned p.passes m.none) pv sector
      (inl (apart_from pv other))))
      (all_if (KeepsSector pv sector) (map label_put change.labels) (labels_keep_other change.labels pv sector (apart_from pv other))))
      (All-nil (KeepsSector pv sector)))
      front

  -- ---- the disk before

  not_listed : (group : Group) → found.group ≡ Some group → found.disk_of ≡ disks_of group found.disks
      → Each (λ n. n ≢ m.number) (disks_of group found.disks)
  not_listed group is listed =
      let off : set.contains (set_of found.disk_of) m.number ≡ false =
      sym (ap (λ (o : Option Group). option_map_or (λ (g : Group). set.contains (set_of found.disk_of) m.number) o false) is) ∙ m.unlisted
      in
      subst (Each (λ n. n ≢ m.number)) listed (absent set.empty found.disk_of m.number off).1

  listed_are : (group : Group) → found.group ≡ Some group → found.disk_of ≡ disks_of group found.disks
  listed_are group is = subst (λ (o : Option Group). IfSome o (λ g. found.disk_of ≡ disks_of g found.disks)) is p.shape.disk_of

  -- its header isn't that of a physical volume of the group
  header_unlisted : (group : Group) → found.group ≡ Some group → (header : PvHeader) → header_on m.disk.contents ≡ Some header
      → lists group header.id ≡ false
  header_unlisted group is header has =
      not_among (λ (pv : List ℕ × Pv). bytes_eq pv.1.id header.id) (λ (pv : List ℕ × Pv). disk_with found.disks pv.1.id) m.number
      group.pvs
      (λ pv same. ap (disk_with found.disks) (same_bytes_tells pv.1.id header.id same)
      ∙ disk_with_own 0 found.disks p.shape.differ m.number m.disk header m.there has)
      (not_listed group is (listed_are group is))

  unlisted_pv : (group : Group) → found.group ≡ Some group → (o : Option PvHeader) → header_on m.disk.contents ≡ o → (read : Option PvOf)
      → SamePv (option_map pv_shape o) read → unwrap_or (option_map (λ (pv : PvOf). lists group pv.id) read) false ≡ false
  unlisted_pv group is None has None same = refl
  unlisted_pv group is None has (Some own) same = absurd same
  unlisted_pv group is (Some header) has None same = absurd same
  unlisted_pv group is (Some header) has (Some own) same = ap (lists group) (sym same.0) ∙ header_unlisted group is header has

  pub quiet_before : (reading : Reading) → slice_get p.scan.readings m.number ≡ Some reading
      → IsDiskReading m.number (base m.number) m.disk reading → IsQuiet found.group reading
  quiet_before reading there read = by (settled base sizes found names backup line now given p)
    where
      by : IsSettledScan p.scan.readings found → IsQuiet found.group reading
      by (settled_none nothing none given) =
          subst (λ (o : Option Group). IsQuiet o reading) (sym none) (gives_at IsNone p.scan.readings m.number reading given there)
      by (settled_some held parts some copy given all) =
          let off : is_listed held.group reading ≡ false =
          unlisted_pv held.group some (header_on m.disk.contents) refl reading.pv
          (pv_shaped m.number m.disk.sectors (base m.number) m.disk.contents reading.pv read.contents read.pv_is)
          in
          subst (λ (o : Option Group). IsQuiet o reading) (sym some) (
            pv_weaker (IsSettled held.group held.text reading) IsNone (λ r is. nothing_is r (is.1 off)) reading.pv
                (gives_on (IsSettled held.group held.text) p.scan.readings m.number reading all there),
            off,
          )

  -- ---- the disk with another header, or none

  -- quiet before and after, and with an id of its own
  abbrev Differs : Reading → Reading → Type 0
  Differs a b = IsQuiet found.group a × IsQuiet found.group b × IsNewId p.scan.readings b.pv

  -- ids of the group stand on neither
  abbrev pub OtherIds : Option Group → Disk → Type 0
  OtherIds None own = Unit {0}
  OtherIds (Some group) own = Each (λ (pv : List ℕ × Pv). has_header_id pv.1.id own ≡ false) group.pvs

  before_other : (group : Group) → found.group ≡ Some group → (o : Option PvHeader) → header_on m.disk.contents ≡ o
      → Each (λ (pv : List ℕ × Pv). unwrap_or (option_map (λ (h : PvHeader). bytes_eq h.id pv.1.id) o) false ≡ false) group.pvs
  before_other group is None has = none_on group.pvs
    where
      none_on : (pvs : List (List ℕ × Pv)) → Each (λ (pv : List ℕ × Pv). false ≡ false) pvs
      none_on [] = tt
      none_on (pv ∷ pvs) = (refl, none_on pvs)
  before_other group is (Some header) has = each_other header.id group.pvs (header_unlisted group is header has)

  same_disks : (image : Image) (unread : set.FinSet nat_cmp) (own : Disk) → OtherIds found.group own
      → (r : AllButOne image unread 0 m.number Differs m.disk own found.disks p.scan.readings) → SameDisks found.group found.disks r.there
  same_disks image unread own other r = by found.group refl other
    where
      each : (pvs : List (List ℕ × Pv)) → Each (λ (pv : List ℕ × Pv). has_header_id pv.1.id own ≡ false) pvs
          → Each (λ (pv : List ℕ × Pv). has_header_id pv.1.id m.disk ≡ false) pvs
          → Each (λ (pv : List ℕ × Pv). disk_with r.there pv.1.id ≡ disk_with found.disks pv.1.id) pvs
      each [] now before = tt
      each (pv ∷ pvs) now before = (r.ids pv.1.id (now.0 ∙ sym before.0), each pvs now.1 before.1)

      by : (o : Option Group) → found.group ≡ o → OtherIds o own → SameDisks o found.disks r.there
      by None is others = tt
      by (Some group) is others = each group.pvs others (before_other group is (header_on m.disk.contents) refl)

  abbrev NewAt : Image → set.FinSet nat_cmp → Disk → Type 0
  NewAt image unread own =
      (reading : Reading) → slice_get p.scan.readings m.number ≡ Some reading → IsDiskReading m.number (base m.number) m.disk reading
      → IsNewAt m.number (image m.number) unread Differs m.disk.sectors own reading

  pub with_disk : (image : Image) → HasFirstBatches (batches_of state line now given) base image
      → (unread : set.FinSet nat_cmp) (left_out : ℕ → Bool) → ((pv : ℕ) → pv < length sizes → set.contains unread pv ≡ left_out pv)
      → ((pv : ℕ) → pv ≢ m.number → set.contains unread pv ≡ set.contains found.unread pv) → (own : Disk) → OtherIds found.group own
      → NewAt image unread own → FindsVersion sizes image left_out (version_in found)
  with_disk image h unread left_out left sets own others new =
      let plain : 0 + m.number ≡ m.number = omega arith in
      let r : AllButOne image unread 0 m.number Differs m.disk own found.disks p.scan.readings =
      all_but_one base image found.unread unread 0 m.number Differs m.disk own found.disks p.scan.readings p.scan.are.each
      (λ pv other. others_kept image h pv (λ is. other (is ∙ sym plain))) (λ pv other. sets pv (λ is. other (is ∙ sym plain))) m.there
      (λ reading there is.
      subst (λ (n : ℕ). IsNewAt n (image n) unread Differs m.disk.sectors own reading) (sym plain)
      (new reading there (subst (λ (n : ℕ). IsDiskReading n (base n) m.disk reading) plain is)))
      in
      let base_apart : first_duplicate (ids_from 0 p.scan.readings) ≡ None =
      ap first_duplicate (sym (ids_same 0 (shapes found.disks) p.scan.readings
      (headers base sizes found names backup line now given p))) ∙ p.shape.differ in
      quiet_version image sizes found p.whole.there p.scan.readings p.scan.answer unread left_out left r.there r.read
      (r.sizes_is ∙ p.scan.are.sizes_is) r.are
      (one_quiet found.group m.number Differs (λ a b rel. (rel.0, rel.1)) p.scan.readings r.read r.at)
      (one_apart m.number 0 Differs p.scan.readings (λ a b rel. rel.2) p.scan.readings r.read (λ id none. none) r.at base_apart)
      (same_disks image unread own others r)
      (settled base sizes found names backup line now given p)

  -- ---- the disk left out

  no_header : (o : Option Group) (sectors : ℕ) → OtherIds o (record { sectors = sectors; contents = None })
  no_header None sectors = tt
  no_header (Some group) sectors = each group.pvs
    where
      each : (pvs : List (List ℕ × Pv)) → Each
          (λ (pv : List ℕ × Pv). has_header_id pv.1.id (record { sectors = sectors; contents = None }) ≡ false) pvs
      each [] = tt
      each (pv ∷ pvs) = (refl, each pvs)

  no_pv_quiet : (o : Option Group) (sectors : ℕ) → IsQuiet o (record { sectors = sectors; pv = None })
  no_pv_quiet None sectors = tt
  no_pv_quiet (Some group) sectors = (tt, refl)

  abbrev out_set : set.FinSet nat_cmp
  out_set = set.from_list (m.number ∷ [])

  out_is : (pv : ℕ) → set.contains out_set pv ≡ is_labelled change.labels pv
  out_is pv = set.contains-from_list_nat (m.number ∷ []) pv ∙ ap (λ (l : List NewLabel). is_labelled l pv) (sym m.labels_is)

  others_in : (pv : ℕ) → pv ≢ m.number → set.contains out_set pv ≡ set.contains found.unread pv
  others_in pv other =
      set.contains-from_list_nat (m.number ∷ []) pv ∙ ap (λ (b : Bool). b || false) (differs m.number pv (λ is. other (sym is)))
      ∙ sym (ap (λ (s : set.FinSet nat_cmp). set.contains s pv) p.whole.read ∙ set.contains-empty nat_cmp pv)
    where
      differs : (a b : ℕ) → a ≢ b → nat_eq a b ≡ false
      differs a b other' = ⊎_elim (λ is. absurd (other' (eqb-true a b is))) (λ is. is) (cases_Bool (nat_eq a b))

  pub without_disk : (image : Image) → HasFirstBatches (batches_of state line now given) base image
      → FindsVersion sizes image (is_labelled change.labels) (version_in found)
  without_disk image h =
      let sectors : ℕ = m.disk.sectors in
      let in_set : set.contains out_set m.number ≡ true =
      set.contains-from_list_nat (m.number ∷ []) m.number ∙ ap (λ (b : Bool). b || false) (eq-eqb m.number m.number refl) in
      with_disk image h out_set (is_labelled change.labels) (λ pv within. out_is pv) others_in
      (record { sectors = sectors; contents = None }) (no_header found.group sectors)
      (λ reading there read. record {
        read = record { sectors = sectors; pv = None };
        own_sectors = refl;
        own_unread = ((λ none. in_set), (λ is. refl));
        is = record { contents = tt; sectors_is = refl; pv_is = refl };
        rel = (quiet_before reading there read, no_pv_quiet found.group sectors, tt);
      })
