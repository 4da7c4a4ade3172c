-- What a scan finds while a group's disks are cleared, and nothing is committed.
use Rattle.std.proofs.Common.{◌≡◌, ◌⊎◌, ℕ, ◌+◌, ◌&&◌, ◌||◌, Bool, true, false, List, [], ◌∷◌, Option, Some, None, inl, inr, ⊎_elim, refl}
use Rattle.std.proofs.Common.{sym, ap, subst, ◌∙◌, arith}
use Rattle.std.specs.Prelude.{IfSome, filter_map, option_map, slice_get, unwrap_or}
use Rattle.std.specs.List.{cons_option, list_any}
use Rattle.std.specs.Ordering.{nat_cmp}
use Rattle.std.specs.FinSet as set
use Rattle.std.proofs.lemmas.Bool.{cases_Bool, or_left, true≢false}
use Rattle.std.proofs.lemmas.Option.{same_Some}
use Rattle.command_table.specs.declared.command.Command.{Command}
use Rattle.command_table.specs.declared.command.Command.TheVariants.{Vgremove}
use Rattle.line_answers.specs.declared.op_refusal.OpRefusal.{OpRefusal}
use Rattle.line_answers.specs.declared.op_refusal.OpRefusal.TheVariants.{UnknownGroup}
use Rattle.lvm_script.specs.declared.line.Line.{Line}
use Rattle.disk_model.specs.Steps.{Image}
use Rattle.mda_header.specs.declared.header.Locn.{Locn}
use Rattle.mda_ring.specs.declared.area.Area.{Area}
use Rattle.meta_model.specs.declared.group.Group.{Group}
use Rattle.extent_alloc.specs.declared.part.Part.{Part}
use Rattle.scan_rules.specs.Decision.{Area as AreaOf, AreaReading, Copy, Found as PvOf, GivesNoLater, HasShape as IsShaped, Held, HoldsNone}
use Rattle.scan_rules.specs.Decision.{NoGroup, Reading, Refused, SameHeaders, ScanAnswer, decide_scan, gives, holds, is_held, is_listed}
use Rattle.scan_rules.specs.Decision.{is_something, lists}
use Rattle.scan_rules.specs.Found.{missing_of}
use Rattle.scan_rules.proofs.SameShape.{same_shape}
use Rattle.disk_batch.specs.InTurn.{HasFirstBatches, with_batches}
use Rattle.vg_found.specs.declared.disk.Disk.{Disk}
use Rattle.vg_found.specs.declared.found.Found.{Found}
use Rattle.vg_found.specs.Disks.{disk_with, disks_of, held_areas, old_of, shapes}
use Rattle.vg_found.specs.Shape.{HasShape}
use Rattle.vg_found.specs.Whole.{IsWhole}
use Rattle.vg_scan.specs.Scans.{IsFoundBy, IsScanOf}
use Rattle.vg_scan.specs.Texts.{IsCopyOf}
use Rattle.group_plan.specs.Committing.{rows_where_found}
use Rattle.group_plan.specs.Judging.{first_refusal, set_of}
use Rattle.group_plan.specs.declared.state.GroupState.{GroupState}
use Rattle.group_plan.proofs.Disks.{disk_with_own}
use Rattle.group_plan.specs.declared.backup.Backup.{Backup}
use Rattle.vg_plans.specs.Vgremove.{remove_rows}
use Rattle.group_ops.specs.Laws.{state_in}
use Rattle.group_ops.specs.Planning.{change_of, refusal_of as line_refusal}
use Rattle.change_batches.proofs.ClearedAreas.{state_scanned}
use Rattle.change_batches.specs.Batches.{clear_batches}
use Rattle.change_batches.specs.Building.{AreScanned}
use Rattle.change_batches.specs.Laws.{ClearsImages, ShowsEntries}
use Rattle.vg_change.specs.LineBatches.{clears_of}
use Rattle.image_scans.proofs.CommitLine.{all_written, is_state, settled}
use Rattle.image_scans.specs.Laws.{CanCarryOut, none_out}
use Rattle.vg_scan.specs.Versions.{FindsVersion, Version, version_in}
use Rattle.image_scans.proofs.Again.{AreasAgain, DisksAgain, Finds, GivesAgain, PvAgain, again_give, again_headers, finds_newest}
use Rattle.image_scans.proofs.Again.{missing_same}
use Rattle.image_scans.proofs.BaseEntries.{entries_shown}
use Rattle.image_scans.proofs.ClearedAgain.{any_bare, any_pv, disk_cleared}
use Rattle.image_scans.proofs.CommitScans.{disks_by_ids, none_unread}
use Rattle.image_scans.proofs.Decided.{IsFoundWith, found_parts, nothing_found}
use Rattle.image_scans.proofs.DiskAgain.{AllAgain, IsThereAt, PvMayBeRefused, all_again}
use Rattle.image_scans.proofs.AreaReadings.{AreasGive, DisksGive, GivenHas, IsNone, IsSettled, PvGives, copies_none, disks_weaker}
use Rattle.image_scans.proofs.AreaReadings.{refusals_none}
use Rattle.image_scans.proofs.ReadingShapes.{readings_shaped}
use Rattle.image_scans.proofs.SettledBase.{IsNoneOr, IsSettledScan, settled_none, settled_some}
use Rattle.image_scans.proofs.RemovalEnds.{disk_among, disk_emptied, disk_read, listed_header, none_held, pv_emptied, read_before}

-- ---- what was found is all that an area may give

same_no_later : (group : Group) (text : List ℕ) (r : AreaReading) → IsNoneOr group text r → GivesNoLater group text r
same_no_later group text HoldsNone is = tt
same_no_later group text (Copy other others passed) is = (ap (λ (g : Group). g.id) is.0, inl is)
same_no_later group text (Refused why) is = absurd is

-- ---- no listed disk gives the text any more: nothing is given

module _ (group : Group) (text : List ℕ) (new : AreaReading) where
  silent_none : (r : AreaReading) → is_something r ≡ false → IsNone r
  silent_none HoldsNone silent = refl
  silent_none (Copy other others passed) silent = absurd (true≢false silent)
  silent_none (Refused why) silent = absurd (true≢false silent)

  later_false : (x y : Bool) → (x || y) ≡ false → (x ≡ false) × (y ≡ false)
  later_false true y is = absurd (true≢false is)
  later_false false y is = (refl, is)

  -- of one area
  none_kept : (a : Reading) (x y : Option AreaReading) (rest : List AreaReading) → GivesAgain new false (λ r. true) x y
      → GivenHas (IsSettled group text a) x → (b : Bool) → is_listed group a ≡ b → (b && list_any (gives text) (cons_option y rest)) ≡ false
      → GivenHas IsNone y
  none_kept a None y rest again given b listed none = subst (GivenHas IsNone) (sym again) tt
  none_kept a (Some r) y rest (inr (inr gone)) given b listed none = subst (GivenHas IsNone) (sym gone.0) refl
  none_kept a (Some r) y rest (inr (inl made)) given b listed none = absurd (true≢false (sym made.1))
  none_kept a (Some r) y rest (inl same) given true listed none =
      absurd (true≢false (sym (ap (λ (o : Option AreaReading). list_any (gives text) (cons_option o rest)) same
      ∙ or_left (gives text r) (list_any (gives text) rest) (given.0 listed)) ∙ none))
  none_kept a (Some r) y rest (inl same) given false listed none = subst (GivenHas IsNone) (sym same) (silent_none r (given.1 listed))

  none_later : (b : Bool) (y : Option AreaReading) (rest : List AreaReading) → (b && list_any (gives text) (cons_option y rest)) ≡ false
      → (b && list_any (gives text) rest) ≡ false
  none_later false y rest none = refl
  none_later true None rest none = none
  none_later true (Some r) rest none = (later_false (gives text r) (list_any (gives text) rest) none).1

  areas_kept : (a : Reading) (as' bs : List AreaOf) → AreasAgain new false (λ r. true) as' bs → AreasGive (IsSettled group text a) as'
      → (b : Bool) → is_listed group a ≡ b → (b && list_any (gives text) (filter_map (λ (area : AreaOf). area.reading) bs)) ≡ false
      → AreasGive IsNone bs
  areas_kept a [] [] again given b listed none = tt
  areas_kept a [] (y ∷ bs) again given b listed none = absurd again
  areas_kept a (x ∷ as') [] again given b listed none = absurd again
  areas_kept a (x ∷ as') (y ∷ bs) again given b listed none =
      let rest : List AreaReading = filter_map (λ (area : AreaOf). area.reading) bs in (
        none_kept a x.reading y.reading rest again.2 given.0 b listed none,
        areas_kept a as' bs again.3 given.1 b listed (none_later b y.reading rest none),
      )

  pv_kept : (a : Reading) (x y : Option PvOf) → a.pv ≡ x → PvAgain (λ id. false) any_bare new x y → PvGives (IsSettled group text a) x
      → (s : ℕ) → (is_listed group (record { sectors = s; pv = y }) && holds text (record { sectors = s; pv = y })) ≡ false
      → PvGives IsNone y
  pv_kept a None None is again given s none = tt
  pv_kept a None (Some y) is again given s none = absurd again
  pv_kept a (Some x) None is again given s none = absurd again
  pv_kept a (Some x) (Some y) is again given s none =
      areas_kept a x.areas y.areas again.1 given (lists group y.id)
      (ap (λ (o : Option PvOf). unwrap_or (option_map (λ (pv : PvOf). lists group pv.id) o) false) is ∙ ap (lists group) again.0) none

  none_left : (as' bs : List Reading) → DisksAgain (λ id. false) any_bare new as' bs → DisksGive (IsSettled group text) as'
      → is_held group text bs ≡ false → DisksGive (λ disk. IsNone) bs
  none_left [] [] again given none = tt
  none_left [] (b ∷ bs) again given none = absurd again
  none_left (a ∷ as') [] again given none = absurd again
  none_left (a ∷ as') (b ∷ bs) again given none =
      let parts = later_false (is_listed group b && holds text b) (is_held group text bs) none in
      (pv_kept a a.pv b.pv refl again.1 given.0 b.sectors parts.0, none_left as' bs again.2 given.1 parts.1)

-- ---- an image while disks are cleared

module _ (base : Image) (sizes : List ℕ) (found : Found) (shape : HasShape found) (whole : IsWhole found) (scan : IsScanOf base sizes found)
    (settled : IsSettledScan scan.readings found) (scanned : AreScanned found.disks found.areas) (cleared : set.FinSet nat_cmp)
    (clears : ClearsImages cleared found.disks found.areas) where
  readings : List Reading
  readings = scan.readings

  shown : ShowsEntries found.areas base
  shown =
      subst (λ (l : List (Area × Option Locn)). ShowsEntries l base) (sym scan.areas)
      (entries_shown base found.unread 0 found.disks scan.readings scan.are.each)

  headers : SameHeaders (shapes found.disks) scan.readings
  headers = readings_shaped base found.unread 0 found.disks scan.readings scan.are.each

  -- a scan that finds nothing
  abbrev nothing_in : List Disk → Found
  nothing_in there = record {
    group = None;
    text = None;
    unknown = [];
    disks = there;
    areas = held_areas 0 there;
    stale = [];
    strays = set.empty;
    old = set.empty;
    missing = [];
    disk_of = [];
    unread = found.unread;
  }

  module _ (image : Image) (h : HasFirstBatches (clear_batches cleared found.disks found.areas) base image) where
    -- each disk reads again, where some text is a copy
    module _ (bare : List ℕ → AreaReading → Bool) (any : (id : List ℕ) (r : AreaReading) → bare id r ≡ true) (text : List ℕ) (group : Group)
        (passed : List (List ℕ)) (copy : IsCopyOf text group passed)
        (given : (k : ℕ) (reading : Reading) → slice_get scan.readings k ≡ Some reading → PvMayBeRefused bare reading.pv) where
      reads : AllAgain image found.unread 0 (λ id. false) bare (Copy group text passed) found.disks scan.readings
      reads =
          all_again base image found.unread 0 (λ id. false) bare (Copy group text passed) found.disks scan.readings scan.are.each
          (λ k disk reading at_disk at_reading is.
          disk_cleared found.disks found.areas scanned cleared clears base image h base shown text group passed copy (λ id. false) bare any
          (0 + k) (λ sector. refl) disk
          (subst (λ (n : ℕ). slice_get found.disks n ≡ Some disk) (omega arith) at_disk) reading is (given k reading at_reading))

    -- ---- where a copy was found

    module _ (held : Held) (parts : IsFoundWith scan.readings held [] [] found.missing) (some : found.group ≡ Some held.group)
        (copy : IsCopyOf held.text held.group held.passed) (each : DisksGive (λ disk. IsNoneOr held.group held.text) scan.readings)
        (all : DisksGive (IsSettled held.group held.text) scan.readings) where
      abbrev made : AreaReading
      made = Copy held.group held.text held.passed

      pub again : AllAgain image found.unread 0 (λ id. false) any_bare made found.disks scan.readings
      again = reads any_bare (λ id r. refl) held.text held.group held.passed copy (λ k reading at. any_pv reading.pv)

      same_headers : SameHeaders scan.readings again.read
      same_headers = again_headers (λ id. false) any_bare made scan.readings again.read again.again

      read_shape : IsShaped held.group again.read
      read_shape = same_shape held.group scan.readings again.read same_headers (record { apart = parts.apart; placed = parts.placed })

      -- a listed disk still holds the text
      still : is_held held.group held.text again.read ≡ true → FindsVersion sizes image none_out (version_in found)
      still there =
          let no_later : DisksGive (λ disk. GivesNoLater held.group held.text) again.read =
          again_give (GivesNoLater held.group held.text) made (refl, inl (refl, refl)) tt (λ id. false) any_bare scan.readings again.read
          again.again
          (disks_weaker (λ disk. IsNoneOr held.group held.text) (λ disk. GivesNoLater held.group held.text)
          (λ disk. same_no_later held.group held.text) scan.readings each)
          in
          let f : Finds again.read held.group held.text = finds_newest held.group held.text again.read read_shape no_later there in
          let own : IsFoundWith again.read f.held f.stale f.strays f.missing =
          found_parts again.read f.held f.stale f.strays f.missing f.is in
          let version : Group → Version = λ g. record { group = g; disk_of = disks_of g again.there } in
          let anew : Found = record {
            group = Some f.held.group;
            text = Some f.held.text;
            unknown = f.held.passed;
            disks = again.there;
            areas = held_areas 0 again.there;
            stale = f.stale;
            strays = set.from_list f.strays;
            old = old_of (Some f.held.group) again.there;
            missing = f.missing;
            disk_of = disks_of f.held.group again.there;
            unread = found.unread;
          } in
          record {
            found = anew;
            scan = record {
              readings = again.read;
              are = record { sizes_is = again.sizes_is ∙ scan.are.sizes_is; each = again.are };
              answer = subst (λ (answer : ScanAnswer). IsFoundBy answer anew) (sym f.is) (refl, refl, refl, refl, refl, refl);
              areas = refl;
              disk_of = refl;
              old = refl;
            };
            left = λ pv within. none_unread found whole pv;
            whole =
                sym own.missing_are ∙ ap (λ (g : Group). missing_of again.read g.pvs) f.group_is
                ∙ sym (missing_same scan.readings again.read held.group.pvs same_headers) ∙ parts.missing_are ∙ whole.there;
            version_is =
                ap (λ (g : Group). Some (version g)) f.group_is
                ∙ ap (λ (l : List ℕ). Some (record { group = held.group; disk_of = l }))
                (disks_by_ids held.group found.disks again.there again.ids)
                ∙ sym (ap (λ (o : Option Group). option_map (λ (g : Group). record { group = g; disk_of = disks_of g found.disks }) o)
                some);
          }

      -- none does
      pub gone : is_held held.group held.text again.read ≡ false → FindsVersion sizes image none_out None
      gone none =
          let silent : DisksGive (λ disk. IsNone) again.read =
          none_left held.group held.text made scan.readings again.read again.again all none in
          let nothing : decide_scan again.read ≡ NoGroup =
          nothing_found again.read (record {
            apart = read_shape.apart;
            no_copies = copies_none again.read silent;
            no_refusals = refusals_none again.read silent;
          }) in
          record {
            found = nothing_in again.there;
            scan = record {
              readings = again.read;
              are = record { sizes_is = again.sizes_is ∙ scan.are.sizes_is; each = again.are };
              answer =
                  subst (λ (answer : ScanAnswer). IsFoundBy answer (nothing_in again.there)) (sym nothing)
                  (refl, refl, refl, refl, refl, refl);
              areas = refl;
              disk_of = tt;
              old = refl;
            };
            left = λ pv within. none_unread found whole pv;
            whole = refl;
            version_is = refl;
          }

      pub either_left : FindsVersion sizes image none_out (version_in found) ⊎ FindsVersion sizes image none_out None
      either_left = ⊎_elim (λ there. inl (still there)) (λ none. inr (gone none)) (cases_Bool (is_held held.group held.text again.read))

-- ---- a vgremove

-- a group was found
group_there : (o : Option Group) (vg : List ℕ) → first_refusal (rows_where_found o vg (remove_rows vg)) ≡ None → o ≡ None → ⊥
group_there None vg none is = let e : ◌≡◌ {A = Option OpRefusal} (Some (UnknownGroup vg)) None = none in cc
group_there (Some group) vg none is = cc

module _ (base image : Image) (sizes : List ℕ) (found : Found) (names : List (List ℕ)) (backup : Option Backup) (line : Line) (now : ℕ)
    (given : List Part) (vg : List ℕ) (p : CanCarryOut base sizes found names backup line now given) (is : line.command ≡ Vgremove vg) where
  abbrev state : GroupState
  state = state_in found names backup

  abbrev cleared_set : set.FinSet nat_cmp
  cleared_set = (change_of state line now given).cleared

  some_group : found.group ≡ None → ⊥
  some_group none =
      group_there found.group vg (subst (λ (c : Command). line_refusal state (record { number = line.number; id = line.id; command = c })
      now given ≡ None) is p.passes) none

  scanned_is : AreScanned found.disks found.areas
  scanned_is = state_scanned state (is_state base sizes found names backup line now given p)

  settled_is : IsSettledScan p.scan.readings found
  settled_is = settled base sizes found names backup line now given p

  pub removal_scans : HasFirstBatches (clears_of state line now given) base image
      → FindsVersion sizes image none_out (version_in found) ⊎ FindsVersion sizes image none_out None
  removal_scans h = by settled_is
    where
      by : IsSettledScan p.scan.readings found
          → FindsVersion sizes image none_out (version_in found) ⊎ FindsVersion sizes image none_out None
      by (settled_none nothing none all) = absurd (some_group none)
      by (settled_some held parts some copy each all) =
          either_left base sizes found p.shape p.whole p.scan settled_is scanned_is cleared_set p.keeps.clears image h held parts some copy
          each all

  -- ---- at the end

  abbrev last : Image
  last = with_batches (clears_of state line now given) base

  all_there : HasFirstBatches (clears_of state line now given) base last
  all_there = all_written (clears_of state line now given) base

  -- all disks of the group are cleared
  cleared_are : cleared_set ≡ set_of found.disk_of
  cleared_are = ap (λ (c : Command). (change_of state (record { number = line.number; id = line.id; command = c }) now given).cleared) is

  pub removal_ends : FindsVersion sizes last none_out None
  removal_ends = by settled_is
    where
      by : IsSettledScan p.scan.readings found → FindsVersion sizes last none_out None
      by (settled_none nothing none all) = absurd (some_group none)
      by (settled_some held parts some copy each all) =
          let reads =
          again base sizes found p.shape p.whole p.scan settled_is scanned_is cleared_set p.keeps.clears last all_there held parts some
          copy each all in
          let new : AreaReading = Copy held.group held.text held.passed in
          let listed_are : found.disk_of ≡ disks_of held.group found.disks =
          subst (λ (o : Option Group). IfSome o (λ g. found.disk_of ≡ disks_of g found.disks)) some p.shape.disk_of in
          gone base sizes found p.shape p.whole p.scan settled_is scanned_is cleared_set p.keeps.clears last all_there held parts some copy
          each all
          (none_held held.group held.text reads.read (λ k b there listed.
          let r = read_before (λ id. false) any_bare new p.scan.readings reads.read reads.again k b there in
          let d = disk_read base found.unread 0 found.disks p.scan.readings p.scan.are.each k r.0 r.1 in
          let t : IsThereAt last 0 k d.0 reads.there reads.read = reads.at k d.0 d.1 in
          let same : b ≡ t.reading = same_Some b t.reading (sym there ∙ t.at_reading) in
          let h = listed_header held.group new (0 + k) (base (0 + k)) d.0.contents r.0.pv b.pv d.2.pv_is r.2 listed in
          let at : disk_with found.disks h.0.id ≡ k = disk_with_own 0 found.disks p.shape.differ k d.0 h.0 d.1 h.1 in
          let among : set.contains cleared_set (0 + k) ≡ true =
          ap (λ (s : set.FinSet nat_cmp). set.contains s (0 + k)) cleared_are
          ∙ disk_among held.group found.disks found.disk_of listed_are (0 + k) h.0 (at ∙ (let e : k ≡ 0 + k = omega arith in e))
          h.2 in
          subst (λ (o : Reading). PvGives IsNone o.pv) (sym same)
          (pv_emptied new (0 + k) (base (0 + k)) (last (0 + k)) t.own.sectors d.0.contents t.own.contents r.0.pv t.reading.pv d.2.pv_is
          t.is.pv_is t.is.contents t.own_areas
          (subst (λ (o : Reading). PvAgain (λ id. false) any_bare new r.0.pv o.pv) same r.2)
          (disk_emptied found.areas cleared_set last (p.keeps.clears.done base).headers found.disks p.shape.areas k d.0 d.1 among))))
