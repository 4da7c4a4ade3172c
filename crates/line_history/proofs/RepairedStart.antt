-- Where disks were looked at, and what was found there was repaired, a history starts with that: a scan finds its version, and the volumes
-- show what they showed when the disks were handed in. A run that ended then, or as the repair failed, has its history.
use Rattle.std.proofs.Common.{◌≡◌, ◌≤◌, ◌⊎◌, ℕ, ◌+◌, ◌-◌, Bool, true, List, [], ◌∷◌, ◌++◌, length, take, Option, Some, None, inl, inr}
use Rattle.std.proofs.Common.{⊎_elim, refl, sym, ap, subst, ◌∙◌, arith}
use Rattle.std.specs.Prelude.{IfSome, option_map}
use Rattle.sector_base.specs.declared.places.At.{At}
use Rattle.command_table.specs.Options.{Word}
use Rattle.disk_model.proofs.EveryMoment.{since_weaken}
use Rattle.disk_model.proofs.NowStands.{now_has}
use Rattle.disk_model.proofs.StepsSince.{steps_joined}
use Rattle.disk_model.specs.CrashValues.{IsImage}
use Rattle.disk_model.specs.Durability.{IsBase}
use Rattle.disk_model.specs.Moments.{EveryImageSince, at_moment}
use Rattle.disk_model.specs.Order.{WritesNothing}
use Rattle.disk_model.specs.Record.{IsRecord}
use Rattle.disk_model.specs.Steps.{Image, IsSame, Step, Record, now_after, steps_on}
use Rattle.disk_batch.proofs.InTurn.{of_submitted}
use Rattle.disk_batch.specs.InTurn.{HasFirstBatches, WritesInTurn, with_batches}
use Rattle.line_table.specs.Machine.{PlainVolume}
use Rattle.meta_model.specs.Standing.{HasTree}
use Rattle.meta_model.specs.declared.group.Group.{Group}
use Rattle.scan_rules.specs.Found.{missing_of}
use Rattle.volume_view.specs.Places.{primary}
use Rattle.volume_view.specs.View.{DisksDiffer, at_place}
use Rattle.vg_found.specs.Disks.{disks_of, shapes}
use Rattle.vg_found.specs.declared.found.Found.{Found}
use Rattle.vg_repair.specs.Batches.{repair_batches}
use Rattle.vg_repair.specs.Repaired.{repaired_of}
use Rattle.image_scans.proofs.CommitLine.{all_written}
use Rattle.image_scans.proofs.NewPlaces.{disks_differ}
use Rattle.image_scans.proofs.LineScans.{base_scans}
use Rattle.image_scans.specs.Laws.{none_out}
use Rattle.vg_scan.specs.Versions.{FindsVersion, Version, version_in}
use Rattle.repair_scans.proofs.FoundGroup.{found_group}
use Rattle.repair_scans.proofs.RepairFound.{repairs_scan}
use Rattle.repair_scans.proofs.RepairPlaces.{place_kept}
use Rattle.repair_scans.specs.Laws.{CanRepair}
use Rattle.volume_history.proofs.Phases.{IsPhase, phase_before, told_at_end}
use Rattle.volume_history.proofs.SingleLines.{no_line}
use Rattle.volume_history.specs.Candidates.{IsConsistentMoment}
use Rattle.volume_history.specs.Changing.{HaveOwnNames}
use Rattle.volume_history.specs.Chronicles.{Origin, origin_at}
use Rattle.volume_history.specs.Laws.{PartsMakeConsistent}
use Rattle.volume_history.specs.Placed.{Place, PlacedVolume, values_on, volumes_of}
use Rattle.volume_history.specs.Quiet.{AllUntouched, AreUntouched}
use Rattle.volume_history.specs.Replay.{opening_volumes}
use Rattle.volume_history.specs.Single.{IsStill, StaysLaw}
use Rattle.volume_history.specs.Starting.{StartsWith}
use Rattle.line_history.proofs.Finding.{one_image}
use Rattle.line_history.proofs.Images.{joined, quiet_base, quiet_images}
use Rattle.line_history.proofs.Origins.{found_now, now_first, origin, origin_of, starts_later, still}
use Rattle.line_history.proofs.RestoredVolumes.{own_names}
use Rattle.line_history.proofs.Seen.{record_drop, steps_more}
use Rattle.line_history.proofs.Settled.{none_pending}
use Rattle.line_history.proofs.Untouched.{places_untouched}
use Rattle.line_history.specs.Histories.{HasRunHistory}

-- ---- the version that a scan found

-- the volumes of a group that was found have names of their own
names_by : (disks : Group → List ℕ) (o : Option Group) → ((group : Group) → o ≡ Some group → HasTree group)
    → HaveOwnNames (volumes_of (option_map (λ (group : Group). record { group = group; disk_of = disks group }) o))
unfolding volumes_of
names_by disks None trees = tt
names_by disks (Some group) trees = own_names (record { group = group; disk_of = disks group }) (trees group refl)

-- what holds of the group, if one was found
of_group : (disks : Group → List ℕ) (o : Option Group) (P : Version → Type 0)
    → ((group : Group) → o ≡ Some group → P (record { group = group; disk_of = disks group }))
    → IfSome (option_map (λ (group : Group). record { group = group; disk_of = disks group }) o) P
of_group disks None P each = tt
of_group disks (Some group) P each = each group refl

group_of : (disks : Group → List ℕ) (o : Option Group)
    → o ≡ option_map (λ (v : Version). v.group) (option_map (λ (group : Group). record { group = group; disk_of = disks group }) o)
group_of disks None = refl
group_of disks (Some group) = refl

-- ---- what volumes show

-- a read gives at places that no crash touches what stood there
values_stay : (base : Image) (told : Record) → IsRecord told.steps → (places : List Place) → AreUntouched base places told
    → values_on base places ≡ values_on (now_after told.opened told.steps) places
values_stay base told is [] none = refl
values_stay base told is (p ∷ ps) none =
    let here : now_after told.opened told.steps p.disk p.sector ≡ base p.disk p.sector =
    now_has told p.disk p.sector (λ value. value ≡ base p.disk p.sector) is (record { each = none.0 }) in
    ap (λ value. value ∷ values_on base ps) (sym here)
    ∙ ap (λ values. now_after told.opened told.steps p.disk p.sector ∷ values) (values_stay base told is ps none.1)

volumes_stay : (base : Image) (told : Record) → IsRecord told.steps → (key : ℕ) (vs : List PlacedVolume) → AllUntouched base vs told
    → opening_volumes base key vs ≡ opening_volumes (now_after told.opened told.steps) key vs
volumes_stay base told is key [] none = refl
volumes_stay base told is key (v ∷ vs) none =
    ap (λ (values : List (List ℕ)). record { key = key; name = v.name; sectors = values } ∷ opening_volumes base (key + 1) vs)
    (values_stay base told is v.places none.0)
    ∙ ap (λ (l : List PlainVolume). record {
      key = key;
      name = v.name;
      sectors = values_on (now_after told.opened told.steps) v.places;
    } ∷ l) (volumes_stay base told is (key + 1) vs none.1)

-- ---- what such a history starts with

-- a history of what was done until disks of these sizes and names were ready, on which this was found
abbrev pub start_of : Record → Record → List ℕ → Found → List Word → ℕ → Origin
start_of handed ready sizes found names clock = origin_of handed (length ready.steps) sizes names clock (version_in found) ready

module _ (handed look ready : Record) (since : List Step) (is_look : look ≡ steps_on since handed) (nothing : WritesNothing since)
    (base : Image) (base_is : IsBase handed base) (sizes : List ℕ) (found : Found) (can : CanRepair base sizes found)
    (well : Bool) (repair : WritesInTurn look (repair_batches found) well ready) (record_is : IsRecord ready.steps) (names : List Word)
    (clock : ℕ) where
  abbrev version : Option Version
  version = version_in found

  look_base : IsBase look base
  look_base = quiet_base handed look since is_look nothing base base_is

  is_ready : ready ≡ steps_on (repair.since ++ since) handed
  is_ready = steps_joined handed look ready since repair.since is_look repair.steps

  -- ---- its moments

  -- an image on the way: the base, or one on the way of the repair
  abbrev OnTheWay : Image → Type 0
  OnTheWay image = IsSame image base ⊎ HasFirstBatches (repair_batches found) base image

  on_the_way : EveryImageSince (length handed.steps) ready OnTheWay
  on_the_way =
      joined look ready repair.since repair.steps (length handed.steps) OnTheWay (steps_more handed look since is_look)
      (since_weaken look (length handed.steps) (length handed.steps) (λ image. IsSame image base) OnTheWay (omega arith)
      (λ image same. inl same) (quiet_images handed look since is_look nothing base base_is))
      (since_weaken ready (length look.steps) (length look.steps)
      (HasFirstBatches (take repair.submitted (repair_batches found)) base) OnTheWay (omega arith)
      (λ image has. inr (of_submitted repair.submitted (repair_batches found) base image has)) (repair.every_image base look_base))

  -- a scan of it finds the version, and its volumes have what they had
  finds : (image : Image) → OnTheWay image → FindsVersion sizes image none_out version
  finds image way =
      ⊎_elim
      (λ same. subst (λ (i : Image). FindsVersion sizes i none_out version) (sym (one_image image base same))
      (base_scans base sizes found can.scan can.whole))
      (λ (has : HasFirstBatches (repair_batches found) base image). (repairs_scan base sizes found can image has).finds) way

  keeps : (image : Image) → OnTheWay image → (group : Group) → found.group ≡ Some group → (lv sector : ℕ) (at : At)
      → primary group lv sector ≡ Some at
      → at_place image found.disk_of at ≡ at_place base found.disk_of at
  keeps image way group there lv sector at place =
      ⊎_elim (λ same. ap (λ (i : Image). at_place i found.disk_of at) (one_image image base same))
      (λ (has : HasFirstBatches (repair_batches found) base image). place_kept base sizes found can group there lv sector at place image has)
      way

  untouched_at : (m : ℕ) → length handed.steps ≤ m → m ≤ length ready.steps → AllUntouched base (volumes_of version) (at_moment m ready)
  untouched_at m ge le =
      places_untouched base sizes found (at_moment m ready) can.scan can.shape
      (record_drop (length ready.steps - m) ready.steps record_is)
      (λ (image : Image) (is : IsImage (at_moment m ready) image). keeps image (on_the_way m ge le image is))

  -- ---- the run ended then

  -- with no line begun a history starts at the hand-in
  abbrev handed_start : Origin
  handed_start =
      origin handed handed ready [] (repair.since ++ since) refl is_ready record_is base base base_is base_is sizes names clock version

  stays : StaysLaw handed_start
  stays = record {
    still =
        still handed handed ready [] (repair.since ++ since) refl is_ready record_is base base base_is base_is sizes names clock version
        (λ m ge le image is.
        finds image (on_the_way m ge (omega (arith, le, steps_more handed ready (repair.since ++ since) is_ready)) image is))
        untouched_at (base_scans base sizes found can.scan can.whole);
    after = λ m ge le image is. finds image (on_the_way m ge le image is);
  }

  pub ended_then : HasRunHistory handed base sizes names clock ready [] []
  ended_then = none_pending handed base sizes names clock ready (length handed.steps) version [] (no_line handed_start stays) refl

  -- ---- all was repaired
  module _ (repaired : well ≡ true) where
    abbrev pub ready_image : Image
    ready_image = with_batches (repair_batches found) base

    -- each sector has one possible value
    pub ready_base : IsBase ready ready_image
    ready_base = repair.lasting repaired base look_base

    -- until it starts every image shows its version, and no place of a volume is touched
    still_so : IsStill (start_of handed ready sizes found names clock)
    still_so =
        still handed ready ready (repair.since ++ since) [] is_ready refl record_is base ready_image base_is ready_base sizes names clock
        version (λ m ge le image is. finds image (on_the_way m ge le image is)) untouched_at
        (finds ready_image (inr (all_written (repair_batches found) base)))

    -- so each moment until then is consistent
    pub consistent_until : PartsMakeConsistent → (m : ℕ) → length handed.steps ≤ m → m ≤ length ready.steps
        → IsConsistentMoment (record { origin = start_of handed ready sizes found names clock; entries = [] }) m
    consistent_until parts m ge le =
        let p : IsPhase (start_of handed ready sizes found names clock) [] m =
        phase_before (start_of handed ready sizes found names clock) still_so m ge le le in
        parts (record { origin = origin_at m (start_of handed ready sizes found names clock); entries = [] }) p.scans
        p.primaries p.name p.next

    untouched : AllUntouched base (volumes_of version) ready
    untouched =
        subst (λ (t : Record). AllUntouched base (volumes_of version) t) (told_at_end (start_of handed ready sizes found names clock))
        (untouched_at (length ready.steps) (steps_more handed ready (repair.since ++ since) is_ready) (omega arith))

    -- ---- its start

    -- the disks of a group that was found
    abbrev disks : Group → List ℕ
    disks group = disks_of group found.disks

    listed : (group : Group) → found.group ≡ Some group → disks group ≡ found.disk_of
    listed group there =
        sym (subst (λ (o : Option Group). IfSome o (λ g. found.disk_of ≡ disks_of g found.disks)) there can.shape.disk_of)

    apart : (group : Group) → found.group ≡ Some group → DisksDiffer group (disks group)
    apart group there =
        let missing : found.missing ≡ missing_of (shapes found.disks) group.pvs =
        subst (λ (o : Option Group). IfSome o (λ g. found.missing ≡ missing_of (shapes found.disks) g.pvs)) there can.shape.missing in
        disks_differ group found.disks (found_group base sizes found can.scan group there).0 (sym missing ∙ can.whole.there)

    -- it starts with what is found once that was repaired
    pub starts : StartsWith (start_of handed ready sizes found names clock) (repaired_of found)
    starts = record {
      group = group_of disks found.group;
      disks = of_group disks found.group (λ v. v.disk_of ≡ found.disk_of) listed;
      differ = of_group disks found.group (λ v. DisksDiffer v.group v.disk_of) apart;
      names = names_by disks found.group (λ group there. (found_group base sizes found can.scan group there).1);
      from =
          starts_later handed ready ready (repair.since ++ since) [] is_ready refl record_is base ready_image base_is ready_base sizes names
          clock version;
      start = refl;
      opening =
          found_now handed ready ready (repair.since ++ since) [] is_ready refl record_is base ready_image base_is ready_base sizes names
          clock version (repairs_scan base sizes found can ready_image (all_written (repair_batches found) base)).finds;
      shown =
          ap (λ (i : Image). opening_volumes i 0 (volumes_of version))
          (now_first handed ready ready (repair.since ++ since) [] is_ready refl record_is base ready_image base_is ready_base sizes names
          clock version)
          ∙ volumes_stay base ready record_is 0 (volumes_of version) untouched;
    }
