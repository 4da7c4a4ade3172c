-- The physical volumes lie well on their disks in the group that one has left, and in a restored one.
use Rattle.std.proofs.Common.{◌≡◌, ℕ, Bool, false, ◌||◌, List, [], ◌∷◌, map, Option, Some, None, refl, ap, ◌∙◌}
use Rattle.std.specs.Prelude.{option_map, unwrap_or}
use Rattle.std.specs.List.{AllByRecursion as Each, list_any}
use Rattle.line_answers.specs.declared.op_refusal.OpRefusal.TheVariants.{BadRule}
use Rattle.meta_model.specs.declared.group.Group.{Group}
use Rattle.meta_model.specs.declared.pv.Pv.{Pv}
use Rattle.scan_rules.specs.Decision.{Found as PvOf, Reading, first_misplaced}
use Rattle.scan_rules.specs.Found.{is_this_misplaced}
use Rattle.vg_found.specs.declared.disk.Disk.{Disk}
use Rattle.vg_found.specs.Disks.{shapes}
use Rattle.list_laws.proofs.Inserted.{none_passes}
use Rattle.group_edits.proofs.ReducedRuns.{none_without}
use Rattle.group_edits.specs.ReducedGroup.{reduced_group}
use Rattle.group_edits.specs.RestoredGroup.{found_pv, restored_group}
use Rattle.group_plan.proofs.PlacedVolumes.{IsPlacedOn, each_placed, none_misplaced}
use Rattle.group_plan.proofs.Rows.{test_fails}
use Rattle.vg_plans.specs.Vgcfgrestore.{is_misshapen, shape_row}

-- where each disk keeps it
each_on : (group next : Group) → ((reading : Reading) → IsPlacedOn group reading → IsPlacedOn next reading) → (readings : List Reading)
    → Each (IsPlacedOn group) readings → Each (IsPlacedOn next) readings
each_on group next keeps [] placed = tt
each_on group next keeps (reading ∷ more) placed = (keeps reading placed.0, each_on group next keeps more placed.1)

-- what none of the group's passes on a disk, none of the other's does
module _ (group next : Group) (reading : Reading)
    (fewer : (found : PvOf) → list_any (is_this_misplaced group.extent_size reading found) group.pvs ≡ false
    → list_any (is_this_misplaced next.extent_size reading found) next.pvs ≡ false) where
  by_pv : (pv : Option PvOf) → unwrap_or (option_map
      (λ (found : PvOf). list_any (is_this_misplaced group.extent_size reading found) group.pvs) pv) false ≡ false
      → unwrap_or (option_map (λ (found : PvOf). list_any (is_this_misplaced next.extent_size reading found) next.pvs) pv) false ≡ false
  by_pv None placed = refl
  by_pv (Some found) placed = fewer found placed

  on_reading : IsPlacedOn group reading → IsPlacedOn next reading
  on_reading placed = by_pv reading.pv placed

-- ---- one has left

pub reduced_placed : (group : Group) (number : ℕ) (readings : List Reading) → first_misplaced group readings ≡ None
    → first_misplaced (reduced_group group number) readings ≡ None
reduced_placed group number readings placed =
    none_misplaced (reduced_group group number) 0 readings
    (each_on group (reduced_group group number)
    (λ reading placed. on_reading group (reduced_group group number) reading
    (λ found none. none_without (is_this_misplaced group.extent_size reading found) group.pvs number none) placed)
    readings (each_placed group 0 readings placed))

-- ---- a restored group

-- that one was MISSING plays no part
none_there : (extent_size : ℕ) (reading : Reading) (found : PvOf) (pvs : List (List ℕ × Pv))
    → list_any (is_this_misplaced extent_size reading found) (map found_pv pvs) ≡ list_any (is_this_misplaced extent_size reading found) pvs
none_there extent_size reading found [] = refl
none_there extent_size reading found (pv ∷ pvs) =
    ap (λ (b : Bool). is_this_misplaced extent_size reading found pv || b) (none_there extent_size reading found pvs)

shapes_placed : (group : Group) (disks : List Disk) → Each (λ disk. is_misshapen group disk ≡ false) disks
    → Each (IsPlacedOn group) (shapes disks)
shapes_placed group [] placed = tt
shapes_placed group (disk ∷ disks) placed = (placed.0, shapes_placed group disks placed.1)

pub restored_placed : (found said : Group) (disks : List Disk) → shape_row said disks ≡ None
    → first_misplaced (restored_group found said) (shapes disks) ≡ None
restored_placed found said disks none =
    none_misplaced (restored_group found said) 0 (shapes disks)
    (each_on said (restored_group found said)
    (λ reading placed. on_reading said (restored_group found said) reading
    (λ pv fewer. none_there said.extent_size reading pv said.pvs ∙ fewer) placed)
    (shapes disks) (shapes_placed said disks
    (none_passes (is_misshapen said) disks (test_fails (list_any (is_misshapen said) disks) (BadRule 15) none))))
