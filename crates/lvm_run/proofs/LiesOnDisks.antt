-- What was found lies on disks of the sizes that were found: each physical volume is on one, and each sector of a volume within it.
use Rattle.std.proofs.Common.{◌≡◌, ◌≤◌, ◌<◌, ℕ, List, [], length, Option, Some, None, refl, sym, ap, subst, ◌∙◌, arith}
use Rattle.std.specs.Prelude.{IfSome, slice_index}
use Rattle.std.proofs.lemmas.List.{length-map}
use Rattle.std.proofs.lemmas.Option.{slice_get_within}
use Rattle.sector_base.specs.declared.places.At.{At}
use Rattle.meta_model.specs.declared.group.Group.{Group}
use Rattle.meta_model.specs.declared.pv.Pv.{Pv}
use Rattle.scan_rules.specs.Decision.{first_misplaced}
use Rattle.scan_rules.specs.Found.{missing_of}
use Rattle.volume_rules.specs.Rules.{IsAccepted}
use Rattle.volume_view.specs.Places.{primary}
use Rattle.vg_found.specs.declared.disk.Disk.{Disk}
use Rattle.vg_found.specs.declared.found.Found.{Found}
use Rattle.vg_found.specs.Disks.{disk_with, disks_of, shapes}
use Rattle.vg_found.specs.Shape.{HasShape}
use Rattle.vg_found.specs.Whole.{IsWhole}
use Rattle.change_batches.specs.Sound.{sizes_of}
use Rattle.image_scans.proofs.Placed.{IsPlaceOn, index_map, place_beside}
use Rattle.io_core.specs.Rest.{LiesOn}

-- what holds of the group, if one was found
of_group : (o : Option Group) (P : Group → Type 0) → ((group : Group) → o ≡ Some group → P group) → IfSome o P
of_group None P each = tt
of_group (Some group) P each = each group refl

module _ (found : Found) (shape : HasShape found) (whole : IsWhole found)
    (accepted : IfSome found.group IsAccepted) where
  module _ (group : Group) (is : found.group ≡ Some group) where
    listed : found.disk_of ≡ disks_of group found.disks
    listed = subst (λ (o : Option Group). IfSome o (λ g. found.disk_of ≡ disks_of g found.disks)) is shape.disk_of

    keeps : IsAccepted group
    keeps = subst (λ (o : Option Group). IfSome o IsAccepted) is accepted

    placed : first_misplaced group (shapes found.disks) ≡ None
    placed = subst (λ (o : Option Group). IfSome o (λ g. first_misplaced g (shapes found.disks) ≡ None)) is shape.placed

    there : missing_of (shapes found.disks) group.pvs ≡ []
    there =
        sym (subst (λ (o : Option Group). IfSome o (λ g. found.missing ≡ missing_of (shapes found.disks) g.pvs)) is shape.missing)
        ∙ whole.there

    many_disks : length group.pvs ≤ length found.disk_of
    many_disks =
        omega (
          arith,
          ap (λ (l : List ℕ). length l) listed,
          length-map group.pvs (λ (pv : List ℕ × Pv). disk_with found.disks pv.1.id),
        )

    on_disk : (lv x : ℕ) (at : At) → primary group lv x ≡ Some at
        → (slice_index found.disk_of at.pv < length (sizes_of found.disks))
        × (at.sector < slice_index (sizes_of found.disks) (slice_index found.disk_of at.pv))
    on_disk lv x at is_place =
        let number : ℕ = slice_index (disks_of group found.disks) at.pv in
        let on : IsPlaceOn found.disks number at.sector =
        place_beside group found.disks keeps placed there lv x at is_place in
        let below : number < length found.disks = slice_get_within found.disks number on.disk on.there in
        let many : length (sizes_of found.disks) ≡ length found.disks = length-map found.disks (λ (d : Disk). d.sectors) in
        let size : slice_index (sizes_of found.disks) number ≡ on.disk.sectors =
        index_map (λ (d : Disk). d.sectors) found.disks number on.disk on.there in
        subst (λ (l : List ℕ). (slice_index l at.pv < length (sizes_of found.disks))
        × (at.sector < slice_index (sizes_of found.disks) (slice_index l at.pv)))
        (sym listed)
        (omega (arith, below, many), omega (arith, on.within, size))

  pub lies_on_disks : (sizes : List ℕ) → sizes ≡ sizes_of found.disks → LiesOn sizes found
  lies_on_disks sizes are = subst (λ (l : List ℕ). LiesOn l found) (sym are) (record {
    disks = of_group found.group (λ group. length group.pvs ≤ length found.disk_of) many_disks;
    places =
        of_group found.group
        (λ group. (lv x : ℕ) (at : At) → primary group lv x ≡ Some at
        → (slice_index found.disk_of at.pv < length (sizes_of found.disks))
        × (at.sector < slice_index (sizes_of found.disks) (slice_index found.disk_of at.pv)))
        on_disk;
  })
