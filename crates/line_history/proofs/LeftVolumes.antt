-- The volumes of a group that a physical volume without legs has left.
use Rattle.std.proofs.Common.{◌≡◌, ◌≢◌, ℕ, zero, suc, ◌+◌, ◌*◌, cond, List, [], ◌∷◌, map, Option, Some, false, refl, sym, ap, ◌∙◌, arith}
use Rattle.std.specs.Prelude.{option_map, slice_get, slice_index, unwrap_or}
use Rattle.std.specs.List.{range_with_len, remove}
use Rattle.std.proofs.lemmas.List.Elements.{All-contains}
use Rattle.std.proofs.lemmas.Option.{same_Some}
use Rattle.sector_base.specs.declared.places.At.{At}
use Rattle.meta_model.specs.declared.lv.Lv.{Lv}
use Rattle.meta_model.specs.declared.pv.Pv.{Pv}
use Rattle.meta_model.specs.declared.segment.On.TheVariants as on
use Rattle.volume_rules.specs.Extents.{extents_of}
use Rattle.volume_rules.specs.Legs.{runs_of}
use Rattle.volume_rules.specs.Rules.{IsAccepted}
use Rattle.volume_view.proofs.PrimariesStand.{primary_stands}
use Rattle.volume_view.specs.Places.{primary}
use Rattle.group_edits.proofs.FreePlaces.{IsUsedAt, primary_is_used}
use Rattle.group_edits.proofs.ReducedPlaces.{primary_reduced}
use Rattle.group_edits.proofs.ReducedRuns.{IsElsewhere, get_without, runs_elsewhere}
use Rattle.group_edits.proofs.Renumbered.{extents_same}
use Rattle.group_edits.specs.ReducedGroup.{has_leg_on_pv, number_without, on_without_pv, reduced_group}
use Rattle.group_edits.specs.Renumbered.{renumbered_lv, renumbered_row}
use Rattle.vg_scan.specs.Versions.{Version}
use Rattle.volume_history.specs.Placed.{Place, PlacedVolume, no_place, on_disk, place_of, placed_from, places_of, volumes_of}
use Rattle.line_history.proofs.KeptVolumes.{StandFrom, all_stand, first_stands, map_same, rest_stand}

at_index : (xs : List ℕ) (k x : ℕ) → slice_get xs k ≡ Some x → slice_index xs k ≡ x
at_index [] k x there = absurd cc
at_index (y ∷ xs) zero x there = same_Some y x there
at_index (y ∷ xs) (suc k) x there = at_index xs k x there

module _ (before : Version) (removed : ℕ) (unused : has_leg_on_pv before.group removed ≡ false) (accepted : IsAccepted before.group)
    (on_disks : (k : ℕ) (pv : List ℕ × Pv) → slice_get before.group.pvs k ≡ Some pv → (disk : ℕ) × (slice_get before.disk_of k ≡ Some disk))
  where
    abbrev after : Version
    after = record { group = reduced_group before.group removed; disk_of = remove before.disk_of removed }

    -- no primary place is on it
    elsewhere : (lv sector : ℕ) (at : At) → primary before.group lv sector ≡ Some at → at.pv ≢ removed
    elsewhere lv sector at is same =
        let used : IsUsedAt before.group at = primary_is_used before.group lv sector at accepted is in
        All-contains (IsElsewhere removed) (runs_of before.group) used.used.0 (runs_elsewhere removed before.group unused) used.used.1
        (used.used.2.0 ∙ ap on.Pv same)

    place_left : (lv sector : ℕ) (at : At) → primary before.group lv sector ≡ Some at → place_of after lv sector ≡ place_of before lv sector
    unfolding place_of
    place_left lv sector at is =
        let used : IsUsedAt before.group at = primary_is_used before.group lv sector at accepted is in
        let d = on_disks at.pv used.pv used.is_pv in
        ap (λ (o : Option At). unwrap_or (option_map (on_disk after.disk_of) o) no_place)
        (primary_reduced before.group removed unused lv sector at is)
        ∙ ap (λ (n : ℕ). record { disk = n; sector = at.sector })
        (at_index (remove before.disk_of removed) (number_without removed at.pv) d.0
        (get_without before.disk_of removed at.pv (elsewhere lv sector at is) ∙ d.1) ∙ sym (at_index before.disk_of at.pv d.0 d.1))
        ∙ sym (ap (λ (o : Option At). unwrap_or (option_map (on_disk before.disk_of) o) no_place) is)

    places_left : (number : ℕ) (row : List ℕ × Lv) → slice_get before.group.lvs number ≡ Some row
        → places_of after number (renumbered_lv (on_without_pv removed) row.1) ≡ places_of before number row.1
    places_left number row there =
        ap (λ (n : ℕ). map (place_of after number) (range_with_len 0 (n * before.group.extent_size)))
        (extents_same (on_without_pv removed) row.1)
        ∙ map_same (place_of after number) (place_of before number) 0 (extents_of row.1 * before.group.extent_size)
        (λ sector less. let at = primary_stands before.group number sector row accepted there (omega (arith, less)) in place_left number
        sector at.0 at.1)

    volumes_from : (number : ℕ) (rows : List (List ℕ × Lv)) → StandFrom before.group number rows
        → placed_from after number (map (renumbered_row (on_without_pv removed)) rows) ≡ placed_from before number rows
    volumes_from number [] stand = refl
    volumes_from number (row ∷ rows) stand =
        let rest : List PlacedVolume = placed_from after (number + 1) (map (renumbered_row (on_without_pv removed)) rows) in
        ap (λ (l : List Place). cond row.1.status.visible (record { id = row.1.id; name = row.0; places = l } ∷ rest) rest)
        (places_left number row (first_stands before.group number row rows stand))
        ∙ ap (λ (l : List PlacedVolume). cond row.1.status.visible
        (record { id = row.1.id; name = row.0; places = places_of before number row.1 } ∷ l) l)
        (volumes_from (number + 1) rows (rest_stand before.group number row rows stand))

    -- each keeps its places
    pub volumes_left : volumes_of (Some after) ≡ volumes_of (Some before)
    unfolding volumes_of
    volumes_left = volumes_from 0 before.group.lvs (all_stand before.group)
