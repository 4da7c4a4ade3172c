-- A group without a physical volume on which no leg lies keeps each primary place, by the new numbers of physical volumes.
use Rattle.std.proofs.Common.{◌≡◌, ℕ, false, Some, refl, ◌∙◌}
use Rattle.sector_base.specs.declared.places.At.{At}
use Rattle.meta_model.specs.declared.group.Group.{Group}
use Rattle.meta_model.specs.declared.segment.On.{On}
use Rattle.meta_model.specs.declared.segment.On.TheVariants as on
use Rattle.volume_view.specs.Places.{primary}
use Rattle.group_edits.proofs.Edits.{Any}
use Rattle.group_edits.proofs.KeptPlaces.{at_by, finds_renumbered, on_by, primary_rows}
use Rattle.group_edits.proofs.ReducedRules.{IsOther, on_other}
use Rattle.group_edits.proofs.ReducedRuns.{get_without, leg_elsewhere}
use Rattle.group_edits.proofs.Renumbered.{unchanged}
use Rattle.group_edits.proofs.Selections.{map_at}
use Rattle.group_edits.specs.ReducedGroup.{has_leg_on_pv, number_without, on_without_pv, reduced_group}
use Rattle.group_edits.specs.Renumbered.{renumbered_row}

on_new : (removed : ℕ) (o : On) → on_without_pv removed o ≡ on_by (number_without removed) unchanged o
on_new removed (on.Pv pv) = refl
on_new removed (on.Lv lv) = refl

pub primary_reduced : (group : Group) (removed : ℕ) → has_leg_on_pv group removed ≡ false → (lv sector : ℕ) (at : At)
    → primary group lv sector ≡ Some at → primary (reduced_group group removed) lv sector ≡ Some (at_by (number_without removed) at)
primary_reduced group removed unused lv sector at is =
    primary_rows group (reduced_group group removed) (on_without_pv removed) (number_without removed) unchanged (IsOther removed) Any
    (λ k pv other there. get_without group.pvs removed k other ∙ there) refl (on_new removed)
    (λ n row stays there. (
      renumbered_row (on_without_pv removed) row,
      map_at (renumbered_row (on_without_pv removed)) group.lvs n row there,
      finds_renumbered group.extent_size (on_without_pv removed) row.1.segments,
    ))
    (λ n stays row s segment j leg there part leg_is.
    on_other removed leg.on (leg_elsewhere removed group unused n row s segment j leg there part leg_is)) lv sector at tt is
