-- A group without a visible volume keeps each primary place of the volumes that stay.
use Rattle.std.proofs.Common.{◌≡◌, ℕ, Bool, true, List, Some, refl, sym, subst}
use Rattle.std.specs.Prelude.{slice_get}
use Rattle.sector_base.specs.declared.places.At.{At}
use Rattle.meta_model.specs.declared.group.Group.{Group}
use Rattle.meta_model.specs.declared.lv.Lv.{Lv}
use Rattle.meta_model.specs.declared.segment.On.{On}
use Rattle.meta_model.specs.declared.segment.On.TheVariants as on
use Rattle.volume_rules.proofs.LegRuns.{run_of}
use Rattle.volume_rules.specs.Rules.{IsAccepted}
use Rattle.volume_view.specs.Places.{primary}
use Rattle.group_edits.proofs.Edits.{Any, OnStays}
use Rattle.group_edits.proofs.KeptPlaces.{finds_renumbered, on_by, primary_rows}
use Rattle.group_edits.proofs.Removed.{closed}
use Rattle.group_edits.proofs.Renumbered.{unchanged}
use Rattle.group_edits.proofs.Staying.{new}
use Rattle.group_edits.proofs.StayingRules.{Stays, below_stays, row_there}
use Rattle.group_edits.specs.Removing.{on_after, stays, without_volume}
use Rattle.group_edits.specs.Renumbered.{renumbered_row}

on_new : (stays : ℕ → Bool) (o : On) → on_after stays o ≡ on_by unchanged (new stays) o
on_new stays (on.Pv pv) = refl
on_new stays (on.Lv lv) = refl

-- where a visible volume is removed
pub primary_without : (group : Group) (removed : ℕ) (row : List ℕ × Lv) → IsAccepted group → slice_get group.lvs removed ≡ Some row
    → row.1.status.visible ≡ true
    → (lv sector : ℕ) (at : At) → stays group removed lv ≡ true → primary group lv sector ≡ Some at
    → primary (without_volume group removed) (new (stays group removed) lv) sector ≡ Some at
primary_without group removed row accepted there seen lv sector at stayed is =
    let stay : ℕ → Bool = stays group removed in
    primary_rows group (without_volume group removed) (on_after stay) unchanged (new stay) Any (Stays group stay)
    (λ k pv stands is. is) refl (on_new stay)
    (λ n r stands is. (
      renumbered_row (on_after stay) r,
      row_there group stay n r is stands,
      finds_renumbered group.extent_size (on_after stay) r.1.segments,
    ))
    (λ n stands r s segment j leg is part leg_is.
    (let run = run_of group n r s segment j leg is part leg_is in
    subst (OnStays Any (Stays group stay)) run.5
    (below_stays group stay (closed group removed accepted row there seen) run.0 run.1 (subst (Stays group stay) (sym run.2) stands))))
    lv sector at stayed is
