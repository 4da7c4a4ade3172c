-- A group with another name, or in which a logical volume has another one, keeps each primary place.
use Rattle.std.proofs.Common.{◌≡◌, ℕ, Bool, true, false, cond, List, Some, refl, sym, subst}
use Rattle.std.specs.Str.{bytes_eq}
use Rattle.sector_base.specs.declared.places.At.{At}
use Rattle.meta_model.specs.declared.group.Group.{Group}
use Rattle.meta_model.specs.declared.lv.Lv.{Lv}
use Rattle.volume_view.specs.Places.{primary}
use Rattle.group_edits.proofs.KeptPlaces.{FindsIn, finds_same, primary_same}
use Rattle.group_edits.proofs.Renumbered.{same_on}
use Rattle.group_edits.proofs.Selections.{map_at}
use Rattle.group_edits.specs.NextVersion.{changed_if}
use Rattle.group_edits.specs.RenamedGroup.{renamed_group}
use Rattle.group_edits.specs.RenamedVolume.{renamed_volume}

pub primary_named : (group : Group) (name : List ℕ) (lv sector : ℕ) (at : At) → primary group lv sector ≡ Some at
    → primary (renamed_group group name) lv sector ≡ Some at
primary_named group name lv sector at is =
    primary_same group (renamed_group group name) (λ k pv stays there. there) refl
    (λ n row there. (row, there, finds_same group.extent_size row.1.segments)) lv sector at is

-- a row that has another name has the same volume
pub named_same : (old new : List ℕ) (row : List ℕ × Lv) → (changed_if old (λ (r : List ℕ × Lv). (new, r.1)) row).1 ≡ row.1
named_same old new row = by (bytes_eq row.0 old) where
  by : (b : Bool) → (cond b (new, row.1) row).1 ≡ row.1
  by true = refl
  by false = refl

pub primary_renamed : (old new : List ℕ) (group : Group) (lv sector : ℕ) (at : At) → primary group lv sector ≡ Some at
    → primary (renamed_volume old new group) lv sector ≡ Some at
primary_renamed old new group lv sector at is =
    primary_same group (renamed_volume old new group) (λ k pv stays there. there) refl
    (λ n row there. (
      changed_if old (λ (r : List ℕ × Lv). (new, r.1)) row,
      map_at (changed_if old (λ (r : List ℕ × Lv). (new, r.1))) group.lvs n row there,
      subst (λ (v : Lv). FindsIn group.extent_size same_on row.1.segments v.segments) (sym (named_same old new row))
          (finds_same group.extent_size row.1.segments),
    )) lv sector at is
