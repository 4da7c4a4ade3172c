-- Whether the volume on a path may be written, by its number.
use Rattle.std.proofs.Common.{◌≡◌, ◌<◌, ℕ, true, List, length, Option, Some, None, refl, sym, ap, arith}
use Rattle.std.specs.Prelude.{option_map, slice_get}
use Rattle.std.specs.Option.{option_map_or}
use Rattle.std.proofs.lemmas.Option.{same_Some, slice_get_within}
use Rattle.meta_model.specs.declared.group.Group.{Group}
use Rattle.meta_model.specs.declared.lv.Lv.{Lv}
use Rattle.group_edits.specs.Visible.{visible_named}
use Rattle.group_edits.proofs.OneNamed.{IsVisibleAt, named_is, visible_at}

module _ (group : Group) (name : List ℕ) where
  -- the volume that was found is there
  pub found_within : (lv : ℕ) → Some lv ≡ option_map (λ (v : ℕ × Lv). v.0) (visible_named group name) → lv < length group.lvs
  found_within lv is = by (visible_named group name) refl is where
    by : (o : Option (ℕ × Lv)) → visible_named group name ≡ o → Some lv ≡ option_map (λ (v : ℕ × Lv). v.0) o → lv < length group.lvs
    by None found made = absurd cc
    by (Some v) found made =
        let at : IsVisibleAt 0 name group.lvs v = visible_at group name v found in
        let same : lv ≡ v.0 = same_Some lv v.0 made in
        omega (arith, same, at.place, slice_get_within group.lvs at.k at.row at.there)

  -- and says whether it may be written
  pub writable_by : (lv : ℕ) (row : List ℕ × Lv) → Some lv ≡ option_map (λ (v : ℕ × Lv). v.0) (visible_named group name)
      → slice_get group.lvs lv ≡ Some row
      → row.1.status.write ≡ option_map_or (λ (v : ℕ × Lv). v.1.status.write) (visible_named group name) true
  writable_by lv row is there =
      sym (ap (λ (o : Option (ℕ × Lv)). option_map_or (λ (v : ℕ × Lv). v.1.status.write) o true) (named_is group name lv row is there))
