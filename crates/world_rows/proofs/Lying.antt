-- What was found lies on its one disk, where the extents of its one physical volume do.
use Rattle.std.proofs.Common.{◌≡◌, ◌≤◌, ◌<◌, ℕ, List, [], ◌∷◌, length, Option, Some, sym, ap, subst, ◌∙◌, arith}
use Rattle.std.specs.Prelude.{IfSome, slice_get, slice_index_or}
use Rattle.std.proofs.lemmas.Option.{slice_get_within}
use Rattle.sector_base.specs.declared.places.At.{At}
use Rattle.meta_model.specs.declared.group.Group.{Group}
use Rattle.volume_rules.specs.Rules.{IsAccepted}
use Rattle.volume_view.specs.InExtents.{IsInExtents}
use Rattle.volume_view.specs.Places.{primary}
use Rattle.volume_view.proofs.InExtents.{primary_in_extents}
use Rattle.vg_found.specs.declared.found.Found.{Found}
use Rattle.io_core.specs.Rest.{LiesOn}
use Rattle.world_rows.specs.OneDisk.{IsWithin}

module _ (sizes : List ℕ) (one : length sizes ≡ 1) (group : Group) (numbers : List ℕ) (accepted : IsAccepted group)
    (within : IsWithin group numbers (slice_index_or sizes 0 0)) where
  on_disk : (lv x : ℕ) (at : At) → primary group lv x ≡ Some at
      → (slice_index_or numbers at.pv 0 < length sizes) × (at.sector < slice_index_or sizes (slice_index_or numbers at.pv 0) 0)
  on_disk lv x at is =
      let e : IsInExtents group at = primary_in_extents group accepted lv x at is in
      let first : at.pv ≡ 0 = omega (arith, slice_get_within group.pvs at.pv e.pv e.is_pv, within.one) in
      let there : slice_get group.pvs 0 ≡ Some e.pv = subst (λ (n : ℕ). slice_get group.pvs n ≡ Some e.pv) first e.is_pv in
      let number : slice_index_or numbers at.pv 0 ≡ 0 =
      ap (λ (l : List ℕ). slice_index_or l at.pv 0) within.on ∙ ap (λ (n : ℕ). slice_index_or (0 ∷ []) n 0) first in
      subst (λ (n : ℕ). (n < length sizes) × (at.sector < slice_index_or sizes n 0)) (sym number)
      (omega (arith, one), omega (arith, e.to, within.within e.pv there))

pub lies_on_one : (sizes : List ℕ) → length sizes ≡ 1 → (found : Found) (group : Group) → found.group ≡ Some group → IsAccepted group
    → IsWithin group found.disk_of (slice_index_or sizes 0 0) → LiesOn sizes found
lies_on_one sizes one found group is accepted within = record {
  disks =
      subst (λ (o : Option Group). IfSome o (λ g. length g.pvs ≤ length found.disk_of)) (sym is)
      (omega (arith, within.one, ap (λ (l : List ℕ). length l) within.on));
  places =
      subst
      (λ (o : Option Group). IfSome o (λ g. (lv x : ℕ) (at : At) → primary g lv x ≡ Some at
      → (slice_index_or found.disk_of at.pv 0 < length sizes)
      × (at.sector < slice_index_or sizes (slice_index_or found.disk_of at.pv 0) 0)))
      (sym is) (on_disk sizes one group found.disk_of accepted within);
}
