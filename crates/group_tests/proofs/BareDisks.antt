-- The shape of what was found on disks without a header.
use Rattle.std.proofs.Common.{◌≡◌, ◌<◌, ◌≤◌, ℕ, ◌+◌, true, List, [], ◌∷◌, ◌++◌, length, Option, Some, None, refl, sym, ap, subst, ◌∙◌}
use Rattle.std.specs.Prelude.{filter_map, option_map, unwrap_or, slice_get, All, AllPairs, IfSome}
use Rattle.std.specs.FinSet as set
use Rattle.std.specs.Ordering.{nat_cmp}
use Rattle.std.proofs.lemmas.Bool.{false≢true}
use Rattle.std.proofs.lemmas.List.Elements.{All-head, All-nil, All-tail}
use Rattle.meta_model.specs.declared.group.Group.{Group}
use Rattle.pv_header.specs.declared.header.PvHeader.{PvHeader}
use Rattle.disk_contents.specs.declared.contents.AreaFound.{AreaFound}
use Rattle.scan_rules.specs.Decision.{Found as PvOf, first_duplicate, first_misplaced, ids_from}
use Rattle.scan_rules.specs.Found.{missing_of}
use Rattle.vg_found.specs.declared.disk.Disk.{Disk}
use Rattle.vg_found.specs.declared.found.Found.{Found}
use Rattle.vg_found.specs.Disks.{areas_on, disks_of, header_on, held_area, held_areas, old_of, pv_shape, shapes}
use Rattle.vg_found.specs.Shape.{HasShape, IsDisk, IsUnread}
use Rattle.vg_found.proofs.ShapedAreas.{areas_shaped}
use Rattle.mda_ring.specs.Areas.{CanTake, LieApart}

abbrev pub IsBare : Disk → Type 0
IsBare disk = (header_on disk.contents ≡ None) × (areas_on disk.contents ≡ [])

none_held : (n : ℕ) (disks : List Disk) → All IsBare disks → held_areas n disks ≡ []
none_held n [] all = refl
none_held n (disk ∷ disks) all =
    ap (λ (l : List AreaFound). filter_map (held_area n) l ++ held_areas (n + 1) disks) (All-head IsBare disk disks all).1
    ∙ none_held (n + 1) disks (All-tail IsBare disk disks all)

no_ids : (n : ℕ) (disks : List Disk) → All IsBare disks → ids_from n (shapes disks) ≡ []
no_ids n [] all = refl
no_ids n (disk ∷ disks) all =
    ap (λ (o : Option PvHeader). unwrap_or (option_map (λ (pv : PvOf). (n, pv.id) ∷ ids_from (n + 1) (shapes disks))
    (option_map pv_shape o)) (ids_from (n + 1) (shapes disks))) (All-head IsBare disk disks all).0
    ∙ no_ids (n + 1) disks (All-tail IsBare disk disks all)

pub bare_shape : (found : Found) (disks : List Disk) → found.disks ≡ disks → 1 ≤ length disks → length disks ≤ 64
    → ((pv : ℕ) (disk : Disk) → slice_get disks pv ≡ Some disk → IsDisk pv disk × IsUnread found.unread pv disk)
    → All IsBare disks → ((pv : ℕ) → set.contains found.unread pv ≡ true → pv < length disks) → found.group ≡ None → found.areas ≡ []
    → found.stale ≡ [] → found.strays ≡ set.empty → found.old ≡ set.empty → HasShape found
bare_shape found disks are some few each bare below no_group no_areas no_stale no_strays no_old =
    let held : held_areas 0 found.disks ≡ [] = ap (held_areas 0) are ∙ none_held 0 disks bare in
    let shaped = areas_shaped found.disks (λ pv disk there. (each pv disk (ap (λ (l : List Disk). slice_get l pv) (sym are) ∙ there)).0) in
    let same : found.areas ≡ held_areas 0 found.disks = no_areas ∙ sym held in
    record {
      some = subst (λ (l : List Disk). 1 ≤ length l) (sym are) some;
      few = subst (λ (l : List Disk). length l ≤ 64) (sym are) few;
      disks = λ pv disk there. each pv disk (ap (λ (l : List Disk). slice_get l pv) (sym are) ∙ there);
      differ = ap (λ (l : List Disk). first_duplicate (ids_from 0 (shapes l))) are ∙ ap first_duplicate (no_ids 0 disks bare);
      areas = same;
      take = subst (All CanTake) (sym same) shaped.0;
      apart = subst (AllPairs LieApart) (sym same) shaped.1;
      placed = subst (λ (o : Option Group). IfSome o (λ group. first_misplaced group (shapes found.disks) ≡ None)) (sym no_group) tt;
      disk_of = subst (λ (o : Option Group). IfSome o (λ group. found.disk_of ≡ disks_of group found.disks)) (sym no_group) tt;
      missing =
          subst (λ (o : Option Group). IfSome o (λ group. found.missing ≡ missing_of (shapes found.disks) group.pvs)) (sym no_group) tt;
      old = no_old ∙ sym (ap (λ (o : Option Group). old_of o found.disks) no_group);
      stale =
          subst (All (λ (area : ℕ × ℕ). area.0 < length found.disks)) (sym no_stale)
          (All-nil (λ (area : ℕ × ℕ). area.0 < length found.disks));
      strays =
          λ pv there. absurd (false≢true (sym (ap (λ (s : set.FinSet nat_cmp). set.contains s pv) no_strays ∙ set.contains-empty nat_cmp pv)
          ∙ there));
      unread = λ pv there. subst (λ (l : List Disk). pv < length l) (sym are) (below pv there);
    }
