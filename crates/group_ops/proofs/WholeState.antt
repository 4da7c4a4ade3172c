-- Lines may be judged against what was found, where it is whole.
use Rattle.std.proofs.Common.{◌≡◌, ◌<◌, ℕ, zero, suc, List, [], ◌∷◌, length, get_or, Option, Some, None, refl, sym, subst, ◌∙◌, arith}
use Rattle.std.specs.Prelude.{All, IfSome, slice_get}
use Rattle.std.proofs.lemmas.List.{length-map}
use Rattle.std.proofs.lemmas.Option.{get_or_from_slice_get}
use Rattle.meta_model.specs.declared.group.Group.{Group}
use Rattle.meta_model.specs.declared.pv.Pv.{Pv}
use Rattle.scan_rules.specs.Found.{missing_of}
use Rattle.vg_found.proofs.HeaderDisks.{there}
use Rattle.vg_found.specs.declared.disk.Disk.{Disk}
use Rattle.vg_found.specs.declared.found.Found.{Found}
use Rattle.vg_found.specs.Disks.{disk_with, disks_of, shapes}
use Rattle.group_ops.specs.Laws.{WholeIsState}

-- each physical volume of the group is on one of the disks
one_there : (disks : List Disk) (group : Group) → missing_of (shapes disks) group.pvs ≡ [] → (k : ℕ) (d : ℕ) (pv : List ℕ × Pv)
    → slice_get group.pvs k ≡ Some pv → get_or (disks_of group disks) k d < length disks
one_there disks group none k d pv is =
    let found = there disks group none k pv is in
    let same : get_or (disks_of group disks) k d ≡ found.0 = get_or_from_slice_get (disks_of group disks) k found.0 d found.2 in
    subst (λ (n : ℕ). n < length disks) (sym same) found.3

pv_at : (pvs : List (List ℕ × Pv)) (k : ℕ) → k < length pvs → (pv : List ℕ × Pv) × (slice_get pvs k ≡ Some pv)
pv_at [] k within = absurd (omega (arith, within))
pv_at (pv ∷ pvs) zero within = (pv, refl)
pv_at (pv ∷ pvs) (suc k) within = pv_at pvs k (omega (arith, within))

all_there : (disks : List Disk) (group : Group) → missing_of (shapes disks) group.pvs ≡ []
    → All (λ n. n < length disks) (disks_of group disks)
all_there disks group none k d within =
    let count : length (disks_of group disks) ≡ length group.pvs = length-map group.pvs (λ (pv : List ℕ × Pv). disk_with disks pv.1.id) in
    let found : (pv : List ℕ × Pv) × (slice_get group.pvs k ≡ Some pv) = pv_at group.pvs k (omega (arith, within, count)) in
    one_there disks group none k d found.0 found.1

there_by : (found : Found) (o : Option Group) → IfSome o (λ group. found.disk_of ≡ disks_of group found.disks)
    → IfSome o (λ group. found.missing ≡ missing_of (shapes found.disks) group.pvs) → found.missing ≡ []
    → IfSome o (λ group. All (λ n. n < length found.disks) found.disk_of)
there_by found None listed missing none = tt
there_by found (Some group) listed missing none =
    subst (All (λ n. n < length found.disks)) (sym listed) (all_there found.disks group (sym missing ∙ none))

pub whole_is_state : WholeIsState
whole_is_state found names backup shape whole count named = record {
  few = shape.few;
  disks = λ pv disk is. (shape.disks pv disk is).0;
  differ = shape.differ;
  named = count;
  names = named;
  areas = shape.areas;
  disk_of = shape.disk_of;
  there = there_by found found.group shape.disk_of shape.missing whole.there;
  placed = shape.placed;
}
