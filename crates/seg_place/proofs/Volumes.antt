-- What the rules say of the volumes of an accepted group.
use Rattle.std.proofs.Common.{◌≡◌, ℕ, ◌+◌, ◌*◌, ◌^◌, ◌<◌, ◌≤◌, List, length, Option, Some, None, refl, ap, arith}
use Rattle.std.specs.Prelude.{slice_get, option_map, unwrap_or}
use Rattle.std.proofs.lemmas.Option.{slice_get_past}
use Rattle.meta_model.specs.declared.group.Group.{Group}
use Rattle.meta_model.specs.declared.lv.Lv.{Lv}
use Rattle.meta_model.specs.declared.pv.Pv.{Pv}
use Rattle.volume_rules.specs.Extents.{extents_of}
use Rattle.volume_rules.specs.declared.rule.Rule.TheVariants.{Numbers, Volumes, Segments, Extents, Follows}
use Rattle.volume_rules.specs.Rules.{FitsDevice, Follow, IsAccepted, LvIsSmall, NumbersAreAllowed, SegmentsAreFew, VolumesAreFew}
use Rattle.list_laws.proofs.Fronts.{all_at}
use Rattle.list_laws.proofs.ItemWalks.{sum_so_far}
use Rattle.seg_place.specs.Sectors.{sectors_of, segments_in}

-- what they say of a logical volume
pub record IsWell (group : Group) (volume : Lv) : Type 0 where
  pub follow : Follow 0 volume.segments
  pub sectors : extents_of volume * group.extent_size < 2 ^ 48
  pub small : LvIsSmall volume
  pub few : length volume.segments ≤ 16384

pub lv_is_well : (group : Group) (lv : ℕ) (volume : List ℕ × Lv) → IsAccepted group → slice_get group.lvs lv ≡ Some volume
    → IsWell group volume.1
lv_is_well group lv volume accepted is =
    let follows =
    all_at (λ (v : List ℕ × Lv). Follow 0 v.1.segments × (extents_of v.1 * group.extent_size < 2 ^ 48)) group.lvs lv volume
    (accepted Follows) is in
    let numbers : NumbersAreAllowed group = accepted Numbers in
    let segments : SegmentsAreFew group = accepted Segments in
    record {
      follow = follows.0;
      sectors = follows.1;
      small = all_at (λ (v : List ℕ × Lv). LvIsSmall v.1) group.lvs lv volume numbers.lvs is;
      few = omega (arith, segments.few, sum_so_far (λ (v : List ℕ × Lv). length v.1.segments) group.lvs lv volume is);
    }

-- and of the size of extents, and of how many volumes there are
pub extent_is_some : (group : Group) → IsAccepted group → 8 ≤ group.extent_size
extent_is_some group accepted = let numbers : NumbersAreAllowed group = accepted Numbers in numbers.extent_size.0

pub volumes_are_few : (group : Group) → IsAccepted group → length group.lvs ≤ 1024
volumes_are_few group accepted = let volumes : VolumesAreFew group = accepted Volumes in volumes.lvs

pub pv_fits : (group : Group) (number : ℕ) (pv : List ℕ × Pv) → IsAccepted group → slice_get group.pvs number ≡ Some pv
    → pv.1.pe_start + pv.1.pe_count * group.extent_size < 2 ^ 48
pv_fits group number pv accepted is =
    (all_at (λ (v : List ℕ × Pv). FitsDevice group.extent_size v.1) group.pvs number pv (accepted Extents) is).0

-- the sectors of a volume that is there, and of one that isn't
pub sectors_of_one : (group : Group) (lv : ℕ) (volume : List ℕ × Lv) → slice_get group.lvs lv ≡ Some volume
    → sectors_of group lv ≡ extents_of volume.1 * group.extent_size
unfolding sectors_of
sectors_of_one group lv volume is =
    ap (λ (o : Option (List ℕ × Lv)). unwrap_or (option_map (λ (v : List ℕ × Lv). extents_of v.1 * group.extent_size) o) 0) is

pub sectors_of_none : (group : Group) (lv : ℕ) → length group.lvs ≤ lv → sectors_of group lv ≡ 0
unfolding sectors_of
sectors_of_none group lv past =
    ap (λ (o : Option (List ℕ × Lv)). unwrap_or (option_map (λ (v : List ℕ × Lv). extents_of v.1 * group.extent_size) o) 0)
    (slice_get_past group.lvs lv past)

pub segments_in_one : (group : Group) (lv : ℕ) (volume : List ℕ × Lv) → slice_get group.lvs lv ≡ Some volume
    → segments_in group lv ≡ length volume.1.segments
unfolding segments_in
segments_in_one group lv volume is =
    ap (λ (o : Option (List ℕ × Lv)). unwrap_or (option_map (λ (v : List ℕ × Lv). length v.1.segments) o) 0) is

-- a sector below them is one of a volume
pub in_volume : (group : Group) (lv sector : ℕ) → sector < sectors_of group lv
    → (volume : List ℕ × Lv) × (slice_get group.lvs lv ≡ Some volume) × (sector < extents_of volume.1 * group.extent_size)
unfolding sectors_of
in_volume group lv sector lt = of_volume (slice_get group.lvs lv) refl lt where
  of_volume : (o : Option (List ℕ × Lv)) → slice_get group.lvs lv ≡ o
      → sector < unwrap_or (option_map (λ (v : List ℕ × Lv). extents_of v.1 * group.extent_size) o) 0
      → (volume : List ℕ × Lv) × (slice_get group.lvs lv ≡ Some volume) × (sector < extents_of volume.1 * group.extent_size)
  of_volume None is below = absurd (omega arith)
  of_volume (Some volume) is below = (volume, is, below)
