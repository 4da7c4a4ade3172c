-- A sector with a primary place is one of its volume.
use Rattle.std.proofs.Common.{◌≡◌, ◌≤◌, ◌<◌, ℕ, zero, suc, ◌+◌, ◌*◌, ◌^◌, List, [], ◌∷◌, Some, sym, subst, arith}
use Rattle.std.specs.Prelude.{slice_get, sum_by}
use Rattle.std.proofs.lemmas.List.Sums.{sum_by-cons}
use Rattle.std.proofs.lemmas.Nat.{mul-le}
use Rattle.std.proofs.lemmas.Option.{same_Some}
use Rattle.sector_base.specs.declared.places.At.{At}
use Rattle.meta_model.specs.declared.group.Group.{Group}
use Rattle.meta_model.specs.declared.segment.Segment.{Segment}
use Rattle.volume_rules.specs.Extents.{extents_of}
use Rattle.volume_rules.specs.Rules.{Follow, IsAccepted}
use Rattle.volume_rules.specs.declared.rule.Rule.TheVariants.{Follows}
use Rattle.volume_view.specs.Places.{primary}
use Rattle.volume_view.proofs.GoingDown.{GoesDown, goes_down}
use Rattle.volume_view.proofs.MetSegments.{Meets, all_at, meets_is}
use Rattle.seg_place.specs.Sectors.{sectors_of}
use Rattle.world_history.proofs.Contents.Rows.{Row, sectors_are}

-- segments that follow one another from an extent on end within them all
ends_within : (at : ℕ) (segments : List Segment) (k : ℕ) (s : Segment) → Follow at segments → slice_get segments k ≡ Some s
    → s.start + s.count ≤ at + sum_by (λ (x : Segment). x.count) segments
ends_within at [] k s follow is = absurd cc
ends_within at (x ∷ xs) zero s follow is =
    subst (λ (y : Segment). y.start + y.count ≤ at + sum_by (λ (z : Segment). z.count) (x ∷ xs)) (same_Some x s is)
    (omega (arith, follow.0, sum_by-cons (λ (z : Segment). z.count) x xs))
ends_within at (x ∷ xs) (suc k) s follow is =
    let rest : s.start + s.count ≤ at + x.count + sum_by (λ (z : Segment). z.count) xs = ends_within (at + x.count) xs k s follow.2 is in
    omega (arith, rest, sum_by-cons (λ (z : Segment). z.count) x xs)

-- so many sectors into a segment that ends within so many extents
inside_all : (start count extents extent at x : ℕ) → start + count ≤ extents → start * extent + at ≡ x → at < count * extent
    → x < extents * extent
inside_all start count extents extent at x ends is within =
    let all : (start + count) * extent ≤ extents * extent = mul-le (start + count) extent extents extent ends (omega arith) in
    omega (arith, all, is, within)

pub primary_inside : (group : Group) (lv x : ℕ) (at : At) → IsAccepted group → primary group lv x ≡ Some at → x < sectors_of group lv
unfolding primary
primary_inside group lv x at accepted is =
    let goes : GoesDown group lv x 4 at = goes_down group lv x 4 at is in
    let m : Meets group lv x goes.m = meets_is group lv x goes.m goes.meets in
    let follow =
    all_at (λ (row : Row). Follow 0 row.1.segments × (extents_of row.1 * group.extent_size < 2 ^ 48)) group.lvs lv m.volume
    (accepted Follows) m.is_volume in
    let ends : goes.m.segment.start + goes.m.segment.count ≤ 0 + extents_of m.volume.1 =
    ends_within 0 m.volume.1.segments goes.m.number goes.m.segment follow.0 m.is_segment in
    subst (λ (n : ℕ). x < n) (sym (sectors_are group lv m.volume m.is_volume))
    (inside_all goes.m.segment.start goes.m.segment.count (extents_of m.volume.1) group.extent_size goes.m.at x (omega (arith, ends))
    m.at m.within)
