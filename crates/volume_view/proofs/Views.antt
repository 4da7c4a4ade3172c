-- The view reads the primary places of visible volumes alone, and each of them is read for one sector.
use Rattle.std.proofs.Common.{◌≡◌, ℕ, zero, suc, ◌+◌, ◌*◌, ◌<◌, Bool, true, false, cond, IsTrue, List, [], ◌∷◌, map, subst, Option, Some}
use Rattle.std.proofs.Common.{None, refl, ap, ◌∙◌, arith}
use Rattle.std.proofs.lemmas.Option.{slice_get_within}
use Rattle.std.specs.Prelude.{length, slice_get, slice_index, option_map, unwrap_or}
use Rattle.std.specs.List.{range_with_len}
use Rattle.sector_base.specs.declared.places.At.{At}
use Rattle.meta_model.specs.declared.group.Group.{Group}
use Rattle.meta_model.specs.declared.lv.Lv.{Lv}
use Rattle.meta_model.specs.declared.segment.On.TheVariants as on
use Rattle.volume_rules.specs.Extents.{extents_of}
use Rattle.volume_rules.specs.Rules.{IsAccepted}
use Rattle.volume_view.specs.InSegments.{Spot}
use Rattle.volume_view.specs.Places.{primary}
use Rattle.volume_view.specs.Copies.{sector_of}
use Rattle.volume_view.specs.View.{Image, at_place, content, contents, view, views_from, DisksDiffer}
use Rattle.volume_view.proofs.CopiesApart.{IsFree, same_number}
use Rattle.volume_view.proofs.GoingDown.{down_has_copy}
use Rattle.volume_view.proofs.PrimariesApart.{primaries_apart}

-- a sector's contents are what stands at its primary place
pub content_is : (image : Image) (group : Group) (disk_of : List ℕ) (lv sector : ℕ) (at : At) → primary group lv sector ≡ Some at
    → content image group disk_of lv sector ≡ at_place image disk_of at
unfolding content
content_is image group disk_of lv sector at is = ap (λ (o : Option At). unwrap_or (option_map (at_place image disk_of) o) []) is

-- two images that agree at the primary place of a sector, if it has one, have the same contents of it
same_by : (image other : Image) (group : Group) (disk_of : List ℕ) (lv sector : ℕ) (o : Option At) → primary group lv sector ≡ o
    → ((at : At) → primary group lv sector ≡ Some at → at_place image disk_of at ≡ at_place other disk_of at)
    → unwrap_or (option_map (at_place image disk_of) o) [] ≡ unwrap_or (option_map (at_place other disk_of) o) []
same_by image other group disk_of lv sector None is agree = refl
same_by image other group disk_of lv sector (Some at) is agree = agree at is

-- that holds of `content`
pub content_same : (image other : Image) (group : Group) (disk_of : List ℕ) (lv sector : ℕ)
    → ((at : At) → primary group lv sector ≡ Some at → at_place image disk_of at ≡ at_place other disk_of at)
    → content image group disk_of lv sector ≡ content other group disk_of lv sector
unfolding content
content_same image other group disk_of lv sector agree = same_by image other group disk_of lv sector (primary group lv sector) refl agree

-- functions that are equal on a range
map_same : (f g : ℕ → List ℕ) (from count : ℕ) → ((k : ℕ) → k < from + count → f k ≡ g k)
    → map f (range_with_len from count) ≡ map g (range_with_len from count)
map_same f g from zero same = refl
map_same f g from (suc count) same =
    ap (λ (x : List ℕ). x ∷ map f (range_with_len (from + 1) count)) (same from (omega arith))
    ∙ ap (λ (l : List (List ℕ)). g from ∷ l) (map_same f g (from + 1) count (λ k lt. same k (omega arith)))

-- and so on for the sectors of each visible volume
first_same : (visible : Bool) (name : List ℕ) (c d : List (List ℕ)) (later rest : List (List ℕ × List (List ℕ))) → (IsTrue visible → c ≡ d)
    → later ≡ rest → cond visible ((name, c) ∷ later) later ≡ cond visible ((name, d) ∷ rest) rest
first_same true name c d later rest same more =
    ap (λ (x : List (List ℕ)). (name, x) ∷ later) (same (grind arith)) ∙ ap (λ (l : List (List ℕ × List (List ℕ))). (name, d) ∷ l) more
first_same false name c d later rest same more = more

views_same : (image other : Image) (group : Group) (disk_of : List ℕ) (number : ℕ) (lvs : List (List ℕ × Lv))
    → ((k : ℕ) (row : List ℕ × Lv) → slice_get lvs k ≡ Some row → IsTrue row.1.status.visible → (sector : ℕ)
    → sector < extents_of row.1 * group.extent_size
    → content image group disk_of (number + k) sector ≡ content other group disk_of (number + k) sector)
    → views_from image group disk_of number lvs ≡ views_from other group disk_of number lvs
views_same image other group disk_of number [] same = refl
views_same image other group disk_of number (lv ∷ lvs) same =
    first_same lv.1.status.visible lv.0 (contents image group disk_of number lv.1) (contents other group disk_of number lv.1)
    (views_from image group disk_of (number + 1) lvs) (views_from other group disk_of (number + 1) lvs)
    (λ visible.
    map_same (content image group disk_of number) (content other group disk_of number) 0 (extents_of lv.1 * group.extent_size)
    (λ sector lt. subst (λ (n : ℕ). content image group disk_of n sector ≡ content other group disk_of n sector) (omega arith)
    (same zero lv refl visible sector (omega arith))))
    (views_same image other group disk_of (number + 1) lvs
    (λ k row is visible sector lt. subst (λ (n : ℕ). content image group disk_of n sector ≡ content other group disk_of n sector)
    (omega arith) (same (suc k) row is visible sector lt)))

-- two images with the same contents at the primary places of the visible volumes have one view
pub view_reads_primaries : (image other : Image) (group : Group) (disk_of : List ℕ)
    → ((lv sector : ℕ) (volume : List ℕ × Lv) (at : At) → slice_get group.lvs lv ≡ Some volume → IsTrue volume.1.status.visible
    → sector < extents_of volume.1 * group.extent_size → primary group lv sector ≡ Some at
    → at_place image disk_of at ≡ at_place other disk_of at)
    → view image group disk_of ≡ view other group disk_of
unfolding view
view_reads_primaries image other group disk_of agree =
    views_same image other group disk_of 0 group.lvs
    (λ k row is visible sector lt.
    subst (λ (n : ℕ). content image group disk_of n sector ≡ content other group disk_of n sector) (omega arith)
    (content_same image other group disk_of k sector (λ at here. agree k sector row at is visible lt here)))

-- a primary place is on a physical volume of the group
pub primary_pv : (group : Group) (lv sector : ℕ) (at : At) → primary group lv sector ≡ Some at → at.pv < length group.pvs
unfolding primary
primary_pv group lv sector at is =
    let copy = (down_has_copy group 5 (on.Lv lv) sector at is).1 in
    slice_get_within group.pvs at.pv copy.pv copy.is_pv

-- what is put at the primary place of one sector changes no other sector
pub others_stay : (image other : Image) (group : Group) (disk_of : List ℕ) (lv sector lv' sector' : ℕ) (at : At) → IsAccepted group
    → DisksDiffer group disk_of → IsFree group (sector_of lv sector) → IsFree group (sector_of lv' sector')
    → primary group lv sector ≡ Some at → (lv ≡ lv' → sector ≡ sector' → ⊥)
    → ((disk k : ℕ) → (disk ≡ slice_index disk_of at.pv → k ≡ at.sector → ⊥) → image disk k ≡ other disk k)
    → content image group disk_of lv' sector' ≡ content other group disk_of lv' sector'
others_stay image other group disk_of lv sector lv' sector' at accepted disks free free' here differ beside =
    content_same image other group disk_of lv' sector'
    (λ at' there.
    beside (slice_index disk_of at'.pv) at'.sector
    (λ disk k.
    let place : ℕ → ℕ → At = λ v x. record { pv = v; sector = x } in
    let pv : at'.pv ≡ at.pv = disks at'.pv at.pv (primary_pv group lv' sector' at' there) (primary_pv group lv sector at here) disk in
    let same : at' ≡ at = ap (λ (n : ℕ). place n at'.sector) pv ∙ ap (place at.pv) k in
    let one : sector_of lv sector ≡ sector_of lv' sector' =
    primaries_apart group lv lv' sector sector' at accepted free free' here (there ∙ ap (λ (a : At). Some a) same) in
    differ (same_number lv lv' (ap (λ (s : Spot). s.on) one)) (ap (λ (s : Spot). s.sector) one)))
