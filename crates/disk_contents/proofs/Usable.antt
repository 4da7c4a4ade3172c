-- Where the metadata areas that were found lie, whatever stands in them.
use Rattle.std.proofs.Common.{◌≡◌, ◌<◌, ◌≤◌, ℕ, ◌+◌, ◌*◌, ◌^◌, ◌++◌, false, List, All, get_or, length, map, sym, ap, subst, ◌∙◌, arith}
use Rattle.std.proofs.Common.{length-append}
use Rattle.std.proofs.lemmas.Bool.Decides.{nat_tests}
use Rattle.std.proofs.lemmas.List.{get_or-append-add, get_or-map, length-map}
use Rattle.mda_ring.specs.Areas.{IsArea}
use Rattle.pv_header.specs.declared.extent_list.Extent.{Extent}
use Rattle.pv_header.specs.Areas.{CanLie, is_misshapen, is_outside}
use Rattle.pv_header.proofs.Overlaps.{All-from_find}
use Rattle.disk_contents.specs.declared.contents.AreaFound.{AreaFound}
use Rattle.disk_contents.specs.Standing.{HasTextInside, IsUsable, area_on}

-- where an area lies on a disk of so many sectors
abbrev CanHold : ℕ → Extent → Type 0
CanHold disk area = (is_outside (disk * 512) area ≡ false) × (is_misshapen area ≡ false)

can_hold : (data_areas areas : List Extent) (disk : ℕ) → CanLie data_areas areas (disk * 512) → All (CanHold disk) areas
can_hold data_areas areas disk lie k d lt =
    let all = All-from_find (is_outside (disk * 512)) (data_areas ++ areas) lie.inside in
    let shaped = All-from_find is_misshapen areas lie.well_shaped in
    let there : length data_areas + k < length (data_areas ++ areas) = omega (arith, length-append data_areas areas) in
    (ap (is_outside (disk * 512)) (sym (get_or-append-add data_areas areas k d)) ∙ all (length data_areas + k) d there, shaped k d lt)

holds_area : (pv disk : ℕ) (area : Extent) → disk ≤ 2 ^ 40 → is_outside (disk * 512) area ≡ false → is_misshapen area ≡ false
    → IsArea (area_on pv area) × (area.offset + area.size ≤ disk * 512)
holds_area pv disk area small inside shaped =
    let ends : area.offset + area.size ≤ disk * 512 = grind (arith, nat_tests) in (
      record {
        start_is_whole = grind (arith, nat_tests);
        size_is_whole = grind (arith, nat_tests);
        has_ring = grind (arith, nat_tests);
        ends = omega arith;
      },
      ends,
    )

usable : (pv disk : ℕ) (found : AreaFound) (area : Extent) → disk ≤ 2 ^ 40 → found.area ≡ area → CanHold disk area → HasTextInside found
    → IsUsable pv disk found
usable pv disk found area small same lies inside =
    let here : CanHold disk found.area = subst (λ (e : Extent). CanHold disk e) (sym same) lies in
    let holds = holds_area pv disk found.area small here.0 here.1 in
    record { area = holds.0; within = holds.1; text = inside }

length-areas : (all : List AreaFound) (areas : List Extent) → map (λ (found : AreaFound). found.area) all ≡ areas
    → length all ≡ length areas
length-areas all areas order = sym (length-map all (λ (found : AreaFound). found.area)) ∙ ap length order

-- the areas of a header that can lie on the disk can be used there
pub all_usable : (pv disk : ℕ) (data_areas areas : List Extent) (all : List AreaFound) → CanLie data_areas areas (disk * 512)
    → disk ≤ 2 ^ 40 → map (λ (found : AreaFound). found.area) all ≡ areas → All HasTextInside all
    → All (IsUsable pv disk) all
all_usable pv disk data_areas areas all lie small order inside k d lt =
    let at : (get_or all k d).area ≡ get_or areas k d.area =
    sym (get_or-map (λ (found : AreaFound). found.area) all k d d.area lt) ∙ ap (λ (l : List Extent). get_or l k d.area) order
    in
    usable pv disk (get_or all k d) (get_or areas k d.area) small at
    (can_hold data_areas areas disk lie k d.area (omega (arith, length-areas all areas order))) (inside k d lt)
